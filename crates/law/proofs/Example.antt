-- A run in which the premises of the law hold.
use Rattle.std.proofs.Common.{◌≡◌, ℕ, zero, suc, ◌+◌, ◌/◌, ◌<◌, ◌≤◌, true, List, [], ◌∷◌, ◌++◌, get_or, slice_index, Some, None, Option, Ok, ℤ, pos, ◌+ℤ◌, ◌-ℤ◌, unsigned_abs, bit_xor, count_ones, refl, sym, ap, ap₂, ◌∙◌, subst, zero-add, ◌⊎◌, inl, inr, arith}
use Rattle.std.specs.Int.Bits.{xor_assoc, xor_shr, xor_zero_r}
use Rattle.std.proofs.lemmas.Int.{ints}
use Rattle.service.specs.declared.rates.Rate.TheVariants.{Full as Rate1}
use Rattle.service.specs.declared.categories.Category.{Category}
use Rattle.service.specs.declared.categories.Category.TheVariants.{Full, Suspect}
use Rattle.service.specs.declared.readings.Letter.{Letter}
use Rattle.service.specs.declared.readings.Letter.TheVariants.{B, C, P, S, D}
use Rattle.lsp.specs.Decay.{decay}
use Rattle.lsp.specs.Quantizers.{value_of}
use Rattle.lsp.specs.States.{fresh}
use Rattle.lsp.specs.Ten.{ten}
use Rattle.lsp.specs.Histories.{after}
use Rattle.cyclic.proofs.Linear.{xor_back}
use Rattle.packet_layout.specs.Guarded.{guarded_bits}
use Rattle.packet.specs.Calls.{packet}
use Rattle.packet.specs.CheckBits.{word_of}
use Rattle.rules.specs.GuardedBits.{changed_besides_pcb0, changed_guarded}
use Rattle.rules.specs.Arrivals.{are_lawful, blank_arrival, is_lawful}
use Rattle.figures.specs.Pitch.{no_pitch}
use Rattle.rules.specs.Readings.{Reading, Reads, event_read, pitch_after}
use Rattle.rules.specs.Ends.{Taken}
use Rattle.rules.specs.Links.{Link}
use Rattle.rules.specs.Sending.{Sent, arrival_sent}
use Rattle.law.specs.Runs.{Send, Blank, Disturb, Take, RestartReceiver, Frame, CallMade, Run, Step, arrivals_taken, now, restarts_at, the_receiver, the_sender}
use Rattle.law.specs.Law.{IsSent, IsTaken}
use Rattle.law.specs.Example.{ArrivesWithChanges, ExampleRun, IsReadWithChanges, MemoriesApart, TakenAsBlank}
use Rattle.law.proofs.Changes.{changes_of_words}
use Rattle.law.proofs.Corrected.{both_changed_is_lawful, one_changed_fine, one_changed_is_lawful, pcb0_changed_is_lawful, sent_size}
use Rattle.law.proofs.Exchanges.{after_codes, blank_step, disturb_step, link, lsp_codes, parameters, send_step, sends_within, sent, take_step, taken}
use Rattle.law.proofs.Numbers.{append_nil}
use Rattle.law.proofs.Growth.{Extends, Grows, Row, extends_further, extends_one, extends_same, newest, row_is, row_more, row_start, row_stays}
use Rattle.law.proofs.Silent.{reads_as_sent, reads_both_changed, reads_corrected, reads_pcb0_changed, silent, silent_reading}
use Rattle.packet.proofs.Changed.{word_changed}
use Rattle.packet.specs.Changes.{corrected_packet, with_bit_changed}

nothing_waits : are_lawful [] ≡ true
unfolding are_lawful
nothing_waits = refl

-- ---- one frame

abbrev start : Link
start = link fresh fresh []

-- a history that leads to a link with nothing waiting
record At (m r : List ℤ) (h : List CallMade) : Type 0 where
  run : Run start h
  now_is : now start h ≡ link m r []

-- a packet is sent, and taken as it is
abbrev plain : List ℤ → List ℤ → List CallMade → List CallMade
plain m r h =
    record { call = Take (Some (taken (arrival_sent (sent m)) C (Some (silent_reading (lsp_codes m))) r)); link = link (after_codes (lsp_codes m) m) (after_codes (lsp_codes m) r) [] }
    ∷ record { call = Send 4 parameters (Ok (sent m)); link = link (after_codes (lsp_codes m) m) r (arrival_sent (sent m) ∷ []) }
    ∷ h

plain_at : (m r : List ℤ) (h : List CallMade) → At m r h → At (after_codes (lsp_codes m) m) (after_codes (lsp_codes m) r) (plain m r h)
plain_at m r h a = record {
  run = (
    take_step (after_codes (lsp_codes m) m) r (arrival_sent (sent m)) C (Some (silent_reading (lsp_codes m))) (reads_as_sent (lsp_codes m) (sends_within m)) refl,
    (subst (λ s. Step s (Send 4 parameters (Ok (sent m))) (link (after_codes (lsp_codes m) m) r (arrival_sent (sent m) ∷ []))) (sym a.now_is) (send_step m r), a.run),
  );
  now_is = refl;
}

-- a packet is sent, replaced by these bytes in category 5, and taken
abbrev suspect : List ℤ → List ℤ → List ℕ → Letter → Option Reading → List CallMade → List CallMade
suspect m r bytes l x h =
    record { call = Take (Some (taken (record { category = Suspect; bytes = bytes }) l x r)); link = link (after_codes (lsp_codes m) m) (after r (event_read l x ∷ [])) [] }
    ∷ record { call = Disturb 1 5 bytes (Ok tt); link = link (after_codes (lsp_codes m) m) r (record { category = Suspect; bytes = bytes } ∷ []) }
    ∷ record { call = Send 4 parameters (Ok (sent m)); link = link (after_codes (lsp_codes m) m) r (arrival_sent (sent m) ∷ []) }
    ∷ h

suspect_at : (m r : List ℤ) (bytes : List ℕ) (l : Letter) (x : Option Reading) (h : List CallMade) → is_lawful (record { category = Suspect; bytes = bytes }) ≡ true
    → Reads Suspect bytes l x → pitch_after l x no_pitch ≡ no_pitch → At m r h → At (after_codes (lsp_codes m) m) (after r (event_read l x ∷ [])) (suspect m r bytes l x h)
suspect_at m r bytes l x h lawful reads pitch a = record {
  run = (
    take_step (after_codes (lsp_codes m) m) r (record { category = Suspect; bytes = bytes }) l x reads pitch,
    (
      disturb_step (after_codes (lsp_codes m) m) r (arrival_sent (sent m)) bytes lawful,
      (subst (λ s. Step s (Send 4 parameters (Ok (sent m))) (link (after_codes (lsp_codes m) m) r (arrival_sent (sent m) ∷ []))) (sym a.now_is) (send_step m r), a.run),
    ),
  );
  now_is = refl;
}

-- a blank is sent and taken
abbrev blanked : List ℤ → List ℤ → List CallMade → List CallMade
blanked m r h =
    record { call = Take (Some (taken blank_arrival B None r)); link = link m r [] } ∷ record { call = Blank (Ok tt); link = link m r (blank_arrival ∷ []) } ∷ h

blanked_at : (m r : List ℤ) (h : List CallMade) → At m r h → At m r (blanked m r h)
blanked_at m r h a = record {
  run = (take_step m r blank_arrival B None (refl, refl) refl, (subst (λ s. Step s (Blank (Ok tt)) (link m r (blank_arrival ∷ []))) (sym a.now_is) (blank_step m r), a.run));
  now_is = refl;
}

-- each of the three is one frame more at each end
plain_grows : (m r : List ℤ) (h : List CallMade)
    → Grows h (plain m r h) (Some (sent m)) (after_codes (lsp_codes m) m) (taken (arrival_sent (sent m)) C (Some (silent_reading (lsp_codes m))) r) (after_codes (lsp_codes m) r)
plain_grows m r h = record {
  sent = append_nil _;
  taken = ap₂ (λ l n. l ++ (record { what = taken (arrival_sent (sent m)) C (Some (silent_reading (lsp_codes m))) r; memories = after_codes (lsp_codes m) r; era = n } ∷ [])) (append_nil (arrivals_taken h)) (zero-add (restarts_at the_receiver h));
  sender = omega arith;
  receiver = omega arith;
}

suspect_grows : (m r : List ℤ) (bytes : List ℕ) (l : Letter) (x : Option Reading) (h : List CallMade)
    → Grows h (suspect m r bytes l x h) (Some (sent m)) (after_codes (lsp_codes m) m) (taken (record { category = Suspect; bytes = bytes }) l x r) (after r (event_read l x ∷ []))
suspect_grows m r bytes l x h = record {
  sent = append_nil _ ∙ append_nil _;
  taken =
      ap₂ (λ l' n. l' ++ (record { what = taken (record { category = Suspect; bytes = bytes }) l x r; memories = after r (event_read l x ∷ []); era = n } ∷ []))
      (append_nil _ ∙ append_nil (arrivals_taken h)) (zero-add (0 + restarts_at the_receiver h) ∙ zero-add (restarts_at the_receiver h));
  sender = omega arith;
  receiver = omega arith;
}

blanked_grows : (m r : List ℤ) (h : List CallMade) → Grows h (blanked m r h) None m (taken blank_arrival B None r) r
blanked_grows m r h = record {
  sent = append_nil _;
  taken = ap₂ (λ l n. l ++ (record { what = taken blank_arrival B None r; memories = r; era = n } ∷ [])) (append_nil (arrivals_taken h)) (zero-add (restarts_at the_receiver h));
  sender = omega arith;
  receiver = omega arith;
}

-- ---- so many packets, one after another

sender_at : ℕ → List ℤ → List ℤ
sender_at zero m = m
sender_at (suc i) m = after_codes (lsp_codes (sender_at i m)) (sender_at i m)

receiver_at : ℕ → List ℤ → List ℤ → List ℤ
receiver_at zero m r = r
receiver_at (suc i) m r = after_codes (lsp_codes (sender_at i m)) (receiver_at i m r)

packets_sent : ℕ → List ℤ → List ℤ → List CallMade → List CallMade
packets_sent zero m r h = h
packets_sent (suc i) m r h = plain (sender_at i m) (receiver_at i m r) (packets_sent i m r h)

module _ (m r : List ℤ) (h : List CallMade) where
  packets_at : (i : ℕ) → At m r h → At (sender_at i m) (receiver_at i m r) (packets_sent i m r h)
  unfolding sender_at receiver_at packets_sent
  packets_at zero a = a
  packets_at (suc i) a = plain_at (sender_at i m) (receiver_at i m r) (packets_sent i m r h) (packets_at i a)

  packets_extend : (i : ℕ) → Extends h (packets_sent i m r h)
  unfolding packets_sent
  packets_extend zero = extends_same h
  packets_extend (suc i) =
      extends_further h (packets_sent i m r h) _ (packets_extend i) (extends_one _ _ _ _ _ _ (plain_grows (sender_at i m) (receiver_at i m r) (packets_sent i m r h)))

  packets_row : (i before count many sender receiver : ℕ) → Row h before count many sender receiver → Row (packets_sent i m r h) before (count + i) (many + i) sender receiver
  unfolding packets_sent
  packets_row zero before count many sender receiver row =
      let a : count ≡ count + 0 = omega arith in
      let b : many ≡ many + 0 = omega arith in
      subst (λ c. Row h before c (many + 0) sender receiver) a (subst (λ k. Row h before count k sender receiver) b row)
  packets_row (suc i) before count many sender receiver row =
      let more = row_more _ _ _ _ _ _ before (count + i) (many + i) sender receiver (plain_grows (sender_at i m) (receiver_at i m r) (packets_sent i m r h)) (refl, (refl, refl)) (packets_row i before count many sender receiver row) in
      let a : suc (count + i) ≡ count + suc i = omega arith in
      let b : many + i + 1 ≡ many + suc i = omega arith in
      let h' = plain (sender_at i m) (receiver_at i m r) (packets_sent i m r h) in
      subst (λ c. Row h' before c (many + suc i) sender receiver) a (subst (λ k. Row h' before (suc (count + i)) k sender receiver) b more)

-- ---- changes by their words

changes_of : (xs ys : List ℕ) (d : ℕ) → word_of ys ≡ bit_xor (word_of xs) d → (changed_guarded xs ys ≡ count_ones d) × (changed_besides_pcb0 xs ys ≡ count_ones (d / 2))
changes_of xs ys d e =
    let w = word_of xs in (
      changes_of_words.guarded xs ys ∙ ap (λ v. count_ones (bit_xor w v)) e ∙ ap count_ones (xor_back w d),
      changes_of_words.besides_pcb0 xs ys ∙ ap (λ v. count_ones (bit_xor (w / 2) (v / 2))) e
          ∙ ap (λ v. count_ones (bit_xor (w / 2) v)) (xor_shr w d 1) ∙ ap count_ones (xor_back (w / 2) (d / 2)),
    )

-- the three ways in which a suspect packet arrives here: x^10 of the 28, which is bit 87, changed; PCB[0] changed; and both
module _ (m : List ℤ) where
  abbrev bytes_sent : List ℕ
  bytes_sent = packet Rate1 (silent (lsp_codes m))

  abbrev one_wrong : List ℕ
  one_wrong = corrected_packet 10 bytes_sent

  abbrev pcb0_wrong : List ℕ
  pcb0_wrong = with_bit_changed 0 bytes_sent

  abbrev two_wrong : List ℕ
  two_wrong = with_bit_changed 0 one_wrong

  word_one : word_of one_wrong ≡ bit_xor (word_of bytes_sent) 2048
  unfolding guarded_bits
  word_one = word_changed bytes_sent 17 (sent_size (silent (lsp_codes m)) (sends_within m)) (omega arith)

  word_pcb0 : word_of pcb0_wrong ≡ bit_xor (word_of bytes_sent) 1
  unfolding guarded_bits
  word_pcb0 = word_changed bytes_sent 28 (sent_size (silent (lsp_codes m)) (sends_within m)) (omega arith)

  word_two : word_of two_wrong ≡ bit_xor (word_of bytes_sent) 2049
  unfolding guarded_bits
  word_two =
      word_changed one_wrong 28 (one_changed_fine (silent (lsp_codes m)) (sends_within m) 10 (omega arith)).lawful.length (omega arith)
      ∙ ap (λ w. bit_xor w 1) word_one ∙ xor_assoc (word_of bytes_sent) 2048 1

one_of_2048 : (count_ones 2048 ≡ 1) × (count_ones (2048 / 2) ≡ 1)
unfolding lib.Count.ones
one_of_2048 = (refl, refl)

one_of_1 : (count_ones 1 ≡ 1) × (count_ones (1 / 2) ≡ 0)
unfolding lib.Count.ones
one_of_1 = (refl, refl)

two_of_2049 : (count_ones 2049 ≡ 2) × (count_ones (2049 / 2) ≡ 1)
unfolding lib.Count.ones
two_of_2049 = (refl, refl)

none_of_0 : (count_ones 0 ≡ 0) × (count_ones (0 / 2) ≡ 0)
unfolding lib.Count.ones
none_of_0 = (refl, refl)

-- frame n of h is the packet of memories m, taken in this category with these bytes
arrives : (h : List CallMade) (n : ℕ) (m r : List ℤ) (category : Category) (bytes : List ℕ) (l : Letter) (x : Option Reading) (f : Frame (Option Sent)) (g : Frame Taken) (d changed besides : ℕ)
    → (category ≡ Full) ⊎ (category ≡ Suspect)
    → IsSent h n f → f.what ≡ Some (sent m) → IsTaken h n g → g.what ≡ taken (record { category = category; bytes = bytes }) l x r
    → word_of bytes ≡ bit_xor (word_of (packet Rate1 (silent (lsp_codes m)))) d → (count_ones d ≡ changed) × (count_ones (d / 2) ≡ besides) → changed ≤ 4
    → ArrivesWithChanges h n category l changed besides
arrives h n m r category bytes l x f g d changed besides one_of is_sent f_is is_taken g_is word ones few =
    let c = changes_of (packet Rate1 (silent (lsp_codes m))) bytes d word in
    record {
      sent = sent m;
      taken = taken (record { category = category; bytes = bytes }) l x r;
      few = record {
        pair = record { sent = f; taken = g; is_sent = is_sent; is_taken = is_taken };
        frame = f_is;
        arrival = g_is;
        rate = refl;
        category = one_of;
        few = omega (arith, c.0, ones.0, few);
      };
      arrives = refl;
      letter = refl;
      guarded = c.0 ∙ ones.0;
      besides = c.1 ∙ ones.1;
    }

-- ---- the run, from ends with memories m and 0 after frame 1

lsp_1 : (m : List ℤ) (codes : List ℕ) → get_or (after_codes codes m) 0 (pos 0) ≡ value_of Rate1 0 (slice_index codes 0) +ℤ decay (get_or m 0 (pos 0))
unfolding ten
lsp_1 m codes = refl

apart : (v a b x y : ℤ) → x ≡ v +ℤ a → y ≡ v +ℤ b → 10 < unsigned_abs (a -ℤ b) → 10 < unsigned_abs (x -ℤ y)
apart v a b x y e f l = omega (arith, ints, e, f, l)

module _ (m : List ℤ) (h : List CallMade) (at_start : At m fresh h) (row : Row h 1 0 0 0 1) (decayed_apart : 10 < unsigned_abs (decay (get_or m 0 (pos 0)) -ℤ decay (get_or fresh 0 (pos 0)))) where
  -- frame 2
  m2 : List ℤ
  m2 = after_codes (lsp_codes m) m

  r2 : List ℤ
  r2 = after_codes (lsp_codes m) fresh

  h2 : List CallMade
  h2 = plain m fresh h

  at2 : At m2 r2 h2
  unfolding m2 r2 h2
  at2 = plain_at m fresh h at_start

  grows2 : Grows h h2 (Some (sent m)) m2 (taken (arrival_sent (sent m)) C (Some (silent_reading (lsp_codes m))) fresh) r2
  unfolding m2 r2 h2
  grows2 = plain_grows m fresh h

  row2 : Row h2 1 1 1 0 1
  row2 = row_more _ _ _ _ _ _ 1 0 0 0 1 grows2 (refl, (refl, refl)) row

  -- frame 3, the blank
  h3 : List CallMade
  h3 = blanked m2 r2 h2

  at3 : At m2 r2 h3
  unfolding h3
  at3 = blanked_at m2 r2 h2 at2

  grows3 : Grows h2 h3 None m2 (taken blank_arrival B None r2) r2
  unfolding h3
  grows3 = blanked_grows m2 r2 h2

  row3 : Row h3 1 2 1 0 1
  row3 = row_more _ _ _ _ _ _ 1 1 1 0 1 grows3 refl row2

  -- frame 4, corrected
  m4 : List ℤ
  m4 = after_codes (lsp_codes m2) m2

  r4 : List ℤ
  r4 = after_codes (lsp_codes m2) r2

  taken4 : Taken
  taken4 = taken (record { category = Suspect; bytes = one_wrong m2 }) S (Some (silent_reading (lsp_codes m2))) r2

  h4 : List CallMade
  h4 = suspect m2 r2 (one_wrong m2) S (Some (silent_reading (lsp_codes m2))) h3

  at4 : At m4 r4 h4
  unfolding m4 r4 h4
  at4 =
      suspect_at m2 r2 (one_wrong m2) S (Some (silent_reading (lsp_codes m2))) h3 (one_changed_is_lawful (silent (lsp_codes m2)) (sends_within m2) 10 (omega arith))
      (reads_corrected (lsp_codes m2) (sends_within m2) 10 (omega arith)) refl at3

  grows4 : Grows h3 h4 (Some (sent m2)) m4 taken4 r4
  unfolding m4 r4 h4 taken4
  grows4 = suspect_grows m2 r2 (one_wrong m2) S (Some (silent_reading (lsp_codes m2))) h3

  row4 : Row h4 1 3 2 0 1
  unfolding taken4
  row4 = row_more _ _ _ _ _ _ 1 2 1 0 1 grows4 (refl, (refl, refl)) row3

  -- frame 5, with a wrong PCB[0]
  m5 : List ℤ
  m5 = after_codes (lsp_codes m4) m4

  r5 : List ℤ
  r5 = after_codes (lsp_codes m4) r4

  taken5 : Taken
  taken5 = taken (record { category = Suspect; bytes = pcb0_wrong m4 }) P (Some (silent_reading (lsp_codes m4))) r4

  h5 : List CallMade
  h5 = suspect m4 r4 (pcb0_wrong m4) P (Some (silent_reading (lsp_codes m4))) h4

  at5 : At m5 r5 h5
  unfolding m5 r5 h5
  at5 =
      suspect_at m4 r4 (pcb0_wrong m4) P (Some (silent_reading (lsp_codes m4))) h4 (pcb0_changed_is_lawful (silent (lsp_codes m4)) (sends_within m4))
      (reads_pcb0_changed (lsp_codes m4) (sends_within m4)) refl at4

  grows5 : Grows h4 h5 (Some (sent m4)) m5 taken5 r5
  unfolding m5 r5 h5 taken5
  grows5 = suspect_grows m4 r4 (pcb0_wrong m4) P (Some (silent_reading (lsp_codes m4))) h4

  row5 : Row h5 1 4 3 0 1
  unfolding taken5
  row5 = row_more _ _ _ _ _ _ 1 3 2 0 1 grows5 (refl, (refl, refl)) row4

  -- frames 6 to 258
  m258 : List ℤ
  m258 = sender_at 253 m5

  r258 : List ℤ
  r258 = receiver_at 253 m5 r5

  h258 : List CallMade
  h258 = packets_sent 253 m5 r5 h5

  at258 : At m258 r258 h258
  unfolding m258 r258 h258
  at258 = packets_at m5 r5 h5 253 at5

  row258 : Row h258 1 257 256 0 1
  unfolding h258
  row258 = packets_row m5 r5 h5 253 1 4 3 0 1 row5

  extends258 : Extends h5 h258
  unfolding h258
  extends258 = packets_extend m5 r5 h5 253

  -- frame 259, with two bits wrong
  taken259 : Taken
  taken259 = taken (record { category = Suspect; bytes = two_wrong m258 }) D None r258

  h259 : List CallMade
  h259 = suspect m258 r258 (two_wrong m258) D None h258

  run259 : Run start h259
  unfolding h259
  run259 =
      (suspect_at m258 r258 (two_wrong m258) D None h258 (both_changed_is_lawful (silent (lsp_codes m258)) (sends_within m258) 10 (omega arith))
      (reads_both_changed (lsp_codes m258) (sends_within m258) 10 (omega arith)) refl at258).run

  grows259 : Grows h258 h259 (Some (sent m258)) (after_codes (lsp_codes m258) m258) taken259 (after r258 (event_read D None ∷ []))
  unfolding h259 taken259
  grows259 = suspect_grows m258 r258 (two_wrong m258) D None h258

  -- the frames of each stop are those of the whole
  extends259 : Extends h258 h259
  extends259 = extends_one _ _ _ _ _ _ grows259

  extends5 : Extends h5 h259
  extends5 = extends_further h5 h258 h259 extends258 extends259

  extends4 : Extends h4 h259
  extends4 = extends_further h4 h5 h259 (extends_one _ _ _ _ _ _ grows5) extends5

  extends3 : Extends h3 h259
  extends3 = extends_further h3 h4 h259 (extends_one _ _ _ _ _ _ grows4) extends4

  extends2 : Extends h2 h259
  extends2 = extends_further h2 h3 h259 (extends_one _ _ _ _ _ _ grows3) extends3

  apart2 : MemoriesApart h259 2 0 1
  unfolding m2 r2
  apart2 = record {
    pair = record {
      sent = record { what = Some (sent m); memories = m2; era = restarts_at the_sender h };
      taken = record { what = taken (arrival_sent (sent m)) C (Some (silent_reading (lsp_codes m))) fresh; memories = r2; era = restarts_at the_receiver h };
      is_sent = extends2.sent 2 _ (newest _ _ _ grows2.sent 2 (omega (arith, row.sent_length)));
      is_taken = extends2.taken 2 _ (newest _ _ _ grows2.taken 2 (omega (arith, row.taken_length)));
    };
    eras = (row.sender_now, row.receiver_now);
    lsp = 0;
    apart =
        apart (value_of Rate1 0 (slice_index (lsp_codes m) 0)) (decay (get_or m 0 (pos 0))) (decay (get_or fresh 0 (pos 0))) _ _
        (lsp_1 m (lsp_codes m)) (lsp_1 fresh (lsp_codes m)) decayed_apart;
  }

  read2 : IsReadWithChanges h259 2 Full C 0 0
  unfolding m2 r2 arrives
  read2 = record {
    arrives =
        arrives h259 2 m fresh Full (packet Rate1 (silent (lsp_codes m))) C (Some (silent_reading (lsp_codes m))) _ _ 0 0 0 (inl refl)
        (extends2.sent 2 _ (newest _ _ _ grows2.sent 2 (omega (arith, row.sent_length)))) refl
        (extends2.taken 2 _ (newest _ _ _ grows2.taken 2 (omega (arith, row.taken_length)))) refl
        (sym (xor_zero_r (word_of (packet Rate1 (silent (lsp_codes m)))))) none_of_0 (omega arith);
    codes = refl;
  }

  blank3 : TakenAsBlank h259 3
  blank3 = record {
    pair = record {
      sent = record { what = None; memories = m2; era = restarts_at the_sender h2 };
      taken = record { what = taken blank_arrival B None r2; memories = r2; era = restarts_at the_receiver h2 };
      is_sent = extends3.sent 3 _ (newest _ _ _ grows3.sent 3 (omega (arith, row2.sent_length)));
      is_taken = extends3.taken 3 _ (newest _ _ _ grows3.taken 3 (omega (arith, row2.taken_length)));
    };
    blank = (refl, refl);
  }

  read4 : IsReadWithChanges h259 4 Suspect S 1 1
  unfolding taken4 arrives
  read4 = record {
    arrives =
        arrives h259 4 m2 r2 Suspect (one_wrong m2) S (Some (silent_reading (lsp_codes m2))) _ _ 2048 1 1 (inr refl)
        (extends4.sent 4 _ (newest _ _ _ grows4.sent 4 (omega (arith, row3.sent_length)))) refl
        (extends4.taken 4 _ (newest _ _ _ grows4.taken 4 (omega (arith, row3.taken_length)))) refl (word_one m2) one_of_2048 (omega arith);
    codes = refl;
  }

  read5 : IsReadWithChanges h259 5 Suspect P 1 0
  unfolding taken5 arrives
  read5 = record {
    arrives =
        arrives h259 5 m4 r4 Suspect (pcb0_wrong m4) P (Some (silent_reading (lsp_codes m4))) _ _ 1 1 0 (inr refl)
        (extends5.sent 5 _ (newest _ _ _ grows5.sent 5 (omega (arith, row4.sent_length)))) refl
        (extends5.taken 5 _ (newest _ _ _ grows5.taken 5 (omega (arith, row4.taken_length)))) refl (word_pcb0 m4) one_of_1 (omega arith);
    codes = refl;
  }

  erased259 : ArrivesWithChanges h259 259 Suspect D 2 1
  unfolding taken259
  erased259 =
      arrives h259 259 m258 r258 Suspect (two_wrong m258) D None _ _ 2049 2 1 (inr refl)
      (newest _ _ _ grows259.sent 259 (omega (arith, row258.sent_length))) refl
      (newest _ _ _ grows259.taken 259 (omega (arith, row258.taken_length))) refl (word_two m258) two_of_2049 (omega arith)

  a_run : ExampleRun
  a_run = record {
    start = start;
    history = h259;
    empty = record { source = refl; waiting = refl };
    new = record { sender = refl; receiver = refl; waiting = nothing_waits; supply = nothing_waits };
    run = run259;
    row = row_stays h258 h259 2 256 extends259 (row_is h258 1 256 0 1 row258);
    apart = apart2;
    plain = read2;
    blank = blank3;
    corrected = read4;
    pcb0_wrong = read5;
    erased = erased259;
  }

-- ---- frame 1, and the restart of the receiver

m1 : List ℤ
m1 = after_codes (lsp_codes fresh) fresh

h1 : List CallMade
h1 = record { call = RestartReceiver; link = link m1 fresh [] } ∷ plain fresh fresh []

at1 : At m1 fresh h1
unfolding m1 h1
at1 = record { run = (refl, (plain_at fresh fresh [] (record { run = tt; now_is = refl })).run); now_is = refl }

row1 : Row h1 1 0 0 0 1
unfolding h1
row1 = row_start h1 1 0 1 refl refl refl refl

memory1 : get_or m1 0 (pos 0) ≡ pos 270336000
unfolding m1 ten decay
memory1 = refl

apart1 : 10 < unsigned_abs (decay (get_or m1 0 (pos 0)) -ℤ decay (get_or fresh 0 (pos 0)))
unfolding ten decay
apart1 = subst (λ z. 10 < unsigned_abs (decay z -ℤ decay (get_or fresh 0 (pos 0)))) (sym memory1) (omega arith)

pub example_run : ExampleRun
example_run = a_run m1 h1 at1 row1 apart1
