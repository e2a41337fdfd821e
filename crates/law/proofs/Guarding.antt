-- With at most four of the guarded bits changed, what is read shows the guarded code bits that were sent.
use Rattle.std.proofs.Common.{◌≡◌, ◌⊎◌, ◌↔◌, ℕ, ◌-◌, ◌^◌, ◌<◌, ◌≤◌, true, false, not, ◌&&◌, is_some, List, length, Some, None, Option, MatchOption, slice_get, inl, inr, refl, sym, ap, subst, ◌∙◌, arith}
use Rattle.std.proofs.lemmas.Bool.{and_parts, cases_lt, false≢true}
use Rattle.std.proofs.lemmas.Bool.Decides.{nat_tests}
use Rattle.service.specs.declared.rates.Rate.TheVariants.{Full as Rate1}
use Rattle.service.specs.declared.categories.Category.{Category}
use Rattle.service.specs.declared.categories.Category.TheVariants.{Full, Suspect}
use Rattle.service.specs.declared.readings.Letter.{Letter}
use Rattle.service.specs.declared.readings.Letter.TheVariants.{D}
use Rattle.service.specs.Categories.{category_is}
use Rattle.service.specs.Letters.{is_read}
use Rattle.service.specs.Tests.{spare_bits_set, wrong_length}
use Rattle.cyclic.specs.Words.{PlainRule, SuspectRule, codeword, corrected, cyclic_bits, differing, message, sent}
use Rattle.cyclic.specs.Laws.{ReadIfAtMost, ReadsAsSent}
use Rattle.cyclic.proofs.Changes.{four_changes, sent_half}
use Rattle.packet_layout.specs.Guarded.{guarded_code_bits}
use Rattle.packet.specs.declared.codes.CodeNumbers.{CodeNumbers}
use Rattle.packet.specs.Bits.{bit, value}
use Rattle.packet.specs.Calls.{Holds, packet}
use Rattle.packet.specs.CheckBits.{message_of, word_of}
use Rattle.packet.specs.Codes.{Within, in_order}
use Rattle.packet.proofs.Carried.{value_lt}
use Rattle.packet.proofs.Messages.{guarded_lt, message_is}
use Rattle.packet.proofs.Numbers.{bit_of_number}
use Rattle.packet.proofs.Trips.{guarded_word}
use Rattle.rules.specs.Sending.{Sent}
use Rattle.rules.specs.GuardedBits.{SameGuardedCodeBits, changed_besides_pcb0, changed_guarded}
use Rattle.rules.specs.Arrivals.{Arrival, are_bytes, is_lawful}
use Rattle.rules.specs.Readings.{Reading, Reads}
use Rattle.rules.specs.Ends.{Taken}
use Rattle.law.specs.Law.{GuardedBitsHold}
use Rattle.law.proofs.Changes.{changed_all, changed_front}
use Rattle.law.proofs.OneReading.{one_reading}
use Rattle.packet.proofs.Changed.{word_corrected}
use Rattle.packet.specs.Changes.{corrected_packet}

-- the guarded code bits of some codes as a number
abbrev shown_by : CodeNumbers → ℕ
shown_by c = message_of (in_order c)

shown_lt : (c : CodeNumbers) → shown_by c < 2 ^ 18
shown_lt c = let l = guarded_lt (in_order c) 18 (omega arith) in omega (arith, message_is (in_order c))

-- the same number, the same guarded code bits
same_guarded : (c d : CodeNumbers) → shown_by c ≡ shown_by d → SameGuardedCodeBits c d
unfolding message_of
same_guarded c d e i h =
    let f = λ (j : ℕ). value (in_order c) (slice_get guarded_code_bits j) in
    let g = λ (j : ℕ). value (in_order d) (slice_get guarded_code_bits j) in
    let k : 18 - 1 - (17 - i) ≡ i = omega arith in
    ap f (sym k)
    ∙ sym (bit_of_number f (λ j. value_lt (in_order c) (slice_get guarded_code_bits j)) 18 (17 - i) (omega arith))
    ∙ ap (λ n. bit n (17 - i)) e
    ∙ bit_of_number g (λ j. value_lt (in_order d) (slice_get guarded_code_bits j)) 18 (17 - i) (omega arith)
    ∙ ap g k

-- ---- what was read is what a rule reads

abbrev WasRead : (Option ℕ → Type 0) → Letter → Option Reading → Type 0
WasRead Rule l x = (r : Reading) × (x ≡ Some r) × (is_read l ≡ true) × Rule (Some (shown_by r.codes))

-- something is read of a word by the rule, or it is D
abbrev Way : (Option ℕ → Type 0) → Letter → Option Reading → Type 0
Way Rule l x = WasRead Rule l x ⊎ ((l ≡ D) × Rule None)

held_message : (bytes : List ℕ) (c : CodeNumbers) → Holds Rate1 bytes c → shown_by c ≡ message (word_of bytes)
held_message bytes c holds = sym (guarded_word.message bytes c holds)

plain_way : (bytes : List ℕ) (l : Letter) (x : Option Reading) → Reads Full bytes l x → Way (PlainRule (word_of bytes)) l x
plain_way bytes l (Some r) (inl (z, (e, (codes, pitches)))) = inl (r, refl, ap is_read e, (z, held_message bytes r.codes codes.codes))
plain_way bytes l None (inl (z, (e, h))) = absurd h
plain_way bytes l x (inr (n, (e, none))) = inr (e, n)

suspect_way : (bytes : List ℕ) (l : Letter) (x : Option Reading) → length bytes ≡ 22 → Reads Suspect bytes l x → Way (SuspectRule (word_of bytes)) l x
suspect_way bytes l (Some r) long (inl (z, (e, (codes, pitches)))) = inl (r, refl, ap is_read e, inl (z, held_message bytes r.codes codes.codes))
suspect_way bytes l None long (inl (z, (e, h))) = absurd h
suspect_way bytes l (Some r) long (inr (inl (p, c, (e, (codes, pitches))))) =
    let m : shown_by r.codes ≡ message (corrected (word_of bytes) p) =
    held_message (corrected_packet p bytes) r.codes codes.codes ∙ ap message (word_corrected bytes p long c.1.0) in
    inl (r, refl, ap is_read e, inr (p, c, m))
suspect_way bytes l None long (inr (inl (p, c, (e, h)))) = absurd h
suspect_way bytes l x long (inr (inr (n, none, (e, h)))) = inr (e, (n, none))

none_some : (m : ℕ) → None ≡ Some m → ⊥
none_some m e = false≢true (ap is_some e)

abbrev got : ℕ → Option ℕ → ℕ
got d None = d
got d (Some m) = m

same_some : (m n : ℕ) → Some m ≡ Some n → m ≡ n
same_some m n e = ap (got m) e

-- ---- what follows where a rule reads what was sent with at most so many changes

module _ (Rule : Option ℕ → Type 0) (limit n : ℕ) (c : CodeNumbers) (reads : (r : Option ℕ) → Rule r → ReadIfAtMost limit n (shown_by c) r) (l : Letter) where
  way_few : (x : Option Reading) → WasRead Rule l x → n ≤ limit
  way_few x (r, e, read, h) = elim (cases_lt limit n) [
    | inl more ↦ absurd (none_some (shown_by r.codes) (sym ((reads (Some (shown_by r.codes)) h).erased more)))
    | inr few ↦ few
  ]

  none_many : Rule None → n ≤ limit → ⊥
  none_many h few = none_some (shown_by c) ((reads None h).read few)

  way_shown : (x : Option Reading) → Way Rule l x → is_read l ≡ true → MatchOption x ⊥ (λ r. SameGuardedCodeBits r.codes c)
  way_shown x (inl (r, e, read, h)) is =
      let few = way_few x (r, e, read, h) in
      subst (λ y. MatchOption y ⊥ (λ r. SameGuardedCodeBits r.codes c)) (sym e)
      (same_guarded r.codes c (same_some (shown_by r.codes) (shown_by c) ((reads (Some (shown_by r.codes)) h).read few)))
  way_shown x (inr (e, h)) is = absurd (false≢true (sym (ap is_read e) ∙ is))

  way_iff : (x : Option Reading) → Way Rule l x → (is_read l ≡ true) ↔ (n ≤ limit)
  way_iff x (inl (r, e, read, h)) = ((λ _. way_few x (r, e, read, h)), (λ _. read))
  way_iff x (inr (e, h)) = ((λ is. absurd (false≢true (sym (ap is_read e) ∙ is))), (λ few. absurd (none_many h few)))

  way_erased : (x : Option Reading) → Way Rule l x → is_read l ≡ false → l ≡ D
  way_erased x (inl (r, e, read, h)) is = absurd (false≢true (sym is ∙ read))
  way_erased x (inr (e, h)) is = e

-- ---- the law of the guarded bits

none_is : (n : ℕ) → (n ≤ 0) ↔ (n ≡ 0)
none_is n = ((λ h. omega arith), (λ h. omega arith))

right_length : (a : Arrival) → a.category ≡ Suspect → is_lawful a ≡ true → length a.bytes ≡ 22
right_length a e h =
    let both = and_parts (not (wrong_length a.category (length a.bytes)) && not (spare_bits_set a.category a.bytes)) (are_bytes a.bytes) h in
    let fits = (and_parts (not (wrong_length a.category (length a.bytes))) (not (spare_bits_set a.category a.bytes)) both.0).0 in
    let t : not (wrong_length Suspect (length a.bytes)) ≡ true = subst (λ k. not (wrong_length k (length a.bytes)) ≡ true) e fits in
    grind (arith, nat_tests)

not_both : (k : Category) → k ≡ Full → k ≡ Suspect → ⊥
not_both k e f = let same : (category_is Full).number ≡ (category_is Suspect).number = ap (λ k. (category_is k).number) (sym e ∙ f) in omega arith

module _ (c : CodeNumbers) (xs ys : List ℕ) (was_sent : word_of xs ≡ sent (shown_by c)) (few : changed_guarded xs ys ≤ 4) where
  all_changes : differing (sent (shown_by c)) (word_of ys) ≡ changed_guarded xs ys
  all_changes = sym (changed_all xs ys ∙ ap (λ n. differing n (word_of ys)) was_sent)

  front_changes : differing (codeword (shown_by c)) (cyclic_bits (word_of ys)) ≡ changed_besides_pcb0 xs ys
  front_changes =
      sym (changed_front xs ys ∙ ap (λ n. differing (cyclic_bits n) (cyclic_bits (word_of ys))) was_sent
      ∙ ap (λ n. differing n (cyclic_bits (word_of ys))) (sent_half (shown_by c)))

  reads_as_sent : ReadsAsSent (shown_by c) (word_of ys)
  reads_as_sent = four_changes (shown_by c) (word_of ys) (record { message = shown_lt c; word = guarded_word.bits ys; few = omega (arith, all_changes) })

  plain_reads : (r : Option ℕ) → PlainRule (word_of ys) r → ReadIfAtMost 0 (changed_besides_pcb0 xs ys) (shown_by c) r
  plain_reads r h = subst (λ n. ReadIfAtMost 0 n (shown_by c) r) front_changes (reads_as_sent.plain r h)

  suspect_reads : (r : Option ℕ) → SuspectRule (word_of ys) r → ReadIfAtMost 1 (changed_guarded xs ys) (shown_by c) r
  suspect_reads r h = subst (λ n. ReadIfAtMost 1 n (shown_by c) r) all_changes (reads_as_sent.suspect r h)

-- what is shown, if anything is
shown_outright : (P : Reading → Type 0) (l : Letter) (x : Option Reading) → is_some x ≡ is_read l → (is_read l ≡ true → MatchOption x ⊥ P)
    → MatchOption x (Unit {0}) P
shown_outright P l None e shown = tt
shown_outright P l (Some r) e shown = shown (sym e)

pub guarded_bits_hold : (f : Sent) (x : Taken) → f.rate ≡ Rate1 → Within Rate1 f.codes → f.bytes ≡ packet f.rate f.codes → is_lawful x.arrival ≡ true
    → Reads x.arrival.category x.arrival.bytes x.letter x.reading → (x.arrival.category ≡ Full) ⊎ (x.arrival.category ≡ Suspect)
    → changed_guarded f.bytes x.arrival.bytes ≤ 4 → GuardedBitsHold f x
guarded_bits_hold f x rate within bytes lawful reads category few =
    let c = f.codes in
    let xs = f.bytes in
    let ys = x.arrival.bytes in
    let l = x.letter in
    let read : is_some x.reading ≡ is_read l = one_reading.letter x.arrival.category ys l x.reading reads in
    let was_sent : word_of xs ≡ sent (shown_by c) = ap word_of (bytes ∙ ap (λ q. packet q c) rate) ∙ guarded_word.sent c within in
    elim category [
      | inl e ↦
          let way = plain_way ys l x.reading (subst (λ k. Reads k ys l x.reading) e reads) in
          let n = changed_besides_pcb0 xs ys in
          let h = plain_reads c xs ys was_sent few in
          let iff = way_iff (PlainRule (word_of ys)) 0 n c h l x.reading way in
          record {
            shown =
                shown_outright (λ r. SameGuardedCodeBits r.codes c) l x.reading read (way_shown (PlainRule (word_of ys)) 0 n c h l x.reading way);
            read = read;
            suspect = λ s. absurd (not_both x.arrival.category e s);
            plain = λ _. ((λ is. (none_is n).0 (iff.0 is)), (λ none. iff.1 ((none_is n).1 none)));
            erased = way_erased (PlainRule (word_of ys)) 0 n c h l x.reading way;
          }
      | inr e ↦
          let way = suspect_way ys l x.reading (right_length x.arrival e lawful) (subst (λ k. Reads k ys l x.reading) e reads) in
          let n = changed_guarded xs ys in
          let h = suspect_reads c xs ys was_sent few in
          record {
            shown =
                shown_outright (λ r. SameGuardedCodeBits r.codes c) l x.reading read (way_shown (SuspectRule (word_of ys)) 1 n c h l x.reading way);
            read = read;
            suspect = λ _. way_iff (SuspectRule (word_of ys)) 1 n c h l x.reading way;
            plain = λ s. absurd (not_both x.arrival.category s e);
            erased = way_erased (SuspectRule (word_of ys)) 1 n c h l x.reading way;
          }
    ]
