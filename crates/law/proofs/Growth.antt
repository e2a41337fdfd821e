-- A run that grows by one frame at each end, and 256 packets in a row within it.
use Rattle.std.proofs.Common.{◌≡◌, ℕ, zero, suc, ◌+◌, ◌<◌, List, [], ◌∷◌, ◌++◌, length, Some, Option, ℤ, refl, sym, ap, ap₂, ◌∙◌, subst, inl, inr, arith}
use Rattle.std.proofs.lemmas.Bool.{cases_lt}
use Rattle.rules.specs.Ends.{Taken}
use Rattle.rules.specs.Sending.{Sent}
use Rattle.law.specs.Runs.{Frame, CallMade, arrivals_taken, frames_sent, restarts_at, the_receiver, the_sender}
use Rattle.law.specs.Law.{InARow, FrameLspTakenAsSent, IsSent, IsTaken, LspTakenAsSent, numbered, one_if_packet, packet_count, one_if_packet_frame}
use Rattle.law.proofs.Numbers.{new_number, number_in, number_push, old_number, push_length, same_some}

-- from h to h' each end has one frame more, and none was restarted
pub record Grows (h h' : List CallMade) (w : Option Sent) (m : List ℤ) (x : Taken) (r : List ℤ) : Type 0 where
  pub sent : frames_sent h' ≡ frames_sent h ++ (record { what = w; memories = m; era = restarts_at the_sender h } ∷ [])
  pub taken : arrivals_taken h' ≡ arrivals_taken h ++ (record { what = x; memories = r; era = restarts_at the_receiver h } ∷ [])
  pub sender : restarts_at the_sender h' ≡ restarts_at the_sender h
  pub receiver : restarts_at the_receiver h' ≡ restarts_at the_receiver h

-- the frames of h are frames of h'
pub record Extends (h h' : List CallMade) : Type 0 where
  pub sent : (n : ℕ) (f : Frame (Option Sent)) → IsSent h n f → IsSent h' n f
  pub taken : (n : ℕ) (g : Frame Taken) → IsTaken h n g → IsTaken h' n g

pub extends_same : (h : List CallMade) → Extends h h
extends_same h = record { sent = λ n f e. e; taken = λ n g e. e }

pub extends_further : (h i j : List CallMade) → Extends h i → Extends i j → Extends h j
extends_further h i j a b = record { sent = λ n f e. b.sent n f (a.sent n f e); taken = λ n g e. b.taken n g (a.taken n g e) }

module _ {A : Type 0} where
  pub longer : (fs fs' : List (Frame A)) (x : Frame A) → fs' ≡ fs ++ (x ∷ []) → (n : ℕ) (f : Frame A) → numbered fs n ≡ Some f → numbered fs' n ≡ Some f
  longer fs fs' x e n f k = ap (λ l. numbered l n) e ∙ old_number fs x n (number_in fs n f k).1 ∙ k

  pub newest : (fs fs' : List (Frame A)) (x : Frame A) → fs' ≡ fs ++ (x ∷ []) → (n : ℕ) → n ≡ suc (length fs) → numbered fs' n ≡ Some x
  newest fs fs' x e n k = ap (λ l. numbered l n) e ∙ new_number fs x n k

  pub one_longer : (fs fs' : List (Frame A)) (x : Frame A) → fs' ≡ fs ++ (x ∷ []) → length fs' ≡ suc (length fs)
  one_longer fs fs' x e = ap length e ∙ push_length fs x

  pub era_of_new : (fs fs' : List (Frame A)) (x : Frame A) (before era : ℕ) → fs' ≡ fs ++ (x ∷ []) → x.era ≡ era → ((n : ℕ) (f : Frame A) → before < n → numbered fs n ≡ Some f → f.era ≡ era)
      → (n : ℕ) (f : Frame A) → before < n → numbered fs' n ≡ Some f → f.era ≡ era
  era_of_new fs fs' x before era e new old n f h k = elim (number_push fs x n f (ap (λ l. numbered l n) (sym e) ∙ k)) [
    | inl o ↦ old n f h o.1
    | inr o ↦ ap (λ g. g.era) o.1 ∙ new
  ]

packets_same : (fs gs : List (Frame (Option Sent))) (n i : ℕ) → ((k : ℕ) → k < i → numbered fs (n + k) ≡ numbered gs (n + k)) → packet_count fs n i ≡ packet_count gs n i
packets_same fs gs n zero same = refl
packets_same fs gs n (suc i) same = ap₂ (λ a b. a + one_if_packet_frame b) (packets_same fs gs n i (λ k l. same k (omega arith))) (same i (omega arith))

pub extends_one : (h h' : List CallMade) (w : Option Sent) (m : List ℤ) (x : Taken) (r : List ℤ) → Grows h h' w m x r → Extends h h'
extends_one h h' w m x r g = record { sent = longer _ _ _ g.sent; taken = longer _ _ _ g.taken }

-- so many frames, the last of h, are read as sent, so many of them are packets, and the ends are in these eras since the first
pub record Row (h : List CallMade) (before count many sender receiver : ℕ) : Type 0 where
  pub sent_length : length (frames_sent h) ≡ before + count
  pub taken_length : length (arrivals_taken h) ≡ before + count
  pub each : (i : ℕ) → i < count → FrameLspTakenAsSent h (suc before + i)
  pub packets_are : packet_count (frames_sent h) (suc before) count ≡ many
  pub sender_eras : (n : ℕ) (f : Frame (Option Sent)) → before < n → IsSent h n f → f.era ≡ sender
  pub receiver_eras : (n : ℕ) (g : Frame Taken) → before < n → IsTaken h n g → g.era ≡ receiver
  pub sender_now : restarts_at the_sender h ≡ sender
  pub receiver_now : restarts_at the_receiver h ≡ receiver

pub row_more : (h h' : List CallMade) (w : Option Sent) (m : List ℤ) (x : Taken) (r : List ℤ) (before count many sender receiver : ℕ) → Grows h h' w m x r → LspTakenAsSent w x
    → Row h before count many sender receiver → Row h' before (suc count) (many + one_if_packet w) sender receiver
row_more h h' w m x r before count many sender receiver g same row =
    let f : Frame (Option Sent) = record { what = w; memories = m; era = restarts_at the_sender h } in
    let t : Frame Taken = record { what = x; memories = r; era = restarts_at the_receiver h } in
    let new_sent : IsSent h' (suc before + count) f = newest _ _ f g.sent (suc before + count) (omega (arith, row.sent_length)) in
    let new_taken : IsTaken h' (suc before + count) t = newest _ _ t g.taken (suc before + count) (omega (arith, row.taken_length)) in
    record {
      sent_length = one_longer _ _ f g.sent ∙ omega (arith, row.sent_length);
      taken_length = one_longer _ _ t g.taken ∙ omega (arith, row.taken_length);
      each = λ i l. elim (cases_lt i count) [
        | inl o ↦
            let p = row.each i o in
            record {
              pair = record {
                sent = p.pair.sent;
                taken = p.pair.taken;
                is_sent = longer _ _ f g.sent _ p.pair.sent p.pair.is_sent;
                is_taken = longer _ _ t g.taken _ p.pair.taken p.pair.is_taken;
              };
              same = p.same;
            }
        | inr o ↦
            let q : suc before + count ≡ suc before + i = omega arith in
            record {
              pair = record { sent = f; taken = t; is_sent = subst (λ n. IsSent h' n f) q new_sent; is_taken = subst (λ n. IsTaken h' n t) q new_taken };
              same = same;
            }
      ];
      packets_are =
          let old = packets_same (frames_sent h') (frames_sent h) (suc before) count (λ k l. let p = (row.each k l).pair in longer _ _ f g.sent _ p.sent p.is_sent ∙ sym p.is_sent) in
          ap₂ (λ a b. a + one_if_packet_frame b) (old ∙ row.packets_are) new_sent;
      sender_eras = era_of_new _ _ f before sender g.sent row.sender_now row.sender_eras;
      receiver_eras = era_of_new _ _ t before receiver g.taken row.receiver_now row.receiver_eras;
      sender_now = g.sender ∙ row.sender_now;
      receiver_now = g.receiver ∙ row.receiver_now;
    }

-- the start of one
pub row_start : (h : List CallMade) (before sender receiver : ℕ) → length (frames_sent h) ≡ before → length (arrivals_taken h) ≡ before
    → restarts_at the_sender h ≡ sender → restarts_at the_receiver h ≡ receiver → Row h before 0 0 sender receiver
row_start h before sender receiver long-s long-t s r = record {
  sent_length = omega (arith, long-s);
  taken_length = omega (arith, long-t);
  each = λ i l. absurd (omega arith);
  packets_are = refl;
  sender_eras = λ n f l e. absurd (omega (arith, number_in _ n f e));
  receiver_eras = λ n g l e. absurd (omega (arith, number_in _ n g e));
  sender_now = s;
  receiver_now = r;
}

pub row_is : (h : List CallMade) (before j sender receiver : ℕ) → Row h before (suc j) 256 sender receiver → InARow h (suc before) j
row_is h before j sender receiver row = record {
  lsp_taken_as_sent = λ i l. row.each i (omega arith);
  many = row.packets_are;
  sender_era = λ f f' e e'. row.sender_eras (suc before) f (omega arith) e ∙ sym (row.sender_eras (suc before + j) f' (omega arith) e');
  receiver_era = λ g g' e e'. row.receiver_eras (suc before) g (omega arith) e ∙ sym (row.receiver_eras (suc before + j) g' (omega arith) e');
}

-- it stays one as the run goes on
pub row_stays : (h h' : List CallMade) (n j : ℕ) → Extends h h' → InARow h n j → InARow h' n j
row_stays h h' n j e row = record {
  lsp_taken_as_sent = λ i l.
      let q = row.lsp_taken_as_sent i l in
      let p = q.pair in
      record { pair = record { sent = p.sent; taken = p.taken; is_sent = e.sent _ p.sent p.is_sent; is_taken = e.taken _ p.taken p.is_taken }; same = q.same };
  many = packets_same (frames_sent h') (frames_sent h) n (suc j) (λ k l. let p = (row.lsp_taken_as_sent k (omega arith)).pair in e.sent _ p.sent p.is_sent ∙ sym p.is_sent) ∙ row.many;
  sender_era = λ f f' a b.
      let p = (row.lsp_taken_as_sent 0 (omega arith)).pair in
      let q = (row.lsp_taken_as_sent j (omega arith)).pair in
      let z : n + 0 ≡ n = omega arith in
      let first : IsSent h n p.sent = subst (λ k. IsSent h k p.sent) z p.is_sent in
      ap (λ g. g.era) (same_some (sym a ∙ e.sent n p.sent first)) ∙ row.sender_era p.sent q.sent first q.is_sent ∙ ap (λ g. g.era) (same_some (sym (e.sent (n + j) q.sent q.is_sent) ∙ b));
  receiver_era = λ f f' a b.
      let p = (row.lsp_taken_as_sent 0 (omega arith)).pair in
      let q = (row.lsp_taken_as_sent j (omega arith)).pair in
      let z : n + 0 ≡ n = omega arith in
      let first : IsTaken h n p.taken = subst (λ k. IsTaken h k p.taken) z p.is_taken in
      ap (λ g. g.era) (same_some (sym a ∙ e.taken n p.taken first)) ∙ row.receiver_era p.taken q.taken first q.is_taken ∙ ap (λ g. g.era) (same_some (sym (e.taken (n + j) q.taken q.is_taken) ∙ b));
}
