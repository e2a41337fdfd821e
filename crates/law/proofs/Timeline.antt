-- One end over a whole run: its memories, and what happened to them between two of its frames.
use Rattle.std.proofs.Common.{◌≡◌, ℕ, zero, suc, ◌+◌, ◌≤◌, List, [], ◌∷◌, ◌++◌, length, Option, Some, None, ℤ, sym, ap, ap₂, ◌∙◌, subst, zero-add, inl, inr, arith}
use Rattle.lsp.specs.Histories.{Event, Lawful, after, packet, erasure, blank, restart}
use Rattle.lsp.specs.States.{InRange, fresh}
use Rattle.lsp.proofs.Runs.{after-++, rounding, stays_in_range}
use Rattle.lsp.proofs.Ranges.{fresh_in}
use Rattle.rules.specs.Links.{Link}
use Rattle.law.specs.Runs.{Call, Frame, CallMade, Role, frame, restarts, nothing, Run, LinkEnd, Step, events_of_role, frame_of_role, frames_at, now, events_at, restarts_at, restarts_of_role}
use Rattle.law.specs.Law.{Rounded, numbered}
use Rattle.law.proofs.Numbers.{append_nil, new_number, number_in, number_push, old_number, push_length}
use Rattle.law.proofs.Steps.{Moves}

pub lawful-++ : (a b : List Event) → Lawful a → Lawful b → Lawful (a ++ b)
lawful-++ [] b s t = t
lawful-++ (packet rate codes ∷ a) b s t = (s.0, lawful-++ a b s.1 t)
lawful-++ (erasure ∷ a) b s t = lawful-++ a b s t
lawful-++ (blank ∷ a) b s t = lawful-++ a b s t
lawful-++ (restart ∷ a) b s t = lawful-++ a b s t

-- what the frame of a number is to the memories, and those of number n to n + j, the latest first
unfoldable pub event_at : {A : Type 0} → (A → Event) → Option (Frame A) → Event
event_at event None = blank
event_at event (Some f) = event f.what

unfoldable pub span : {A : Type 0} → (A → Event) → List (Frame A) → ℕ → ℕ → List Event
span event fs n zero = event_at event (numbered fs n) ∷ []
span event fs n (suc j) = event_at event (numbered fs (n + suc j)) ∷ span event fs n j

span_old : {A : Type 0} (event : A → Event) (fs : List (Frame A)) (x : Frame A) (n j : ℕ) → n + j ≤ length fs → span event (fs ++ (x ∷ [])) n j ≡ span event fs n j
unfolding span
span_old event fs x n zero h = ap (λ o. event_at event o ∷ []) (old_number fs x n (omega arith))
span_old event fs x n (suc j) h =
    ap₂ (λ o l. event_at event o ∷ l) (old_number fs x (n + suc j) (omega arith)) (span_old event fs x n j (omega arith))

-- memories that a lawful past and then these events led to
pub record Since (events : List Event) (m : List ℤ) : Type 0 where
  pub before : List Event
  pub lawful : Lawful before
  pub is : m ≡ after fresh (events ++ before)

-- of the frames of one era: memories m that the end has now, in era e, and the memories right after each frame
pub record Spans {A : Type 0} (event : A → Event) (fs : List (Frame A)) (m : List ℤ) (e : ℕ) : Type 0 where
  pub to_now : (n j : ℕ) (f : Frame A) → numbered fs n ≡ Some f → n + j ≡ length fs → f.era ≡ e → Since (span event fs n j) m
  pub between : (n j : ℕ) (f f' : Frame A) → numbered fs n ≡ Some f → numbered fs (n + j) ≡ Some f' → f.era ≡ f'.era → Since (span event fs n j) f'.memories

module _ {A : Type 0} (event : A → Event) (fs : List (Frame A)) (m m' : List ℤ) (e : ℕ) (past : List Event) (lawful : Lawful past) (held : m ≡ after fresh past)
    (most : (n : ℕ) (f : Frame A) → numbered fs n ≡ Some f → f.era ≤ e) (spans : Spans event fs m e) where
  -- one frame more
  to_new : (a : A) → m' ≡ after m (event a ∷ []) → (n j : ℕ) (f : Frame A) → numbered (fs ++ (record { what = a; memories = m'; era = e } ∷ [])) n ≡ Some f
      → n + j ≡ suc (length fs) → f.era ≡ e → Since (span event (fs ++ (record { what = a; memories = m'; era = e } ∷ [])) n j) m'
  unfolding span event_at
  to_new a moved n zero f k last era =
      let x : Frame A = record { what = a; memories = m'; era = e } in
      let new = new_number fs x n (omega arith) in
      record {
        before = past;
        lawful = lawful;
        is = moved ∙ ap (λ l. after l (event a ∷ [])) held ∙ sym (after-++ fresh (event a ∷ []) past)
            ∙ ap (λ o. after fresh (event_at event o ∷ past)) (sym new);
      }
  to_new a moved n (suc j) f k last era =
      let x : Frame A = record { what = a; memories = m'; era = e } in
      let new = new_number fs x (n + suc j) last in
      let old : numbered fs n ≡ Some f = sym (old_number fs x n (omega arith)) ∙ k in
      let since = spans.to_now n j f old (omega arith) era in
      record {
        before = since.before;
        lawful = since.lawful;
        is = moved ∙ ap (λ l. after l (event a ∷ [])) since.is ∙ sym (after-++ fresh (event a ∷ []) (span event fs n j ++ since.before))
            ∙ ap₂ (λ o l. after fresh (event_at event o ∷ (l ++ since.before))) (sym new) (sym (span_old event fs x n j (omega arith)));
      }

  between_more : (a : A) → m' ≡ after m (event a ∷ []) → (n j : ℕ) (f f' : Frame A) → numbered (fs ++ (record { what = a; memories = m'; era = e } ∷ [])) n ≡ Some f
      → numbered (fs ++ (record { what = a; memories = m'; era = e } ∷ [])) (n + j) ≡ Some f' → f.era ≡ f'.era
      → Since (span event (fs ++ (record { what = a; memories = m'; era = e } ∷ [])) n j) f'.memories
  between_more a moved n j f f' k k' era =
      let x : Frame A = record { what = a; memories = m'; era = e } in
      elim (number_push fs x (n + j) f' k') [
        | inl h ↦
            let old : numbered fs n ≡ Some f = sym (old_number fs x n (omega arith)) ∙ k in
            subst (λ l. Since l f'.memories) (sym (span_old event fs x n j h.0)) (spans.between n j f f' old h.1 era)
        | inr h ↦
            let mem : m' ≡ f'.memories = sym (ap (λ g. g.memories) h.1) in
            subst (Since (span event (fs ++ (x ∷ [])) n j)) mem (to_new a moved n j f k h.0 (era ∙ ap (λ g. g.era) h.1))
      ]

  spans_more : (p : Role A) → m' ≡ after m (events_of_role event p) → Spans event (fs ++ frame_of_role p m' e) m' (restarts_of_role p + e)
  spans_more (frame a) moved =
      subst (Spans event (fs ++ frame_of_role (frame a) m' e) m') (sym (zero-add e))
      (record { to_now = λ n j f k l era. to_new a moved n j f k (l ∙ push_length fs _) era; between = between_more a moved })
  spans_more restarts moved =
      subst (λ l. Spans event l m' (1 + e)) (sym (append_nil fs)) (record {
        to_now = λ n j f k l era. absurd (omega (arith, most n f k, era));
        between = spans.between;
      })
  spans_more nothing moved =
      subst (Spans event (fs ++ []) m') (sym (zero-add e))
      (subst (λ l. Spans event l m' e) (sym (append_nil fs)) (subst (λ l. Spans event fs l e) (sym moved) spans))

module _ {A : Type 0} (side : LinkEnd A) (moves : (s t : Link) (c : Call) → Step s c t → Moves side s c t) (s : Link) (new : side.memories s ≡ fresh) where
  pub lawful_past : (h : List CallMade) → Run s h → Lawful (events_at side h)
  lawful_past [] r = tt
  lawful_past (m ∷ h) r =
      lawful-++ (events_of_role side.event (side.role m.call)) (events_at side h) (moves (now s h) m.link m.call r.0).lawful (lawful_past h r.1)

  -- the memories are those after all that happened
  pub held : (h : List CallMade) → Run s h → side.memories (now s h) ≡ after fresh (events_at side h)
  held [] r = new
  held (m ∷ h) r =
      let x = events_of_role side.event (side.role m.call) in
      (moves (now s h) m.link m.call r.0).moved ∙ ap (λ k. after k x) (held h r.1) ∙ sym (after-++ fresh x (events_at side h))

  pub in_range : (h : List CallMade) → Run s h → InRange (side.memories (now s h))
  in_range h r = subst InRange (sym (held h r)) (stays_in_range fresh fresh_in (events_at side h) (lawful_past h r))

  pub rounded : (h : List CallMade) → Run s h → Rounded (events_at side h) (side.memories (now s h))
  rounded h r = subst (Rounded (events_at side h)) (sym (held h r)) (rounding (events_at side h))

  -- no frame is of a later era than the end is in
  frame_era : (p : Role A) (fs : List (Frame A)) (m : List ℤ) (e : ℕ) → ((n : ℕ) (f : Frame A) → numbered fs n ≡ Some f → f.era ≤ e)
      → (n : ℕ) (f : Frame A) → numbered (fs ++ frame_of_role p m e) n ≡ Some f → f.era ≤ restarts_of_role p + e
  frame_era (frame a) fs m e old n f k = elim (number_push fs _ n f k) [
    | inl h ↦ omega (arith, old n f h.1)
    | inr h ↦ omega (arith, ap (λ g. g.era) h.1)
  ]
  frame_era restarts fs m e old n f k = omega (arith, old n f (subst (λ l. numbered l n ≡ Some f) (append_nil fs) k))
  frame_era nothing fs m e old n f k = omega (arith, old n f (subst (λ l. numbered l n ≡ Some f) (append_nil fs) k))

  pub era_most : (h : List CallMade) (n : ℕ) (f : Frame A) → numbered (frames_at side h) n ≡ Some f → f.era ≤ restarts_at side h
  era_most [] zero f k = absurd cc
  era_most [] (suc n) f k = absurd cc
  era_most (m ∷ h) n f k = frame_era (side.role m.call) (frames_at side h) (side.memories m.link) (restarts_at side h) (era_most h) n f k

  spans_none : Spans side.event [] (side.memories s) 0
  spans_none = record {
    to_now = λ n j f k. absurd (omega (arith, number_in [] n f k));
    between = λ n j f f' k. absurd (omega (arith, number_in [] n f k));
  }

  pub spans : (h : List CallMade) → Run s h → Spans side.event (frames_at side h) (side.memories (now s h)) (restarts_at side h)
  spans [] r = spans_none
  spans (m ∷ h) r =
      spans_more side.event (frames_at side h) (side.memories (now s h)) (side.memories m.link) (restarts_at side h) (events_at side h)
      (lawful_past h r.1) (held h r.1) (era_most h) (spans h r.1) (side.role m.call) (moves (now s h) m.link m.call r.0).moved
