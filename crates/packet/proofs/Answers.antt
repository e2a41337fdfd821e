-- Packing and unpacking have one answer for each input.
use Rattle.std.proofs.Common.{◌≡◌, ℕ, List, Ok, Err, Result, MatchResult, inl, inr, sym, ◌∙◌, subst, arith}
use Rattle.std.proofs.lemmas.Bool.{false≢true}
use Rattle.service.specs.declared.rates.Rate.{Rate}
use Rattle.service.specs.declared.refusals.Refusal.{Refusal}
use Rattle.service.specs.Rates.{rate_is}
use Rattle.service.specs.Refusals.{Answer, refusal_is, refused}
use Rattle.service.proofs.Numbers.{distinct_numbers}
use Rattle.packet.specs.declared.codes.CodeNumbers.{CodeNumbers}
use Rattle.packet.specs.declared.codes.Codes.{Codes}
use Rattle.packet.specs.Calls.{Holds, Lawful, Packs, PacksCodes}
use Rattle.packet.specs.OneAnswer.{OneAnswer, SamePacked, SameUnpacked}
use Rattle.packet.specs.Unpacking.{UnpackFault, Unpacks}
use Rattle.packet.proofs.Returns.{one_record}

pub same_rate : (a b : Rate) (number : ℕ) → (rate_is a).number ≡ number → (rate_is b).number ≡ number → a ≡ b
same_rate a b number ea eb = distinct_numbers.rates a b (ea ∙ sym eb)

same_codes_packed : (rate : Rate) (c : CodeNumbers) (before after after' : List ℕ) (r r' : Result ℕ Refusal) → PacksCodes rate c before after r
    → PacksCodes rate c before after' r' → (after ≡ after') × SamePacked r r'
same_codes_packed rate c before after after' (Ok n) (Ok m) p q = (p.written ∙ sym q.written, p.length ∙ sym q.length)
same_codes_packed rate c before after after' (Ok n) (Err f) p (kept, (is, short)) = let l = p.room in absurd (omega arith)
same_codes_packed rate c before after after' (Err e) (Ok m) (kept, (is, short)) q = let l = q.room in absurd (omega arith)
same_codes_packed rate c before after after' (Err e) (Err f) (kept, (is, short)) (kept', (is', short')) = (kept ∙ sym kept', is ∙ sym is')

both_refused : (r r' : Result ℕ Refusal) → MatchResult r (λ _. ⊥) (λ e. refusal_is e ≡ refused 17) → MatchResult r' (λ _. ⊥) (λ e. refusal_is e ≡ refused 17) → SamePacked r r'
both_refused (Ok n) r' p q = absurd p
both_refused (Err e) (Ok m) p q = absurd q
both_refused (Err e) (Err f) p q = p ∙ sym q

packing : (number : ℕ) (c : CodeNumbers) (before after after' : List ℕ) (r r' : Result ℕ Refusal) → Packs number c before after r → Packs number c before after' r'
    → (after ≡ after') × SamePacked r r'
packing number c before after after' r r' (inl (rate, is, within, p)) (inl (rate', is', within', q)) =
    same_codes_packed rate c before after after' r r' p (subst (λ x. PacksCodes x c before after' r') (same_rate rate' rate number is' is) q)
packing number c before after after' r r' (inl (rate, is, within, p)) (inr (none, kept, again)) = absurd (none rate is within)
packing number c before after after' r r' (inr (none, kept, again)) (inl (rate, is, within, q)) = absurd (none rate is within)
packing number c before after after' r r' (inr (none, kept, again)) (inr (none', kept', again')) = (kept ∙ sym kept', both_refused r r' again again')

-- a lawful packet has no fault
no_fault : (rate : Rate) (bytes : List ℕ) (a : Answer) → Lawful rate bytes → UnpackFault rate bytes a → ⊥
no_fault rate bytes a lawful (inl (is, long)) = long lawful.length
no_fault rate bytes a lawful (inr (is, long, set)) = false≢true (sym lawful.spare ∙ set)

-- and a packet has one fault
one_fault : (rate : Rate) (bytes : List ℕ) (a b : Answer) → UnpackFault rate bytes a → UnpackFault rate bytes b → a ≡ b
one_fault rate bytes a b (inl (is, long)) (inl (is', long')) = is ∙ sym is'
one_fault rate bytes a b (inl (is, long)) (inr (is', same, set)) = absurd (long same)
one_fault rate bytes a b (inr (is, same, set)) (inl (is', long)) = absurd (long same)
one_fault rate bytes a b (inr (is, same, set)) (inr (is', same', set')) = is ∙ sym is'

unpacking : (number : ℕ) (bytes : List ℕ) (r r' : Result Codes Refusal) → Unpacks number bytes r → Unpacks number bytes r' → SameUnpacked r r'
unpacking number bytes (Ok c) (Ok d) (is, lawful, holds) (is', lawful', holds') =
    let e : c.rate ≡ d.rate = same_rate c.rate d.rate number is is' in
    (e, (one_record d.rate bytes).only c.numbers d.numbers (subst (λ x. Holds x bytes c.numbers) e holds) holds')
unpacking number bytes (Ok c) (Err f) (is, lawful, holds) (inl (no_rate, none)) = none c.rate is
unpacking number bytes (Ok c) (Err f) (is, lawful, holds) (inr (rate, is', fault)) =
    no_fault rate bytes (refusal_is f) (subst (λ x. Lawful x bytes) (same_rate c.rate rate number is is') lawful) fault
unpacking number bytes (Err e) (Ok d) (inl (no_rate, none)) (is, lawful, holds) = none d.rate is
unpacking number bytes (Err e) (Ok d) (inr (rate, is', fault)) (is, lawful, holds) =
    no_fault rate bytes (refusal_is e) (subst (λ x. Lawful x bytes) (same_rate d.rate rate number is is') lawful) fault
unpacking number bytes (Err e) (Err f) (inl (is, none)) (inl (is', none')) = is ∙ sym is'
unpacking number bytes (Err e) (Err f) (inl (is, none)) (inr (rate, named, fault)) = absurd (none rate named)
unpacking number bytes (Err e) (Err f) (inr (rate, named, fault)) (inl (is, none)) = absurd (none rate named)
unpacking number bytes (Err e) (Err f) (inr (rate, named, fault)) (inr (rate', named', fault')) =
    one_fault rate bytes (refusal_is e) (refusal_is f) fault (subst (λ x. UnpackFault x bytes (refusal_is f)) (same_rate rate' rate number named' named) fault')

pub one_answer : OneAnswer
one_answer = record { packing = packing; unpacking = unpacking }
