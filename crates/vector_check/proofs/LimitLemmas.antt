-- Cases of packing into buffers.
use Rattle.std.proofs.Common.{◌≡◌, ◌≢◌, ℕ, List, ◌∷◌, ◌++◌, codes, Option, Some, None, Ok, Err, Result, sym, subst, refl, ap, ◌∙◌, inl, inr, append_assoc, arith, rules}
use Rattle.std.specs.Option.{option_map}
use Rattle.std.specs.Result.{IfOk}
use Rattle.std.specs.declared.alloc.AllocError.{AllocError}
use Rattle.std.specs.Str.Parse.{digits_value, without_leading_plus}
use Rattle.std.proofs.lemmas.List.Elements.{All-from_recursion}
use Rattle.service.specs.declared.rates.Rate.{Rate}
use Rattle.packet.specs.declared.codes.CodeNumbers.{CodeNumbers}
use Rattle.packet.proofs.Answers.{same_rate}
use Rattle.packet_lines.specs.Reading.{Asked, reading}
use Rattle.packet_lines.specs.Reading.Asked.{pack}
use Rattle.packet_lines.specs.declared.reasons.Unreadable.{Unreadable}
use Rattle.vector_check.specs.declared.files.CaseError.{CaseError}
use Rattle.vector_check.specs.declared.files.CaseError.TheVariants.{Line, OutOfMemory}
use Rattle.vector_check.specs.declared.limits.LimitCase.{LimitCase}
use Rattle.vector_check.specs.declared.limits.RateCodes.{RateCodes}
use Rattle.vector_check.specs.Differences.{Finds, Judges, Reads}
use Rattle.vector_check.specs.Limits.{AnswersCodes, AnswersInRoom, AnswersLimit, IsExpected, IsLimitCase, IsRightLimit, IsRoom, Limit, LimitLine, LimitParts, NamesLimit, limit_of, limit_text, pack_line}
use Rattle.vector_check.specs.Words.{IsWord, LastWord}
use Rattle.vector_check.proofs.Found.{differs, finds_answer}
use Rattle.vector_check.proofs.WordLemmas.{no_parts, same_last}

abbrev pub refused_word : List ℕ
refused_word = codes "refused"

is_word : IsWord refused_word
is_word = All-from_recursion (λ b. b ≢ 32) (codes "refused") (search rules)

-- the answer of a line is its last word, or its last two
front_of : (line v l a : List ℕ) → LimitParts line v l a → line ≡ (v ++ (32 ∷ l)) ++ (32 ∷ a)
front_of line v l a p = p.parts ∙ sym (append_assoc v (32 ∷ l) (32 ∷ a))

refusal_of : (line v l a n : List ℕ) → LimitParts line v l a → a ≡ codes "refused " ++ n
    → line ≡ ((v ++ (32 ∷ l)) ++ (32 ∷ refused_word)) ++ (32 ∷ n)
refusal_of line v l a n p e =
    front_of line v l a p ∙ ap (λ t. (v ++ (32 ∷ l)) ++ (32 ∷ t)) e ∙ sym (append_assoc (v ++ (32 ∷ l)) (32 ∷ refused_word) (32 ∷ n))

same_words : (line v l a v' l' a' : List ℕ) → LimitParts line v l a → LimitParts line v' l' a' → IsWord a → IsWord a'
    → (v ≡ v') × (l ≡ l') × (a ≡ a')
same_words line v l a v' l' a' p q ha ha' =
    let back = same_last line (v ++ (32 ∷ l)) (v' ++ (32 ∷ l')) a a' ha ha' (front_of line v l a p) (front_of line v' l' a' q) in
    let front = same_last (v ++ (32 ∷ l)) v v' l l' p.word q.word refl back.0 in
    (front.0, front.1, back.1)

same_refusal : (line v l a n v' l' a' n' : List ℕ) → LimitParts line v l a → LimitParts line v' l' a' → IsWord n → IsWord n'
    → a ≡ codes "refused " ++ n → a' ≡ codes "refused " ++ n' → (v ≡ v') × (l ≡ l') × (a ≡ a')
same_refusal line v l a n v' l' a' n' p q hn hn' e e' =
    let f = v ++ (32 ∷ l) in
    let f' = v' ++ (32 ∷ l') in
    let back = same_last line (f ++ (32 ∷ refused_word)) (f' ++ (32 ∷ refused_word)) n n' hn hn' (refusal_of line v l a n p e) (refusal_of line v' l' a' n' q e') in
    let mid = same_last (f ++ (32 ∷ refused_word)) f f' refused_word refused_word is_word is_word refl back.0 in
    let front = same_last f v v' l l' p.word q.word refl mid.0 in
    (front.0, front.1, e ∙ ap (λ t. codes "refused " ++ t) back.1 ∙ sym e')

not_both : (line v l a v' l' a' n' : List ℕ) → LimitParts line v l a → LimitParts line v' l' a' → IsWord a → l ≢ refused_word → IsWord n'
    → a' ≡ codes "refused " ++ n' → ⊥
not_both line v l a v' l' a' n' p q ha other hn' e' =
    let f' = v' ++ (32 ∷ l') in
    let back = same_last line (v ++ (32 ∷ l)) (f' ++ (32 ∷ refused_word)) a n' ha hn' (front_of line v l a p) (refusal_of line v' l' a' n' q e') in
    let front = same_last (v ++ (32 ∷ l)) v f' l refused_word p.word is_word refl back.0 in
    other front.1

by_expected : (line v l a v' l' a' : List ℕ) → LimitParts line v l a → LimitParts line v' l' a' → IsExpected l a → IsExpected l' a'
    → (v ≡ v') × (l ≡ l') × (a ≡ a')
by_expected line v l a v' l' a' p q (inl (ha, other)) (inl (ha', other')) = same_words line v l a v' l' a' p q ha ha'
by_expected line v l a v' l' a' p q (inl (ha, other)) (inr (n', hn', e')) = absurd (not_both line v l a v' l' a' n' p q ha other hn' e')
by_expected line v l a v' l' a' p q (inr (n, hn, e)) (inl (ha', other')) = absurd (not_both line v' l' a' v l a n q p ha' other' hn e)
by_expected line v l a v' l' a' p q (inr (n, hn, e)) (inr (n', hn', e')) = same_refusal line v l a n v' l' a' n' p q hn hn' e e'

same_parts : (line v l a v' l' a' : List ℕ) → LimitParts line v l a → LimitParts line v' l' a' → (v ≡ v') × (l ≡ l') × (a ≡ a')
same_parts line v l a v' l' a' p q = by_expected line v l a v' l' a' p q p.expected q.expected

-- the parts, from the words at the end of a line
pub packet_parts : (line front last v l : List ℕ) → LastWord line front last → LastWord front v l → l ≢ refused_word → LimitParts line v l last
packet_parts line front last v l a b other = record {
  parts = a.parts ∙ ap (λ t. t ++ (32 ∷ last)) b.parts ∙ append_assoc v (32 ∷ l) (32 ∷ last);
  word = b.last;
  expected = inl (a.last, other);
}

pub refusal_parts : (line front last next word v l answer : List ℕ) → LastWord line front last → LastWord front next word → word ≡ refused_word
    → LastWord next v l → answer ≡ codes "refused " ++ last → LimitParts line v l answer
refusal_parts line front last next word v l answer a b is d e =
    let whole : line ≡ (next ++ (32 ∷ refused_word)) ++ (32 ∷ last) = a.parts ∙ ap (λ t. t ++ (32 ∷ last)) (b.parts ∙ ap (λ w. next ++ (32 ∷ w)) is) in
    let moved : line ≡ next ++ (32 ∷ answer) = whole ∙ append_assoc next (32 ∷ refused_word) (32 ∷ last) ∙ ap (λ t. next ++ (32 ∷ t)) (sym e) in
    record {
      parts = moved ∙ ap (λ t. t ++ (32 ∷ answer)) d.parts ∙ append_assoc v (32 ∷ l) (32 ∷ answer);
      word = d.last;
      expected = inr (last, a.last, e);
    }

abbrev pub NoParts : List ℕ → Type 0
NoParts line = (values length answer : List ℕ) → LimitParts line values length answer → ⊥

-- a line that lacks words is no case
pub no_answer : (line : List ℕ) → IsWord line → NoParts line
no_answer line h v l a p = no_parts line v (l ++ (32 ∷ a)) h p.parts

pub no_length : (line front last : List ℕ) → LastWord line front last → IsWord front → NoParts line
no_length line front last b h v l a p =
    elim p.expected [
      | inl (ha, other) ↦
          let s = same_last line front (v ++ (32 ∷ l)) last a b.last ha b.parts (front_of line v l a p) in
          no_parts front v l h s.0
      | inr (n, hn, e) ↦
          let s = same_last line front ((v ++ (32 ∷ l)) ++ (32 ∷ refused_word)) last n b.last hn b.parts (refusal_of line v l a n p e) in
          no_parts front (v ++ (32 ∷ l)) refused_word h s.0
    ]

pub no_codes : (line front last next word : List ℕ) → LastWord line front last → LastWord front next word → word ≡ refused_word → IsWord next
    → NoParts line
no_codes line front last next word b d is h v l a p =
    elim p.expected [
      | inl (ha, other) ↦
          let s = same_last line front (v ++ (32 ∷ l)) last a b.last ha b.parts (front_of line v l a p) in
          let t = same_last front next v word l d.last p.word d.parts s.0 in
          absurd (other (sym t.1 ∙ is))
      | inr (n, hn, e) ↦
          let s = same_last line front ((v ++ (32 ∷ l)) ++ (32 ∷ refused_word)) last n b.last hn b.parts (refusal_of line v l a n p e) in
          let t = same_last front next (v ++ (32 ∷ l)) word refused_word d.last is_word d.parts s.0 in
          no_parts next v l h t.0
    ]

-- nor is one whose length or whose codes cannot be read
pub no_room : (line v l a : List ℕ) → LimitParts line v l a → ((n : ℕ) → IsRoom l n → ⊥) → IsLimitCase line → ⊥
no_room line v l a p none (x, q) =
    let s = same_parts line x.values q.length x.answer v l a q.parts p in
    none x.room (subst (λ t. IsRoom t x.room) s.1 q.is_room)

pub no_reading : (line v l a : List ℕ) → LimitParts line v l a
    → ((rate : ℕ) (c : CodeNumbers) → reading (pack_line v) ≡ Ok (pack rate c) → ⊥) → IsLimitCase line → ⊥
no_reading line v l a p none (x, q) =
    let s = same_parts line x.values q.length x.answer v l a q.parts p in
    none x.rate x.numbers (subst (λ t. reading (pack_line t) ≡ Ok (pack x.rate x.numbers)) s.0 q.reads)

-- one answer to each call
same_codes : (rate : Rate) (c : CodeNumbers) (room : ℕ) (a b : List ℕ) → AnswersCodes rate c room a → AnswersCodes rate c room b → a ≡ b
same_codes rate c room a b (inl (fits, e)) (inl (fits', e')) = e ∙ sym e'
same_codes rate c room a b (inl (fits, e)) (inr (short, e')) = absurd (omega arith)
same_codes rate c room a b (inr (short, e)) (inl (fits, e')) = absurd (omega arith)
same_codes rate c room a b (inr (short, e)) (inr (short', e')) = e ∙ sym e'

one_in_room : (number : ℕ) (c : CodeNumbers) (room : ℕ) (a b : List ℕ) → AnswersInRoom number c room a → AnswersInRoom number c room b → a ≡ b
one_in_room number c room a b (inl (rate, is, within, h)) (inl (rate', is', within', k)) =
    same_codes rate c room a b h (subst (λ r. AnswersCodes r c room b) (same_rate rate' rate number is' is) k)
one_in_room number c room a b (inl (rate, is, within, h)) (inr (none, k)) = absurd (none rate is within)
one_in_room number c room a b (inr (none, h)) (inl (rate, is, within, k)) = absurd (none rate is within)
one_in_room number c room a b (inr (none, e)) (inr (none', e')) = e ∙ sym e'

abbrev given : Limit → Result Asked Unreadable
given x = Ok (pack x.rate x.numbers)

right_as : (line : List ℕ) (x : Limit) → LimitLine line x → IsRightLimit line → AnswersLimit x x.answer
right_as line x p (y, q, right) =
    let s = same_parts line y.values q.length y.answer x.values p.length x.answer q.parts p.parts in
    let room : y.room ≡ x.room = q.is_room.number ∙ (ap (λ t. digits_value 10 (without_leading_plus t)) s.1 ∙ sym p.is_room.number) in
    let read : reading (pack_line y.values) ≡ reading (pack_line x.values) = ap (λ t. reading (pack_line t)) s.0 in
    let both : given y ≡ given x = sym q.reads ∙ (read ∙ p.reads) in
    let rate : y.rate ≡ x.rate = cc in
    let numbers : y.numbers ≡ x.numbers = cc in
    subst (λ n. AnswersInRoom n x.numbers x.room x.answer) rate
    (subst (λ c. AnswersInRoom y.rate c x.room x.answer) numbers
    (subst (λ n. AnswersInRoom y.rate y.numbers n x.answer) room
    (subst (λ t. AnswersInRoom y.rate y.numbers y.room t) s.2 right)))

pub limit_judged : {X : Type 0} (bytes : X → List ℕ) (line : List ℕ) (x : Limit) (found : Option X) → LimitLine line x
    → Finds (AnswersLimit x) (limit_text x) x.answer (option_map bytes found)
    → Judges bytes (IsLimitCase line) (IsRightLimit line) (NamesLimit line) (Ok found)
limit_judged bytes line x None p f = ((x, p), (x, p, f))
limit_judged bytes line x (Some s) p f =
    ((x, p), λ right. differs (AnswersLimit x) (limit_text x) x.answer (bytes s) (one_in_room x.rate x.numbers x.room) f (right_as line x p right), (x, p, f))

-- an error of reading codes goes on
pub no_codes_read : (line v l a : List ℕ) (e : CaseError) → LimitParts line v l a
    → Reads (λ (r : RateCodes). reading (pack_line v) ≡ Ok (pack r.rate r.numbers))
    ((rate : ℕ) (c : CodeNumbers) → reading (pack_line v) ≡ Ok (pack rate c) → ⊥) (Err e)
    → Reads (λ (x : LimitCase). LimitLine line (limit_of x)) (IsLimitCase line → ⊥) (Err e)
no_codes_read line v l a (Line reason) p h = no_reading line v l a p h
no_codes_read line v l a OutOfMemory p h = tt

-- the difference from what packing is answered
pub limit_found : {X : Type 0} (bytes : X → List ℕ) (x : Limit) (asked expected answered : List ℕ) (r : Result (Option X) AllocError)
    → asked ≡ limit_text x → expected ≡ x.answer → AnswersLimit x answered
    → IfOk r (λ found. Finds (λ text. text ≡ answered) asked expected (option_map bytes found))
    → IfOk r (λ found. Finds (AnswersLimit x) (limit_text x) x.answer (option_map bytes found))
limit_found bytes x asked expected answered (Err e) a t is h = tt
limit_found bytes x asked expected answered (Ok found) a t is h =
    let f = finds_answer (AnswersLimit x) asked expected answered (option_map bytes found) is h in
    subst (λ q. Finds (AnswersLimit x) q x.answer (option_map bytes found)) a
    (subst (λ q. Finds (AnswersLimit x) asked q (option_map bytes found)) t f)
