-- The lines of an input are answered one after another.
use Rattle.std.proofs.Common.{◌≡◌, ℕ, ◌<◌, List, [], ◌∷◌, ◌++◌, codes, length, Option, Some, None, Ok, Err, Result, sym, subst, ap, ◌∙◌, append_assoc}
use Rattle.std.specs.Option.{IfSome}
use Rattle.std.specs.Result.{IfOk, MatchResult}
use Rattle.std.specs.Io.BufRead.{DropsThrough, drop_through, first_piece}
use Rattle.std.specs.Io.KnownBytes.{Appends, IsAtEnd}
use Rattle.std.proofs.lemmas.List.{append-nil}
use Rattle.std.proofs.lemmas.List.Concat.{flat_map-append}
use Rattle.packet_lines.specs.Answers.{Answers}
use Rattle.packet_text.specs.Lines.{AnswersInput, AnswersLine, AnswersLines, output_text}

-- some lines of the input are answered: answers of the rest, behind these, answer the input
pub record Answered (input : List ℕ) (known before after : Option (List ℕ)) : Type 0 where
  pub rest : List ℕ
  pub is : known ≡ Some rest
  pub done : List (List ℕ)
  pub written : Appends before after (output_text done)
  pub goes_on : (ts : List (List ℕ)) → AnswersLines rest ts → AnswersLines input (done ++ ts)

appends_none : (before : Option (List ℕ)) → Appends before before []
appends_none None = tt
appends_none (Some xs) = sym (append-nil xs)

appends_both : (a b c : Option (List ℕ)) (xs ys : List ℕ) → Appends a b xs → Appends b c ys → Appends a c (xs ++ ys)
appends_both None b c xs ys h k = tt
appends_both (Some p) None c xs ys h k = absurd h
appends_both (Some p) (Some q) None xs ys h k = absurd k
appends_both (Some p) (Some q) (Some r) xs ys h k = k ∙ ap (λ l. l ++ ys) h ∙ append_assoc p xs ys

answered_none : (input : List ℕ) (known before : Option (List ℕ)) → known ≡ Some input → Answered input known before before
answered_none input known before e = record { rest = input; is = e; done = []; written = appends_none before; goes_on = λ ts h. h }

-- the next line of known bytes
pub record IsNext (line : List ℕ) (old new : Option (List ℕ)) : Type 0 where
  pub first : IfSome old (λ xs. (0 < length xs) × (line ≡ first_piece 10 xs))
  pub drops : DropsThrough old new 10

answered_more : (input line : List ℕ) (old new before mid after : Option (List ℕ)) → Answered input old before mid → IsNext line old new
    → AnswersLine line mid after → Answered input new before after
answered_more input line old new before mid after a next (t, answers, wrote) =
    let first : (0 < length a.rest) × (line ≡ first_piece 10 a.rest) = rw a.is at next.first in
    let more : output_text (a.done ++ t ∷ []) ≡ output_text a.done ++ (t ++ codes "\n")
    = flat_map-append (λ u. u ++ codes "\n") a.done (t ∷ []) ∙ ap (λ l. output_text a.done ++ l) (append-nil (t ++ codes "\n")) in
    record {
      rest = drop_through 10 a.rest;
      is = rw a.is at next.drops;
      done = a.done ++ t ∷ [];
      written = subst (λ l. Appends before after l) (sym more) (appends_both before mid after (output_text a.done) (t ++ codes "\n") a.written wrote);
      goes_on = λ ts h.
          subst (λ l. AnswersLines input l) (sym (append_assoc a.done (t ∷ []) ts))
          (a.goes_on (t ∷ ts) (first.0, subst (λ l. Answers l t) first.1 answers, h));
    }

answered_all : (input : List ℕ) (known before after : Option (List ℕ)) → Answered input known before after → IsAtEnd known → AnswersInput input before after
answered_all input known before after a end =
    let empty : a.rest ≡ [] = rw a.is at end in
    (a.done, subst (λ l. AnswersLines input l) (append-nil a.done) (a.goes_on [] empty), a.written)

-- the same where the input may be unknown
pub start : (input known before : Option (List ℕ)) → known ≡ input → IfSome input (λ bytes. Answered bytes known before before)
start None known before e = tt
start (Some bytes) known before e = answered_none bytes known before e

pub step : (input : Option (List ℕ)) (line : List ℕ) (old new before mid after : Option (List ℕ)) → IfSome input (λ bytes. Answered bytes old before mid)
    → IsNext line old new → AnswersLine line mid after → IfSome input (λ bytes. Answered bytes new before after)
step None line old new before mid after a next answers = tt
step (Some bytes) line old new before mid after a next answers = answered_more bytes line old new before mid after a next answers

pub finish : (input known before after : Option (List ℕ)) → IfSome input (λ bytes. Answered bytes known before after) → IsAtEnd known
    → IfSome input (λ bytes. AnswersInput bytes before after)
finish None known before after a end = tt
finish (Some bytes) known before after a end = answered_all bytes known before after a end

-- a result that is Ok x once its error is mapped
pub was_ok : {X E D : Type 0} (item : Result X E) (mapped : Result X D) (x : X) (Q : E → Type 0) → mapped ≡ Ok x → ((e : E) → Q e → ⊥)
    → MatchResult item (λ y. mapped ≡ Ok y) Q → item ≡ Ok x
was_ok (Ok y) mapped x Q is not h = cc
was_ok (Err e) mapped x Q is not h = absurd (not e h)

pub is_next : {X E : Type 0} (view : X → List ℕ) (item : Result X E) (x : X) (byte : ℕ) (old new : Option (List ℕ)) → item ≡ Ok x → byte ≡ 10
    → IfOk item (λ y. IfSome old (λ xs. (0 < length xs) × (view y ≡ first_piece byte xs)) × DropsThrough old new byte) → IsNext (view x) old new
is_next view item x byte old new e ten h =
    let k = rw (e, ten) at h in
    record { first = k.0; drops = k.1 }
