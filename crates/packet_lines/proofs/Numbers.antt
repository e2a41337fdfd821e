-- The number that a word is, and the numbers of words one by one.
use Rattle.std.proofs.Common.{◌≡◌, ℕ, ◌<◌, true, ◌&&◌, List, [], ◌∷◌, ◌++◌, length, drop, map, Ok, Err, Result, sym, refl, ap, ◌∙◌, inl, inr, arith, rules, decimal, Bor}
use Rattle.std.specs.Str.{IsUtf8, all_ascii_digits}
use Rattle.std.specs.List.{list_all}
use Rattle.std.specs.Char.{is_ascii_digit}
use Rattle.std.specs.Str.Parse.{ParsesUnsigned, digits_value}
use Rattle.std.specs.Option.{ok_or}
use Rattle.std.specs.Result.{MatchResult, IsOk, result_ok}
use Rattle.std.proofs.lemmas.Bool.{lt-ltb, le-ltb, cases_lt}
use Rattle.std.proofs.lemmas.Str.Parse.{IsNumeralModel, numerals_by_value, tells_all_ascii_digits, parse_digits}
use Rattle.std.proofs.lemmas.Fmt.{digits_decimal, digits_value-decimal, decimal_nonempty, IsAscii-from_digits}
use Rattle.std.proofs.lemmas.Str.{IsUtf8-from_ascii}
use Rattle.packet_lines.specs.declared.reasons.Unreadable.{Unreadable}
use Rattle.packet_lines.specs.declared.reasons.Unreadable.TheVariants.{Number}
use Rattle.packet_lines.specs.Reading.{number, ◌>>=◌}

-- std's words for decimal digits and their value
own : IsNumeralModel (λ ds. all_ascii_digits ds ≡ true) (digits_value 10)
own = numerals_by_value (λ ds. all_ascii_digits ds ≡ true) tells_all_ascii_digits

pub digits_by_all : (w : List ℕ) → list_all is_ascii_digit w ≡ all_ascii_digits w
digits_by_all [] = refl
digits_by_all (c ∷ cs) = ap (λ b. is_ascii_digit c && b) (digits_by_all cs)

digits_are_text : (w : List ℕ) → all_ascii_digits w ≡ true → IsUtf8 w
digits_are_text w h = IsUtf8-from_ascii w (IsAscii-from_digits w (own.to w h))

number_is : (w : List ℕ) → all_ascii_digits w ≡ true → 0 < length w → digits_value 10 w < 256 → number w ≡ Ok (digits_value 10 w)
number_is w h some small = rw (lt-ltb 0 (length w) some, h, lt-ltb (digits_value 10 w) 256 small) refl

number_too_large : (w : List ℕ) → all_ascii_digits w ≡ true → ((0 < length w) × (digits_value 10 w < 256) → ⊥) → number w ≡ Err Number
number_too_large w h not_so =
    elim (cases_lt 0 (length w)) [
      | inr none ↦ rw (le-ltb 0 (length w) none) refl
      | inl some ↦
          elim (cases_lt (digits_value 10 w) 256) [
            | inl small ↦ absurd (not_so (some, small))
            | inr large ↦ rw (lt-ltb 0 (length w) some, h, le-ltb (digits_value 10 w) 256 large) refl
          ]
    ]

pub number_parsed : {E : Type 0} (w : List ℕ) (r : Result ℕ E) → all_ascii_digits w ≡ true → ParsesUnsigned 8 10 w r
    → ok_or (result_ok r) Number ≡ number w
number_parsed {E} w (Ok n) h p =
    let k = parse_digits own {E = E} 8 w (Ok n) p h in
    ap Ok k.1 ∙ sym (number_is w h k.0.0 k.0.1)
number_parsed {E} w (Err e) h p = sym (number_too_large w h (parse_digits own {E = E} 8 w (Err e) p h))

pub text_found : {X Y : Type 0} (P : X → Type 0) (Q : Y → Type 0) (w : List ℕ) (r : Result X Y) → MatchResult r P (λ e. (IsUtf8 w → ⊥) × Q e)
    → all_ascii_digits w ≡ true → IsOk r
text_found P Q w (Ok x) p h = search rules
text_found P Q w (Err e) p h = absurd (p.0 (digits_are_text w h))

pub number_decimal : (n : ℕ) → n < 256 → number (decimal n) ≡ Ok n
number_decimal n h =
    let e = digits_value-decimal own n (omega arith) in
    number_is (decimal n) (digits_decimal own n (omega arith)) (decimal_nonempty n (omega arith)) (omega arith) ∙ ap Ok e

-- what is read behind a front
abbrev pub behind : List ℕ → Result (List ℕ) Unreadable → Result (List ℕ) Unreadable
behind front read = read >>= λ ns. Ok (front ++ ns)

-- the words from the i-th on
abbrev pub from : List (Bor (List ℕ)) → ℕ → List (List ℕ)
from ws i = map (λ w. w.now) (drop i ws)
