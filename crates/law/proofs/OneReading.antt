-- Every arrival is read in one way.
use Rattle.std.proofs.Common.{◌≡◌, ℕ, ◌≤◌, ◌⊎◌, true, false, List, length, is_some, Some, None, Option, MatchOption, inl, inr, refl, sym, ap, subst, ◌∙◌, arith}
use Rattle.std.proofs.lemmas.Bool.{cases_eq}
use Rattle.service.specs.declared.rates.Rate.{Rate}
use Rattle.service.specs.declared.rates.Rate.TheVariants.{Full as Rate1, Half as Rate1/2, Quarter as Rate1/4, Eighth as Rate1/8}
use Rattle.service.specs.declared.categories.Category.{Category}
use Rattle.service.specs.declared.categories.Category.TheVariants.{Blank, Eighth, Quarter, Half, Full, Suspect, Erasure}
use Rattle.service.specs.declared.readings.Letter.{Letter}
use Rattle.service.specs.declared.readings.Letter.TheVariants.{C, P, S, D, B, E}
use Rattle.service.specs.Letters.{is_read}
use Rattle.service.specs.Rates.{rate_is}
use Rattle.cyclic.specs.Words.{syndrome, parity, Corrects}
use Rattle.cyclic.proofs.Readings.{points_not_zero, points_once, points_or_none}
use Rattle.packet.specs.declared.codes.CodeNumbers.{CodeNumbers}
use Rattle.packet.specs.Bits.{bit_at}
use Rattle.packet.specs.CheckBits.{word_of}
use Rattle.packet.proofs.Returns.{one_record}
use Rattle.packet_layout.specs.declared.subframes.CodebookCodes.{CodebookCodes}
use Rattle.figures.specs.declared.codebook.CodebookFigure.{CodebookFigure}
use Rattle.packet_layout.specs.declared.subframes.PitchCodes.{PitchCodes}
use Rattle.figures.specs.Pitch.{DecodesPitches, pitch_at}
use Rattle.figures.specs.Codebook.{DecodesCodebooks, codebook_at}
use Rattle.figures.proofs.Frames.{one_codebook_answer, one_pitch_answer}
use Rattle.rules.specs.Readings.{AllOnes, IsNotRead, IsReadWithPitch, IsReadWithPitchOff, Reading, Reads, ReadsCodes, pitch_off}
use Rattle.law.specs.Answers.{OneReadingOfEachArrival}
use Rattle.law.proofs.Filled.{filled, filled_front, filled_length, filled_past}
use Rattle.law.proofs.Searches.{all_or_first}
use Rattle.packet.specs.Changes.{corrected_packet}

-- ---- the figures of some codes

pub pitch_subframes_le : (rate : Rate) → (rate_is rate).pitch_subframes ≤ 4
pitch_subframes_le Rate1 = omega arith
pitch_subframes_le Rate1/2 = omega arith
pitch_subframes_le Rate1/4 = omega arith
pitch_subframes_le Rate1/8 = omega arith

pub codebook_subframes_le : (rate : Rate) → (rate_is rate).codebook_subframes ≤ 8
codebook_subframes_le Rate1 = omega arith
codebook_subframes_le Rate1/2 = omega arith
codebook_subframes_le Rate1/4 = omega arith
codebook_subframes_le Rate1/8 = omega arith

pub pitches_some : (rate : Rate) (codes : PitchCodes) → length codes.plag ≡ 4 → length codes.pgain ≡ 4 → (pairs : List (ℕ × ℕ)) × DecodesPitches rate codes pairs
pitches_some rate codes plag pgain =
    let s = (rate_is rate).pitch_subframes in (
      filled 4 s (pitch_at codes) (16, 0),
      record {
        plag_length = plag;
        pgain_length = pgain;
        pairs_length = filled_length 4 s (pitch_at codes) (16, 0);
        decoded = filled_front 4 s (pitch_at codes) (16, 0) (0, 0) (pitch_subframes_le rate);
        past = filled_past 4 s (pitch_at codes) (16, 0) (0, 0);
      },
    )

pub codebooks_some : (rate : Rate) (codes : CodebookCodes) → length codes.cbindex ≡ 8 → length codes.cbgain ≡ 8 → (figures : List (Option CodebookFigure)) × DecodesCodebooks rate codes figures
codebooks_some rate codes cbindex cbgain =
    let s = (rate_is rate).codebook_subframes in
    let front : ℕ → Option CodebookFigure = λ i. Some (codebook_at rate codes i) in (
      filled 8 s front None,
      record {
        cbindex_length = cbindex;
        cbgain_length = cbgain;
        figures_length = filled_length 8 s front None;
        decoded = filled_front 8 s front None None (codebook_subframes_le rate);
        past = filled_past 8 s front None None;
      },
    )

-- ---- some bytes are read, with the pitch of their codes or with pitch off

read_some : (letter : Letter) (rate : Rate) (bytes : List ℕ) → (x : Option Reading) × IsReadWithPitch letter rate bytes letter x
read_some letter rate bytes =
    let (c, holds) = (one_record rate bytes).some in
    let (pairs, p) = pitches_some rate c.pitch holds.within.sized.plag holds.within.sized.pgain in
    let (figures, f) = codebooks_some rate c.codebook holds.within.sized.cbindex holds.within.sized.cbgain in
    (Some (record { rate = rate; codes = c; pitches = pairs; codebooks = figures }), (refl, (record { rate = refl; codes = holds; codebooks = f }, p)))

read_off_some : (letter : Letter) (bytes : List ℕ) → (x : Option Reading) × IsReadWithPitchOff letter bytes letter x
read_off_some letter bytes =
    let (c, holds) = (one_record Rate1 bytes).some in
    let (figures, f) = codebooks_some Rate1 c.codebook holds.within.sized.cbindex holds.within.sized.cbgain in
    (Some (record { rate = Rate1; codes = c; pitches = pitch_off; codebooks = figures }), (refl, (record { rate = refl; codes = holds; codebooks = f }, refl)))

-- ---- and in one way

abbrev reading_of : Rate → CodeNumbers → List (ℕ × ℕ) → List (Option CodebookFigure) → Reading
reading_of rate c pairs figures = record { rate = rate; codes = c; pitches = pairs; codebooks = figures }

same_reading : (r r' : Reading) → r.rate ≡ r'.rate → r.codes ≡ r'.codes → r.pitches ≡ r'.pitches → r.codebooks ≡ r'.codebooks → r ≡ r'
same_reading r r' rate codes pitches codebooks =
    ap (λ x. reading_of x r.codes r.pitches r.codebooks) rate
    ∙ ap (λ x. reading_of r'.rate x r.pitches r.codebooks) codes
    ∙ ap (λ x. reading_of r'.rate r'.codes x r.codebooks) pitches
    ∙ ap (λ x. reading_of r'.rate r'.codes r'.pitches x) codebooks

codes_once : (rate : Rate) (bytes : List ℕ) (r r' : Reading) → ReadsCodes rate bytes r → ReadsCodes rate bytes r' → r.codes ≡ r'.codes
codes_once rate bytes r r' a b = (one_record rate bytes).only r.codes r'.codes a.codes b.codes

codebooks_once : (rate : Rate) (bytes : List ℕ) (r r' : Reading) → ReadsCodes rate bytes r → ReadsCodes rate bytes r' → r.codebooks ≡ r'.codebooks
codebooks_once rate bytes r r' a b =
    one_codebook_answer.decoded rate r'.codes.codebook r.codebooks r'.codebooks
    (subst (λ c. DecodesCodebooks rate c.codebook r.codebooks) (codes_once rate bytes r r' a b) a.codebooks) b.codebooks

read_once : (letter : Letter) (rate : Rate) (bytes : List ℕ) (l l' : Letter) (x x' : Option Reading) → IsReadWithPitch letter rate bytes l x → IsReadWithPitch letter rate bytes l' x' → (l ≡ l') × (x ≡ x')
read_once letter rate bytes l l' (Some r) (Some r') (e, (a, p)) (e', (b, q)) =
    let codes = codes_once rate bytes r r' a b in
    let pitches = one_pitch_answer.decoded rate r'.codes.pitch r.pitches r'.pitches
    (subst (λ c. DecodesPitches rate c.pitch r.pitches) codes p) q in
    (e ∙ sym e', ap Some (same_reading r r' (a.rate ∙ sym b.rate) codes pitches (codebooks_once rate bytes r r' a b)))
read_once letter rate bytes l l' None x' (e, none) q = absurd none
read_once letter rate bytes l l' (Some r) None p (e, none) = absurd none

read_off_once : (letter : Letter) (bytes : List ℕ) (l l' : Letter) (x x' : Option Reading) → IsReadWithPitchOff letter bytes l x → IsReadWithPitchOff letter bytes l' x' → (l ≡ l') × (x ≡ x')
read_off_once letter bytes l l' (Some r) (Some r') (e, (a, p)) (e', (b, q)) =
    (e ∙ sym e', ap Some (same_reading r r' (a.rate ∙ sym b.rate) (codes_once Rate1 bytes r r' a b) (p ∙ sym q) (codebooks_once Rate1 bytes r r' a b)))
read_off_once letter bytes l l' None x' (e, none) q = absurd none
read_off_once letter bytes l l' (Some r) None p (e, none) = absurd none

not_read_once : (letter l l' : Letter) (x x' : Option Reading) → IsNotRead letter l x → IsNotRead letter l' x' → (l ≡ l') × (x ≡ x')
not_read_once letter l l' x x' (e, n) (e', n') = (e ∙ sym e', n ∙ sym n')

-- ---- an arrival is read in some way

known_one : (bytes : List ℕ) (k : ℕ) → (bit_at bytes k ≡ 1) ⊎ (bit_at bytes k ≡ 1 → ⊥)
known_one bytes k = cases_eq (bit_at bytes k) 1

pub known_ones : (rate : Rate) (bytes : List ℕ) → AllOnes rate bytes ⊎ (AllOnes rate bytes → ⊥)
known_ones rate bytes = elim (all_or_first (λ k. bit_at bytes k ≡ 1) (known_one bytes) 0 (rate_is rate).bits) [
  | inl all ↦ inl (λ k h. all k (omega arith) h)
  | inr (i, l, h, before, fails) ↦ inr (λ ones. fails (ones i h))
]

known_place : (w : ℕ) → ((p : ℕ) × Corrects w p) ⊎ ((p : ℕ) → Corrects w p → ⊥)
known_place w = elim (cases_eq (parity w) 1) [
  | inl odd ↦ elim (points_or_none (syndrome w) 28) [ inl (p, l, e) ↦ inl (p, (odd, (l, e))) | inr none ↦ inr (λ p c. none p c.1.0 c.1.1) ]
  | inr even ↦ inr (λ p c. even c.0)
]

abbrev pub Way : Category → List ℕ → Type 0
Way category bytes = (l : Letter) × (x : Option Reading) × Reads category bytes l x

suspect_some : (bytes : List ℕ) → Way Suspect bytes
suspect_some bytes = elim (cases_eq (syndrome (word_of bytes)) 0) [
  | inl z ↦ let (x, r) = read_off_some P bytes in (P, x, inl (z, r))
  | inr n ↦ elim (known_place (word_of bytes)) [
    | inl (p, c) ↦ let (x, r) = read_off_some S (corrected_packet p bytes) in (S, x, inr (inl (p, c, r)))
    | inr none ↦ (D, None, inr (inr (n, none, (refl, refl))))
  ]
]

pub some_way : (category : Category) (bytes : List ℕ) → Way category bytes
some_way Blank bytes = (B, None, (refl, refl))
some_way Eighth bytes = elim (known_ones Rate1/8 bytes) [
  | inl ones ↦ (D, None, inl (ones, (refl, refl)))
  | inr not ↦ let (x, r) = read_some C Rate1/8 bytes in (C, x, inr (not, r))
]
some_way Quarter bytes = let (x, r) = read_some C Rate1/4 bytes in (C, x, r)
some_way Half bytes = let (x, r) = read_some C Rate1/2 bytes in (C, x, r)
some_way Full bytes = elim (cases_eq (syndrome (word_of bytes)) 0) [
  | inl z ↦ let (x, r) = read_some C Rate1 bytes in (C, x, inl (z, r))
  | inr n ↦ (D, None, inr (n, (refl, refl)))
]
some_way Suspect bytes = suspect_some bytes
some_way Erasure bytes = (E, None, (refl, refl))

-- ---- and in one way

not_both : (w p : ℕ) → syndrome w ≡ 0 → Corrects w p → ⊥
not_both w p z (odd, (l, e)) = points_not_zero p (l, e ∙ z)

suspect_once : (bytes : List ℕ) (l l' : Letter) (x x' : Option Reading) → Reads Suspect bytes l x → Reads Suspect bytes l' x' → (l ≡ l') × (x ≡ x')
suspect_once bytes l l' x x' (inl (z, r)) (inl (z', r')) = read_off_once P bytes l l' x x' r r'
suspect_once bytes l l' x x' (inl (z, r)) (inr (inl (p, c, r'))) = absurd (not_both (word_of bytes) p z c)
suspect_once bytes l l' x x' (inl (z, r)) (inr (inr (n, none, r'))) = absurd (n z)
suspect_once bytes l l' x x' (inr (inl (p, c, r))) (inl (z, r')) = absurd (not_both (word_of bytes) p z c)
suspect_once bytes l l' x x' (inr (inl (p, c, r))) (inr (inl (q, d, r'))) =
    let same = points_once (syndrome (word_of bytes)) q p d.1 c.1 in
    read_off_once S (corrected_packet p bytes) l l' x x' r (subst (λ k. IsReadWithPitchOff S (corrected_packet k bytes) l' x') same r')
suspect_once bytes l l' x x' (inr (inl (p, c, r))) (inr (inr (n, none, r'))) = absurd (none p c)
suspect_once bytes l l' x x' (inr (inr (n, none, r))) (inl (z, r')) = absurd (n z)
suspect_once bytes l l' x x' (inr (inr (n, none, r))) (inr (inl (p, c, r'))) = absurd (none p c)
suspect_once bytes l l' x x' (inr (inr (n, none, r))) (inr (inr (n', none', r'))) = not_read_once D l l' x x' r r'

pub one_way : (category : Category) (bytes : List ℕ) (l l' : Letter) (x x' : Option Reading) → Reads category bytes l x → Reads category bytes l' x' → (l ≡ l') × (x ≡ x')
one_way Blank bytes l l' x x' r r' = not_read_once B l l' x x' r r'
one_way Eighth bytes l l' x x' (inl (ones, r)) (inl (ones', r')) = not_read_once D l l' x x' r r'
one_way Eighth bytes l l' x x' (inl (ones, r)) (inr (not, r')) = absurd (not ones)
one_way Eighth bytes l l' x x' (inr (not, r)) (inl (ones, r')) = absurd (not ones)
one_way Eighth bytes l l' x x' (inr (not, r)) (inr (not', r')) = read_once C Rate1/8 bytes l l' x x' r r'
one_way Quarter bytes l l' x x' r r' = read_once C Rate1/4 bytes l l' x x' r r'
one_way Half bytes l l' x x' r r' = read_once C Rate1/2 bytes l l' x x' r r'
one_way Full bytes l l' x x' (inl (z, r)) (inl (z', r')) = read_once C Rate1 bytes l l' x x' r r'
one_way Full bytes l l' x x' (inl (z, r)) (inr (n, r')) = absurd (n z)
one_way Full bytes l l' x x' (inr (n, r)) (inl (z, r')) = absurd (n z)
one_way Full bytes l l' x x' (inr (n, r)) (inr (n', r')) = not_read_once D l l' x x' r r'
one_way Suspect bytes l l' x x' r r' = suspect_once bytes l l' x x' r r'
one_way Erasure bytes l l' x x' r r' = not_read_once E l l' x x' r r'

-- ---- the letter says whether something is read

some_matched : (x : Option Reading) (Q : Reading → Type 0) → MatchOption x ⊥ Q → is_some x ≡ true
some_matched None Q none = absurd none
some_matched (Some r) Q m = refl

read_letter : (letter l : Letter) (x : Option Reading) (Q : Reading → Type 0) → is_read letter ≡ true → l ≡ letter → MatchOption x ⊥ Q → is_some x ≡ is_read l
read_letter letter l x Q read e m = some_matched x Q m ∙ sym (ap is_read e ∙ read)

not_read_letter : (letter l : Letter) (x : Option Reading) → is_read letter ≡ false → IsNotRead letter l x → is_some x ≡ is_read l
not_read_letter letter l x not (e, none) = ap is_some none ∙ sym (ap is_read e ∙ not)

letter_says : (category : Category) (bytes : List ℕ) (l : Letter) (x : Option Reading) → Reads category bytes l x → is_some x ≡ is_read l
letter_says Blank bytes l x r = not_read_letter B l x refl r
letter_says Eighth bytes l x (inl (ones, r)) = not_read_letter D l x refl r
letter_says Eighth bytes l x (inr (not, (e, m))) = read_letter C l x _ refl e m
letter_says Quarter bytes l x (e, m) = read_letter C l x _ refl e m
letter_says Half bytes l x (e, m) = read_letter C l x _ refl e m
letter_says Full bytes l x (inl (z, (e, m))) = read_letter C l x _ refl e m
letter_says Full bytes l x (inr (n, r)) = not_read_letter D l x refl r
letter_says Suspect bytes l x (inl (z, (e, m))) = read_letter P l x _ refl e m
letter_says Suspect bytes l x (inr (inl (p, c, (e, m)))) = read_letter S l x _ refl e m
letter_says Suspect bytes l x (inr (inr (n, none, r))) = not_read_letter D l x refl r
letter_says Erasure bytes l x r = not_read_letter E l x refl r

pub one_reading : OneReadingOfEachArrival
one_reading = record { some = some_way; only = one_way; letter = letter_says }
