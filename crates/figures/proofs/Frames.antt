-- The laws of a frame, from those of its subframes.
use Rattle.std.proofs.Common.{◌≡◌, ℕ, ◌+◌, ◌^◌, ◌<◌, ◌≤◌, Bool, true, List, length, get_or, slice_index, Some, None, Option, inl, inr, sym, ap, ◌∙◌, subst, arith}
use Rattle.std.proofs.lemmas.Bool.{false≢true, cases_lt}
use Rattle.std.proofs.lemmas.Bool.Decides.{nat_tests}
use Rattle.std.proofs.lemmas.List.{ext_get_or}
use Rattle.std.proofs.lemmas.Nat.{pow_pos}
use Rattle.service.specs.declared.rates.Rate.{Rate}
use Rattle.service.specs.declared.rates.Rate.TheVariants.{Full, Half, Quarter, Eighth}
use Rattle.service.specs.Rates.{rate_is}
use Rattle.service.specs.Refusals.{Answer, refused_at}
use Rattle.packet_layout.specs.declared.code_bits.CodeName.{CodeName}
use Rattle.packet_layout.specs.declared.code_bits.CodeName.TheVariants.{Plag, Pgain, Cbindex, Cbgain}
use Rattle.packet_layout.specs.CodeBits.{Fits, bits_at}
use Rattle.packet_layout.specs.declared.subframes.CodebookCodes.{CodebookCodes}
use Rattle.figures.specs.declared.codebook.CodebookFigure.{CodebookFigure}
use Rattle.figures.specs.declared.codebook.CodebookParameter.{CodebookParameter}
use Rattle.packet_layout.specs.declared.subframes.PitchCodes.{PitchCodes}
use Rattle.service.specs.FirstToFail.{FirstToFail, RefusedAtFirst}
use Rattle.figures.specs.Pitch.{DecodesPitches, EncodesPitches, pair_at, pitch_allowed, pitch_of}
use Rattle.figures.specs.Codebook.{DecodesCodebooks, EncodesCodebooks, codebook_allowed, figure_of_codes, parameter_at}
use Rattle.figures.specs.Laws.{CodebookDecoded, PitchDecoded}
use Rattle.figures.specs.FrameLaws.{CodebookCodesOfFrameFit, EncodedCodesFit, FiguresReadAsSent, FramesReadAsSent, OneCodebookAnswer, OnePitchAnswer, PairsReadAsSent, PitchCodesOfFrameFit}
use Rattle.figures.proofs.Pitches as pitches
use Rattle.figures.proofs.Codebooks as codebooks

-- lists of n that are equal below s and from s on
same_list : {X : Type 0} (d : X) (n s : ℕ) (a b : List X) → length a ≡ n → length b ≡ n → ((i : ℕ) → i < s → get_or a i d ≡ get_or b i d) → ((i : ℕ) → s ≤ i → i < n → get_or a i d ≡ get_or b i d) → a ≡ b
same_list d n s a b long-a long-b front past =
    ext_get_or d a b (long-a ∙ sym long-b) (λ i h. elim (cases_lt i s) [ inl l ↦ front i l | inr k ↦ past i k (omega arith) ])

-- a subframe's codes fit, and past the subframes they are 0
fits : (rate : Rate) (name : CodeName) (n m : ℕ) (codes : List ℕ) → length codes ≡ m → ((i : ℕ) → i < n → slice_index codes i < 2 ^ bits_at rate name i) → ((i : ℕ) → n ≤ i → i < m → slice_index codes i ≡ 0) → Fits rate name codes
fits rate name n m codes long front past i h =
    elim (cases_lt i n) [
      | inl l ↦ front i l
      | inr k ↦ let z = past i k (omega arith) in let p = pow_pos (bits_at rate name i) in omega arith
    ]

-- two subframes that are the first to fail are one
first : (n : ℕ) (passes : ℕ → Bool) (i j : ℕ) → FirstToFail n passes i → FirstToFail n passes j → i ≡ j
first n passes i j f g =
    elim (cases_lt i j) [
      | inl l ↦ absurd (false≢true (sym f.fails ∙ g.before i l))
      | inr p ↦ elim (cases_lt j i) [ inl l ↦ absurd (false≢true (sym g.fails ∙ f.before j l)) | inr q ↦ omega arith ]
    ]

-- so refusals are equal
refusal : (number n : ℕ) (passes : ℕ → Bool) (a b : Answer) → RefusedAtFirst number n passes a → RefusedAtFirst number n passes b → a ≡ b
refusal number n passes a b (i, f, e) (j, g, e') =
    e ∙ ap (λ (k : ℕ). refused_at number (k + 1)) (first n passes i j f g) ∙ sym e'

-- where all pass, nothing is refused
pub not_refused : (number n : ℕ) (passes : ℕ → Bool) (a : Answer) → ((i : ℕ) → i < n → passes i ≡ true) → RefusedAtFirst number n passes a → ⊥
not_refused number n passes a all (i, f, e) = false≢true (sym f.fails ∙ all i f.within)

-- the widths of the codes of a pitch subframe
plag_bits : (rate : Rate) (i : ℕ) → i < (rate_is rate).pitch_subframes → bits_at rate Plag i ≡ 7
plag_bits Full i h = grind (arith, nat_tests)
plag_bits Half i h = grind (arith, nat_tests)
plag_bits Quarter i h = grind (arith, nat_tests)
plag_bits Eighth i h = absurd (omega arith)

pgain_bits : (rate : Rate) (i : ℕ) → i < (rate_is rate).pitch_subframes → bits_at rate Pgain i ≡ 3
pgain_bits Full i h = grind (arith, nat_tests)
pgain_bits Half i h = grind (arith, nat_tests)
pgain_bits Quarter i h = grind (arith, nat_tests)
pgain_bits Eighth i h = absurd (omega arith)

-- a bound, from equal numbers
sent_bits : (c c' b b' : ℕ) → c ≡ c' → b ≡ b' → c' < 2 ^ b' → c < 2 ^ b
sent_bits c c' b b' e e' h = subst (λ n. n < 2 ^ b) (sym e) (subst (λ n. c' < 2 ^ n) (sym e') h)

pitch_fit : (rate : Rate) (pairs : List (ℕ × ℕ)) (codes : PitchCodes) → EncodesPitches rate pairs codes → PitchCodesOfFrameFit rate codes
pitch_fit rate pairs codes e =
    let each : (i : ℕ) → i < (rate_is rate).pitch_subframes → PitchDecoded (pair_at pairs i) =
    λ i l. pitches.decoded (pair_at pairs i) (e.allowed i l) in
    record {
      plag = fits rate Plag (rate_is rate).pitch_subframes 4 codes.plag e.plag_length
          (λ i l. sent_bits _ _ _ 7 (ap (λ (p : ℕ × ℕ). p.0) (e.encoded i l)) (plag_bits rate i l) (each i l).fit.plag_bits)
          (λ i k h. ap (λ (p : ℕ × ℕ). p.0) (e.past i k h));
      pgain = fits rate Pgain (rate_is rate).pitch_subframes 4 codes.pgain e.pgain_length
          (λ i l. sent_bits _ _ _ 3 (ap (λ (p : ℕ × ℕ). p.1) (e.encoded i l)) (pgain_bits rate i l) (each i l).fit.pgain_bits)
          (λ i k h. ap (λ (p : ℕ × ℕ). p.1) (e.past i k h));
    }

pitch_trip : (rate : Rate) (sent read : List (ℕ × ℕ)) (codes : PitchCodes) → EncodesPitches rate sent codes → DecodesPitches rate codes read → PairsReadAsSent rate sent read
pitch_trip rate sent read codes e d = record {
  same = λ i l.
      d.decoded i l
      ∙ ap (λ (p : ℕ × ℕ). pitch_of p.0 p.1) (e.encoded i l)
      ∙ (pitches.decoded (pair_at sent i) (e.allowed i l)).same;
  past = d.past;
}

pitch_decoded : (rate : Rate) (codes : PitchCodes) (a b : List (ℕ × ℕ)) → DecodesPitches rate codes a → DecodesPitches rate codes b → a ≡ b
pitch_decoded rate codes a b p q =
    same_list (0, 0) 4 (rate_is rate).pitch_subframes a b p.pairs_length q.pairs_length
    (λ i l. p.decoded i l ∙ sym (q.decoded i l)) (λ i k h. p.past i k h ∙ sym (q.past i k h))

abbrev pitch_codes_of : List ℕ → List ℕ → PitchCodes
pitch_codes_of plag pgain = record { plag = plag; pgain = pgain }

pitch_encoded : (rate : Rate) (pairs : List (ℕ × ℕ)) (a b : PitchCodes) → EncodesPitches rate pairs a → EncodesPitches rate pairs b → a ≡ b
pitch_encoded rate pairs a b p q =
    let front = λ (i : ℕ) (l : i < (rate_is rate).pitch_subframes). p.encoded i l ∙ sym (q.encoded i l) in
    let past = λ (i : ℕ) (k : (rate_is rate).pitch_subframes ≤ i) (h : i < 4). p.past i k h ∙ sym (q.past i k h) in
    let plags = same_list 0 4 (rate_is rate).pitch_subframes a.plag b.plag p.plag_length q.plag_length
    (λ i l. ap (λ (c : ℕ × ℕ). c.0) (front i l)) (λ i k h. ap (λ (c : ℕ × ℕ). c.0) (past i k h)) in
    let pgains = same_list 0 4 (rate_is rate).pitch_subframes a.pgain b.pgain p.pgain_length q.pgain_length
    (λ i l. ap (λ (c : ℕ × ℕ). c.1) (front i l)) (λ i k h. ap (λ (c : ℕ × ℕ). c.1) (past i k h)) in
    ap (λ l. pitch_codes_of l a.pgain) plags ∙ ap (λ l. pitch_codes_of b.plag l) pgains

-- the codes of each codebook subframe are as wide as those of the first
codebook_bits : (rate : Rate) (i : ℕ) → i < (rate_is rate).codebook_subframes → (bits_at rate Cbindex i ≡ bits_at rate Cbindex 0) × (bits_at rate Cbgain i ≡ bits_at rate Cbgain 0)
codebook_bits Full i h = (grind (arith, nat_tests), grind (arith, nat_tests))
codebook_bits Half i h = (grind (arith, nat_tests), grind (arith, nat_tests))
codebook_bits Quarter i h = (grind (arith, nat_tests), grind (arith, nat_tests))
codebook_bits Eighth i h = (grind (arith, nat_tests), grind (arith, nat_tests))

abbrev codebook_decoded_at : (rate : Rate) (p : CodebookParameter) → codebook_allowed rate p ≡ true → CodebookDecoded rate p
codebook_decoded_at rate p h = codebooks.decoded rate p.sign p.index p.increment h

codebook_fit : (rate : Rate) (parameters : List CodebookParameter) (codes : CodebookCodes) → EncodesCodebooks rate parameters codes → CodebookCodesOfFrameFit rate codes
codebook_fit rate parameters codes e =
    let each : (i : ℕ) → i < (rate_is rate).codebook_subframes → CodebookDecoded rate (parameter_at parameters i) =
    λ i l. codebook_decoded_at rate (parameter_at parameters i) (e.allowed i l) in
    record {
      cbindex = fits rate Cbindex (rate_is rate).codebook_subframes 8 codes.cbindex e.cbindex_length
          (λ i l. sent_bits _ _ _ (bits_at rate Cbindex 0) (ap (λ (p : ℕ × ℕ). p.0) (e.encoded i l)) (codebook_bits rate i l).0 (each i l).fit.cbindex_bits)
          (λ i k h. ap (λ (p : ℕ × ℕ). p.0) (e.past i k h));
      cbgain = fits rate Cbgain (rate_is rate).codebook_subframes 8 codes.cbgain e.cbgain_length
          (λ i l. sent_bits _ _ _ (bits_at rate Cbgain 0) (ap (λ (p : ℕ × ℕ). p.1) (e.encoded i l)) (codebook_bits rate i l).1 (each i l).fit.cbgain_bits)
          (λ i k h. ap (λ (p : ℕ × ℕ). p.1) (e.past i k h));
    }

codebook_trip : (rate : Rate) (sent : List CodebookParameter) (read : List (Option CodebookFigure)) (codes : CodebookCodes) → EncodesCodebooks rate sent codes → DecodesCodebooks rate codes read → FiguresReadAsSent rate sent read
codebook_trip rate sent read codes e d = record {
  same = λ i l.
      d.decoded i l
      ∙ ap (λ (p : ℕ × ℕ). Some (figure_of_codes rate p.0 p.1)) (e.encoded i l)
      ∙ ap (λ (f : CodebookFigure). Some f) (codebook_decoded_at rate (parameter_at sent i) (e.allowed i l)).same;
  past = d.past;
}

codebook_decoded : (rate : Rate) (codes : CodebookCodes) (a b : List (Option CodebookFigure)) → DecodesCodebooks rate codes a → DecodesCodebooks rate codes b → a ≡ b
codebook_decoded rate codes a b p q =
    same_list None 8 (rate_is rate).codebook_subframes a b p.figures_length q.figures_length
    (λ i l. p.decoded i l ∙ sym (q.decoded i l)) (λ i k h. p.past i k h ∙ sym (q.past i k h))

abbrev codebook_codes_of : List ℕ → List ℕ → CodebookCodes
codebook_codes_of cbindex cbgain = record { cbindex = cbindex; cbgain = cbgain }

codebook_encoded : (rate : Rate) (parameters : List CodebookParameter) (a b : CodebookCodes) → EncodesCodebooks rate parameters a → EncodesCodebooks rate parameters b → a ≡ b
codebook_encoded rate parameters a b p q =
    let front = λ (i : ℕ) (l : i < (rate_is rate).codebook_subframes). p.encoded i l ∙ sym (q.encoded i l) in
    let past = λ (i : ℕ) (k : (rate_is rate).codebook_subframes ≤ i) (h : i < 8). p.past i k h ∙ sym (q.past i k h) in
    let cbindexes = same_list 0 8 (rate_is rate).codebook_subframes a.cbindex b.cbindex p.cbindex_length q.cbindex_length
    (λ i l. ap (λ (c : ℕ × ℕ). c.0) (front i l)) (λ i k h. ap (λ (c : ℕ × ℕ). c.0) (past i k h)) in
    let cbgains = same_list 0 8 (rate_is rate).codebook_subframes a.cbgain b.cbgain p.cbgain_length q.cbgain_length
    (λ i l. ap (λ (c : ℕ × ℕ). c.1) (front i l)) (λ i k h. ap (λ (c : ℕ × ℕ). c.1) (past i k h)) in
    ap (λ l. codebook_codes_of l a.cbgain) cbindexes ∙ ap (λ l. codebook_codes_of b.cbindex l) cbgains

pub encoded_codes_fit : EncodedCodesFit
encoded_codes_fit = record { pitch = pitch_fit; codebook = codebook_fit }

pub frames_read_as_sent : FramesReadAsSent
frames_read_as_sent = record { pitch = pitch_trip; codebook = codebook_trip }

pub one_pitch_answer : OnePitchAnswer
one_pitch_answer = record {
  decoded = pitch_decoded;
  encoded = pitch_encoded;
  refused = λ rate pairs a b p q. refusal 11 (rate_is rate).pitch_subframes (λ i. pitch_allowed (pair_at pairs i)) a b p q;
  not_both = λ rate pairs a b p q. not_refused 11 (rate_is rate).pitch_subframes (λ i. pitch_allowed (pair_at pairs i)) b p.allowed q;
}

pub one_codebook_answer : OneCodebookAnswer
one_codebook_answer = record {
  decoded = codebook_decoded;
  encoded = codebook_encoded;
  refused = λ rate parameters a b p q. refusal 12 (rate_is rate).codebook_subframes (λ i. codebook_allowed rate (parameter_at parameters i)) a b p q;
  not_both = λ rate parameters a b p q. not_refused 12 (rate_is rate).codebook_subframes (λ i. codebook_allowed rate (parameter_at parameters i)) b p.allowed q;
}
