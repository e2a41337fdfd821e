-- Complete parameters that are allowed have one record of codes, but for CBSEED; and the draws for these are found in one way.
use Rattle.std.proofs.Common.{◌≡◌, ℕ, ◌+◌, ◌≤◌, ◌⊎◌, List, ℤ, inl, inr, refl, sym, ap, ap₂, subst, ◌∙◌, arith}
use Rattle.service.specs.declared.rates.Rate.{Rate}
use Rattle.service.specs.declared.rates.Rate.TheVariants.{Full, Half, Quarter, Eighth}
use Rattle.service.specs.Rates.{rate_is}
use Rattle.lsp.specs.Quantizers.{quantized}
use Rattle.packet.specs.declared.codes.CodeNumbers.{CodeNumbers}
use Rattle.packet.specs.Calls.{packet}
use Rattle.packet_layout.specs.declared.subframes.CodebookCodes.{CodebookCodes}
use Rattle.packet_layout.specs.declared.subframes.PitchCodes.{PitchCodes}
use Rattle.figures.specs.Pitch.{EncodesPitches, PitchesAllowed, pair_at, pitch_codes as pitch_code}
use Rattle.figures.specs.Codebook.{CodebooksAllowed, EncodesCodebooks, codebook_codes as codebook_code, parameter_at}
use Rattle.figures.proofs.Frames.{one_codebook_answer, one_pitch_answer}
use Rattle.rules.specs.Sending.{AreComplete, DrawsCbseed, Encodes, FirstNotAllOnes, AllDrawsAllOnes, AllOnesAtDraw, Parameters, cbseed_of, drawn, max_draws}
use Rattle.law.proofs.Filled.{filled, filled_front, filled_length, filled_past}
use Rattle.law.proofs.Searches.{all_or_first, first_once}
use Rattle.law.proofs.OneReading.{codebook_subframes_le, known_ones, pitch_subframes_le}
use Rattle.lsp.specs.Offsets.{offsets}

-- ---- there are codes

module _ (rate : Rate) (p : Parameters) (m : List ℤ) where
  abbrev pitch_at : ℕ → ℕ × ℕ
  pitch_at i = pitch_code (pair_at p.pitches i)

  abbrev codebook_at : ℕ → ℕ × ℕ
  codebook_at i = codebook_code rate (parameter_at p.codebooks i)

  -- a part of the codes, and zeros past it
  abbrev pitch_part : ((ℕ × ℕ) → ℕ) → List ℕ
  pitch_part part = filled 4 (rate_is rate).pitch_subframes (λ i. part (pitch_at i)) 0

  abbrev codebook_part : ((ℕ × ℕ) → ℕ) → List ℕ
  codebook_part part = filled 8 (rate_is rate).codebook_subframes (λ i. part (codebook_at i)) 0

  abbrev pub codes_of : ℕ → CodeNumbers
  codes_of cbseed = record {
    lsp = quantized rate (offsets p.frequencies m);
    pitch = record { plag = pitch_part (λ c. c.0); pgain = pitch_part (λ c. c.1) };
    codebook = record { cbindex = codebook_part (λ c. c.0); cbgain = codebook_part (λ c. c.1) };
    cbseed = cbseed;
  }

  pair_is : (a b : ℕ) (c : ℕ × ℕ) → a ≡ c.0 → b ≡ c.1 → (a, b) ≡ c
  pair_is a b c e e' = ap₂ (λ (x y : ℕ). (x, y)) e e'

  pitches_encoded : AreComplete p → PitchesAllowed rate p.pitches → (cbseed : ℕ) → EncodesPitches rate p.pitches (codes_of cbseed).pitch
  pitches_encoded complete allowed cbseed =
      let s = (rate_is rate).pitch_subframes in
      let front = λ (part : (ℕ × ℕ) → ℕ). filled_front 4 s (λ i. part (pitch_at i)) 0 0 (pitch_subframes_le rate) in
      let past = λ (part : (ℕ × ℕ) → ℕ). filled_past 4 s (λ i. part (pitch_at i)) 0 0 in
      record {
        pairs_length = complete.pitches;
        plag_length = filled_length 4 s (λ i. (pitch_at i).0) 0;
        pgain_length = filled_length 4 s (λ i. (pitch_at i).1) 0;
        allowed = allowed;
        encoded = λ i l. pair_is _ _ (pitch_at i) (front (λ c. c.0) i l) (front (λ c. c.1) i l);
        past = λ i k h. pair_is _ _ (0, 0) (past (λ c. c.0) i k h) (past (λ c. c.1) i k h);
      }

  codebooks_encoded : AreComplete p → CodebooksAllowed rate p.codebooks → (cbseed : ℕ) → EncodesCodebooks rate p.codebooks (codes_of cbseed).codebook
  codebooks_encoded complete allowed cbseed =
      let s = (rate_is rate).codebook_subframes in
      let front = λ (part : (ℕ × ℕ) → ℕ). filled_front 8 s (λ i. part (codebook_at i)) 0 0 (codebook_subframes_le rate) in
      let past = λ (part : (ℕ × ℕ) → ℕ). filled_past 8 s (λ i. part (codebook_at i)) 0 0 in
      record {
        parameters_length = complete.codebooks;
        cbindex_length = filled_length 8 s (λ i. (codebook_at i).0) 0;
        cbgain_length = filled_length 8 s (λ i. (codebook_at i).1) 0;
        allowed = allowed;
        encoded = λ i l. pair_is _ _ (codebook_at i) (front (λ c. c.0) i l) (front (λ c. c.1) i l);
        past = λ i k h. pair_is _ _ (0, 0) (past (λ c. c.0) i k h) (past (λ c. c.1) i k h);
      }

  pub encoded : AreComplete p → PitchesAllowed rate p.pitches → CodebooksAllowed rate p.codebooks → (cbseed : ℕ) → Encodes rate p m (codes_of cbseed)
  encoded complete pitches codebooks cbseed = record { lsp = refl; pitch = pitches_encoded complete pitches cbseed; codebook = codebooks_encoded complete codebooks cbseed }

-- ---- and no others

-- the codes without CBSEED
abbrev pub unseeded : CodeNumbers → CodeNumbers
unseeded c = record c { cbseed = 0 }

abbrev codes_from : List ℕ → PitchCodes → CodebookCodes → CodeNumbers
codes_from lsp p b = record { lsp = lsp; pitch = p; codebook = b; cbseed = 0 }

pub encoded_once : (rate : Rate) (p : Parameters) (m : List ℤ) (c c' : CodeNumbers) → Encodes rate p m c → Encodes rate p m c' → unseeded c ≡ unseeded c'
encoded_once rate p m c c' a b =
    ap (λ x. codes_from x c.pitch c.codebook) (a.lsp ∙ sym b.lsp)
    ∙ ap (λ x. codes_from c'.lsp x c.codebook) (one_pitch_answer.encoded rate p.pitches c.pitch c'.pitch a.pitch b.pitch)
    ∙ ap (λ x. codes_from c'.lsp c'.pitch x) (one_codebook_answer.encoded rate p.codebooks c.codebook c'.codebook a.codebook b.codebook)

pub same_codes : (c c' : CodeNumbers) → unseeded c ≡ unseeded c' → c.cbseed ≡ c'.cbseed → c ≡ c'
same_codes c c' e seeds = ap (λ (x : CodeNumbers). record x { cbseed = c.cbseed }) e ∙ ap (λ k. record c' { cbseed = k }) seeds

-- ---- the draws

-- a draw looks at nothing of CBSEED
pub same_draw : (c c' : CodeNumbers) (seed k : ℕ) → unseeded c ≡ unseeded c' → AllOnesAtDraw c seed k → AllOnesAtDraw c' seed k
same_draw c c' seed k e ones = subst (λ d. AllOnesAtDraw d seed k) e ones

known_draw : (c : CodeNumbers) (seed k : ℕ) → AllOnesAtDraw c seed k ⊎ (AllOnesAtDraw c seed k → ⊥)
known_draw c seed k = known_ones Eighth (packet Eighth (record c { cbseed = cbseed_of (drawn k seed) }))

-- some draw does not give all ones, or they all do
pub draws_or_none : (c : CodeNumbers) (seed : ℕ) → ((n : ℕ) × FirstNotAllOnes c seed n) ⊎ ((k : ℕ) → 1 ≤ k → k ≤ max_draws → AllOnesAtDraw c seed k)
draws_or_none c seed = elim (all_or_first (AllOnesAtDraw c seed) (known_draw c seed) 1 (max_draws + 1)) [
  | inl all ↦ inr (λ k l h. all k l (omega arith))
  | inr (n, l, h, before, fails) ↦ inl (n, record { some = l; most = omega arith; before = before; at = fails })
]

first_not_ones_once : (c c' : CodeNumbers) (seed n n' : ℕ) → unseeded c ≡ unseeded c' → FirstNotAllOnes c seed n → FirstNotAllOnes c' seed n' → n ≡ n'
first_not_ones_once c c' seed n n' e f g =
    first_once (AllOnesAtDraw c seed) 1 n n' f.some g.some f.before f.at
    (λ k l h. same_draw c' c seed k (sym e) (g.before k l h)) (λ ones. g.at (same_draw c c' seed n' e ones))

pub draws_once : (rate : Rate) (c c' : CodeNumbers) (seed n n' : ℕ) → unseeded c ≡ unseeded c' → DrawsCbseed rate c seed n → DrawsCbseed rate c' seed n' → (n ≡ n') × (c.cbseed ≡ c'.cbseed)
draws_once Eighth c c' seed n n' e (f, is) (g, is') =
    let same = first_not_ones_once c c' seed n n' e f g in
    (same, is ∙ ap (λ k. cbseed_of (drawn k seed)) same ∙ sym is')
draws_once Quarter c c' seed n n' e (f, is) (g, is') = (f ∙ sym g, is ∙ sym is')
draws_once Half c c' seed n n' e (f, is) (g, is') = (f ∙ sym g, is ∙ sym is')
draws_once Full c c' seed n n' e (f, is) (g, is') = (f ∙ sym g, is ∙ sym is')

-- where no draw is left, none is made
pub no_draw_made : (rate : Rate) (p : Parameters) (m : List ℤ) (c : CodeNumbers) (seed n : ℕ) → AllDrawsAllOnes rate p m seed → Encodes rate p m c → DrawsCbseed rate c seed n → ⊥
no_draw_made Eighth p m c seed n (d, e, ones) e' (f, is) =
    f.at (same_draw d c seed n (encoded_once Eighth p m d c e e') (ones n f.some f.most))
no_draw_made Quarter p m c seed n none e d = none
no_draw_made Half p m c seed n none e d = none
no_draw_made Full p m c seed n none e d = none

-- the codes and the draws, or no draw
pub codes_or_none : (rate : Rate) (p : Parameters) (m : List ℤ) (seed : ℕ) → AreComplete p → PitchesAllowed rate p.pitches → CodebooksAllowed rate p.codebooks
    → ((c : CodeNumbers) × (n : ℕ) × Encodes rate p m c × DrawsCbseed rate c seed n) ⊎ AllDrawsAllOnes rate p m seed
codes_or_none Eighth p m seed complete pitches codebooks = elim (draws_or_none (codes_of Eighth p m 0) seed) [
  | inl (n, f) ↦
      inl (
        codes_of Eighth p m (cbseed_of (drawn n seed)),
        n,
        encoded Eighth p m complete pitches codebooks (cbseed_of (drawn n seed)),
        (record { some = f.some; most = f.most; before = f.before; at = f.at }, refl),
      )
  | inr all ↦ inr (codes_of Eighth p m 0, encoded Eighth p m complete pitches codebooks 0, all)
]
codes_or_none Quarter p m seed complete pitches codebooks = inl (codes_of Quarter p m 0, 0, encoded Quarter p m complete pitches codebooks 0, (refl, refl))
codes_or_none Half p m seed complete pitches codebooks = inl (codes_of Half p m 0, 0, encoded Half p m complete pitches codebooks 0, (refl, refl))
codes_or_none Full p m seed complete pitches codebooks = inl (codes_of Full p m 0, 0, encoded Full p m complete pitches codebooks 0, (refl, refl))
