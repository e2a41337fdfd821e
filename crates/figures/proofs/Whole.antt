-- The codes of a whole frame are codes of its rate, and there is one answer.
use Rattle.std.proofs.Common.{◌≡◌, ℕ, ◌^◌, ◌<◌, ◌≤◌, List, [], ◌∷◌, length, slice_index, Ok, Err, Result, inl, inr, sym, ap, subst, ◌∙◌, arith}
use Rattle.std.proofs.lemmas.Bool.Decides.{nat_tests}
use Rattle.std.proofs.lemmas.Nat.{pow_pos}
use Rattle.service.specs.declared.rates.Rate.{Rate}
use Rattle.service.specs.declared.rates.Rate.TheVariants.{Full, Half, Quarter, Eighth}
use Rattle.service.specs.declared.refusals.Refusal.{Refusal}
use Rattle.service.specs.Rates.{rate_is}
use Rattle.service.specs.Refusals.{Answer, refusal_is}
use Rattle.lsp.specs.Quantizers.{top_code, Within as LspWithin}
use Rattle.packet_layout.specs.declared.code_bits.CodeName.TheVariants.{Lsp, Cbseed}
use Rattle.packet_layout.specs.declared.subframes.CodebookCodes.{CodebookCodes}
use Rattle.packet_layout.specs.declared.subframes.PitchCodes.{PitchCodes}
use Rattle.packet_layout.specs.CodeBits.{Fits, bits_at}
use Rattle.packet.specs.declared.codes.CodeNumbers.{CodeNumbers}
use Rattle.packet.specs.declared.codes.Codes.{Codes}
use Rattle.packet.specs.Codes.{Within}
use Rattle.packet.specs.OneAnswer.{SameUnpacked}
use Rattle.figures.specs.declared.codebook.CodebookParameter.{CodebookParameter}
use Rattle.figures.specs.FrameLaws.{CodebookCodesOfFrameFit, PitchCodesOfFrameFit}
use Rattle.figures.specs.Frame.{AnswersFrame, EncodesFrame, OneFrameAnswer, RefusesFrame}
use Rattle.figures.specs.Pitch.{PitchesAllowed, RefusesPitches, pair_at, pitch_allowed}
use Rattle.figures.proofs.Frames.{not_refused, one_codebook_answer, one_pitch_answer}

-- an LSP code that is at most the top code has the width of LSP codes
within_width : (rate : Rate) (c i : ℕ) → i < 10 → c ≤ top_code rate → c < 2 ^ bits_at rate Lsp i
within_width Full c i h l = grind (arith, nat_tests)
within_width Half c i h l = grind (arith, nat_tests)
within_width Quarter c i h l = grind (arith, nat_tests)
within_width Eighth c i h l = grind (arith, nat_tests)

no_seed_fits : (rate : Rate) → Fits rate Cbseed (0 ∷ [])
no_seed_fits rate i h =
    let z : 0 ≡ i = omega arith in
    subst (λ j. slice_index (0 ∷ []) j < 2 ^ bits_at rate Cbseed j) z (pow_pos (bits_at rate Cbseed 0))

abbrev codes_from : List ℕ → PitchCodes → CodebookCodes → ℕ → CodeNumbers
codes_from l p b s = record { lsp = l; pitch = p; codebook = b; cbseed = s }

pub parts_within : (rate : Rate) (lsp : List ℕ) (p : PitchCodes) (b : CodebookCodes) → length lsp ≡ 10 → length p.plag ≡ 4 → length p.pgain ≡ 4
    → length b.cbindex ≡ 8 → length b.cbgain ≡ 8 → LspWithin rate lsp → PitchCodesOfFrameFit rate p → CodebookCodesOfFrameFit rate b
    → Within rate (codes_from lsp p b 0)
parts_within rate lsp p b ten plags pgains cbindices cbgains within pitch codebook = record {
  sized = record { lsp = ten; plag = plags; pgain = pgains; cbindex = cbindices; cbgain = cbgains };
  lsp = λ i h. within_width rate (slice_index lsp i) i (omega arith) (within i (omega arith));
  plag = pitch.plag;
  pgain = pitch.pgain;
  cbindex = codebook.cbindex;
  cbgain = codebook.cbgain;
  cbseed = no_seed_fits rate;
}

module _ (rate : Rate) (lsp : List ℕ) (pairs : List (ℕ × ℕ)) (parameters : List CodebookParameter) where
  same_numbers : (c d : CodeNumbers) → EncodesFrame rate lsp pairs parameters c → EncodesFrame rate lsp pairs parameters d → c ≡ d
  same_numbers c d e f =
      ap (λ l. codes_from l c.pitch c.codebook c.cbseed) (e.lsp ∙ sym f.lsp)
      ∙ ap (λ p. codes_from d.lsp p c.codebook c.cbseed) (one_pitch_answer.encoded rate pairs c.pitch d.pitch e.pitch f.pitch)
      ∙ ap (λ b. codes_from d.lsp d.pitch b c.cbseed) (one_codebook_answer.encoded rate parameters c.codebook d.codebook e.codebook f.codebook)
      ∙ ap (λ s. codes_from d.lsp d.pitch d.codebook s) (e.cbseed ∙ sym f.cbseed)

  not_both : (c : CodeNumbers) (a : Answer) → EncodesFrame rate lsp pairs parameters c → RefusesFrame rate pairs parameters a → ⊥
  not_both c a e (inl r) = one_pitch_answer.not_both rate pairs c.pitch a e.pitch r
  not_both c a e (inr (allowed, r)) = one_codebook_answer.not_both rate parameters c.codebook a e.codebook r

  pitches_pass : PitchesAllowed rate pairs → (a : Answer) → RefusesPitches rate pairs a → ⊥
  pitches_pass allowed a r = not_refused 11 (rate_is rate).pitch_subframes (λ i. pitch_allowed (pair_at pairs i)) a allowed r

  answers : (r r' : Result Codes Refusal) → AnswersFrame rate lsp pairs parameters r → AnswersFrame rate lsp pairs parameters r' → SameUnpacked r r'
  answers (Ok c) (Ok d) (at, e) (at', f) = (at ∙ sym at', same_numbers c.numbers d.numbers e f)
  answers (Ok c) (Err f) (at, e) r = absurd (not_both c.numbers (refusal_is f) e r)
  answers (Err e) (Ok d) r (at, f) = absurd (not_both d.numbers (refusal_is e) f r)
  answers (Err e) (Err f) (inl r) (inl s) = one_pitch_answer.refused rate pairs (refusal_is e) (refusal_is f) r s
  answers (Err e) (Err f) (inl r) (inr (allowed, s)) = absurd (pitches_pass allowed (refusal_is e) r)
  answers (Err e) (Err f) (inr (allowed, r)) (inl s) = absurd (pitches_pass allowed (refusal_is f) s)
  answers (Err e) (Err f) (inr (allowed, r)) (inr (allowed', s)) = one_codebook_answer.refused rate parameters (refusal_is e) (refusal_is f) r s

pub one_frame_answer : OneFrameAnswer
one_frame_answer rate lsp pairs parameters r r' a b = answers rate lsp pairs parameters r r' a b
