-- Packets at Rate 1 whose codes are 0 but for the LSP codes, and how they are read with one or two bits changed.
use Rattle.std.proofs.Common.{◌≡◌, ℕ, zero, suc, ◌<◌, List, length, replicate, slice_index, Some, None, Option, refl, sym, ap₂, ◌∙◌, inl, inr, arith}
use Rattle.std.proofs.lemmas.List.{get_or-replicate}
use Rattle.std.proofs.lemmas.Nat.{pow_pos}
use Rattle.service.specs.declared.rates.Rate.{Rate}
use Rattle.service.specs.declared.rates.Rate.TheVariants.{Full as Rate1}
use Rattle.service.specs.declared.categories.Category.TheVariants.{Full, Suspect}
use Rattle.service.specs.declared.readings.Letter.TheVariants.{C, P, S, D}
use Rattle.lsp.specs.Quantizers.{Within as LspWithin}
use Rattle.packet_layout.specs.declared.code_bits.CodeName.{CodeName}
use Rattle.packet_layout.specs.declared.code_bits.CodeName.TheVariants.{Plag, Pgain, Cbindex, Cbgain, Cbseed}
use Rattle.packet_layout.specs.CodeBits.{Fits, bits_at}
use Rattle.packet.specs.declared.codes.CodeNumbers.{CodeNumbers}
use Rattle.packet.specs.Calls.{Holds, packet}
use Rattle.packet.specs.Codes.{Within}
use Rattle.figures.specs.declared.codebook.CodebookFigure.{CodebookFigure}
use Rattle.figures.specs.Codebook.{DecodesCodebooks, figure_of_codes}
use Rattle.figures.specs.Pitch.{DecodesPitches, pitch_of, no_pitch}
use Rattle.rules.specs.Readings.{Reading, Reads, ReadsCodes, pitch_off}
use Rattle.law.proofs.Corrected.{both_changed_corrects_none, both_changed_syndrome, one_changed_corrects, one_changed_holds, pcb0_changed_holds, pcb0_changed_syndrome, sent_holds, sent_syndrome}
use Rattle.law.proofs.Sent.{lsp_fits}
use Rattle.packet.specs.Changes.{corrected_packet, with_bit_changed}

abbrev pub silent : List ℕ → CodeNumbers
silent lsp = record {
  lsp = lsp;
  pitch = record { plag = replicate 4 0; pgain = replicate 4 0 };
  codebook = record { cbindex = replicate 8 0; cbgain = replicate 8 0 };
  cbseed = 0;
}

pub zero_at : (n i : ℕ) → slice_index (replicate n 0) i ≡ 0
zero_at zero i = refl
zero_at (suc n) zero = refl
zero_at (suc n) (suc i) = zero_at n i

pub zeros_fit : (rate : Rate) (name : CodeName) (n : ℕ) → Fits rate name (replicate n 0)
zeros_fit rate name n i h = omega (arith, zero_at n i, pow_pos (bits_at rate name i))

pub silent_within : (lsp : List ℕ) → length lsp ≡ 10 → LspWithin Rate1 lsp → Within Rate1 (silent lsp)
silent_within lsp long within = record {
  sized = record { lsp = long; plag = refl; pgain = refl; cbindex = refl; cbgain = refl };
  lsp = lsp_fits Rate1 lsp long within;
  plag = zeros_fit Rate1 Plag 4;
  pgain = zeros_fit Rate1 Pgain 4;
  cbindex = zeros_fit Rate1 Cbindex 8;
  cbgain = zeros_fit Rate1 Cbgain 8;
  cbseed = zeros_fit Rate1 Cbseed 1;
}

abbrev silent_figure : Option CodebookFigure
silent_figure = Some (figure_of_codes Rate1 0 0)

abbrev pub silent_reading : List ℕ → Reading
silent_reading lsp = record { rate = Rate1; codes = silent lsp; pitches = pitch_off; codebooks = replicate 8 silent_figure }

codebooks_read : (lsp : List ℕ) → DecodesCodebooks Rate1 (silent lsp).codebook (replicate 8 silent_figure)
codebooks_read lsp = record {
  cbindex_length = refl;
  cbgain_length = refl;
  figures_length = refl;
  decoded = λ i h. get_or-replicate 8 i silent_figure None h ∙ ap₂ (λ a b. Some (figure_of_codes Rate1 a b)) (sym (zero_at 8 i)) (sym (zero_at 8 i));
  past = λ i h l. absurd (omega arith);
}

none_of_zeros : pitch_of 0 0 ≡ no_pitch
unfolding pitch_of
none_of_zeros = refl

pitches_read : (lsp : List ℕ) → DecodesPitches Rate1 (silent lsp).pitch pitch_off
pitches_read lsp = record {
  plag_length = refl;
  pgain_length = refl;
  pairs_length = refl;
  decoded = λ i h. get_or-replicate 4 i no_pitch (0, 0) h ∙ sym none_of_zeros ∙ ap₂ pitch_of (sym (zero_at 4 i)) (sym (zero_at 4 i));
  past = λ i h l. absurd (omega arith);
}

codes_read : (lsp bytes : List _) → Holds Rate1 bytes (silent lsp) → ReadsCodes Rate1 bytes (silent_reading lsp)
codes_read lsp bytes holds = record { rate = refl; codes = holds; codebooks = codebooks_read lsp }

module _ (lsp : List ℕ) (within : Within Rate1 (silent lsp)) where
  abbrev bytes : List ℕ
  bytes = packet Rate1 (silent lsp)

  pub reads_as_sent : Reads Full bytes C (Some (silent_reading lsp))
  reads_as_sent = inl (sent_syndrome (silent lsp) within, (refl, (codes_read lsp bytes (sent_holds (silent lsp) within), pitches_read lsp)))

  pub reads_pcb0_changed : Reads Suspect (with_bit_changed 0 bytes) P (Some (silent_reading lsp))
  reads_pcb0_changed = inl (pcb0_changed_syndrome (silent lsp) within, (refl, (codes_read lsp (with_bit_changed 0 bytes) (pcb0_changed_holds (silent lsp) within), refl)))

  module _ (p : ℕ) (h : p < 28) where
    pub reads_corrected : Reads Suspect (corrected_packet p bytes) S (Some (silent_reading lsp))
    reads_corrected =
        inr (inl (p, one_changed_corrects (silent lsp) within p h, (refl, (codes_read lsp (corrected_packet p (corrected_packet p bytes)) (one_changed_holds (silent lsp) within p h), refl))))

    pub reads_both_changed : Reads Suspect (with_bit_changed 0 (corrected_packet p bytes)) D None
    reads_both_changed = inr (inr (both_changed_syndrome (silent lsp) within p h, both_changed_corrects_none (silent lsp) within p h, (refl, refl)))
