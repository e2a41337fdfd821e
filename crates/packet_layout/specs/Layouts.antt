-- Which code bit each bit of a packet carries (IS-96, A.1.4.7.1.2 to A.1.4.7.4).
use Rattle.std.specs.Prelude.{ℕ, zero, suc, List, [], ◌∷◌, ◌++◌, map, take, drop, Option, slice_get}
use Rattle.std.specs.List.{flat_map}
use Rattle.service.specs.declared.rates.Rate.{Rate}
use Rattle.service.specs.declared.rates.Rate.TheVariants.{Full, Half, Quarter, Eighth}
use Rattle.packet_layout.specs.declared.code_bits.CodeName.{CodeName}
use Rattle.packet_layout.specs.declared.code_bits.CodeName.TheVariants.{Lsp, Plag, Pgain, Cbindex, Cbgain, Cbseed, Pcb}
use Rattle.packet_layout.specs.declared.code_bits.CodeBit.{CodeBit}
use Rattle.packet_layout.specs.CodeBits.{code_bit, one_to_eight, one_to_ten}

-- the lowest w bits of a code, the highest first
unfoldable pub bits_of : CodeName → ℕ → ℕ → List CodeBit
bits_of name n zero = []
bits_of name n (suc w) = code_bit name n w ∷ bits_of name n w

-- the ten LSP codes of w bits
unfoldable pub lsps : ℕ → List CodeBit
unfolding bits_of
lsps w = flat_map (λ i. bits_of Lsp i w) one_to_ten

-- the codes of a pitch subframe
unfoldable pub pitch : ℕ → List CodeBit
unfolding bits_of
pitch n = bits_of Pgain n 3 ++ bits_of Plag n 7

-- the codes of a codebook subframe
unfoldable pub codebook : ℕ → List CodeBit
unfolding bits_of
codebook n = bits_of Cbindex n 7 ++ bits_of Cbgain n 3

-- At Rate 1 the upper halves of the ten LSP codes come first, each bit 3 behind its bit 2.
unfoldable pub upper_halves : List CodeBit
upper_halves = flat_map (λ i. code_bit Lsp i 2 ∷ code_bit Lsp i 3 ∷ []) one_to_ten

-- their lower halves
unfoldable pub lower_halves : List CodeBit
lower_halves = flat_map (λ i. code_bit Lsp i 1 ∷ code_bit Lsp i 0 ∷ []) one_to_ten

-- a codebook subframe at Rate 1 without CBGAIN[1], which is guarded and stands elsewhere
unfoldable pub codebook_without_1 : ℕ → List CodeBit
unfolding bits_of
codebook_without_1 n = bits_of Cbindex n 7 ++ (code_bit Cbgain n 2 ∷ code_bit Cbgain n 0 ∷ [])

-- two of them, numbers n and n + 1
unfoldable pub two_codebooks : ℕ → List CodeBit
unfolding codebook_without_1
two_codebooks n = codebook_without_1 n ++ codebook_without_1 (suc n)

-- what is not guarded below the upper halves: the lower halves, then each pitch subframe with its two codebook
-- subframes
unfoldable pub not_guarded : List CodeBit
unfolding lower_halves pitch two_codebooks
not_guarded =
    lower_halves ++ (pitch 1 ++ (two_codebooks 1 ++ (pitch 2 ++ (two_codebooks 3 ++ (pitch 3 ++ (two_codebooks 5
    ++ (pitch 4 ++ two_codebooks 7)))))))

-- what is guarded there: CBGAIN[1] of each codebook subframe, and PCB[10] down to PCB[0]
unfoldable pub spread_out : List CodeBit
unfolding bits_of
spread_out = map (λ k. code_bit Cbgain k 1) one_to_eight ++ bits_of Pcb 1 11

-- the code bits of one list, each behind the next seven of another, or behind those that are left of it
unfoldable pub behind_seven : List CodeBit → List CodeBit → List CodeBit
behind_seven [] others = others
behind_seven (c ∷ cs) others = take 7 others ++ (c ∷ behind_seven cs (drop 7 others))

-- the code bit of each place, the highest-numbered packet bit first
unfoldable pub layout : Rate → List CodeBit
unfolding lsps pitch codebook upper_halves behind_seven spread_out not_guarded
layout Full = upper_halves ++ behind_seven spread_out not_guarded
layout Half = lsps 2 ++ (pitch 1 ++ (codebook 1 ++ (codebook 2 ++ (pitch 2 ++ (codebook 3 ++ codebook 4)))))
layout Quarter = lsps 1 ++ (pitch 1 ++ (codebook 1 ++ codebook 2))
layout Eighth =
    code_bit Cbseed 1 3 ∷ code_bit Lsp 1 0 ∷ code_bit Lsp 2 0 ∷ code_bit Lsp 3 0
    ∷ code_bit Cbseed 1 2 ∷ code_bit Lsp 4 0 ∷ code_bit Lsp 5 0 ∷ code_bit Lsp 6 0
    ∷ code_bit Cbseed 1 1 ∷ code_bit Lsp 7 0 ∷ code_bit Lsp 8 0 ∷ code_bit Lsp 9 0
    ∷ code_bit Cbseed 1 0 ∷ code_bit Lsp 10 0 ∷ code_bit Cbgain 1 1 ∷ code_bit Cbgain 1 0 ∷ []

-- the code bit at a place; a place past the last carries none
abbrev pub at : List CodeBit → ℕ → Option CodeBit
at places k = slice_get places k
