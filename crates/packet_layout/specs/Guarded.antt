-- The 29 guarded bits of a Rate 1 packet (IS-96, A.1.4.7.1.1), in the order of a word: from x^27 of the 28 bits of the
-- cyclic code down to x^0, and the overall parity bit.
use Rattle.std.specs.Prelude.{ℕ, ◌-◌, ◌*◌, List, [], ◌∷◌, ◌++◌, map}
use Rattle.packet_layout.specs.declared.code_bits.CodeName.TheVariants.{Lsp, Cbgain, Pcb}
use Rattle.packet_layout.specs.declared.code_bits.CodeBit.{CodeBit}
use Rattle.packet_layout.specs.CodeBits.{code_bit, one_to_eight, one_to_ten}

-- the numbers of the check bits from PCB[10] to PCB[1]
abbrev pub ten_to_one : List ℕ
ten_to_one = 10 ∷ 9 ∷ 8 ∷ 7 ∷ 6 ∷ 5 ∷ 4 ∷ 3 ∷ 2 ∷ 1 ∷ []

-- the 18 guarded code bits, a(x): LSP1[3] at x^17 down to LSP10[3] at x^8, then CBGAIN1[1] at x^7 down to CBGAIN8[1] at
-- x^0
unfoldable pub guarded_code_bits : List CodeBit
guarded_code_bits = map (λ i. code_bit Lsp i 3) one_to_ten ++ map (λ k. code_bit Cbgain k 1) one_to_eight

-- all 29: these, then PCB[10] down to PCB[1], and PCB[0]
unfoldable pub guarded : List CodeBit
unfolding guarded_code_bits
guarded = guarded_code_bits ++ (map (λ j. code_bit Pcb 1 j) ten_to_one ++ (code_bit Pcb 1 0 ∷ []))

-- the numbers of the packet bits at which they stand: LSPi[3] at 171 - 2i, CBGAINk[1] at 151 - 8k, PCB[j] at 8j - 1,
-- PCB[0] at 0
unfoldable pub guarded_bits : List ℕ
guarded_bits =
    map (λ i. 171 - 2 * i) one_to_ten
    ++ (map (λ k. 151 - 8 * k) one_to_eight ++ (map (λ j. 8 * j - 1) ten_to_one ++ (0 ∷ [])))
