-- The codes of a frame and their bits, named as IS-96 names them: LSP1[3] is bit 3 of LSP code 1.
use Rattle.std.specs.Prelude.{ℕ, ◌+◌, ◌-◌, ◌^◌, ◌<◌, ◌≤◌, cond, nat_lt, List, [], ◌∷◌, length, slice_index}
use Rattle.service.specs.declared.rates.Rate.{Rate}
use Rattle.service.specs.declared.rates.Rate.TheVariants.{Full, Half, Quarter, Eighth}
use Rattle.service.specs.Rates.{rate_is}
use Rattle.packet_layout.specs.declared.code_bits.CodeName.{CodeName}
use Rattle.packet_layout.specs.declared.code_bits.CodeName.TheVariants.{Lsp, Plag, Pgain, Cbindex, Cbgain, Cbseed, Pcb}
use Rattle.packet_layout.specs.declared.code_bits.CodeBit.{CodeBit}

-- the numbers of the LSP codes
abbrev pub one_to_ten : List ℕ
one_to_ten = 1 ∷ 2 ∷ 3 ∷ 4 ∷ 5 ∷ 6 ∷ 7 ∷ 8 ∷ 9 ∷ 10 ∷ []

-- the numbers of the codebook subframes at Rate 1
abbrev pub one_to_eight : List ℕ
one_to_eight = 1 ∷ 2 ∷ 3 ∷ 4 ∷ 5 ∷ 6 ∷ 7 ∷ 8 ∷ []

-- bit b of code n of this name, as LSP1[3] for Lsp 1 3; CBSEED and PCB have the number 1
abbrev pub code_bit : CodeName → ℕ → ℕ → CodeBit
code_bit name n b = record { name = name; number = n; bit = b }

-- how many codes of this name a frame has; at Rate 1/8 CBSEED stands in place of CBINDEX, and only Rate 1 has PCB
abbrev pub count : Rate → CodeName → ℕ
count rate Lsp = 10
count rate Plag = (rate_is rate).pitch_subframes
count rate Pgain = (rate_is rate).pitch_subframes
count Eighth Cbindex = 0
count Quarter Cbindex = (rate_is Quarter).codebook_subframes
count Half Cbindex = (rate_is Half).codebook_subframes
count Full Cbindex = (rate_is Full).codebook_subframes
count rate Cbgain = (rate_is rate).codebook_subframes
count Eighth Cbseed = 1
count Quarter Cbseed = 0
count Half Cbseed = 0
count Full Cbseed = 0
count Eighth Pcb = 0
count Quarter Pcb = 0
count Half Pcb = 0
count Full Pcb = 1

-- how many bits each code of this name has, if the rate has the code
abbrev pub width : Rate → CodeName → ℕ
width Full Lsp = 4
width Half Lsp = 2
width Quarter Lsp = 1
width Eighth Lsp = 1
width rate Plag = 7
width rate Pgain = 3
width rate Cbindex = 7
width Full Cbgain = 3
width Half Cbgain = 3
width Quarter Cbgain = 3
width Eighth Cbgain = 2
width rate Cbseed = 4
width rate Pcb = 11

-- the code bits that the packet of a rate carries
pub record Has (rate : Rate) (c : CodeBit) : Type 0 where
  pub from : 1 ≤ c.number
  pub to : c.number ≤ count rate c.name
  pub bit : c.bit < width rate c.name

-- how many bits the code of this name at an index from 0 has: none if the rate lacks it
abbrev pub bits_at : Rate → CodeName → ℕ → ℕ
bits_at rate name i = cond (nat_lt i (count rate name)) (width rate name) 0

-- Each code of a name is within its width, so that a code that the rate lacks is zero. The codes are counted from index
-- 0.
abbrev pub Fits : Rate → CodeName → List ℕ → Type 0
Fits rate name codes = (i : ℕ) → i < length codes → slice_index codes i < 2 ^ bits_at rate name i

-- The codes of a frame in order are LSP 1 to 10, PLAG 1 to 4, PGAIN 1 to 4, CBINDEX 1 to 8, CBGAIN 1 to 8, CBSEED and
-- PCB: where the codes of this name begin, counted from 0
abbrev pub first : CodeName → ℕ
first Lsp = 0
first Plag = 10
first Pgain = 14
first Cbindex = 18
first Cbgain = 26
first Cbseed = 34
first Pcb = 35

-- where the code of a code bit stands in that order
abbrev pub index : CodeBit → ℕ
index c = first c.name + c.number - 1
