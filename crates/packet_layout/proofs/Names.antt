-- A code bit by the index of its code and its bit.
use Rattle.std.proofs.Common.{◌≡◌, ℕ, ◌+◌, ◌-◌, ◌<◌, ◌≤◌, cond, refl, sym, ◌∙◌, ap, arith, nat_lt}
use Rattle.service.specs.declared.rates.Rate.{Rate}
use Rattle.service.specs.declared.rates.Rate.TheVariants.{Full, Half, Quarter, Eighth}
use Rattle.packet_layout.specs.declared.code_bits.CodeName.{CodeName}
use Rattle.packet_layout.specs.declared.code_bits.CodeName.TheVariants.{Lsp, Plag, Pgain, Cbindex, Cbgain, Cbseed, Pcb}
use Rattle.packet_layout.specs.declared.code_bits.CodeBit.{CodeBit}
use Rattle.packet_layout.specs.CodeBits.{code_bit, count, width, first, index, Has}

-- how many codes of a name there are at the rate that has most
abbrev pub most : CodeName → ℕ
most Lsp = 10
most Plag = 4
most Pgain = 4
most Cbindex = 8
most Cbgain = 8
most Cbseed = 1
most Pcb = 1

pub count_most : (rate : Rate) (name : CodeName) → count rate name ≤ most name
count_most rate Lsp = omega arith
count_most Full Plag = omega arith
count_most Half Plag = omega arith
count_most Quarter Plag = omega arith
count_most Eighth Plag = omega arith
count_most Full Pgain = omega arith
count_most Half Pgain = omega arith
count_most Quarter Pgain = omega arith
count_most Eighth Pgain = omega arith
count_most Full Cbindex = omega arith
count_most Half Cbindex = omega arith
count_most Quarter Cbindex = omega arith
count_most Eighth Cbindex = omega arith
count_most Full Cbgain = omega arith
count_most Half Cbgain = omega arith
count_most Quarter Cbgain = omega arith
count_most Eighth Cbgain = omega arith
count_most Full Cbseed = omega arith
count_most Half Cbseed = omega arith
count_most Quarter Cbseed = omega arith
count_most Eighth Cbseed = omega arith
count_most Full Pcb = omega arith
count_most Half Pcb = omega arith
count_most Quarter Pcb = omega arith
count_most Eighth Pcb = omega arith

abbrev pub code_at : ℕ → ℕ → CodeBit
code_at s b =
    cond (nat_lt s 10) (code_bit Lsp (s + 1) b) (cond (nat_lt s 14) (code_bit Plag (s - 9) b) (cond (nat_lt s 18) (code_bit Pgain (s - 13) b)
    (cond (nat_lt s 26) (code_bit Cbindex (s - 17) b) (cond (nat_lt s 34) (code_bit Cbgain (s - 25) b)
    (cond (nat_lt s 35) (code_bit Cbseed 1 b) (code_bit Pcb 1 b))))))

pub named : (name : CodeName) (n b : ℕ) → 1 ≤ n → n ≤ most name → code_at (first name + n - 1) b ≡ code_bit name n b
named Lsp n b h l = grind (arith)
named Plag n b h l = grind (arith)
named Pgain n b h l = grind (arith)
named Cbindex n b h l = grind (arith)
named Cbgain n b h l = grind (arith)
named Cbseed n b h l = grind (arith)
named Pcb n b h l = grind (arith)

-- a code bit of the rate is the one at its index and its bit, so no other has both
pub back : (rate : Rate) (c : CodeBit) → Has rate c → code_at (index c) c.bit ≡ c
back rate c h = named c.name c.number c.bit h.from (omega (arith, h.to, count_most rate c.name))

pub same : (rate : Rate) (c d : CodeBit) → Has rate c → Has rate d → index c ≡ index d → c.bit ≡ d.bit → c ≡ d
same rate c d hc hd ei eb = sym (back rate c hc) ∙ ap (λ s. code_at s c.bit) ei ∙ ap (λ b. code_at (index d) b) eb ∙ back rate d hd

-- each code of a rate is one of the 36
pub below : (name : CodeName) (n : ℕ) → n ≤ most name → first name + n - 1 < 36
below Lsp n l = omega arith
below Plag n l = omega arith
below Pgain n l = omega arith
below Cbindex n l = omega arith
below Cbgain n l = omega arith
below Cbseed n l = omega arith
below Pcb n l = omega arith

pub index_lt : (rate : Rate) (c : CodeBit) → Has rate c → index c < 36
index_lt rate c h = below c.name c.number (omega (arith, h.to, count_most rate c.name))

narrow : (rate : Rate) (name : CodeName) → width rate name ≤ 11
narrow Full Lsp = omega arith
narrow Half Lsp = omega arith
narrow Quarter Lsp = omega arith
narrow Eighth Lsp = omega arith
narrow rate Plag = omega arith
narrow rate Pgain = omega arith
narrow rate Cbindex = omega arith
narrow Full Cbgain = omega arith
narrow Half Cbgain = omega arith
narrow Quarter Cbgain = omega arith
narrow Eighth Cbgain = omega arith
narrow rate Cbseed = omega arith
narrow rate Pcb = omega arith

-- and one of the 35 if it is not PCB
below_pcb : (name : CodeName) (n : ℕ) → (name ≡ Pcb → ⊥) → n ≤ most name → first name + n - 1 < 35
below_pcb Lsp n other l = omega arith
below_pcb Plag n other l = omega arith
below_pcb Pgain n other l = omega arith
below_pcb Cbindex n other l = omega arith
below_pcb Cbgain n other l = omega arith
below_pcb Cbseed n other l = omega arith
below_pcb Pcb n other l = absurd (other refl)

pub index_lt_pcb : (rate : Rate) (c : CodeBit) → Has rate c → (c.name ≡ Pcb → ⊥) → index c < 35
index_lt_pcb rate c h other = below_pcb c.name c.number other (omega (arith, h.to, count_most rate c.name))

-- and no bit of one has a number above 10
pub bit_lt : (rate : Rate) (c : CodeBit) → Has rate c → c.bit < 11
bit_lt rate c h = omega (arith, h.bit, narrow rate c.name)

-- and, but for PCB, none above 6
narrower : (rate : Rate) (name : CodeName) (n : ℕ) → 1 ≤ n → first name + n - 1 < 35 → width rate name ≤ 7
narrower Full Lsp n f l = omega arith
narrower Half Lsp n f l = omega arith
narrower Quarter Lsp n f l = omega arith
narrower Eighth Lsp n f l = omega arith
narrower rate Plag n f l = omega arith
narrower rate Pgain n f l = omega arith
narrower rate Cbindex n f l = omega arith
narrower Full Cbgain n f l = omega arith
narrower Half Cbgain n f l = omega arith
narrower Quarter Cbgain n f l = omega arith
narrower Eighth Cbgain n f l = omega arith
narrower rate Cbseed n f l = omega arith
narrower rate Pcb n f l = absurd (omega arith)

pub bit_lt_code : (rate : Rate) (c : CodeBit) → Has rate c → index c < 35 → c.bit < 7
bit_lt_code rate c h l = omega (arith, h.bit, narrower rate c.name c.number h.from l)

-- the last of the 36 is PCB
last : (name : CodeName) (n b : ℕ) → 1 ≤ n → n ≤ most name → 35 ≤ first name + n - 1 → code_bit name n b ≡ code_bit Pcb 1 b
last Lsp n b f l h = absurd (omega arith)
last Plag n b f l h = absurd (omega arith)
last Pgain n b f l h = absurd (omega arith)
last Cbindex n b f l h = absurd (omega arith)
last Cbgain n b f l h = absurd (omega arith)
last Cbseed n b f l h = absurd (omega arith)
last Pcb n b f l h = let e : n ≡ 1 = omega arith in ap (λ m. code_bit Pcb m b) e

pub last_is_pcb : (rate : Rate) (c : CodeBit) → Has rate c → 35 ≤ index c → c ≡ code_bit Pcb 1 c.bit
last_is_pcb rate c h l = last c.name c.number c.bit h.from (omega (arith, h.to, count_most rate c.name)) l
