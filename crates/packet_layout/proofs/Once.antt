-- The law of a layout, from tests that antt computes over the whole of it.
use Rattle.std.proofs.Common.{◌≡◌, ℕ, zero, suc, ◌+◌, ◌-◌, ◌<◌, ◌≤◌, Bool, true, false, not, ◌&&◌, ◌||◌, List, [], ◌∷◌, length, Option, Some, None, is_some, refl, sym, ◌∙◌, ap, subst, inl, inr, arith, nat_lt, nat_eq}
use Rattle.std.proofs.lemmas.Bool.{and_parts, or_cases, or_left, or_right, cases_lt, false≢true}
use Rattle.std.proofs.lemmas.Bool.Decides.{nat_tests}
use Rattle.service.specs.declared.rates.Rate.{Rate}
use Rattle.service.specs.Rates.{rate_is}
use Rattle.packet_layout.specs.declared.code_bits.CodeName.{CodeName}
use Rattle.packet_layout.specs.declared.code_bits.CodeName.TheVariants.{Lsp, Plag, Pgain, Cbindex, Cbgain, Cbseed, Pcb}
use Rattle.packet_layout.specs.declared.code_bits.CodeBit.{CodeBit}
use Rattle.packet_layout.specs.CodeBits.{count, width, first, index, Has}
use Rattle.packet_layout.specs.Layouts.{at}
use Rattle.packet_layout.specs.Laws.{Once, EachCodeBitOnce}
use Rattle.packet_layout.proofs.Names.{same}

-- whether bit b of the code at index s stands somewhere
abbrev pub stands : ℕ → ℕ → List CodeBit → Bool
stands s b [] = false
stands s b (c ∷ cs) = (nat_eq (index c) s && nat_eq c.bit b) || stands s b cs

-- whether no code bit stands twice
abbrev pub distinct : List CodeBit → Bool
distinct [] = true
distinct (c ∷ cs) = not (stands (index c) c.bit cs) && distinct cs

-- whether all are code bits of the rate
abbrev has : Rate → CodeBit → Bool
has rate c = nat_lt 0 c.number && (nat_lt c.number (suc (count rate c.name)) && nat_lt c.bit (width rate c.name))

abbrev pub all_of : Rate → List CodeBit → Bool
all_of rate [] = true
all_of rate (c ∷ cs) = has rate c && all_of rate cs

-- whether the first w bits of the code at index s all stand, and so do those of n codes from there
abbrev pub bits_stand : ℕ → ℕ → List CodeBit → Bool
bits_stand s zero places = true
bits_stand s (suc w) places = stands s w places && bits_stand s w places

abbrev pub codes_stand : ℕ → ℕ → ℕ → List CodeBit → Bool
codes_stand s zero w places = true
codes_stand s (suc n) w places = bits_stand (s + n) w places && codes_stand s n w places

-- ---- what the tests say

bits_stand_each : (s w : ℕ) (places : List CodeBit) → bits_stand s w places ≡ true → (b : ℕ) → b < w → stands s b places ≡ true
bits_stand_each s zero places t b l = absurd (omega arith)
bits_stand_each s (suc w) places t b l =
    let both = and_parts (stands s w places) (bits_stand s w places) t in
    elim (cases_lt b w) [
      | inl less ↦ bits_stand_each s w places both.1 b less
      | inr more ↦ let e : w ≡ b = omega arith in subst (λ n. stands s n places ≡ true) e both.0
    ]

codes_stand_each : (s n w : ℕ) (places : List CodeBit) → codes_stand s n w places ≡ true → (i b : ℕ) → i < n → b < w → stands (s + i) b places ≡ true
codes_stand_each s zero w places t i b li lb = absurd (omega arith)
codes_stand_each s (suc n) w places t i b li lb =
    let both = and_parts (bits_stand (s + n) w places) (codes_stand s n w places) t in
    elim (cases_lt i n) [
      | inl less ↦ codes_stand_each s n w places both.1 i b less lb
      | inr more ↦ let e : n ≡ i = omega arith in subst (λ m. stands (s + m) b places ≡ true) e (bits_stand_each (s + n) w places both.0 b lb)
    ]

got : CodeBit → Option CodeBit → CodeBit
got d None = d
got d (Some c) = c

pub same_some : (c d : CodeBit) → Some c ≡ Some d → c ≡ d
unfolding got
same_some c d e = ap (got c) e

pub none_some : (c : CodeBit) → None ≡ Some c → ⊥
none_some c e = false≢true (ap is_some e)

-- what stands somewhere has a place
somewhere : (s b : ℕ) (places : List CodeBit) → stands s b places ≡ true → (k : ℕ) × ((c : CodeBit) × ((at places k ≡ Some c) × ((index c ≡ s) × (c.bit ≡ b))))
somewhere s b [] t = absurd (false≢true t)
somewhere s b (c ∷ cs) t =
    elim (or_cases (nat_eq (index c) s && nat_eq c.bit b) (stands s b cs) t) [
      | inl here ↦
          let both = and_parts (nat_eq (index c) s) (nat_eq c.bit b) here in
          (0, (c, (refl, (grind (arith, nat_tests), grind (arith, nat_tests)))))
      | inr later ↦
          let (k, rest) = somewhere s b cs later in
          (suc k, rest)
    ]

-- what has a place stands somewhere
found : (places : List CodeBit) (k : ℕ) (c : CodeBit) → at places k ≡ Some c → stands (index c) c.bit places ≡ true
found [] k c e = absurd (none_some c e)
found (d ∷ cs) zero c e = let same = same_some d c e in or_left (nat_eq (index d) (index c) && nat_eq d.bit c.bit) (stands (index c) c.bit cs) (grind (arith, nat_tests))
found (d ∷ cs) (suc k) c e = or_right (nat_eq (index d) (index c) && nat_eq d.bit c.bit) (stands (index c) c.bit cs) (found cs k c e)

-- no code bit has two places
twice : (d : CodeBit) (cs : List CodeBit) (c : CodeBit) (k : ℕ) → distinct (d ∷ cs) ≡ true → d ≡ c → at cs k ≡ Some c → ⊥
twice d cs c k t e h =
    let no = (and_parts (not (stands (index d) d.bit cs)) (distinct cs) t).0 in
    let yes = subst (λ x. stands (index x) x.bit cs ≡ true) (sym e) (found cs k c h) in
    false≢true (sym (ap not yes) ∙ no)

alone : (places : List CodeBit) → distinct places ≡ true → (j k : ℕ) (c : CodeBit) → at places j ≡ Some c → at places k ≡ Some c → j ≡ k
alone [] t j k c ej ek = absurd (none_some c ej)
alone (d ∷ cs) t zero zero c ej ek = refl
alone (d ∷ cs) t zero (suc k) c ej ek = absurd (twice d cs c k t (same_some d c ej) ek)
alone (d ∷ cs) t (suc j) zero c ej ek = absurd (twice d cs c j t (same_some d c ek) ej)
alone (d ∷ cs) t (suc j) (suc k) c ej ek = ap suc (alone cs (and_parts (not (stands (index d) d.bit cs)) (distinct cs) t).1 j k c ej ek)

has_true : (rate : Rate) (c : CodeBit) → has rate c ≡ true → Has rate c
has_true rate c t = record { from = grind (arith, nat_tests); to = grind (arith, nat_tests); bit = grind (arith, nat_tests) }

pub all_have : (rate : Rate) (places : List CodeBit) → all_of rate places ≡ true → (k : ℕ) (c : CodeBit) → at places k ≡ Some c → Has rate c
all_have rate [] t k c e = absurd (none_some c e)
all_have rate (d ∷ cs) t zero c e = subst (Has rate) (same_some d c e) (has_true rate d (and_parts (has rate d) (all_of rate cs) t).0)
all_have rate (d ∷ cs) t (suc k) c e = all_have rate cs (and_parts (has rate d) (all_of rate cs) t).1 k c e

-- ---- the law, from the tests

-- the codes of a name with all their bits
abbrev name_stands : Rate → List CodeBit → CodeName → Bool
name_stands rate places name = codes_stand (first name) (count rate name) (width rate name) places

-- whether all code bits of the rate stand
abbrev pub all_stand : Rate → List CodeBit → Bool
all_stand rate places =
    name_stands rate places Lsp && (name_stands rate places Plag && (name_stands rate places Pgain && (name_stands rate places Cbindex
    && (name_stands rate places Cbgain && (name_stands rate places Cbseed && name_stands rate places Pcb)))))

each_stands : (rate : Rate) (places : List CodeBit) → all_stand rate places ≡ true → (name : CodeName) → name_stands rate places name ≡ true
each_stands rate places t name =
    let a = and_parts _ _ t in
    let b = and_parts _ _ a.1 in
    let c = and_parts _ _ b.1 in
    let d = and_parts _ _ c.1 in
    let e = and_parts _ _ d.1 in
    let f = and_parts _ _ e.1 in
    elim name as (λ n. name_stands rate places n ≡ true) [ Lsp ↦ a.0 | Plag ↦ b.0 | Pgain ↦ c.0 | Cbindex ↦ d.0 | Cbgain ↦ e.0 | Cbseed ↦ f.0 | Pcb ↦ f.1 ]

module _ (rate : Rate) (places : List CodeBit) (stand : all_stand rate places ≡ true) (have : all_of rate places ≡ true)
    (lone : distinct places ≡ true) (long : length places ≡ (rate_is rate).bits) where
  carried : (k : ℕ) (c : CodeBit) → at places k ≡ Some c → Has rate c
  carried k c e = all_have rate places have k c e

  one_place : (c : CodeBit) → Has rate c → Once places c
  one_place c h =
      let i = c.number - 1 in
      let t = codes_stand_each (first c.name) (count rate c.name) (width rate c.name) places (each_stands rate places stand c.name) i c.bit (omega (arith, h.from, h.to)) h.bit in
      let e : first c.name + i ≡ index c = omega (arith, h.from) in
      let (k, (d, (stands_at, (ei, eb)))) = somewhere (index c) c.bit places (subst (λ s. stands s c.bit places ≡ true) e t) in
      let is : d ≡ c = same rate d c (carried k d stands_at) h ei eb in
      let here = subst (λ x. at places k ≡ Some x) is stands_at in
      (k, here, λ j there. alone places lone j k c there here)

  pub each_code_bit_once : EachCodeBitOnce rate places
  each_code_bit_once = record { once = one_place; carried = carried; bits = long }

-- a place that carries a code bit is one of the places
pub place_lt : (places : List CodeBit) (k : ℕ) (c : CodeBit) → at places k ≡ Some c → k < length places
place_lt [] k c e = absurd (none_some c e)
place_lt (d ∷ cs) zero c e = omega arith
place_lt (d ∷ cs) (suc k) c e = omega (arith, place_lt cs k c e)

-- and a place that carries none is not
pub none_le : (places : List CodeBit) (k : ℕ) → at places k ≡ None → length places ≤ k
none_le [] k e = omega arith
none_le (d ∷ cs) zero e = absurd (none_some d (sym e))
none_le (d ∷ cs) (suc k) e = omega (arith, none_le cs k e)

pub at_past : (places : List CodeBit) (k : ℕ) → length places ≤ k → at places k ≡ None
at_past [] k h = refl
at_past (d ∷ cs) zero h = absurd (omega arith)
at_past (d ∷ cs) (suc k) h = at_past cs k (omega arith)
