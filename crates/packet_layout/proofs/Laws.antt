-- The law of each layout, and where the guarded bits stand, by computed tests.
use Rattle.std.proofs.Common.{◌≡◌, ℕ, zero, suc, ◌-◌, ◌<◌, slice_index, slice_get, Some, inl, inr, arith, refl, subst}
use Rattle.std.proofs.lemmas.Bool.{cases_lt}
use Rattle.service.specs.declared.rates.Rate.TheVariants.{Full, Half, Quarter, Eighth}
use Rattle.packet_layout.specs.declared.code_bits.CodeName.TheVariants.{Lsp, Cbgain, Pcb}
use Rattle.packet_layout.specs.declared.code_bits.CodeBit.{CodeBit}
use Rattle.packet_layout.specs.CodeBits.{Has, code_bit, index}
use Rattle.packet_layout.specs.Layouts.{at, layout}
use Rattle.packet_layout.specs.Guarded.{guarded, guarded_bits, guarded_code_bits}
use Rattle.packet_layout.specs.Laws.{EachCodeBitOnce, EachCodeBitOnceAtEachRate, GuardedPlaces, place}
use Rattle.packet_layout.proofs.Once.{all_have, each_code_bit_once}

pub full : EachCodeBitOnce Full (layout Full)
unfolding layout
full = each_code_bit_once Full (layout Full) refl refl refl refl

pub half : EachCodeBitOnce Half (layout Half)
unfolding layout
half = each_code_bit_once Half (layout Half) refl refl refl refl

pub quarter : EachCodeBitOnce Quarter (layout Quarter)
unfolding layout
quarter = each_code_bit_once Quarter (layout Quarter) refl refl refl refl

pub eighth : EachCodeBitOnce Eighth (layout Eighth)
unfolding layout
eighth = each_code_bit_once Eighth (layout Eighth) refl refl refl refl

pub at_each_rate : EachCodeBitOnceAtEachRate
at_each_rate rate = elim rate as (λ r. EachCodeBitOnce r (layout r)) [ Full ↦ full | Half ↦ half | Quarter ↦ quarter | Eighth ↦ eighth ]

-- P of each number below n
abbrev Each : (ℕ → Type 0) → ℕ → Type 0
Each P zero = Unit {0}
Each P (suc n) = P n × Each P n

of_each : (P : ℕ → Type 0) (n : ℕ) → Each P n → (i : ℕ) → i < n → P i
of_each P zero each i less = absurd (omega arith)
of_each P (suc n) each i less =
    elim (cases_lt i n) [
      | inl below ↦ of_each P n each.1 i below
      | inr not_below ↦ let e : n ≡ i = omega arith in subst P e each.0
    ]

pub guarded_places : GuardedPlaces
unfolding layout guarded guarded_bits
guarded_places = of_each (λ i. at (layout Full) (place Full (slice_index guarded_bits i)) ≡ slice_get guarded i) 29
    (refl, (refl, (refl, (refl, (refl, (refl, (refl, (refl, (refl, (refl, (refl, (refl, (refl, (refl, (refl, (refl, (refl, (refl, (refl, (refl, (refl, (refl, (refl, (refl, (refl, (refl, (refl, (refl, (refl, tt)))))))))))))))))))))))))))))

-- the guarded code bits are code bits of Rate 1
pub guarded_have : (i : ℕ) (c : CodeBit) → slice_get guarded_code_bits i ≡ Some c → Has Full c
unfolding guarded_code_bits
guarded_have i c e = all_have Full guarded_code_bits refl i c e

-- the guarded code bits come first among the guarded bits, and then PCB[10] down to PCB[0]
pub guarded_front : (i : ℕ) → i < 18 → slice_get guarded i ≡ slice_get guarded_code_bits i
unfolding guarded guarded_code_bits
guarded_front = of_each (λ i. slice_get guarded i ≡ slice_get guarded_code_bits i) 18
    (refl, (refl, (refl, (refl, (refl, (refl, (refl, (refl, (refl, (refl, (refl, (refl, (refl, (refl, (refl, (refl, (refl, (refl, tt))))))))))))))))))

pub guarded_pcb : (j : ℕ) → j < 11 → slice_get guarded (28 - j) ≡ Some (code_bit Pcb 1 j)
unfolding guarded
guarded_pcb = of_each (λ j. slice_get guarded (28 - j) ≡ Some (code_bit Pcb 1 j)) 11
    (refl, (refl, (refl, (refl, (refl, (refl, (refl, (refl, (refl, (refl, (refl, tt)))))))))))

-- each of the 18 is there, and none is PCB's
abbrev IsCode : ℕ → Type 0
IsCode i = (b : CodeBit) × (slice_get guarded_code_bits i ≡ Some b) × (index b < 35)

pub guarded_some : (i : ℕ) → i < 18 → IsCode i
unfolding guarded_code_bits
guarded_some = of_each IsCode 18 (
  (code_bit Cbgain 8 1, refl, omega arith),
  (
    (code_bit Cbgain 7 1, refl, omega arith),
    (
      (code_bit Cbgain 6 1, refl, omega arith),
      (
        (
          code_bit
              Cbgain 5 1,
          refl,
          omega arith,
        ),
        (
          (code_bit Cbgain 4 1, refl, omega arith),
          (
            (code_bit Cbgain 3 1, refl, omega arith),
            (
              (
                code_bit Cbgain 2 1,
                refl,
                omega arith,
              ),
              (
                (code_bit Cbgain 1 1, refl, omega arith),
                (
                  (code_bit Lsp 10 3, refl, omega arith),
                  (
                    (
                      code_bit Lsp 9 3,
                      refl,
                      omega
                          arith,
                    ),
                    (
                      (code_bit Lsp 8 3, refl, omega arith),
                      (
                        (code_bit Lsp 7 3, refl, omega arith),
                        (
                          (code_bit Lsp 6 3, refl, omega arith),
                          (
                            (
                              code_bit
                                  Lsp 5 3,
                              refl,
                              omega arith,
                            ),
                            (
                              (code_bit Lsp 4 3, refl, omega arith),
                              (
                                (code_bit Lsp 3 3, refl, omega arith),
                                (
                                  (
                                    code_bit Lsp 2 3,
                                    refl,
                                    omega
                                        arith,
                                  ),
                                  ((code_bit Lsp 1 3, refl, omega arith), tt),
                                ),
                              ),
                            ),
                          ),
                        ),
                      ),
                    ),
                  ),
                ),
              ),
            ),
          ),
        ),
      ),
    ),
  ),
)
