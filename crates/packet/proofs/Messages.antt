-- The guarded code bits of a list of codes.
use Rattle.std.proofs.Common.{◌≡◌, ℕ, zero, suc, ◌+◌, ◌*◌, ◌^◌, ◌<◌, ◌≤◌, Bool, true, nat_lt, ◌&&◌, List, [], ◌∷◌, ◌++◌, length, Option, Some, None, slice_get, refl, ◌∙◌, ap, ap₂, subst, arith}
use Rattle.std.proofs.lemmas.Bool.{and_parts}
use Rattle.std.proofs.lemmas.Bool.Decides.{nat_tests}
use Rattle.std.proofs.lemmas.List.{get_or_append_left, length-append}
use Rattle.packet_layout.proofs.Once.{none_some, same_some}
use Rattle.packet.specs.declared.codes.CodeNumbers.{CodeNumbers}
use Rattle.packet.specs.Codes.{in_order, list_of}
use Rattle.std.proofs.Math.Pow.{pow_mono}
use Rattle.packet_layout.specs.declared.code_bits.CodeBit.{CodeBit}
use Rattle.packet_layout.specs.CodeBits.{index}
use Rattle.packet_layout.specs.Guarded.{guarded_code_bits}
use Rattle.service.specs.declared.rates.Rate.TheVariants.{Full}
use Rattle.packet_layout.proofs.Laws.{guarded_have}
use Rattle.packet_layout.proofs.Names.{index_lt, bit_lt}
use Rattle.packet.specs.Bits.{bit, number_of, value}
use Rattle.packet.specs.CheckBits.{message_of}
use Rattle.packet.proofs.Carried.{value_lt}
use Rattle.packet.proofs.Numbers.{number_lt, number_more, number_none}

-- the number of the first n guarded code bits
unfoldable pub first_guarded : List ℕ → ℕ → ℕ
first_guarded list n = number_of (λ i. value list (slice_get guarded_code_bits i)) n

module _ (list : List ℕ) where
  pub guarded_none : first_guarded list 0 ≡ 0
  unfolding first_guarded
  guarded_none = number_none (λ i. value list (slice_get guarded_code_bits i))

  pub guarded_more : (n : ℕ) → first_guarded list (n + 1) ≡ first_guarded list n * 2 + value list (slice_get guarded_code_bits n)
  unfolding first_guarded
  guarded_more n = number_more (λ i. value list (slice_get guarded_code_bits i)) n

  pub guarded_lt : (n : ℕ) → n ≤ 18 → first_guarded list n < 2 ^ 18
  unfolding first_guarded
  guarded_lt n h =
      let m : 2 ^ n ≤ 2 ^ 18 = pow_mono {j = 18} (omega arith) in
      omega (arith, number_lt (λ i. value list (slice_get guarded_code_bits i)) (λ i. value_lt list (slice_get guarded_code_bits i)) n)

  pub message_is : message_of list ≡ first_guarded list 18
  unfolding message_of first_guarded
  message_is = refl

-- what packing needs to know of them
pub guarded_index : (i : ℕ) (c : CodeBit) → slice_get guarded_code_bits i ≡ Some c → index c < 36
guarded_index i c e = index_lt Full c (guarded_have i c e)

pub guarded_number : (i : ℕ) (c : CodeBit) → slice_get guarded_code_bits i ≡ Some c → c.bit < 11
guarded_number i c e = bit_lt Full c (guarded_have i c e)

-- PCB has no part in a(x)
low : List CodeBit → Bool
low [] = true
low (c ∷ cs) = nat_lt (index c) 35 && low cs

low_each : (cs : List CodeBit) → low cs ≡ true → (i : ℕ) (c : CodeBit) → slice_get cs i ≡ Some c → index c < 35
unfolding low
low_each [] t i c e = absurd (none_some c e)
low_each (d ∷ cs) t zero c e = let same = same_some d c e in let both = and_parts (nat_lt (index d) 35) (low cs) t in subst (λ x. index x < 35) same (grind (arith, nat_tests))
low_each (d ∷ cs) t (suc i) c e = low_each cs (and_parts (nat_lt (index d) 35) (low cs) t).1 i c e

guarded_low : (i : ℕ) (c : CodeBit) → slice_get guarded_code_bits i ≡ Some c → index c < 35
unfolding guarded_code_bits low
guarded_low i c e = low_each guarded_code_bits refl i c e

number_same : (f g : ℕ → ℕ) → ((i : ℕ) → f i ≡ g i) → (n : ℕ) → number_of f n ≡ number_of g n
unfolding number_of
number_same f g same zero = refl
number_same f g same (suc n) = ap₂ (λ a b. a * 2 + b) (number_same f g same n) (same n)

value_front : (codes rest : List ℕ) (o : Option CodeBit) → ((c : CodeBit) → o ≡ Some c → index c < length codes) → value (codes ++ rest) o ≡ value codes o
value_front codes rest None less = refl
value_front codes rest (Some c) less = ap (λ n. bit n c.bit) (get_or_append_left codes rest 0 (index c) (less c refl))

message_of_front : (codes rest : List ℕ) → length codes ≡ 35 → message_of (codes ++ rest) ≡ message_of codes
unfolding message_of
message_of_front codes rest long =
    number_same _ _ (λ i. value_front codes rest (slice_get guarded_code_bits i) (λ c e. omega (arith, guarded_low i c e))) 18

-- the lengths of the arrays of a frame's codes
pub in_order_length : (c : CodeNumbers) → length c.lsp ≡ 10 → length c.pitch.plag ≡ 4 → length c.pitch.pgain ≡ 4 → length c.codebook.cbindex ≡ 8 → length c.codebook.cbgain ≡ 8 → length (in_order c) ≡ 35
in_order_length c h1 h2 h3 h4 h5 = simp length-append (omega arith)

pub message_of_codes : (c : CodeNumbers) (pcb : ℕ) (list : List ℕ) → list ≡ list_of c pcb → length list ≡ 36 → message_of list ≡ message_of (in_order c)
message_of_codes c pcb list e long =
    let h : length (in_order c) ≡ 35 = omega (arith, ap length e, length-append (in_order c) (pcb ∷ [])) in
    ap message_of e ∙ message_of_front (in_order c) (pcb ∷ []) h
