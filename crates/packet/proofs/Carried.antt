-- What the places of a packet carry of a list of codes.
use Rattle.std.proofs.Common.{◌≡◌, ℕ, ◌+◌, ◌*◌, ◌^◌, ◌<◌, ◌≤◌, List, [], ◌∷◌, ◌++◌, map, drop, length, get_or, Option, Some, None, slice_index, slice_set, set, refl, sym, ◌∙◌, ap, arith}
use Rattle.std.specs.List.{range_with_len}
use Rattle.std.proofs.lemmas.List.FromFn.{length-map-range_with_len, map-range_with_len_more}
use Rattle.std.proofs.lemmas.List.{drop_more, set_at, append_assoc}
use Rattle.std.proofs.Math.Pow.{pow_mono}
use Rattle.service.specs.declared.rates.Rate.{Rate}
use Rattle.packet_layout.specs.declared.code_bits.CodeBit.{CodeBit}
use Rattle.packet_layout.specs.CodeBits.{index}
use Rattle.packet_layout.specs.Layouts.{at, layout}
use Rattle.packet_layout.specs.Laws.{EachCodeBitOnce}
use Rattle.packet_layout.proofs.Names.{index_lt as has_index_lt, bit_lt as has_bit_lt}
use Rattle.service.specs.Rates.{rate_is}
use Rattle.packet.specs.Bits.{byte_of, packet_of, carried, number_of, value}
use Rattle.packet.proofs.Numbers.{bit_lt, number_lt, number_more, number_none}

pub carried_is : (rate : Rate) (list : List ℕ) (k : ℕ) → carried rate list k ≡ value list (at (layout rate) k)
unfolding carried
carried_is rate list k = refl

pub carried_some : (rate : Rate) (list : List ℕ) (k : ℕ) (c : CodeBit) → at (layout rate) k ≡ Some c → carried rate list k ≡ value list (Some c)
unfolding carried
carried_some rate list k c e = ap (value list) e

pub carried_none : (rate : Rate) (list : List ℕ) (k : ℕ) → at (layout rate) k ≡ None → carried rate list k ≡ 0
unfolding carried
carried_none rate list k e = ap (value list) e

pub index_lt : (rate : Rate) (k : ℕ) (c : CodeBit) → EachCodeBitOnce rate (layout rate) → at (layout rate) k ≡ Some c → index c < 36
index_lt rate k c law e = has_index_lt rate c (law.carried k c e)

pub number_of_bit_lt : (rate : Rate) (k : ℕ) (c : CodeBit) → EachCodeBitOnce rate (layout rate) → at (layout rate) k ≡ Some c → c.bit < 11
number_of_bit_lt rate k c law e = has_bit_lt rate c (law.carried k c e)

pub value_lt : (list : List ℕ) (o : Option CodeBit) → value list o < 2
value_lt list None = omega arith
value_lt list (Some c) = bit_lt (slice_index list (index c)) c.bit

pub carried_lt : (rate : Rate) (list : List ℕ) (k : ℕ) → carried rate list k < 2
unfolding carried
carried_lt rate list k = value_lt list (at (layout rate) k)

-- the number of the first n bits of a byte
unfoldable pub first_bits : Rate → List ℕ → ℕ → ℕ → ℕ
first_bits rate list j n = number_of (λ t. carried rate list (8 * j + t)) n

module _ (rate : Rate) (list : List ℕ) (j : ℕ) where
  pub bits_none : first_bits rate list j 0 ≡ 0
  unfolding first_bits
  bits_none = number_none (λ t. carried rate list (8 * j + t))

  pub bits_more : (n : ℕ) → first_bits rate list j (n + 1) ≡ first_bits rate list j n * 2 + carried rate list (8 * j + n)
  unfolding first_bits
  bits_more n = number_more (λ t. carried rate list (8 * j + t)) n

  pub bits_lt : (n : ℕ) → n < 8 → first_bits rate list j n < 128
  unfolding first_bits
  bits_lt n h = let m : 2 ^ n ≤ 2 ^ 7 = pow_mono {j = 7} (omega arith) in omega (arith, number_lt (λ t. carried rate list (8 * j + t)) (λ t. carried_lt rate list (8 * j + t)) n)

  pub byte_is : byte_of rate list j ≡ first_bits rate list j 8
  unfolding byte_of first_bits
  byte_is = refl

-- a buffer whose first i bytes are those of the packet, and the rest as it was
unfoldable pub filled : Rate → List ℕ → List ℕ → ℕ → List ℕ
filled rate list out i = map (byte_of rate list) (range_with_len 0 i) ++ drop i out

module _ (rate : Rate) (list out : List ℕ) where
  pub filled_none : filled rate list out 0 ≡ out
  unfolding filled
  filled_none = refl

  pub filled_more : (i : ℕ) → i < length out → slice_set (filled rate list out i) i (byte_of rate list i) ≡ filled rate list out (i + 1)
  unfolding filled
  filled_more i h =
      let front = map (byte_of rate list) (range_with_len 0 i) in
      ap (λ rest. set (front ++ rest) i (byte_of rate list i)) (drop_more out i 0 h)
      ∙ set_at front (get_or out i 0) (drop (i + 1) out) (byte_of rate list i) i (length-map-range_with_len (byte_of rate list) 0 i)
      ∙ sym (append_assoc front (byte_of rate list i ∷ []) (drop (i + 1) out))
      ∙ ap (λ l. l ++ drop (i + 1) out) (sym (map-range_with_len_more (byte_of rate list) 0 i i (omega arith)))

  pub filled_all : (i n : ℕ) → i ≤ n → n ≤ i → n ≡ (rate_is rate).bytes → filled rate list out i ≡ packet_of rate list ++ drop n out
  unfolding filled packet_of
  filled_all i n less more e = let same : i ≡ n = omega arith in rw (same, e) refl
