-- The bits and bytes of the packet of a list.
use Rattle.std.proofs.Common.{◌≡◌, ℕ, ◌+◌, ◌-◌, ◌*◌, ◌/◌, ◌%◌, ◌^◌, ◌<◌, List, length, slice_index, inl, inr, sym, ◌∙◌, ap, subst, arith}
use Rattle.std.proofs.lemmas.Bool.{cases_lt}
use Rattle.std.proofs.lemmas.List.{get_or_past}
use Rattle.std.proofs.lemmas.List.FromFn.{length-map-range_with_len, get_or-map-range_with_len}
use Rattle.service.specs.declared.rates.Rate.{Rate}
use Rattle.service.specs.Rates.{rate_is}
use Rattle.packet.specs.Bits.{bit, bit_at, byte_of, carried, packet_of}
use Rattle.packet.specs.Laws.{EachBitOfAPacket}
use Rattle.packet.specs.CheckBits.{pcb_of}
use Rattle.packet.specs.Codes.{list_of}
use Rattle.packet.proofs.Carried.{carried_lt}
use Rattle.packet.proofs.Numbers.{bit_of_number, number_lt}

module _ (rate : Rate) (list : List ℕ) where
  pub packet_length : length (packet_of rate list) ≡ (rate_is rate).bytes
  unfolding packet_of
  packet_length = length-map-range_with_len (byte_of rate list) 0 (rate_is rate).bytes

  pub byte_at : (j : ℕ) → j < (rate_is rate).bytes → slice_index (packet_of rate list) j ≡ byte_of rate list j
  unfolding packet_of
  byte_at j h = get_or-map-range_with_len (byte_of rate list) 0 (rate_is rate).bytes j j 0 h (omega arith)

  pub byte_lt : (j : ℕ) → byte_of rate list j < 2 ^ 8
  unfolding byte_of
  byte_lt j = number_lt (λ t. carried rate list (8 * j + t)) (λ t. carried_lt rate list (8 * j + t)) 8

  pub byte_bit : (j b : ℕ) → b < 8 → bit (byte_of rate list j) b ≡ carried rate list (8 * j + (7 - b))
  unfolding byte_of
  byte_bit j b h = bit_of_number (λ t. carried rate list (8 * j + t)) (λ t. carried_lt rate list (8 * j + t)) 8 b h

  -- each bit of the packet
  pub packet_bit : (k : ℕ) → k < 8 * (rate_is rate).bytes → bit_at (packet_of rate list) k ≡ carried rate list k
  packet_bit k h =
      ap (λ n. bit n (7 - k % 8)) (byte_at (k / 8) (omega arith)) ∙ byte_bit (k / 8) (7 - k % 8) (omega arith) ∙ ap (carried rate list) (omega arith)

  -- no byte is above 255
  pub packet_byte : (j : ℕ) → slice_index (packet_of rate list) j < 256
  packet_byte j =
      elim (cases_lt j (rate_is rate).bytes) [
        | inl less ↦ subst (λ n. n < 256) (sym (byte_at j less)) (byte_lt j)
        | inr past ↦ subst (λ n. n < 256) (sym (get_or_past (packet_of rate list) j 0 (omega (arith, packet_length)))) (omega arith)
      ]

pub each_bit : EachBitOfAPacket
each_bit rate c = let list = list_of c (pcb_of rate c) in record { size = packet_length rate list; bits = packet_bit rate list; bytes = packet_byte rate list }
