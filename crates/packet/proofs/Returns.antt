-- What the packet of some codes holds, and that a packet holds one record at most.
use Rattle.std.proofs.Common.{◌≡◌, ◌≢◌, ℕ, ◌+◌, ◌*◌, ◌<◌, ◌≤◌, List, nat_lt, [], ◌∷◌, Some, slice_index, inl, inr, sym, ◌∙◌, ap, arith}
use Rattle.std.proofs.lemmas.Bool.{cases_lt, cond-true, cond-false, lt-ltb, le-ltb}
use Rattle.std.proofs.lemmas.List.{ext_get_or, get_or_append_left}
use Rattle.service.specs.declared.rates.Rate.{Rate}
use Rattle.service.specs.declared.rates.Rate.TheVariants.{Full, Half, Quarter, Eighth}
use Rattle.service.specs.Rates.{rate_is}
use Rattle.packet_layout.specs.declared.code_bits.CodeName.{CodeName}
use Rattle.packet_layout.specs.declared.code_bits.CodeName.TheVariants.{Pcb}
use Rattle.packet_layout.specs.declared.code_bits.CodeBit.{CodeBit}
use Rattle.packet_layout.specs.CodeBits.{Has, bits_at, code_bit, count, width, first, index}
use Rattle.packet_layout.specs.Layouts.{at, layout}
use Rattle.packet_layout.proofs.Laws.{at_each_rate}
use Rattle.packet_layout.proofs.Names.{index_lt_pcb, most}
use Rattle.packet_layout.proofs.Once.{place_lt}
use Rattle.packet.specs.declared.codes.CodeNumbers.{CodeNumbers}
use Rattle.packet.specs.Bits.{bit, bit_at, value}
use Rattle.packet.specs.Calls.{Holds, packet}
use Rattle.packet.specs.CheckBits.{pcb_of}
use Rattle.packet.specs.Codes.{in_order, list_of}
use Rattle.packet.specs.Laws.{OneRecordInEachPacket}
use Rattle.packet.specs.Codes.{Sized}
use Rattle.packet.proofs.Arrays.{all_fit, at_name, codes_length, codes_of, in_order_length, same_codes}
use Rattle.packet.proofs.Carried.{carried_some}
use Rattle.packet.proofs.Held.{some_record}
use Rattle.packet.proofs.Numbers.{same_bits}
use Rattle.packet.proofs.Packets.{packet_bit}

-- a bit that a code has at the rate is one of its code bits
has_bit : (rate : Rate) (name : CodeName) (i b : ℕ) → b < bits_at rate name i → Has rate (code_bit name (i + 1) b)
has_bit rate name i b h =
    elim (cases_lt i (count rate name)) [
      | inl less ↦
          let w = cond-true (nat_lt i (count rate name)) (width rate name) 0 (lt-ltb i (count rate name) less) in
          record { from = omega arith; to = omega arith; bit = omega (arith, w) }
      | inr past ↦
          let w = cond-false (nat_lt i (count rate name)) (width rate name) 0 (le-ltb i (count rate name) past) in
          absurd (omega (arith, w))
    ]

-- a code bit but PCB's is the same whatever PCB is
pub value_of_codes : (rate : Rate) (c : CodeNumbers) (pcb : ℕ) → Sized c → (b : CodeBit) → Has rate b → b.name ≢ Pcb
    → value (list_of c pcb) (Some b) ≡ value (in_order c) (Some b)
value_of_codes rate c pcb size b has other =
    ap (λ n. bit n b.bit) (get_or_append_left (in_order c) (pcb ∷ []) 0 (index b) (omega (arith, in_order_length c size, index_lt_pcb rate b has other)))

-- the bits of a packet fit its bytes
pub room : (rate : Rate) → (rate_is rate).bits ≤ 8 * (rate_is rate).bytes
room rate = elim rate as (λ r. (rate_is r).bits ≤ 8 * (rate_is r).bytes) [ Full ↦ omega arith | Half ↦ omega arith | Quarter ↦ omega arith | Eighth ↦ omega arith ]

-- each code bit that the packet carries is that of the codes
pub packet_holds : (rate : Rate) (c : CodeNumbers) → Sized c → (k : ℕ) (b : CodeBit) → at (layout rate) k ≡ Some b → b.name ≢ Pcb
    → value (in_order c) (Some b) ≡ bit_at (packet rate c) k
packet_holds rate c size k b e other =
    let law = at_each_rate rate in
    let list = list_of c (pcb_of rate c) in
    sym (packet_bit rate list k (omega (arith, place_lt (layout rate) k b e, law.bits, room rate)) ∙ carried_some rate list k b e ∙ value_of_codes rate c (pcb_of rate c) size b (law.carried k b e) other)

module _ (rate : Rate) (bytes : List ℕ) (c d : CodeNumbers) (c-holds : Holds rate bytes c) (d-holds : Holds rate bytes d) where
  same_bit : (name : CodeName) (i b : ℕ) → name ≢ Pcb → i < most name → b < bits_at rate name i → bit (slice_index (codes_of name d) i) b ≡ bit (slice_index (codes_of name c) i) b
  same_bit name i b other h hb =
      let cb = code_bit name (i + 1) b in
      let has : Has rate cb = has_bit rate name i b hb in
      let (k, e, one) = (at_each_rate rate).once cb has in
      let at_i : index cb ≡ first name + i = omega arith in
      let both : value (in_order d) (Some cb) ≡ value (in_order c) (Some cb) = d-holds.bits k cb e other ∙ sym (c-holds.bits k cb e other) in
      ap (λ n. bit n b) (sym (ap (slice_index (in_order d)) at_i ∙ at_name d d-holds.within.sized name i other h))
      ∙ both
      ∙ ap (λ n. bit n b) (ap (slice_index (in_order c)) at_i ∙ at_name c c-holds.within.sized name i other h)

  same_name : (name : CodeName) → name ≢ Pcb → codes_of name d ≡ codes_of name c
  same_name name other =
      let long-d = codes_length d d-holds.within.sized name other in
      let long-c = codes_length c c-holds.within.sized name other in
      ext_get_or 0 (codes_of name d) (codes_of name c) (long-d ∙ sym long-c)
      (λ i h.
      same_bits (bits_at rate name i) (slice_index (codes_of name d) i) (slice_index (codes_of name c) i)
      (all_fit rate d d-holds.within name other i h) (all_fit rate c c-holds.within name other i (omega arith))
      (λ b hb. same_bit name i b other (omega arith) hb))

  pub same : d ≡ c
  same = same_codes d c same_name

pub one_record : OneRecordInEachPacket
one_record rate bytes = record { some = some_record rate bytes; only = λ c d c-holds d-holds. same rate bytes d c d-holds c-holds }
