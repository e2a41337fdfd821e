-- Packing and unpacking undo one another.
use Rattle.std.proofs.Common.{◌≡◌, ◌≢◌, ℕ, zero, suc, ◌+◌, ◌-◌, ◌*◌, ◌/◌, ◌%◌, ◌<◌, ◌≤◌, false, not, ◌==◌, List, Some, Option, None, slice_index, inl, inr, refl, sym, ◌∙◌, ap, arith, Result, MatchResult, Ok, Err, false}
use Rattle.std.proofs.lemmas.Bool.{cases_lt, false≢true}
use Rattle.std.proofs.lemmas.Bool.Decides.{nat_tests}
use Rattle.std.proofs.lemmas.List.{ext_get_or}
use Rattle.service.specs.declared.rates.Rate.{Rate}
use Rattle.service.specs.declared.rates.Rate.TheVariants.{Full, Half, Quarter, Eighth}
use Rattle.service.specs.Categories.{category_of}
use Rattle.service.specs.Rates.{rate_is}
use Rattle.service.specs.Tests.{spare_bits_set}
use Rattle.packet_layout.specs.declared.code_bits.CodeName.TheVariants.{Pcb}
use Rattle.packet_layout.specs.declared.code_bits.CodeBit.{CodeBit}
use Rattle.packet_layout.specs.CodeBits.{code_bit, first, index}
use Rattle.packet_layout.specs.Layouts.{at, layout}
use Rattle.packet_layout.proofs.Laws.{at_each_rate}
use Rattle.packet_layout.proofs.Names.{last_is_pcb}
use Rattle.packet_layout.proofs.Once.{at_past, none_le}
use Rattle.packet.specs.declared.codes.CodeNumbers.{CodeNumbers}
use Rattle.packet.specs.Bits.{bit, bit_at, byte_of, value}
use Rattle.packet.specs.Calls.{Holds, Lawful, packet}
use Rattle.packet.specs.CheckBits.{RightPacket, pcb_of}
use Rattle.packet.specs.Codes.{list_of}
use Rattle.packet.specs.Unpacking.{UnpacksCodes}
use Rattle.service.specs.declared.refusals.Fault.{Fault}
use Rattle.packet.specs.declared.codes.Codes.{Codes}
use Rattle.packet.specs.Laws.{GuardedWord, PackingReturnsThePacket, UnpackingReturnsTheCodes}
use Rattle.packet.specs.Codes.{Sized}
use Rattle.packet.proofs.Carried.{carried_is}
use Rattle.packet.proofs.Checked.{list_pcb, message_is, packed_word, right_packet, right_pcb, word_lt, word_message}
use Rattle.packet.proofs.Numbers.{same_bits}
use Rattle.packet.proofs.Packets.{byte_at, byte_bit, byte_lt, packet_length}
use Rattle.packet.proofs.Returns.{packet_holds, same, value_of_codes}

-- the spare bits are the lowest five of the last byte of a Rate 1 packet
five_low : (n b : ℕ) → n % 32 ≡ 0 → b < 5 → bit n b ≡ 0
five_low n zero e h = omega arith
five_low n (suc zero) e h = omega arith
five_low n (suc (suc zero)) e h = omega arith
five_low n (suc (suc (suc zero))) e h = omega arith
five_low n (suc (suc (suc (suc zero)))) e h = omega arith
five_low n (suc (suc (suc (suc (suc b))))) e h = absurd (omega arith)

none_set : (n : ℕ) → not (n == 0) ≡ false → n ≡ 0
none_set n e = grind (arith, nat_tests)

zero_unset : (n : ℕ) → n ≡ 0 → not (n == 0) ≡ false
zero_unset n e = grind (arith, nat_tests)

spare_zero : (rate : Rate) (bytes : List ℕ) → Lawful rate bytes → (k : ℕ) → (rate_is rate).bits ≤ k → k < 8 * (rate_is rate).bytes → bit_at bytes k ≡ 0
spare_zero Full bytes lawful k past h =
    let e : k / 8 ≡ 21 = omega arith in
    let low : slice_index bytes 21 % 32 ≡ 0 = none_set (slice_index bytes 21 % 32) lawful.spare in
    ap (λ j. bit (slice_index bytes j) (7 - k % 8)) e ∙ five_low (slice_index bytes 21) (7 - k % 8) low (omega arith)
spare_zero Half bytes lawful k past h = absurd (omega arith)
spare_zero Quarter bytes lawful k past h = absurd (omega arith)
spare_zero Eighth bytes lawful k past h = absurd (omega arith)

-- PCB of the codes that a packet with right check bits holds is the packet's
pcb_here : (rate : Rate) (bytes : List ℕ) (c : CodeNumbers) → Sized c → Holds rate bytes c → RightPacket rate bytes
    → (k j : ℕ) → at (layout rate) k ≡ Some (code_bit Pcb 1 j) → bit (pcb_of rate c) j ≡ bit_at bytes k
pcb_here Full bytes c size holds right k j e = right_pcb bytes c size holds right k j ((at_each_rate Full).carried k (code_bit Pcb 1 j) e).bit e
pcb_here Half bytes c size holds right k j e = let l = ((at_each_rate Half).carried k (code_bit Pcb 1 j) e).to in absurd (omega arith)
pcb_here Quarter bytes c size holds right k j e = let l = ((at_each_rate Quarter).carried k (code_bit Pcb 1 j) e).to in absurd (omega arith)
pcb_here Eighth bytes c size holds right k j e = let l = ((at_each_rate Eighth).carried k (code_bit Pcb 1 j) e).to in absurd (omega arith)

module _ (rate : Rate) (bytes : List ℕ) (c : CodeNumbers) (size : Sized c) (holds : Holds rate bytes c) (lawful : Lawful rate bytes) (right : RightPacket rate bytes) where
  -- a code bit of the list is the packet's
  bit_here : (k : ℕ) (b : CodeBit) → at (layout rate) k ≡ Some b → value (list_of c (pcb_of rate c)) (Some b) ≡ bit_at bytes k
  bit_here k b e =
      let has = (at_each_rate rate).carried k b e in
      let pcb = pcb_of rate c in
      elim (cases_lt (index b) 35) [
        | inl less ↦
            let other : b.name ≢ Pcb = λ is. let f = ap first is in omega (arith, has.from, less) in
            value_of_codes rate c pcb size b has other ∙ holds.bits k b e other
        | inr past ↦
            let is : b ≡ code_bit Pcb 1 b.bit = last_is_pcb rate b has past in
            ap (λ x. value (list_of c pcb) (Some x)) is ∙ ap (λ n. bit n b.bit) (list_pcb c pcb size)
            ∙ pcb_here rate bytes c size holds right k b.bit (e ∙ ap Some is)
      ]

  place_here : (k : ℕ) (o : Option CodeBit) → k < 8 * (rate_is rate).bytes → at (layout rate) k ≡ o → value (list_of c (pcb_of rate c)) o ≡ bit_at bytes k
  place_here k None h e = sym (spare_zero rate bytes lawful k (omega (arith, none_le (layout rate) k e, (at_each_rate rate).bits)) h)
  place_here k (Some b) h e = bit_here k b e

  packed_again : ((j : ℕ) → slice_index bytes j < 256) → packet rate c ≡ bytes
  packed_again small =
      let list = list_of c (pcb_of rate c) in
      ext_get_or 0 (packet rate c) bytes (packet_length rate list ∙ sym lawful.length)
      (λ j h.
      let less : j < (rate_is rate).bytes = omega (arith, packet_length rate list) in
      byte_at rate list j less
      ∙ same_bits 8 (byte_of rate list j) (slice_index bytes j) (byte_lt rate list j) (small j)
      (λ b hb.
      let k = 8 * j + (7 - b) in
      let j-of-k : k / 8 ≡ j = omega arith in
      let b-of-k : 7 - k % 8 ≡ b = omega arith in
      byte_bit rate list j b hb ∙ carried_is rate list k ∙ place_here k (at (layout rate) k) (omega arith) refl
      ∙ ap (λ i. bit (slice_index bytes i) (7 - k % 8)) j-of-k ∙ ap (bit (slice_index bytes j)) b-of-k))

pub packing_returns : PackingReturnsThePacket
packing_returns rate bytes c small lawful right holds = packed_again rate bytes c holds.within.sized holds lawful right small

-- ---- the packet of codes of a rate

-- no bit of the last byte past those of the packet is set
packed_none : (c : CodeNumbers) (b : ℕ) → b < 5 → bit (slice_index (packet Full c) 21) b ≡ 0
packed_none c b h =
    let list = list_of c (pcb_of Full c) in
    let k = 8 * 21 + (7 - b) in
    let none : at (layout Full) k ≡ None = at_past (layout Full) k (omega (arith, (at_each_rate Full).bits)) in
    ap (λ n. bit n b) (byte_at Full list 21 (omega arith)) ∙ byte_bit Full list 21 b (omega arith) ∙ carried_is Full list k ∙ ap (value list) none

packed_spare : (rate : Rate) (c : CodeNumbers) → spare_bits_set (category_of (rate_is rate).number) (packet rate c) ≡ false
packed_spare Full c =
    let n = slice_index (packet Full c) 21 in
    zero_unset (n % 32)
    (omega (arith, packed_none c 0 (omega arith), packed_none c 1 (omega arith), packed_none c 2 (omega arith), packed_none c 3 (omega arith), packed_none c 4 (omega arith)))
packed_spare Half c = zero_unset (slice_index (packet Half c) 9 % 1) (omega arith)
packed_spare Quarter c = zero_unset (slice_index (packet Quarter c) 4 % 1) (omega arith)
packed_spare Eighth c = zero_unset (slice_index (packet Eighth c) 1 % 1) (omega arith)

-- unpacking the packet of codes answers these
unpacked : (rate : Rate) (c : CodeNumbers) → Lawful rate (packet rate c) → Holds rate (packet rate c) c → (r : Result Codes Fault) → UnpacksCodes rate (packet rate c) r
    → MatchResult r (λ d. (d.rate ≡ rate) × (d.numbers ≡ c)) (λ _. ⊥)
unpacked rate c lawful holds (Ok d) (e, l, h) = (e, same rate (packet rate c) c d.numbers holds h)
unpacked rate c lawful holds (Err e) (inl (a, long)) = long lawful.length
unpacked rate c lawful holds (Err e) (inr (a, long, set)) = false≢true (sym lawful.spare ∙ set)

pub unpacking_returns : UnpackingReturnsTheCodes
unpacking_returns rate c within =
    let holds : Holds rate (packet rate c) c = record { within = within; bits = packet_holds rate c within.sized } in
    let lawful : Lawful rate (packet rate c) = record { length = packet_length rate (list_of c (pcb_of rate c)); spare = packed_spare rate c } in
    record {
      lawful = lawful;
      right = right_packet rate c within.sized holds;
      holds = holds;
      only = λ d d-holds. same rate (packet rate c) c d holds d-holds;
      answer = unpacked rate c lawful holds;
    }

pub guarded_word : GuardedWord
guarded_word = record {
  bits = word_lt;
  message = λ bytes c holds. word_message bytes ∙ message_is bytes c holds.within.sized holds;
  sent = λ c within. packed_word c within.sized (record { within = within; bits = packet_holds Full c within.sized });
}
