-- The check bits of a packet of codes are right, and a packet with right check bits is the one of the codes that it holds.
use Rattle.std.proofs.Common.{◌≡◌, ℕ, ◌+◌, ◌-◌, ◌*◌, ◌/◌, ◌%◌, ◌^◌, ◌<◌, List, [], Some, slice_index, slice_get, sym, ◌∙◌, ap, ap₂, subst, arith}
use Rattle.std.specs.Int.Bits.{bit_xor, xor_assoc, xor_block, xor_lt, xor_self, xor_zero_r}
use Rattle.std.proofs.Math.Seq.{get_or-append_seam}
use Rattle.service.specs.declared.rates.Rate.{Rate}
use Rattle.service.specs.declared.rates.Rate.TheVariants.{Full, Half, Quarter, Eighth}
use Rattle.cyclic.specs.Words.{sent, message, RightCheckBits}
use Rattle.cyclic.proofs.Sent.{right_sent, sent_right}
use Rattle.packet_layout.specs.declared.code_bits.CodeName.TheVariants.{Pcb}
use Rattle.packet_layout.specs.CodeBits.{code_bit, first}
use Rattle.packet_layout.specs.Guarded.{guarded, guarded_bits, guarded_code_bits}
use Rattle.packet_layout.specs.Layouts.{at, layout}
use Rattle.packet_layout.specs.Laws.{place}
use Rattle.packet_layout.proofs.Laws.{at_each_rate, guarded_front, guarded_have, guarded_pcb, guarded_places, guarded_some}
use Rattle.packet.specs.declared.codes.CodeNumbers.{CodeNumbers}
use Rattle.packet.specs.Bits.{bit, bit_at, number_of, value}
use Rattle.packet.specs.Calls.{Holds, packet}
use Rattle.packet.specs.CheckBits.{RightPacket, inversion, message_of, transmitted, word_of}
use Rattle.packet.specs.Codes.{in_order, list_of}
use Rattle.packet.specs.Codes.{Sized}
use Rattle.packet.proofs.Arrays.{in_order_length}
use Rattle.packet.proofs.Carried.{carried_is}
use Rattle.packet.proofs.Packets.{packet_bit}
use Rattle.packet.proofs.Numbers.{bit_lt, bit_of_number, number_again, number_lt, number_same, number_split}

-- the bits of a packet at the guarded places, as a word has them
abbrev received : List ℕ → ℕ → ℕ
received bytes i = bit_at bytes (place Full (slice_index guarded_bits i))

received_lt : (bytes : List ℕ) (i : ℕ) → received bytes i < 2
received_lt bytes i = bit_lt (slice_index bytes (place Full (slice_index guarded_bits i) / 8)) (7 - place Full (slice_index guarded_bits i) % 8)

-- the first 18 of them, and the last eleven
abbrev upper : List ℕ → ℕ
upper bytes = number_of (received bytes) 18

abbrev lower : List ℕ → ℕ
lower bytes = number_of (λ i. received bytes (18 + i)) 11

upper_lt : (bytes : List ℕ) → upper bytes < 2 ^ 18
upper_lt bytes = number_lt (received bytes) (received_lt bytes) 18

lower_lt : (bytes : List ℕ) → lower bytes < 2 ^ 11
lower_lt bytes = number_lt (λ i. received bytes (18 + i)) (λ i. received_lt bytes (18 + i)) 11

-- the inversion changes the last eleven alone
word_is : (bytes : List ℕ) → word_of bytes ≡ upper bytes * 2 ^ 11 + bit_xor (lower bytes) inversion
unfolding word_of
word_is bytes =
    ap (λ n. bit_xor n inversion) (number_split (received bytes) 18 11)
    ∙ xor_block 11 (upper bytes) 0 (lower bytes) inversion (lower_lt bytes) (omega arith)
    ∙ ap (λ n. n * 2 ^ 11 + bit_xor (lower bytes) inversion) (xor_zero_r (upper bytes))

twice : (n : ℕ) → bit_xor (bit_xor n inversion) inversion ≡ n
twice n = xor_assoc n inversion inversion ∙ ap (bit_xor n) (xor_self inversion) ∙ xor_zero_r n

module _ (bytes : List ℕ) where
  inverted_lt : bit_xor (lower bytes) inversion < 2 ^ 11
  inverted_lt = xor_lt 11 (lower bytes) inversion (lower_lt bytes) (omega arith)

  pub word_message : message (word_of bytes) ≡ upper bytes
  word_message = ap (λ n. n / 2 ^ 11) (word_is bytes) ∙ omega (arith, inverted_lt)

  pub word_rest : word_of bytes % 2 ^ 11 ≡ bit_xor (lower bytes) inversion
  word_rest = ap (λ n. n % 2 ^ 11) (word_is bytes) ∙ omega (arith, inverted_lt)

  pub word_lt : word_of bytes < 2 ^ 29
  word_lt = omega (arith, word_is bytes, inverted_lt, upper_lt bytes)

  -- with right check bits the eleven are those that are sent for the first 18
  pub lower_is : RightCheckBits (word_of bytes) → transmitted (upper bytes) ≡ lower bytes
  lower_is right =
      let s : word_of bytes ≡ sent (upper bytes) = right_sent (word_of bytes) word_lt right ∙ ap sent word_message in
      ap (λ n. bit_xor (n % 2 ^ 11) inversion) (sym s) ∙ ap (λ n. bit_xor n inversion) word_rest ∙ twice (lower bytes)

-- ---- a packet with right check bits

-- the bit of PCB that a place carries, if its check bits are right
module _ (bytes : List ℕ) (c : CodeNumbers) (size : Sized c) (holds : Holds Full bytes c) where
  -- the guarded code bits of the codes are those of the packet
  same_guarded : (i : ℕ) → i < 18 → received bytes i ≡ value (in_order c) (slice_get guarded_code_bits i)
  same_guarded i h =
      let (b, e, low) = guarded_some i h in
      let at_place : at (layout Full) (place Full (slice_index guarded_bits i)) ≡ Some b = guarded_places i (omega arith) ∙ guarded_front i h ∙ e in
      sym (ap (value (in_order c)) e ∙ holds.bits (place Full (slice_index guarded_bits i)) b at_place (λ is. let f = ap first is in omega (arith, (guarded_have i b e).from, low)))

  pub message_is : upper bytes ≡ message_of (in_order c)
  unfolding message_of
  message_is = number_same (received bytes) (λ i. value (in_order c) (slice_get guarded_code_bits i)) 18 same_guarded

  pub right_pcb : RightCheckBits (word_of bytes) → (k j : ℕ) → j < 11 → at (layout Full) k ≡ Some (code_bit Pcb 1 j)
      → bit (transmitted (message_of (in_order c))) j ≡ bit_at bytes k
  right_pcb right k j h e =
      let p = place Full (slice_index guarded_bits (28 - j)) in
      let at_p : at (layout Full) p ≡ Some (code_bit Pcb 1 j) = guarded_places (28 - j) (omega arith) ∙ guarded_pcb j h in
      let law = at_each_rate Full in
      let (q, at_q, one) = law.once (code_bit Pcb 1 j) (law.carried k (code_bit Pcb 1 j) e) in
      let same : p ≡ k = one p at_p ∙ sym (one k e) in
      let eleven : transmitted (message_of (in_order c)) ≡ lower bytes = ap transmitted (sym message_is) ∙ lower_is bytes right in
      let i : 18 + (11 - 1 - j) ≡ 28 - j = omega arith in
      ap (λ n. bit n j) eleven ∙ bit_of_number (λ t. received bytes (18 + t)) (λ t. received_lt bytes (18 + t)) 11 j h
      ∙ ap (received bytes) i ∙ ap (bit_at bytes) same

-- ---- the packet of some codes

-- PCB is the last of the list
pub list_pcb : (c : CodeNumbers) (pcb : ℕ) → Sized c → slice_index (list_of c pcb) 35 ≡ pcb
list_pcb c pcb size = ap (slice_index (list_of c pcb)) (sym (in_order_length c size)) ∙ get_or-append_seam (in_order c) pcb [] 0

abbrev message_of_codes : CodeNumbers → ℕ
message_of_codes c = message_of (in_order c)

abbrev full_list : CodeNumbers → List ℕ
full_list c = list_of c (transmitted (message_of_codes c))

module _ (c : CodeNumbers) (size : Sized c) where
  pcb_lt : transmitted (message_of_codes c) < 2 ^ 11
  pcb_lt = xor_lt 11 (sent (message_of_codes c) % 2 ^ 11) inversion (omega arith) (omega arith)

  packed_guarded : (i : ℕ) → i < 29 → received (packet Full c) i ≡ value (full_list c) (slice_get guarded i)
  packed_guarded i h =
      let p = place Full (slice_index guarded_bits i) in
      packet_bit Full (full_list c) p (omega arith) ∙ carried_is Full (full_list c) p ∙ ap (value (full_list c)) (guarded_places i h)

  packed_lower : lower (packet Full c) ≡ transmitted (message_of_codes c)
  packed_lower =
      number_same (λ i. received (packet Full c) (18 + i)) (λ i. bit (transmitted (message_of_codes c)) (11 - 1 - i)) 11
      (λ i h.
      let j = 10 - i in
      let e : 28 - j ≡ 18 + i = omega arith in
      let at_i : slice_get guarded (18 + i) ≡ Some (code_bit Pcb 1 j) = ap (slice_get guarded) (sym e) ∙ guarded_pcb j (omega arith) in
      packed_guarded (18 + i) (omega arith) ∙ ap (value (full_list c)) at_i ∙ ap (λ n. bit n j) (list_pcb c (transmitted (message_of_codes c)) size))
      ∙ number_again (transmitted (message_of_codes c)) 11 pcb_lt

  pub packed_word : Holds Full (packet Full c) c → word_of (packet Full c) ≡ sent (message_of_codes c)
  packed_word holds =
      let sent_m : sent (message_of_codes c) / 2 ^ 11 ≡ message_of_codes c = (sent_right (message_of_codes c)).1 in
      word_is (packet Full c)
      ∙ ap₂ (λ u l. u * 2 ^ 11 + bit_xor l inversion) (message_is (packet Full c) c size holds) packed_lower
      ∙ ap (λ n. message_of_codes c * 2 ^ 11 + n) (twice (sent (message_of_codes c) % 2 ^ 11))
      ∙ omega (arith, sent_m)

pub right_packet : (rate : Rate) (c : CodeNumbers) → Sized c → Holds rate (packet rate c) c → RightPacket rate (packet rate c)
right_packet Full c size holds = subst RightCheckBits (sym (packed_word c size holds)) (sent_right (message_of (in_order c))).0
right_packet Half c size holds = tt
right_packet Quarter c size holds = tt
right_packet Eighth c size holds = tt
