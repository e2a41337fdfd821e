-- What the rules of reading say of the packet of some codes with a bit changed: one of the 28, PCB[0], or both.
use Rattle.std.proofs.Common.{◌≡◌, ◌≢◌, ℕ, ◌+◌, ◌-◌, ◌/◌, ◌%◌, ◌^◌, ◌<◌, true, List, length, bit_xor, slice_index, Some, inl, inr, refl, sym, ap, subst, ◌∙◌, arith}
use Rattle.std.specs.Int.Bits.{xor_shr, xor_zero_r}
use Rattle.std.proofs.lemmas.Bool.{cases_eq}
use Rattle.service.specs.declared.rates.Rate.TheVariants.{Full as Rate1}
use Rattle.service.specs.declared.categories.Category.TheVariants.{Full, Suspect}
use Rattle.cyclic.specs.Polynomials.{rem}
use Rattle.cyclic.specs.Words.{Corrects, RightCheckBits, cyclic_bits, parity, syndrome}
use Rattle.cyclic.proofs.Changes.{cyclic_bits-corrected, ones_both, ones_pow}
use Rattle.cyclic.proofs.Linear.{rem-xor}
use Rattle.cyclic.proofs.Readings.{points_not_zero}
use Rattle.cyclic.proofs.Sent.{sent_right}
use Rattle.packet_layout.specs.declared.code_bits.CodeName.TheVariants.{Pcb}
use Rattle.packet_layout.specs.CodeBits.{code_bit}
use Rattle.packet_layout.specs.Guarded.{guarded_bits}
use Rattle.packet_layout.specs.Layouts.{at, layout}
use Rattle.packet_layout.specs.Laws.{place}
use Rattle.packet_layout.proofs.Laws.{guarded_pcb, guarded_places}
use Rattle.packet_layout.proofs.Once.{same_some}
use Rattle.packet.specs.declared.codes.CodeNumbers.{CodeNumbers}
use Rattle.packet.specs.Calls.{Holds, Lawful, packet}
use Rattle.packet.specs.CheckBits.{message_of, word_of}
use Rattle.packet.specs.Codes.{Within, in_order}
use Rattle.packet.proofs.Packets.{each_bit}
use Rattle.packet.proofs.Trips.{guarded_word, unpacking_returns}
use Rattle.rules.specs.Arrivals.{is_lawful}
use Rattle.rules.proofs.Lawful.{are_bytes_of, lawful_of}
use Rattle.packet.proofs.Changed.{change_elsewhere, guarded_small, one_bit_changed, word_changed, word_corrected}
use Rattle.packet.specs.Changes.{bit_of_power, corrected_packet, with_bit_changed}

-- ---- any packet of 22 bytes

-- one bit more or less: the parity is the other one
other_parity : (w p : ℕ) → parity (bit_xor w (2 ^ p)) ≡ (parity w + 1) % 2
other_parity w p = let u = ones_both w (2 ^ p) in let v = ones_pow p in omega arith

last_guarded : slice_index guarded_bits 28 ≡ 0
unfolding guarded_bits
last_guarded = refl

module _ (xs : List ℕ) (long : length xs ≡ 22) where
  pub corrected_parity : (p : ℕ) → p < 28 → parity (word_of (corrected_packet p xs)) ≡ (parity (word_of xs) + 1) % 2
  corrected_parity p h = ap parity (word_corrected xs p long h) ∙ other_parity (word_of xs) (p + 1)

  pub corrected_syndrome : (p : ℕ) → p < 28 → syndrome (word_of (corrected_packet p xs)) ≡ bit_xor (syndrome (word_of xs)) (rem (2 ^ p))
  corrected_syndrome p h =
      ap syndrome (word_corrected xs p long h) ∙ ap rem (cyclic_bits-corrected (word_of xs) p) ∙ rem-xor (cyclic_bits (word_of xs)) (2 ^ p)

  pub corrected_back : (p : ℕ) → p < 28 → corrected_packet p (corrected_packet p xs) ≡ xs
  corrected_back p h = (one_bit_changed xs (bit_of_power p) long (guarded_small (27 - p) (omega arith))).back

  pub corrected_length : (p : ℕ) → p < 28 → length (corrected_packet p xs) ≡ 22
  corrected_length p h = (one_bit_changed xs (bit_of_power p) long (guarded_small (27 - p) (omega arith))).size ∙ long

  pcb0_word : word_of (with_bit_changed 0 xs) ≡ bit_xor (word_of xs) (2 ^ 0)
  pcb0_word = ap (λ n. word_of (with_bit_changed n xs)) (sym last_guarded) ∙ word_changed xs 28 long (omega arith)

  pub pcb0_parity : parity (word_of (with_bit_changed 0 xs)) ≡ (parity (word_of xs) + 1) % 2
  pcb0_parity = ap parity pcb0_word ∙ other_parity (word_of xs) 0

  pub pcb0_syndrome : syndrome (word_of (with_bit_changed 0 xs)) ≡ syndrome (word_of xs)
  pcb0_syndrome = ap rem (ap (λ n. n / 2) pcb0_word ∙ xor_shr (word_of xs) 1 1 ∙ xor_zero_r (word_of xs / 2))

  pub pcb0_length : length (with_bit_changed 0 xs) ≡ 22
  pcb0_length = (one_bit_changed xs 0 long (omega arith)).size ∙ long

-- PCB[0] is not looked at
pub pcb0_holds : (xs : List ℕ) (c : CodeNumbers) → length xs ≡ 22 → Holds Rate1 xs c → Holds Rate1 (with_bit_changed 0 xs) c
unfolding with_bit_changed
pcb0_holds xs c long holds = record {
  within = holds.within;
  bits = λ k b e other. elim (cases_eq k 170) [
    | inl is ↦
        let at_last : at (layout Rate1) (place Rate1 (slice_index guarded_bits 28)) ≡ Some (code_bit Pcb 1 0) = guarded_places 28 (omega arith) ∙ guarded_pcb 0 (omega arith) in
        let same : k ≡ place Rate1 (slice_index guarded_bits 28) = is ∙ sym (ap (place Rate1) last_guarded) in
        absurd (other (ap (λ d. d.name) (same_some b (code_bit Pcb 1 0) (sym e ∙ ap (at (layout Rate1)) same ∙ at_last))))
    | inr ne ↦ holds.bits k b e other ∙ sym (change_elsewhere 170 k xs (omega arith) ne)
  ];
}

-- ---- what is lawful

-- bytes that are a lawful packet at Rate 1
pub record Fine (xs : List ℕ) : Type 0 where
  pub lawful : Lawful Rate1 xs
  pub bytes : (j : ℕ) → slice_index xs j < 256

pub fine_full : (xs : List ℕ) → Fine xs → is_lawful (record { category = Full; bytes = xs }) ≡ true
fine_full xs fine = lawful_of Full xs fine.lawful.length fine.lawful.spare (are_bytes_of xs fine.bytes)

pub fine_suspect : (xs : List ℕ) → Fine xs → is_lawful (record { category = Suspect; bytes = xs }) ≡ true
fine_suspect xs fine = fine_full xs fine

-- a change of one of the 171 bits leaves it so
pub fine_changed : (xs : List ℕ) (n : ℕ) → n < 171 → Fine xs → Fine (with_bit_changed n xs)
fine_changed xs n h fine =
    let law = one_bit_changed xs n fine.lawful.length h in
    record { lawful = law.lawful fine.lawful; bytes = law.bytes fine.bytes }

-- ---- the packet of some codes

module _ (c : CodeNumbers) (within : Within Rate1 c) where
  pub sent_size : length (packet Rate1 c) ≡ 22
  sent_size = (each_bit Rate1 c).size

  pub sent_holds : Holds Rate1 (packet Rate1 c) c
  sent_holds = (unpacking_returns Rate1 c within).holds

  pub sent_fine : Fine (packet Rate1 c)
  sent_fine = record {
    lawful = (unpacking_returns Rate1 c within).lawful;
    bytes = (each_bit Rate1 c).bytes;
  }

  right : RightCheckBits (word_of (packet Rate1 c))
  right = subst RightCheckBits (sym (guarded_word.sent c within)) (sent_right (message_of (in_order c))).0

  -- as it was sent: read by the plain rule, and as a suspect packet with letter P
  pub sent_syndrome : syndrome (word_of (packet Rate1 c)) ≡ 0
  sent_syndrome = right.0

  pub sent_is_lawful : is_lawful (record { category = Full; bytes = packet Rate1 c }) ≡ true
  sent_is_lawful = fine_full (packet Rate1 c) sent_fine

  pub sent_is_lawful_suspect : is_lawful (record { category = Suspect; bytes = packet Rate1 c }) ≡ true
  sent_is_lawful_suspect = fine_suspect (packet Rate1 c) sent_fine

  -- with PCB[0] changed: read as it is
  pub pcb0_changed_syndrome : syndrome (word_of (with_bit_changed 0 (packet Rate1 c))) ≡ 0
  pcb0_changed_syndrome = pcb0_syndrome (packet Rate1 c) sent_size ∙ right.0

  pub pcb0_changed_holds : Holds Rate1 (with_bit_changed 0 (packet Rate1 c)) c
  pcb0_changed_holds = pcb0_holds (packet Rate1 c) c sent_size sent_holds

  pub pcb0_changed_fine : Fine (with_bit_changed 0 (packet Rate1 c))
  pcb0_changed_fine = fine_changed (packet Rate1 c) 0 (omega arith) sent_fine

  pub pcb0_changed_is_lawful : is_lawful (record { category = Suspect; bytes = with_bit_changed 0 (packet Rate1 c) }) ≡ true
  pcb0_changed_is_lawful = fine_suspect (with_bit_changed 0 (packet Rate1 c)) pcb0_changed_fine

  module _ (p : ℕ) (h : p < 28) where
    -- with one of the 28 changed: read with that place corrected
    pub one_changed_corrects : Corrects (word_of (corrected_packet p (packet Rate1 c))) p
    one_changed_corrects = (
      omega (arith, corrected_parity (packet Rate1 c) sent_size p h, right.1),
      (h, sym (corrected_syndrome (packet Rate1 c) sent_size p h ∙ ap (λ s. bit_xor s (rem (2 ^ p))) right.0)),
    )

    pub one_changed_back : corrected_packet p (corrected_packet p (packet Rate1 c)) ≡ packet Rate1 c
    one_changed_back = corrected_back (packet Rate1 c) sent_size p h

    pub one_changed_holds : Holds Rate1 (corrected_packet p (corrected_packet p (packet Rate1 c))) c
    one_changed_holds = subst (λ bytes. Holds Rate1 bytes c) (sym one_changed_back) sent_holds

    -- the plain rule does not read it
    pub one_changed_syndrome : syndrome (word_of (corrected_packet p (packet Rate1 c))) ≢ 0
    one_changed_syndrome z =
        points_not_zero p (h, one_changed_corrects.1.1 ∙ z)

    pub one_changed_fine : Fine (corrected_packet p (packet Rate1 c))
    one_changed_fine = fine_changed (packet Rate1 c) (bit_of_power p) (guarded_small (27 - p) (omega arith)) sent_fine

    pub one_changed_is_lawful : is_lawful (record { category = Suspect; bytes = corrected_packet p (packet Rate1 c) }) ≡ true
    one_changed_is_lawful = fine_suspect (corrected_packet p (packet Rate1 c)) one_changed_fine

    -- with both changed: not read
    pub both_changed_syndrome : syndrome (word_of (with_bit_changed 0 (corrected_packet p (packet Rate1 c)))) ≢ 0
    both_changed_syndrome z = one_changed_syndrome (sym (pcb0_syndrome (corrected_packet p (packet Rate1 c)) one_changed_fine.lawful.length) ∙ z)

    pub both_changed_corrects_none : (q : ℕ) → Corrects (word_of (with_bit_changed 0 (corrected_packet p (packet Rate1 c)))) q → ⊥
    both_changed_corrects_none q corrects =
        omega (arith, corrects.0, pcb0_parity (corrected_packet p (packet Rate1 c)) one_changed_fine.lawful.length, one_changed_corrects.0)

    pub both_changed_fine : Fine (with_bit_changed 0 (corrected_packet p (packet Rate1 c)))
    both_changed_fine = fine_changed (corrected_packet p (packet Rate1 c)) 0 (omega arith) one_changed_fine

    pub both_changed_is_lawful : is_lawful (record { category = Suspect; bytes = with_bit_changed 0 (corrected_packet p (packet Rate1 c)) }) ≡ true
    both_changed_is_lawful = fine_suspect (with_bit_changed 0 (corrected_packet p (packet Rate1 c))) both_changed_fine
