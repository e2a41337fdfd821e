-- The worked examples, computed.
use Rattle.std.proofs.Common.{List, Option, ◌≡◌, ℕ, Bool, ◌&&◌, eqb, subst, ◌<◌, ◌%◌, ◌^◌, true, [], ◌∷◌, ◌++◌, replicate, pos, negsuc, Some, None, refl, arith}
use Rattle.service.specs.declared.rates.Rate.{Rate}
use Rattle.service.specs.declared.rates.Rate.TheVariants.{Full, Half, Quarter, Eighth}
use Rattle.lsp.specs.Decay.{decay}
use Rattle.lsp.specs.Quantizers.{Within as LspWithin, code_of, value_of}
use Rattle.cyclic.specs.Words.{sent}
use Rattle.cyclic.specs.Polynomials.{rem}
use Rattle.packet.specs.Bits.{packet_of, byte_of, carried, number_of}
use Rattle.packet.specs.CheckBits.{message_of}
use Rattle.packet.specs.Codes.{in_order}
use Rattle.packet_layout.specs.Guarded.{guarded_bits, guarded_code_bits}
use Rattle.packet_layout.specs.Layouts.{layout}
use Rattle.figures.specs.Codebook.{figure_of_codes, sends_index_and_sign}
use Rattle.rules.specs.Sending.{cbseed_of, drawn}
use Rattle.law.specs.Marks.{SuspectGets, WorkedExamples, only_cbgain8, packet_of_zeros}
use Rattle.rules.specs.Readings.{Reading, Reads}
use Rattle.law.proofs.OneReading.{one_reading}
use Rattle.service.specs.declared.categories.Category.TheVariants.{Suspect}
use Rattle.service.specs.declared.readings.Letter.{Letter}
use Rattle.law.proofs.Silent.{reads_both_changed, reads_corrected, reads_pcb0_changed, silent_reading, silent_within, zero_at}
use Rattle.service.proofs.Computed.{all_at}
use Rattle.service.specs.declared.readings.Letter.TheVariants.{P, S, D}
use Rattle.std.proofs.lemmas.Bool.{and_parts, eqb-true}
use Rattle.packet.specs.Codes.{Within}
use Rattle.packet.specs.Changes.{bit_of_power, corrected_packet, with_bit_changed}

decays : (decay (pos 16) ≡ pos 15) × (decay (negsuc 15) ≡ negsuc 13) × (decay (negsuc 0) ≡ negsuc 0)
unfolding decay
decays = (refl, refl, refl)

values : (value_of Full 0 0 ≡ negsuc 270335999) × (value_of Full 0 15 ≡ pos 270336000)
values = (refl, refl)

seed : (drawn 1 40481 ≡ 53804) × (cbseed_of 53804 ≡ 0b1001)
unfolding drawn
seed = (refl, refl)

indexes : (rate : Rate) → sends_index_and_sign rate ≡ true → ((figure_of_codes rate 0 4).index ≡ Some 39) × ((figure_of_codes rate 89 7).index ≡ Some 0)
unfolding figure_of_codes
indexes Full h = (refl, refl)
indexes Half h = (refl, refl)
indexes Quarter h = (refl, refl)
indexes Eighth h = absurd cc

zeros : packet_of_zeros ≡ replicate 11 0 ++ (replicate 10 0x10 ++ (0 ∷ []))
unfolding packet_of byte_of carried number_of message_of guarded_code_bits layout rem lib.Count.ones
zeros = refl

check_bits : sent (message_of (in_order (only_cbgain8 0b010))) % 2 ^ 11 ≡ 0b110_1101_0011
unfolding number_of message_of guarded_code_bits rem lib.Count.ones
check_bits = refl

-- at Rate 1/8, of each LSP
abbrev codes_at_zero : ℕ → Bool
codes_at_zero i = eqb (code_of Eighth i (pos 0)) 1 && eqb (code_of Eighth i (negsuc 0)) 0

codes : (i : ℕ) → i < 10 → (code_of Eighth i (pos 0) ≡ 1) × (code_of Eighth i (negsuc 0) ≡ 0)
codes i h =
    let both = and_parts (eqb (code_of Eighth i (pos 0)) 1) (eqb (code_of Eighth i (negsuc 0)) 0) (all_at codes_at_zero 10 i refl h) in
    (eqb-true (code_of Eighth i (pos 0)) 1 both.0, eqb-true (code_of Eighth i (negsuc 0)) 0 both.1)

within : Within Full (only_cbgain8 0)
within = silent_within (replicate 10 0) refl zeros_within
  where
    zeros_within : LspWithin Full (replicate 10 0)
    zeros_within i h = omega (arith, zero_at 10 i)

-- bit 87 is x^10 of the 28
bit_87 : bit_of_power 10 ≡ 87
unfolding guarded_bits
bit_87 = refl

-- a letter that it gets is the only one
gets : (l : Letter) (bytes : List ℕ) (x : Option Reading) → Reads Suspect bytes l x → SuspectGets l bytes
gets l bytes x read = record { reading = x; read = read; only = λ l' x' read'. (one_reading.only Suspect bytes l' l x' x read' read).0 }

pub worked_examples : WorkedExamples
worked_examples = record {
  decays = decays;
  values = values;
  codes = codes;
  seed = seed;
  zeros = zeros;
  check_bits = check_bits;
  indexes = indexes;
  suspect =
      let low : 10 < 28 = omega arith in
      subst (λ n. SuspectGets S (with_bit_changed n packet_of_zeros) × SuspectGets P (with_bit_changed 0 packet_of_zeros) × SuspectGets D (with_bit_changed 0 (with_bit_changed n packet_of_zeros))) bit_87 (
        gets S (corrected_packet 10 packet_of_zeros) (Some (silent_reading (replicate 10 0))) (reads_corrected (replicate 10 0) within 10 low),
        gets P (with_bit_changed 0 packet_of_zeros) (Some (silent_reading (replicate 10 0))) (reads_pcb0_changed (replicate 10 0) within),
        gets D (with_bit_changed 0 (corrected_packet 10 packet_of_zeros)) None (reads_both_changed (replicate 10 0) within 10 low),
      );
}
