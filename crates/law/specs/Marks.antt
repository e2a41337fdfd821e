-- Worked examples of the rules, about the definitions that the contracts cite.
use Rattle.std.specs.Prelude.{◌≡◌, ℕ, ◌%◌, ◌^◌, ◌<◌, true, List, [], ◌∷◌, ◌++◌, replicate, pos, negsuc, Some, Option}
use Rattle.service.specs.declared.rates.Rate.{Rate}
use Rattle.service.specs.declared.rates.Rate.TheVariants.{Full, Eighth}
use Rattle.service.specs.declared.categories.Category.TheVariants.{Suspect}
use Rattle.service.specs.declared.readings.Letter.{Letter}
use Rattle.service.specs.declared.readings.Letter.TheVariants.{P, S, D}
use Rattle.lsp.specs.Decay.{decay}
use Rattle.lsp.specs.Quantizers.{code_of, value_of}
use Rattle.cyclic.specs.Words.{sent}
use Rattle.packet.specs.declared.codes.CodeNumbers.{CodeNumbers}
use Rattle.packet.specs.Calls.{packet}
use Rattle.packet.specs.Changes.{with_bit_changed}
use Rattle.packet.specs.CheckBits.{message_of}
use Rattle.packet.specs.Codes.{in_order}
use Rattle.figures.specs.Codebook.{figure_of_codes, sends_index_and_sign}
use Rattle.rules.specs.Readings.{Reading, Reads}
use Rattle.rules.specs.Sending.{cbseed_of, drawn}

-- the codes of a frame with all codes 0, but for CBGAIN 8
abbrev pub only_cbgain8 : ℕ → CodeNumbers
only_cbgain8 n = record {
  lsp = replicate 10 0;
  pitch = record { plag = replicate 4 0; pgain = replicate 4 0 };
  codebook = record { cbindex = replicate 8 0; cbgain = replicate 7 0 ++ (n ∷ []) };
  cbseed = 0;
}

-- the packet at Rate 1 of all codes 0
abbrev pub packet_of_zeros : List ℕ
packet_of_zeros = packet Full (only_cbgain8 0)

-- a suspect packet of these bytes gets this letter, and no other
pub record SuspectGets (l : Letter) (bytes : List ℕ) : Type 0 where
  pub reading : Option Reading
  pub read : Reads Suspect bytes l reading
  pub only : (l' : Letter) (x : Option Reading) → Reads Suspect bytes l' x → l' ≡ l

-- the eight worked examples
pub record WorkedExamples : Type 0 where
  -- D(16) = 15, D(-16) = -14 and D(-1) = -1; negsuc n is -(n + 1)
  pub decays : (decay (pos 16) ≡ pos 15) × (decay (negsuc 15) ≡ negsuc 13) × (decay (negsuc 0) ≡ negsuc 0)
  -- LSP1 at Rate 1: v(0) = -270,336,000 and v(15) = 270,336,000
  pub values : (value_of Full 0 0 ≡ negsuc 270335999) × (value_of Full 0 15 ≡ pos 270336000)
  -- at Rate 1/8, for each LSP, offset 0 has code 1 and offset -1 has code 0
  pub codes : (i : ℕ) → i < 10 → (code_of Eighth i (pos 0) ≡ 1) × (code_of Eighth i (negsuc 0) ≡ 0)
  -- SD 40481 gives 53804, and CBSEED 1001 in binary
  pub seed : (drawn 1 40481 ≡ 53804) × (cbseed_of 53804 ≡ 0b1001)
  -- at Rate 1 the packet of all codes 0 has bytes 11 to 20 each 10 hexadecimal, and the others 00
  pub zeros : packet_of_zeros ≡ replicate 11 0 ++ (replicate 10 0x10 ++ (0 ∷ []))
  -- with only CBGAIN8[1] set, PCB[10], [9], [7], [6], [4], [1] and [0] are 1 before inversion
  pub check_bits : sent (message_of (in_order (only_cbgain8 0b010))) % 2 ^ 11 ≡ 0b110_1101_0011
  -- at each rate with an index, CBINDEX 0 with CBGAIN 4 is index 39, and CBINDEX 89 with CBGAIN 7 is index 0
  pub indexes :
      (rate : Rate) → sends_index_and_sign rate ≡ true
      → ((figure_of_codes rate 0 4).index ≡ Some 39) × ((figure_of_codes rate 89 7).index ≡ Some 0)
  -- the packet of all codes 0 as suspect: bit 87 changed gives S, bit 0 changed gives P, both changed give D
  pub suspect :
      SuspectGets S (with_bit_changed 87 packet_of_zeros) × SuspectGets P (with_bit_changed 0 packet_of_zeros)
      × SuspectGets D (with_bit_changed 0 (with_bit_changed 87 packet_of_zeros))
