-- The LSP frequencies that can be sent, and the offsets that are quantized for them (IS-96, A.1.4.3.2.7).
use Rattle.std.specs.Prelude.{ℕ, Bool, ◌&&◌, List, ℤ, pos, ◌-ℤ◌, int_le, slice_index_or}
use Rattle.service.specs.FirstToFail.{AllPass, RefusedAtFirst}
use Rattle.service.specs.Refusals.{Answer}
use Rattle.lsp.specs.Decay.{decay}
use Rattle.lsp.specs.States.{bias}
use Rattle.lsp.specs.Ten.{ten}

-- the frequency, in grains, of the LSP at an index
abbrev pub frequency_at : List ℤ → ℕ → ℤ
frequency_at frequencies i = slice_index_or frequencies i (pos 0)

-- the highest frequency that can be sent, one half of the sampling frequency
abbrev pub max_frequency : ℤ
max_frequency = pos 5406720000

-- a frequency that can be sent
abbrev pub frequency_allowed : ℤ → Bool
frequency_allowed f = int_le (pos 0) f && int_le f max_frequency

-- each of the ten frequencies can be sent
abbrev pub FrequenciesAllowed : List ℤ → Type 0
FrequenciesAllowed frequencies = AllPass 10 (λ i. frequency_allowed (frequency_at frequencies i))

-- refusal 10 of the first of the ten LSPs whose frequency cannot
abbrev pub RefusesFrequencies : List ℤ → Answer → Type 0
RefusesFrequencies frequencies answer =
    RefusedAtFirst 10 10 (λ i. frequency_allowed (frequency_at frequencies i)) answer

-- what is quantized, of frequencies and memories: frequency - bias - D(memory)
abbrev pub offsets : List ℤ → List ℤ → List ℤ
offsets frequencies m = ten (λ i. frequency_at frequencies i -ℤ bias i -ℤ decay (slice_index_or m i (pos 0)))
