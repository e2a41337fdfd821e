-- The LSP quantizers (IS-96, A.1.4.3.2.7 and A.1.4.3.3.1), in grains: a grain is the sampling frequency divided by
-- 10,813,440,000.
use Rattle.std.specs.Prelude.{ℕ, ◌*◌, ◌/◌, ◌<◌, ◌≤◌, List, [], ◌∷◌, ℤ, pos, ◌+ℤ◌, ◌-ℤ◌, ◌*ℤ◌, slice_index}
use Rattle.std.specs.Prelude.{slice_index_or, unsigned_abs}
use Rattle.std.specs.Int.{int_div_euclid, int_max, int_min}
use Rattle.service.specs.declared.rates.Rate.{Rate}
use Rattle.service.specs.declared.rates.Rate.TheVariants.{Full, Half, Quarter, Eighth}
use Rattle.lsp.specs.Ten.{ten}

-- the largest levels of LSP 1 to 10, in thousandths of the sampling frequency (table A.1.4.3.2.7-2)
abbrev pub levels : Rate → List ℕ
levels Full = 25 ∷ 40 ∷ 70 ∷ 70 ∷ 60 ∷ 60 ∷ 50 ∷ 50 ∷ 40 ∷ 40 ∷ []
levels Half = 15 ∷ 15 ∷ 30 ∷ 30 ∷ 30 ∷ 20 ∷ 20 ∷ 20 ∷ 20 ∷ 20 ∷ []
levels Quarter = 10 ∷ 10 ∷ 10 ∷ 10 ∷ 10 ∷ 10 ∷ 10 ∷ 10 ∷ 10 ∷ 10 ∷ []
levels Eighth = 10 ∷ 10 ∷ 10 ∷ 10 ∷ 10 ∷ 10 ∷ 10 ∷ 10 ∷ 10 ∷ 10 ∷ []

-- the top code M; the codes are 0 to M
abbrev pub top_code : Rate → ℕ
top_code Full = 15
top_code Half = 3
top_code Quarter = 1
top_code Eighth = 1

-- the half step h = level × (165 / M) × 65,536
abbrev pub half_step : Rate → ℕ → ℕ
half_step rate i = slice_index (levels rate) i * (165 / top_code rate) * 65536

-- the value of a code, v(c) = (2 × c - M) × h
abbrev pub value_of : Rate → ℕ → ℕ → ℤ
value_of rate i c = (pos (2 * c) -ℤ pos (top_code rate)) *ℤ pos (half_step rate i)

-- no value of a code is above this in size: the largest of all levels, 70 thousandths
abbrev pub largest_value : ℕ
largest_value = 70 * 165 * 65536

-- The code of an offset w: (w + M × h + h) / (2 × h) rounded down, then limited to 0 to M. So an offset midway between
-- the values of two codes has the higher code. int_div_euclid rounds down, since the divisor is above 0.
abbrev pub unlimited_code : Rate → ℕ → ℤ → ℤ
unlimited_code rate i w =
    int_div_euclid (w +ℤ pos (top_code rate * half_step rate i) +ℤ pos (half_step rate i)) (pos (2 * half_step rate i))

abbrev pub limited : Rate → ℤ → ℕ
limited rate n = unsigned_abs (int_max (pos 0) (int_min n (pos (top_code rate))))

abbrev pub code_of : Rate → ℕ → ℤ → ℕ
code_of rate i w = limited rate (unlimited_code rate i w)

-- ten codes of a rate: none is above its top code
abbrev pub Within : Rate → List ℕ → Type 0
Within rate codes = (i : ℕ) → i < 10 → slice_index codes i ≤ top_code rate

-- the values of ten codes, and the codes of ten offsets
abbrev pub values : Rate → List ℕ → List ℤ
values rate codes = ten (λ i. value_of rate i (slice_index codes i))

abbrev pub quantized : Rate → List ℤ → List ℕ
quantized rate offsets = ten (λ i. code_of rate i (slice_index_or offsets i (pos 0)))
