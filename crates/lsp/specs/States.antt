-- The ten LSP memories of an end, and the frequencies that they stand for (IS-96, A.1.4.3.2.7 and A.1.4.3.3.1).
use Rattle.std.specs.Prelude.{ℕ, ◌+◌, ◌*◌, ◌<◌, List, ℤ, pos, ◌+ℤ◌, slice_index, slice_index_or, unsigned_abs}
use Rattle.service.specs.declared.rates.Rate.{Rate}
use Rattle.lsp.specs.Ten.{ten}
use Rattle.lsp.specs.Quantizers.{value_of}
use Rattle.lsp.specs.Decay.{memory_limit, decay}

-- the size that the memory of the LSP at index i never reaches
unfoldable pub bound : ℕ → ℕ
bound i = memory_limit

abbrev pub InRange : List ℤ → Type 0
InRange m = (i : ℕ) → i < 10 → unsigned_abs (slice_index_or m i (pos 0)) < bound i

-- the memories of an end that is new or restarted
abbrev pub fresh : List ℤ
fresh = ten (λ i. pos 0)

-- after a packet with these codes: v(c) + D(m)
abbrev pub updated : Rate → List ℕ → List ℤ → List ℤ
updated rate codes m = ten (λ i. value_of rate i (slice_index codes i) +ℤ decay (slice_index_or m i (pos 0)))

-- after an erasure: D(m)
abbrev pub decayed : List ℤ → List ℤ
decayed m = ten (λ i. decay (slice_index_or m i (pos 0)))

-- The bias of the LSP at index i, LSP i + 1: (i + 1) / 22 of the sampling frequency.
abbrev pub bias : ℕ → ℤ
bias i = pos ((i + 1) * 491520000)

-- bias + memory
abbrev pub frequencies : List ℤ → List ℤ
frequencies m = ten (λ i. bias i +ℤ slice_index_or m i (pos 0))
