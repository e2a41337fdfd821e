use Rattle.std.proofs.Common.{◌≡◌, true, ℕ, ◌<◌, ◌≤◌, length, slice_index}
use Rattle.figures.specs.Codebook.{parameter_at, codebook_allowed, codebook_codes}
use Rattle.figures.proofs.codebook.encode_codebooks.Given as goal

-- the subframes before i are encoded, and from i on the codes are 0
abbrev pub invariant-loop-i : goal.invariant-loop-i
invariant-loop-i l = record {
  most : l.i-end ≤ 8;
  cbindices : length l.cbindex ≡ 8;
  cbgains : length l.cbgain ≡ 8;
  allowed : (k : ℕ) → k < l.i → codebook_allowed l.fn.rate (parameter_at l.parameters k) ≡ true;
  cbindex : (k : ℕ) → k < l.i → slice_index l.cbindex k ≡ (codebook_codes l.fn.rate (parameter_at l.parameters k)).0;
  cbgain : (k : ℕ) → k < l.i → slice_index l.cbgain k ≡ (codebook_codes l.fn.rate (parameter_at l.parameters k)).1;
  past-cbindex : (k : ℕ) → l.i ≤ k → slice_index l.cbindex k ≡ 0;
  past-cbgain : (k : ℕ) → l.i ≤ k → slice_index l.cbgain k ≡ 0;
}
