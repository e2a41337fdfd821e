use Rattle.std.proofs.Common.{◌≡◌, true, ℕ, ◌<◌, ◌≤◌, length, slice_index}
use Rattle.figures.specs.Pitch.{pair_at, pitch_allowed, pitch_codes}
use Rattle.figures.proofs.pitch.encode_pitches.Given as goal

-- the subframes before i are encoded, and from i on the codes are 0
abbrev pub invariant-loop-i : goal.invariant-loop-i
invariant-loop-i l = record {
  most : l.i-end ≤ 4;
  plags : length l.plag ≡ 4;
  pgains : length l.pgain ≡ 4;
  allowed : (k : ℕ) → k < l.i → pitch_allowed (pair_at l.pairs k) ≡ true;
  plag : (k : ℕ) → k < l.i → slice_index l.plag k ≡ (pitch_codes (pair_at l.pairs k)).0;
  pgain : (k : ℕ) → k < l.i → slice_index l.pgain k ≡ (pitch_codes (pair_at l.pairs k)).1;
  past-plag : (k : ℕ) → l.i ≤ k → slice_index l.plag k ≡ 0;
  past-pgain : (k : ℕ) → l.i ≤ k → slice_index l.pgain k ≡ 0;
}
