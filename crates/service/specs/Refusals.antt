-- The eighteen refusals: the number that a caller sees, and the place that it carries.
use Rattle.std.specs.Prelude.{ℕ, Some, None, Option}
use Rattle.service.specs.declared.refusals.Fault.{Fault}
use Rattle.service.specs.declared.refusals.Fault.TheVariants.{Size, LengthField, RecordCount, Offsets, UnknownCategory}
use Rattle.service.specs.declared.refusals.Fault.TheVariants.{Length, Reserved, PastEnd, SpareBits}
use Rattle.service.specs.declared.refusals.Refusal.{Refusal}
use Rattle.service.specs.declared.refusals.Refusal.TheVariants.{Faulty, Frequency, Pitch, Codebook, Draws, LineFull}
use Rattle.service.specs.declared.refusals.Refusal.TheVariants.{NoArrival, ShortBuffer, Codes, UnlawfulReel}

-- a place is a record for 5 to 9, an LSP for 10 and a subframe for 11 and 12
pub record Answer : Type 0 where
  pub number : ℕ
  pub place : Option ℕ

abbrev pub refused : ℕ → Answer
refused n = record { number = n; place = None }

abbrev pub refused_at : ℕ → ℕ → Answer
refused_at n p = record { number = n; place = Some p }

-- what each fault of a reel, an arrival or a packet is answered with
abbrev pub fault_is : Fault → Answer
fault_is Size = refused 1
fault_is LengthField = refused 2
fault_is RecordCount = refused 3
fault_is Offsets = refused 4
fault_is (UnknownCategory k) = refused_at 5 k
fault_is (Length k) = refused_at 6 k
fault_is (Reserved k) = refused_at 7 k
fault_is (PastEnd k) = refused_at 8 k
fault_is (SpareBits k) = refused_at 9 k

-- what each refusal is answered with
abbrev pub refusal_is : Refusal → Answer
refusal_is (Faulty f) = fault_is f
refusal_is (Frequency i) = refused_at 10 i
refusal_is (Pitch s) = refused_at 11 s
refusal_is (Codebook s) = refused_at 12 s
refusal_is Draws = refused 13
refusal_is LineFull = refused 14
refusal_is NoArrival = refused 15
refusal_is ShortBuffer = refused 16
refusal_is Codes = refused 17
refusal_is UnlawfulReel = refused 18
