-- The letters of a page: what the receiver made of an arrival. And the ends of a run of takes.
use Rattle.std.specs.Prelude.{ℕ, Bool, true, false}
use Rattle.service.specs.declared.readings.Letter.{Letter}
use Rattle.service.specs.declared.readings.Letter.TheVariants.{C, P, S, D, B, E}
use Rattle.service.specs.declared.readings.RunEnd.{RunEnd}
use Rattle.service.specs.declared.readings.RunEnd.TheVariants.{Wanted, RowsFull, SupplyEmpty}

-- what a letter says of an arrival: its codes were read, it is a blank, or it counts as an erasure
pub data Meaning : Type 0 where
  read : Meaning
  blank : Meaning
  erased : Meaning

pub record LetterValues : Type 0 where
  pub byte : ℕ  -- that a page prints for it, in ASCII
  pub meaning : Meaning

-- what each letter is
abbrev pub letter_is : Letter → LetterValues
letter_is C = record { byte = 67; meaning = read }
letter_is P = record { byte = 80; meaning = read }
letter_is S = record { byte = 83; meaning = read }
letter_is D = record { byte = 68; meaning = erased }
letter_is B = record { byte = 66; meaning = blank }
letter_is E = record { byte = 69; meaning = erased }

abbrev pub means_read : Meaning → Bool
means_read read = true
means_read blank = false
means_read erased = false

-- C, P and S are read; B is a blank, and any other letter is erased
abbrev pub is_read : Letter → Bool
is_read l = means_read (letter_is l).meaning

-- the number of each end of a run, in the order in which they are tested
abbrev pub run_end_is : RunEnd → ℕ
run_end_is Wanted = 1
run_end_is RowsFull = 2
run_end_is SupplyEmpty = 3
