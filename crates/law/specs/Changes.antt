-- To count the changes of a packet's guarded bits in its bytes is to count them in its word.
use Rattle.std.specs.Prelude.{◌≡◌, ℕ, List}
use Rattle.cyclic.specs.Words.{cyclic_bits, differing}
use Rattle.packet.specs.CheckBits.{word_of}
use Rattle.rules.specs.GuardedBits.{changed_besides_pcb0, changed_guarded}

-- two byte strings differ in as many guarded bits as their words do, with PCB[0] and without it
pub record ChangesOfWords : Type 0 where
  pub guarded : (xs ys : List ℕ) → changed_guarded xs ys ≡ differing (word_of xs) (word_of ys)
  pub besides_pcb0 :
      (xs ys : List ℕ) → changed_besides_pcb0 xs ys ≡ differing (cyclic_bits (word_of xs)) (cyclic_bits (word_of ys))
