-- What the cyclic code and the overall parity bit promise.
use Rattle.std.specs.Prelude.{◌≡◌, ℕ, ◌^◌, ◌<◌, ◌≤◌, Some, None, Option, count_ones}
use Rattle.cyclic.specs.Polynomials.{rem}
use Rattle.cyclic.specs.Words.{codeword, sent, message, cyclic_bits, differing, RightCheckBits, Points, PlainRule}
use Rattle.cyclic.specs.Words.{SuspectRule}

-- no pattern of one to four of the 28 places has remainder 0: a codeword of the cyclic code that is not 0 has weight
-- five at least
abbrev pub WeightAtLeastFive : Type 0
WeightAtLeastFive = (e : ℕ) → e < 2 ^ 28 → count_ones e ≤ 4 → rem e ≡ 0 → e ≡ 0

-- a word that is sent has right check bits and the message that it was sent for, and a word of 29 bits with right check
-- bits is the one that is sent for its message
pub record RightWords : Type 0 where
  pub sent-right : (a : ℕ) → RightCheckBits (sent a) × (message (sent a) ≡ a)
  pub right-sent : (w : ℕ) → w < 2 ^ 29 → RightCheckBits w → w ≡ sent (message w)

-- a syndrome points at one place at most, and 0 at none
pub record AtMostOnePlace : Type 0 where
  pub one : (s p q : ℕ) → Points s p → Points s q → p ≡ q
  pub zero : (p : ℕ) → Points 0 p → ⊥

-- a(x) was sent, w arrived, and at most four of the 29 bits changed on the way
pub record FewChanges (a w : ℕ) : Type 0 where
  pub message : a < 2 ^ 18
  pub word : w < 2 ^ 29
  pub few : differing (sent a) w ≤ 4

-- with n bits changed: if n is at most the limit, a is read, and else nothing is
pub record ReadIfAtMost (limit n a : ℕ) (r : Option ℕ) : Type 0 where
  pub read : n ≤ limit → r ≡ Some a
  pub erased : limit < n → r ≡ None

-- the plain rule reads exactly if none of the 28 bits changed, the suspect rule exactly if at most one of the 29
-- changed, and what is read is a
pub record ReadsAsSent (a w : ℕ) : Type 0 where
  pub plain : (r : Option ℕ) → PlainRule w r → ReadIfAtMost 0 (differing (codeword a) (cyclic_bits w)) a r
  pub suspect : (r : Option ℕ) → SuspectRule w r → ReadIfAtMost 1 (differing (sent a) w) a r

-- it is so if at most four of the 29 bits changed
abbrev pub FourChanges : Type 0
FourChanges = (a w : ℕ) → FewChanges a w → ReadsAsSent a w

-- a rule has an answer for every word, and one only
pub record OneReading (Rule : ℕ → Option ℕ → Type 0) : Type 0 where
  pub some : (w : ℕ) → (r : Option ℕ) × Rule w r
  pub only : (w : ℕ) (r r' : Option ℕ) → Rule w r → Rule w r' → r ≡ r'

abbrev pub OneReadingByEachRule : Type 0
OneReadingByEachRule = OneReading PlainRule × OneReading SuspectRule
