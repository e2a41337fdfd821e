-- The 29 guarded bits of a Rate 1 packet as one number, a word: the 18 guarded code bits, a(x), from bit 11 up, the ten
-- check bits PCB[10] to PCB[1] at bits 10 to 1, not inverted, and the overall parity bit PCB[0] at bit 0.
use Rattle.std.specs.Prelude.{◌≡◌, ℕ, ◌+◌, ◌*◌, ◌/◌, ◌%◌, ◌^◌, ◌<◌, ◌⊎◌, Some, None, Option, ◌≢◌, bit_xor, count_ones}
use Rattle.cyclic.specs.Polynomials.{rem}

-- the exclusive-or of all bits: 1 exactly if an odd number of them are 1
abbrev pub parity : ℕ → ℕ
parity w = count_ones w % 2

-- the check bits of a(x): the remainder of a(x) × x^10
abbrev pub check_bits : ℕ → ℕ
check_bits a = rem (a * 2 ^ 10)

-- the 28 bits of the cyclic code: a(x) × x^10, and its remainder
abbrev pub codeword : ℕ → ℕ
codeword a = a * 2 ^ 10 + check_bits a

-- the word that is sent for a(x), before inversion: the 28 bits, and their exclusive-or
abbrev pub sent : ℕ → ℕ
sent a = codeword a * 2 + parity (codeword a)

-- the 28 bits of the cyclic code in a word, place 0 the lowest
abbrev pub cyclic_bits : ℕ → ℕ
cyclic_bits w = w / 2

-- the 18 guarded code bits in a word
abbrev pub message : ℕ → ℕ
message w = w / 2 ^ 11

-- the remainder by g of the 28 bits that were received
abbrev pub syndrome : ℕ → ℕ
syndrome w = rem (cyclic_bits w)

-- the check bits of a word are right: its syndrome is 0, and the exclusive-or of all 29 bits is 0
abbrev pub RightCheckBits : ℕ → Type 0
RightCheckBits w = (syndrome w ≡ 0) × (parity w ≡ 0)

-- the syndrome s points at the place p of the 28: it is the remainder of x^p
abbrev pub Points : ℕ → ℕ → Type 0
Points s p = (p < 28) × (rem (2 ^ p) ≡ s)

-- the place p of the 28 is the one to correct in a suspect word: the parity is odd, and the syndrome points at p
abbrev pub Corrects : ℕ → ℕ → Type 0
Corrects w p = (parity w ≡ 1) × Points (syndrome w) p

-- the word with the place p of the 28 changed
abbrev pub corrected : ℕ → ℕ → ℕ
corrected w p = bit_xor w (2 ^ (p + 1))

-- in how many places two words differ
abbrev pub differing : ℕ → ℕ → ℕ
differing u v = count_ones (bit_xor u v)

-- What is read of a word: its 18 guarded code bits, or nothing. As a Rate 1 packet: read if the syndrome is 0.
abbrev pub PlainRule : ℕ → Option ℕ → Type 0
PlainRule w (Some a) = (syndrome w ≡ 0) × (a ≡ message w)
PlainRule w None = syndrome w ≢ 0

-- As a suspect packet: read as it is if the syndrome is 0; read with its place corrected if there is one to correct;
-- else nothing.
abbrev pub SuspectRule : ℕ → Option ℕ → Type 0
SuspectRule w (Some a) =
    ((syndrome w ≡ 0) × (a ≡ message w)) ⊎ ((p : ℕ) × Corrects w p × (a ≡ message (corrected w p)))
SuspectRule w None = (syndrome w ≢ 0) × ((p : ℕ) → Corrects w p → ⊥)
