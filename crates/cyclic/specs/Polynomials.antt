-- Polynomials over GF(2) as numbers: bit p of a number is the coefficient of x^p. A sum is the exclusive-or, and
-- times x is times 2.
use Rattle.std.specs.Prelude.{◌≡◌, ℕ, zero, suc, ◌+◌, ◌*◌, ◌/◌, ◌%◌, ◌^◌, ◌<◌, Bool, cond, List, [], ◌∷◌, bit_xor}

-- g = x^10 + x^9 + x^8 + x^6 + x^5 + x^3 + 1
abbrev pub generator : ℕ
generator = 0b111_0110_1001

-- q × g, where q is the list of its coefficients, x^0 first
abbrev pub times_g : List Bool → ℕ
times_g [] = 0
times_g (b ∷ q) = bit_xor (times_g q * 2) (cond b generator 0)

-- r is a remainder of p by g: p = q × g + r for some q, and the degree of r is below 10
abbrev pub Remainder : ℕ → ℕ → Type 0
Remainder p r = (r < 2 ^ 10) × ((q : List Bool) × (p ≡ bit_xor (times_g q) r))

-- a polynomial of a degree of at most 10, less g if it has x^10
abbrev pub reduced : ℕ → ℕ
reduced p = bit_xor p (p / 1024 % 2 * generator)

-- the remainder of r(x) × x + b, if the degree of r is below 10 and b is 0 or 1
abbrev pub shift_in : ℕ → ℕ → ℕ
shift_in r b = reduced (r * 2 + b)

-- the remainder by g, the coefficients shifted in from the highest power down; the first number only bounds the
-- recursion
unfoldable pub rem_in : ℕ → ℕ → ℕ
rem_in zero p = 0
rem_in (suc d) zero = 0
rem_in (suc d) (suc p) = shift_in (rem_in d (suc p / 2)) (suc p % 2)

unfoldable pub rem : ℕ → ℕ
unfolding rem_in
rem p = rem_in p p

-- it is a remainder of p by g, and p has no other
abbrev pub UniqueRemainder : Type 0
UniqueRemainder = (p : ℕ) → Remainder p (rem p) × ((r : ℕ) → Remainder p r → r ≡ rem p)
