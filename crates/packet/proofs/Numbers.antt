-- Bits of a number, and numbers made of bits.
use Rattle.std.proofs.Common.{◌≡◌, ℕ, zero, suc, ◌+◌, ◌-◌, ◌*◌, ◌/◌, ◌%◌, ◌^◌, ◌<◌, ◌≤◌, ◌≢◌, if◌then◌else◌, nat_lt, inl, inr, refl, sym, ◌∙◌, ap, ap₂, arith, pow-suc, add-one, mul_assoc, zero-mul}
use native.Mathlib.Nat.{zero-div, div-eq_of_lt, lt-div-mul-add}
use Rattle.std.specs.Int.Bits.{bit_or, or_shr, or_mod, shifted_even}
use Rattle.std.proofs.Math.Pow.{pow_mono}
use Rattle.std.proofs.lemmas.Bool.{cases_lt, cases_order}
use Rattle.std.proofs.lemmas.Nat.{pow-add, pow_pos, shl-shr, shr-shr, shl_below, shl_whole, shr_le, shr_split, mod_below}
use Rattle.packet.specs.Bits.{bit, number_of}

pub bit_lt : (n b : ℕ) → bit n b < 2
bit_lt n b = omega arith

pub bit_of_zero : (b : ℕ) → bit 0 b ≡ 0
bit_of_zero b = ap (λ y. y % 2) (zero-div (2 ^ b))

pub number_none : (f : ℕ → ℕ) → number_of f 0 ≡ 0
unfolding number_of
number_none f = refl

pub number_more : (f : ℕ → ℕ) (n : ℕ) → number_of f (n + 1) ≡ number_of f n * 2 + f n
unfolding number_of
number_more f n = ap (number_of f) (add-one n)

module _ (f : ℕ → ℕ) (small : (k : ℕ) → f k < 2) where
  pub number_lt : (n : ℕ) → number_of f n < 2 ^ n
  unfolding number_of
  number_lt zero = omega arith
  number_lt (suc n) = omega (arith, number_lt n, small n, pow-suc 2 n)

pub bit_of_or : (m n b : ℕ) → bit (bit_or m n) b ≡ bit_or (bit m b) (bit n b)
bit_of_or m n b = ap (λ x. x % 2) (or_shr m n b) ∙ or_mod (m / 2 ^ b) (n / 2 ^ b) 1

-- at the 16 bits of a code of the list nothing is shifted out
pub shifted_whole : (x b : ℕ) → x < 2 → b < 16 → x * 2 ^ b % 65536 ≡ x * 2 ^ b
shifted_whole x b h l = shl_whole x 1 b 16 h (omega arith)

-- a bit that is shifted to b stands there and nowhere else
pub shifted_here : (x b : ℕ) → x < 2 → bit (x * 2 ^ b) b ≡ x
shifted_here x b h = ap (λ y. y % 2) (shl-shr x b) ∙ omega arith

pub shifted_elsewhere : (x b c : ℕ) → x < 2 → c ≢ b → bit (x * 2 ^ b) c ≡ 0
shifted_elsewhere x b c h ne =
    elim (cases_order c b) [
      | inl e ↦ absurd (ne e)
      | inr (inl less) ↦
          let d = b - c - 1 in
          let e : b ≡ suc d + c = omega arith in
          let q : x * 2 ^ b ≡ x * 2 ^ suc d * 2 ^ c = ap (λ k. x * 2 ^ k) e ∙ ap (λ y. x * y) (pow-add 2 (suc d) c) ∙ sym (mul_assoc x (2 ^ suc d) (2 ^ c)) in
          ap (λ y. y / 2 ^ c % 2) q ∙ ap (λ y. y % 2) (shl-shr (x * 2 ^ suc d) c) ∙ shifted_even x d
      | inr (inr more) ↦
          let p : x * 2 ^ b < 2 ^ (1 + b) = shl_below x 1 b h in
          let m : 2 ^ (1 + b) ≤ 2 ^ c = pow_mono {j = c} (omega arith) in
          ap (λ y. y % 2) (div-eq_of_lt (omega arith))
    ]

-- the bits above the lowest are those of the half
pub bit_half : (n b : ℕ) → bit n (suc b) ≡ bit (n / 2) b
bit_half n b = ap (λ y. y % 2) (ap (λ k. n / 2 ^ k) (omega arith) ∙ sym (shr-shr n 1 b))

pub bit_lowest : (n : ℕ) → bit n 0 ≡ n % 2
bit_lowest n = omega arith

-- two numbers of w bits that have the same bits are equal
pub same_bits : (w m n : ℕ) → m < 2 ^ w → n < 2 ^ w → ((b : ℕ) → b < w → bit m b ≡ bit n b) → m ≡ n
same_bits zero m n hm hn same = omega arith
same_bits (suc w) m n hm hn same =
    let p = pow-suc 2 w in
    let half : m / 2 ≡ n / 2 = same_bits w (m / 2) (n / 2) (omega arith) (omega arith) (λ b h. sym (bit_half m b) ∙ same (suc b) (omega arith) ∙ bit_half n b) in
    let low : m % 2 ≡ n % 2 = sym (bit_lowest m) ∙ same 0 (omega arith) ∙ bit_lowest n in
    omega arith

below_pow : (n : ℕ) → n < 2 ^ n
below_pow zero = omega arith
below_pow (suc n) = omega (arith, below_pow n, pow-suc 2 n)

-- a number of which all bits from w up are 0 has w bits
pub width_of : (n w : ℕ) → ((b : ℕ) → w ≤ b → bit n b ≡ 0) → n < 2 ^ w
width_of n w none =
    let q : n / 2 ^ w ≡ 0 = same_bits n (n / 2 ^ w) 0 (omega (arith, shr_le n w, below_pow n)) (pow_pos n)
    (λ b _. ap (λ y. y % 2) (shr-shr n w b) ∙ none (w + b) (omega arith) ∙ sym (bit_of_zero b)) in
    let e = shr_split n w in
    let z : n / 2 ^ w * 2 ^ w ≡ 0 = ap (λ y. y * 2 ^ w) q ∙ zero-mul (2 ^ w) in
    let m = mod_below n (2 ^ w) (pow_pos w) in
    omega arith

module _ (f : ℕ → ℕ) (small : (k : ℕ) → f k < 2) where
  pub bit_of_number : (n b : ℕ) → b < n → bit (number_of f n) b ≡ f (n - 1 - b)
  unfolding number_of
  bit_of_number zero b h = absurd (omega arith)
  bit_of_number (suc n) zero h =
      let low : (number_of f n * 2 + f n) % 2 ≡ f n = omega (arith, small n) in
      bit_lowest (number_of f n * 2 + f n) ∙ low ∙ ap f (omega arith)
  bit_of_number (suc n) (suc b) h =
      let half : (number_of f n * 2 + f n) / 2 ≡ number_of f n = omega (arith, small n) in
      bit_half (number_of f n * 2 + f n) b ∙ ap (λ m. bit m b) half ∙ bit_of_number n b (omega arith) ∙ ap f (omega arith)

-- whether a code has a bit from bit n up, as `unbounded_shr` by n tells
pub fits : (n b : ℕ) → b < 2 ^ 8 → (if nat_lt n 8 then b / 2 ^ n else 0) ≡ 0 → b < 2 ^ n
fits n b l e = elim (cases_lt n 8) [ inl k ↦ grind (arith, pow_pos n, lt-div-mul-add) | inr k ↦ grind (arith, pow_mono k) ]

pub fits_not : (n b : ℕ) → (if nat_lt n 8 then b / 2 ^ n else 0) ≢ 0 → 2 ^ n ≤ b
fits_not n b e = grind (arith, div-eq_of_lt)

-- a number of n + m bits is the first n bits and the last m
pub number_split : (f : ℕ → ℕ) (n m : ℕ) → number_of f (n + m) ≡ number_of f n * 2 ^ m + number_of (λ i. f (n + i)) m
unfolding number_of
number_split f n zero = let e : n + 0 ≡ n = omega arith in ap (number_of f) e ∙ omega arith
number_split f n (suc m) =
    let e : n + suc m ≡ suc (n + m) = omega arith in
    let q : number_of f n * 2 ^ suc m ≡ number_of f n * 2 ^ m * 2 = ap (λ x. number_of f n * x) (pow-suc 2 m) ∙ sym (mul_assoc (number_of f n) (2 ^ m) 2) in
    ap (number_of f) e ∙ omega (arith, number_split f n m, q)

-- numbers of n bits with the same bits
pub number_same : (f g : ℕ → ℕ) (n : ℕ) → ((i : ℕ) → i < n → f i ≡ g i) → number_of f n ≡ number_of g n
unfolding number_of
number_same f g zero same = refl
number_same f g (suc n) same = ap₂ (λ a b. a * 2 + b) (number_same f g n (λ i h. same i (omega arith))) (same n (omega arith))

-- the number of the bits of a number
pub number_again : (n w : ℕ) → n < 2 ^ w → number_of (λ i. bit n (w - 1 - i)) w ≡ n
number_again n w h =
    let f = λ (i : ℕ). bit n (w - 1 - i) in
    same_bits w (number_of f w) n (number_lt f (λ i. bit_lt n (w - 1 - i)) w) h
    (λ b hb. bit_of_number f (λ i. bit_lt n (w - 1 - i)) w b hb ∙ ap (bit n) (omega arith))
