-- How large the values of codes are, and products of whole numbers.
use Rattle.std.proofs.Common.{◌≡◌, ℕ, zero, suc, ◌*◌, ◌≤◌, List, [], ◌∷◌, get_or, ℤ, pos, ◌+ℤ◌, ◌-ℤ◌, ◌*ℤ◌, neg_ℤ, nat_abs, ap, ◌∙◌, mul-le-mul_right, add-mul, zero-mul, arith, w64, SFits, FitsSigned, to_z, of_z}
use borrow.Author.Differences.{sum_is_lem}
use Rattle.std.specs.List.{AllByRecursion as All}
use Rattle.std.proofs.lemmas.Int.{ints, clamps, unsigned_abs-mul, to_z-of_z}
use Rattle.service.specs.declared.rates.Rate.{Rate}
use Rattle.service.specs.declared.rates.Rate.TheVariants.{Full, Half, Quarter, Eighth}
use Rattle.lsp.specs.Quantizers.{levels, largest_value, top_code, half_step, value_of, limited}

get_or_most : (b : ℕ) (xs : List ℕ) (i : ℕ) → All (λ x. x ≤ b) xs → get_or xs i 0 ≤ b
get_or_most b [] i h = omega arith
get_or_most b (x ∷ xs) zero h = h.0
get_or_most b (x ∷ xs) (suc i) h = get_or_most b xs i h.1

level_most : (rate : Rate) (i : ℕ) → get_or (levels rate) i 0 ≤ 70
level_most Full i = get_or_most 70 (levels Full) i (omega arith)
level_most Half i = get_or_most 70 (levels Half) i (omega arith)
level_most Quarter i = get_or_most 70 (levels Quarter) i (omega arith)
level_most Eighth i = get_or_most 70 (levels Eighth) i (omega arith)

pub reach : (rate : Rate) (i : ℕ) → top_code rate * half_step rate i ≤ largest_value
reach Full i = omega (arith, level_most Full i)
reach Half i = omega (arith, level_most Half i)
reach Quarter i = omega (arith, level_most Quarter i)
reach Eighth i = omega (arith, level_most Eighth i)

-- M × h is the level in grains
pub level_grains : (rate : Rate) (i : ℕ) → top_code rate * half_step rate i ≡ get_or (levels rate) i 0 * 165 * 65536
level_grains Full i = omega arith
level_grains Half i = omega arith
level_grains Quarter i = omega arith
level_grains Eighth i = omega arith

half_most : (rate : Rate) (i : ℕ) → half_step rate i ≤ largest_value
half_most Full i = omega (arith, level_most Full i)
half_most Half i = omega (arith, level_most Half i)
half_most Quarter i = omega (arith, level_most Quarter i)
half_most Eighth i = omega (arith, level_most Eighth i)

top_most : (rate : Rate) → top_code rate ≤ 15
top_most Full = omega arith
top_most Half = omega arith
top_most Quarter = omega arith
top_most Eighth = omega arith

pub value_most : (rate : Rate) (i c : ℕ) → c ≤ top_code rate → nat_abs (value_of rate i c) ≤ largest_value
value_most rate i c h =
    let d : nat_abs (pos (2 * c) -ℤ pos (top_code rate)) ≤ top_code rate = omega (arith, ints) in
    omega (
      arith,
      unsigned_abs-mul (pos (2 * c) -ℤ pos (top_code rate)) (pos (half_step rate i)),
      mul-le-mul_right (half_step rate i) d,
      reach rate i,
    )

-- the product of 2 × c - M and h, as the code computes it in 64 bits
module _ (rate : Rate) (i c : ℕ) (n h : ℤ) (e : n ≡ pos (2 * c) -ℤ pos (top_code rate)) (d : h ≡ pos (half_step rate i)) (le : c ≤ top_code rate) where
  product : to_z w64 (of_z w64 n) *ℤ to_z w64 (of_z w64 h) ≡ value_of rate i c
  product =
      let factor : to_z w64 (of_z w64 n) ≡ pos (2 * c) -ℤ pos (top_code rate) = omega (arith, ints, top_most rate) in
      let half : to_z w64 (of_z w64 h) ≡ pos (half_step rate i) = omega (arith, ints, half_most rate i) in
      rw (factor, half)

  small : SFits w64 (value_of rate i c)
  small = omega (arith, ints, value_most rate i c le)

  pub product_fits : FitsSigned w64 (to_z w64 (of_z w64 n) *ℤ to_z w64 (of_z w64 h))
  product_fits = rw product small

  pub product_is : to_z w64 (of_z w64 (to_z w64 (of_z w64 n) *ℤ to_z w64 (of_z w64 h))) ≡ value_of rate i c
  product_is = rw product (to_z-of_z w64 _ small)

-- limited from above and from below, the number is at most the limit
pub limited_most : (rate : Rate) (n : ℤ) → limited rate n ≤ top_code rate
limited_most rate n = omega (arith, ints, clamps)

-- ---- products

pub distrib : (a b : ℤ) (p : ℕ) → (a +ℤ b) *ℤ pos p ≡ a *ℤ pos p +ℤ b *ℤ pos p
distrib a b p = omega (arith, ints, simp add-mul at (ap (λ n. n * p) (sum_is_lem a b)))

neg_times : (b h : ℕ) → neg_ℤ (pos b) *ℤ pos h ≡ neg_ℤ (pos (b * h))
neg_times zero h = omega (arith, ints, zero-mul h)
neg_times (suc b) h = omega (arith, ints)

pub distrib_minus : (a b h : ℕ) → (pos a -ℤ pos b) *ℤ pos h ≡ pos (a * h) -ℤ pos (b * h)
distrib_minus a b h = distrib (pos a) (neg_ℤ (pos b)) h ∙ ap (λ (z : ℤ). pos (a * h) +ℤ z) (neg_times b h)
