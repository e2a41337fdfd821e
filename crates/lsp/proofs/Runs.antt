-- The laws of the memories over whole histories. They know of the decay only decay_law.
use Rattle.std.proofs.Common.{◌≡◌, ℕ, zero, suc, ◌+◌, ◌*◌, ◌/◌, ◌^◌, ◌<◌, ◌≤◌, List, [], ◌∷◌, ◌++◌, length, get_or, ℤ, pos, ◌+ℤ◌, ◌-ℤ◌, ◌*ℤ◌, nat_abs, sym, refl, ap, ◌∙◌, subst, mul-le-mul_right, mul_assoc, add-mul, mul_left_comm, add-one, arith, lit≤}
use native.Mathlib.Nat.{pow-succ'}
use borrow.Author.Differences.{up, down}
use lib.IntN.{*ℤ_comm}
use Rattle.std.proofs.lemmas.Int.{ints}
use Rattle.lsp.specs.Ten.{ten}
use Rattle.lsp.specs.Quantizers.{value_of}
use Rattle.lsp.specs.Decay.{decay}
use Rattle.lsp.specs.States.{fresh, updated, decayed}
use Rattle.lsp.specs.Histories.{Event, packet, erasure, blank, restart, after, exponent, numerator, without_blanks}
use Rattle.lsp.specs.Laws.{StaysInRange, WithinRounding, Rounding, Agree, Agreement, EndsAgree}
use Rattle.lsp.proofs.Sizes.{distrib}
use Rattle.lsp.proofs.Tens.{get_or_ten, each_of_ten}
use Rattle.lsp.proofs.Decays.{decay_law, bound_most}
use Rattle.lsp.proofs.Ranges.{fresh_in, decayed_in, updated_in}

-- ---- the range

pub stays_in_range : StaysInRange
stays_in_range m h [] l = h
stays_in_range m h (packet rate codes ∷ past) l = updated_in rate codes (after m past) _ refl l.0 (stays_in_range m h past l.1)
stays_in_range m h (erasure ∷ past) l = decayed_in (after m past) _ refl (stays_in_range m h past l)
stays_in_range m h (blank ∷ past) l = stays_in_range m h past l
stays_in_range m h (restart ∷ past) l = fresh_in

-- ---- rounding

-- an inequality of the decay's form, times p
scale : (i j k l p : ℕ) → 32 * i + 29 * j ≤ 29 * k + 32 * l + 16 → 32 * (i * p) + 29 * (j * p) ≤ 29 * (k * p) + 32 * (l * p) + 16 * p
scale i j k l p h = simp (add-mul, mul_assoc) at (mul-le-mul_right p h)

scale' : (i j k l p : ℕ) → 29 * i + 32 * j ≤ 32 * k + 29 * l + 16 → 29 * (i * p) + 32 * (j * p) ≤ 32 * (k * p) + 29 * (l * p) + 16 * p
scale' i j k l p h = simp (add-mul, mul_assoc) at (mul-le-mul_right p h)

-- one step: 29/32 of what the rounding was, and one half more
decay_close : (m u : ℤ) (p : ℕ) → 3 * nat_abs (m *ℤ pos p -ℤ u) ≤ 16 * p → 3 * nat_abs (decay m *ℤ pos (32 * p) -ℤ pos 29 *ℤ u) ≤ 16 * (32 * p)
decay_close m u p h =
    let low = scale (up (decay m)) (down m) (up m) (down (decay m)) p (omega (arith, ints, decay_law m)) in
    let high = scale' (up m) (down (decay m)) (up (decay m)) (down m) p (omega (arith, ints, decay_law m)) in
    omega (arith, ints, mul_left_comm (up (decay m)) 32 p, mul_left_comm (down (decay m)) 32 p)

update_close : (v m u : ℤ) (p : ℕ) → 3 * nat_abs (m *ℤ pos p -ℤ u) ≤ 16 * p → 3 * nat_abs ((v +ℤ decay m) *ℤ pos (32 * p) -ℤ (pos (32 * p) *ℤ v +ℤ pos 29 *ℤ u)) ≤ 16 * (32 * p)
update_close v m u p h =
    rw (distrib v (decay m) (32 * p), *ℤ_comm (pos (32 * p)) v)
    (omega (arith, ints, decay_close m u p h))

-- 32^(t + 1), as the steps above have it
pow32 : (t : ℕ) → 32 ^ (t + 1) ≡ 32 * 32 ^ t
pow32 t = rw add-one (pow-succ' 32 t)

pub rounding : Rounding
rounding [] = each_of_ten _ (pos 0) (λ i m. WithinRounding i [] m) (λ i lt. omega arith)
rounding (packet rate codes ∷ past) =
    each_of_ten _ (pos 0) (λ i m. WithinRounding i (packet rate codes ∷ past) m)
    (λ i lt.
    rw (pow32 (exponent past))
    (update_close (value_of rate i (get_or codes i 0)) (get_or (after fresh past) i (pos 0)) (numerator i past) (32 ^ exponent past) (rounding past i lt)))
rounding (erasure ∷ past) =
    each_of_ten _ (pos 0) (λ i m. WithinRounding i (erasure ∷ past) m)
    (λ i lt.
    rw (pow32 (exponent past)) (decay_close (get_or (after fresh past) i (pos 0)) (numerator i past) (32 ^ exponent past) (rounding past i lt)))
rounding (blank ∷ past) = rounding past
rounding (restart ∷ past) = each_of_ten _ (pos 0) (λ i m. WithinRounding i (restart ∷ past) m) (λ i lt. omega arith)

-- ---- agreement

-- how far apart two memories can still be after n events, from d
pub gap : ℕ → ℕ → ℕ
gap zero d = d
gap (suc n) d = (29 * gap n d + 32) / 32

decay_apart : (a b : ℤ) (d : ℕ) → nat_abs (a -ℤ b) ≤ d → nat_abs (decay a -ℤ decay b) ≤ (29 * d + 32) / 32
decay_apart a b d h = omega (arith, ints, decay_law a, decay_law b)

-- ten memories, each at most d from the other
abbrev pub Apart : ℕ → List ℤ → List ℤ → Type 0
Apart d m n = (i : ℕ) → i < 10 → nat_abs (get_or m i (pos 0) -ℤ get_or n i (pos 0)) ≤ d

apart_ten : (f g : ℕ → ℤ) (d : ℕ) → ((i : ℕ) → i < 10 → nat_abs (f i -ℤ g i) ≤ d) → Apart d (ten f) (ten g)
apart_ten f g d each i lt = rw (get_or_ten f (pos 0) i lt, get_or_ten g (pos 0) i lt) (each i lt)

pub after_apart : (d : ℕ) (m n : List ℤ) → Apart d m n → (past : List Event) → Apart (gap (length (without_blanks past)) d) (after m past) (after n past)
unfolding gap
after_apart d m n h [] = h
after_apart d m n h (packet rate codes ∷ past) =
    apart_ten _ _ _
    (λ i lt.
    omega (
      arith,
      ints,
      decay_apart (get_or (after m past) i (pos 0)) (get_or (after n past) i (pos 0)) (gap (length (without_blanks past)) d) (after_apart d m n h past i lt),
    ))
after_apart d m n h (erasure ∷ past) =
    apart_ten _ _ _
    (λ i lt.
    decay_apart (get_or (after m past) i (pos 0)) (get_or (after n past) i (pos 0)) (gap (length (without_blanks past)) d) (after_apart d m n h past i lt))
after_apart d m n h (blank ∷ past) = after_apart d m n h past
after_apart d m n h (restart ∷ past) = apart_ten _ _ _ (λ i lt. omega arith)

pub gap_256 : gap 256 (2 ^ 34) ≤ 10
unfolding gap
gap_256 = lit≤ tt

-- blanks keep the memories
pub blanks_keep : (m : List ℤ) (past : List Event) → after m past ≡ after m (without_blanks past)
blanks_keep m [] = refl
blanks_keep m (packet rate codes ∷ past) = ap (updated rate codes) (blanks_keep m past)
blanks_keep m (erasure ∷ past) = ap decayed (blanks_keep m past)
blanks_keep m (blank ∷ past) = blanks_keep m past
blanks_keep m (restart ∷ past) = refl

pub agreement : Agreement
agreement m n hm hn recent recent' s =
    let start : Apart (2 ^ 34) m n = (λ i lt. omega (arith, ints, bound_most i, hm i lt, hn i lt)) in
    let same : after n recent' ≡ after n recent = blanks_keep n recent' ∙ ap (after n) (sym s.same) ∙ sym (blanks_keep n recent) in
    subst (Agree (after m recent)) (sym same)
    (λ i lt.
    let k = after_apart (2 ^ 34) m n start recent i lt in
    omega (arith, gap_256, rw s.many at k))

pub after-++ : (m : List ℤ) (recent past : List Event) → after m (recent ++ past) ≡ after (after m past) recent
after-++ m [] past = refl
after-++ m (packet rate codes ∷ recent) past = ap (updated rate codes) (after-++ m recent past)
after-++ m (erasure ∷ recent) past = ap decayed (after-++ m recent past)
after-++ m (blank ∷ recent) past = after-++ m recent past
after-++ m (restart ∷ recent) past = refl

pub ends_agree : EndsAgree
ends_agree past past' recent recent' l l' s =
    rw (after-++ fresh recent past, after-++ fresh recent' past')
    (agreement (after fresh past) (after fresh past') (stays_in_range fresh fresh_in past l) (stays_in_range fresh fresh_in past' l') recent recent' s)
