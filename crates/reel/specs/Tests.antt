-- The nine tests of a reel in their order, each beside what it is answered with where it fails, that is, comes out
-- true. The answer is that of the first test that fails.
use Rattle.std.specs.Prelude.{ℕ, zero, suc, ◌+◌, ◌*◌, Bool, cond, not, ◌&&◌, ◌||◌, List, [], ◌∷◌, ◌++◌, length, Some}
use Rattle.std.specs.Prelude.{None, Option, ◌==◌, nat_lt, slice_index}
use Rattle.service.specs.declared.categories.Category.{Category}
use Rattle.service.specs.Categories.{category_is}
use Rattle.service.specs.Refusals.{Answer, refused, refused_at}
use Rattle.service.specs.Tests.{unknown_category, wrong_length, spare_bits_set}
use Rattle.reel.specs.Layout.{count, list_at, area_at, length_field, record_at, packet_at, category_byte, length_byte}
use Rattle.reel.specs.Layout.{category_at, packet_of}

abbrev pub header_tests : List ℕ → List (Bool × Answer)
header_tests bs =
    (nat_lt (length bs) 16 || nat_lt 65536 (length bs), refused 1)
    ∷ (not (length_field bs == length bs), refused 2)
    ∷ (nat_lt 2048 (count bs), refused 3)
    ∷ (
      nat_lt (list_at bs) 16 || nat_lt (area_at bs) (list_at bs + 8 * count bs) || nat_lt (length bs) (area_at bs),
      refused 4,
    )
    ∷ []

-- the packet of this category that starts at an offset passes the end; one with no bytes does not, wherever it starts
abbrev pub past_end : List ℕ → ℕ → Category → Bool
past_end bs start c = nat_lt 0 (category_is c).bytes && nat_lt (length bs) (start + (category_is c).bytes)

-- record k from 0 is named k + 1
abbrev pub record_tests : List ℕ → ℕ → List (Bool × Answer)
record_tests bs k =
    (unknown_category (category_byte bs k), refused_at 5 (k + 1))
    ∷ (wrong_length (category_at bs k) (length_byte bs k), refused_at 6 (k + 1))
    ∷ (
      not (slice_index bs (record_at bs k + 6) == 0) || not (slice_index bs (record_at bs k + 7) == 0),
      refused_at 7 (k + 1),
    )
    ∷ (past_end bs (packet_at bs k) (category_at bs k), refused_at 8 (k + 1))
    ∷ (spare_bits_set (category_at bs k) (packet_of bs k), refused_at 9 (k + 1))
    ∷ []

-- f 0, f 1 and so on up to f (n - 1), one after another
abbrev pub concat_below : {X : Type 0} → ℕ → (ℕ → List X) → List X
concat_below zero f = []
concat_below (suc n) f = concat_below n f ++ f n

abbrev pub tests : List ℕ → List (Bool × Answer)
tests bs = header_tests bs ++ concat_below (count bs) (record_tests bs)

abbrev pub first : List (Bool × Answer) → Option Answer
first [] = None
first (t ∷ ts) = cond t.0 (Some t.1) (first ts)

-- what a reel is refused with, if it is; a reel with no fault is lawful
abbrev pub fault : List ℕ → Option Answer
fault bs = first (tests bs)
