-- The tests that a category, a length and a packet's bytes have to pass wherever they come from. A test that is true
-- fails.
use Rattle.std.specs.Prelude.{ℕ, ◌-◌, ◌*◌, ◌%◌, ◌^◌, Bool, not, List, ◌==◌, nat_lt, slice_index}
use Rattle.service.specs.declared.categories.Category.{Category}
use Rattle.service.specs.Categories.{category_is}

-- 5: the category's number is above 6
abbrev pub unknown_category : ℕ → Bool
unknown_category n = nat_lt 6 n

-- 6: the length is not the category's
abbrev pub wrong_length : Category → ℕ → Bool
wrong_length c n = not (n == (category_is c).bytes)

-- the bits of the packet's last byte that carry nothing: five at Rate 1, none at the others
abbrev pub spare_bits : Category → ℕ
spare_bits c = 8 * (category_is c).bytes - (category_is c).bits

-- 9: the lowest bits of the last byte, which are spare, are not all zero
abbrev pub spare_bits_set : Category → List ℕ → Bool
spare_bits_set c bytes = not (slice_index bytes ((category_is c).bytes - 1) % 2 ^ spare_bits c == 0)
