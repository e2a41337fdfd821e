-- Where the parts of a reel lie among its bytes. Records are counted from 0. A byte past the end reads as 0.
use Rattle.std.specs.Prelude.{ℕ, ◌+◌, ◌*◌, List, take, drop, slice_index}
use Rattle.service.specs.declared.categories.Category.{Category}
use Rattle.service.specs.Categories.{category_is, category_of}

-- the 32-bit number at an offset, low byte first
abbrev pub word : List ℕ → ℕ → ℕ
word bs i =
    slice_index bs i + 256 * slice_index bs (i + 1) + 65536 * slice_index bs (i + 2) + 16777216 * slice_index bs (i + 3)

-- the four numbers at the start: how many records, where they start, where the packet area starts, how many bytes
abbrev pub count : List ℕ → ℕ
count bs = word bs 0

abbrev pub list_at : List ℕ → ℕ
list_at bs = word bs 4

abbrev pub area_at : List ℕ → ℕ
area_at bs = word bs 8

abbrev pub length_field : List ℕ → ℕ
length_field bs = word bs 12

-- record k has eight bytes: the packet's place in the area, its category, its length, and two zeros
abbrev pub record_at : List ℕ → ℕ → ℕ
record_at bs k = list_at bs + 8 * k

abbrev pub packet_at : List ℕ → ℕ → ℕ
packet_at bs k = area_at bs + word bs (record_at bs k)

abbrev pub category_byte : List ℕ → ℕ → ℕ
category_byte bs k = slice_index bs (record_at bs k + 4)

abbrev pub length_byte : List ℕ → ℕ → ℕ
length_byte bs k = slice_index bs (record_at bs k + 5)

abbrev pub category_at : List ℕ → ℕ → Category
category_at bs k = category_of (category_byte bs k)

-- the packet of a category that starts at an offset; that of a blank or an erasure has no bytes
abbrev pub part : List ℕ → ℕ → Category → List ℕ
part bs start c = take (category_is c).bytes (drop start bs)

abbrev pub packet_of : List ℕ → ℕ → List ℕ
packet_of bs k = part bs (packet_at bs k) (category_at bs k)
