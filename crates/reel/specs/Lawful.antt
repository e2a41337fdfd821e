-- What a lawful reel is, whatever the order of the tests.
use Rattle.std.specs.Prelude.{◌≡◌, ℕ, ◌+◌, ◌*◌, ◌<◌, ◌≤◌, false, List, length, slice_index_or}
use Rattle.service.specs.Categories.{category_is}
use Rattle.service.specs.Tests.{spare_bits_set}
use Rattle.reel.specs.Layout.{count, list_at, area_at, length_field, record_at, packet_at, category_byte, length_byte}
use Rattle.reel.specs.Layout.{category_at, packet_of}

pub record LawfulHeader (bs : List ℕ) : Type 0 where
  pub shortest : 16 ≤ length bs
  pub longest : length bs ≤ 65536
  pub field : length_field bs ≡ length bs
  pub few : count bs ≤ 2048
  pub list : 16 ≤ list_at bs
  pub area : list_at bs + 8 * count bs ≤ area_at bs
  pub end : area_at bs ≤ length bs

-- record k, from 0
pub record LawfulRecord (bs : List ℕ) (k : ℕ) : Type 0 where
  pub category : category_byte bs k ≤ 6
  pub size : length_byte bs k ≡ (category_is (category_at bs k)).bytes
  pub zero : slice_index_or bs (record_at bs k + 6) 0 ≡ 0
  pub last : slice_index_or bs (record_at bs k + 7) 0 ≡ 0
  pub within :
      0 < (category_is (category_at bs k)).bytes → packet_at bs k + (category_is (category_at bs k)).bytes ≤ length bs
  pub spare : spare_bits_set (category_at bs k) (packet_of bs k) ≡ false

pub record Lawful (bs : List ℕ) : Type 0 where
  pub header : LawfulHeader bs
  pub records : (k : ℕ) → k < count bs → LawfulRecord bs k
