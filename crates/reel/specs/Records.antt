-- What record k of a reel is, from 0.
use Rattle.std.specs.Prelude.{◌≡◌, ℕ, ◌<◌, ◌≤◌, false, List, [], length, Some, None, Option}
use Rattle.service.specs.declared.categories.Category.{Category}
use Rattle.service.specs.declared.categories.Category.TheVariants.{Blank as BlankCategory, Erasure as ErasureCategory}
use Rattle.service.specs.Categories.{category_is}
use Rattle.service.specs.Tests.{spare_bits_set}
use Rattle.reel.specs.declared.records.Record.{Record}
use Rattle.reel.specs.declared.records.Record.TheVariants.{Blank, Erasure, Packet}
use Rattle.reel.specs.Layout.{count, category_at, packet_of}

pub record RecordValues : Type 0 where
  pub category : Category
  pub number : ℕ  -- of the category
  pub bytes : List ℕ  -- of the packet

abbrev pub record_of : Category → List ℕ → RecordValues
record_of c bs = record { category = c; number = (category_is c).number; bytes = bs }

-- what each record is
abbrev pub record_is : Record → RecordValues
record_is Blank = record_of BlankCategory []
record_is Erasure = record_of ErasureCategory []
record_is (Packet c part) = record_of c part.now

-- the packet case is for a category that has a packet
abbrev pub ProperCase : Record → Type 0
ProperCase Blank = Unit {0}
ProperCase Erasure = Unit {0}
ProperCase (Packet c part) = 0 < (category_is c).bytes

-- r is record k of these bytes
pub record IsRecord (bs : List ℕ) (k : ℕ) (r : Record) : Type 0 where
  pub values : record_is r ≡ record_of (category_at bs k) (packet_of bs k)
  pub proper : ProperCase r
  pub whole : length (record_is r).bytes ≡ (category_is (record_is r).category).bytes
  pub spare : spare_bits_set (record_is r).category (record_is r).bytes ≡ false

-- the answer for record k of a lawful reel: none exactly if k is not below the count
abbrev pub RecordAt : List ℕ → ℕ → Option Record → Type 0
RecordAt bs k None = count bs ≤ k
RecordAt bs k (Some r) = (k < count bs) × IsRecord bs k r
