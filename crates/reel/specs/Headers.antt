-- The four numbers that a reel starts with, as the code holds them.
use Rattle.std.specs.Prelude.{◌≡◌, ℕ, List}
use Rattle.reel.specs.declared.layout.Header.{Header}
use Rattle.reel.specs.Layout.{count, list_at, area_at, length_field}

pub record HeaderOf (bs : List ℕ) (h : Header) : Type 0 where
  pub count : h.count ≡ count bs
  pub list : h.list ≡ list_at bs
  pub area : h.area ≡ area_at bs
  pub length : h.length ≡ length_field bs
