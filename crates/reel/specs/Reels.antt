-- A checked reel stands for its bytes.
use Rattle.std.specs.Prelude.{ℕ, List}
use Rattle.reel.specs.declared.Reel.{Reel}

abbrev pub bytes_of : Reel → List ℕ
bytes_of reel = reel.layout.bytes.now
