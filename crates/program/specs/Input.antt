-- How much of an input is read.
use Rattle.std.specs.Prelude.{ℕ, List, take}

-- the first bytes, at most so many. A proof unfolds it only where it says so, since limits as large as 65,536 and
-- 65,537 are else compared step by step
unfoldable pub first_bytes : ℕ → List ℕ → List ℕ
first_bytes limit bytes = take limit bytes
