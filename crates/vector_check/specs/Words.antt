-- The words of a line, which stand between spaces.
use Rattle.std.specs.Prelude.{◌≡◌, ◌≢◌, ℕ, List, ◌++◌, codes}
use Rattle.std.specs.List.{All}

-- 32 is a space
abbrev pub IsWord : List ℕ → Type 0
IsWord w = All (λ b. b ≢ 32) w

-- a text is a word, a space and the rest
pub record FirstWord (text word rest : List ℕ) : Type 0 where
  pub parts : text ≡ word ++ (codes " " ++ rest)
  pub first : IsWord word

-- a text is a front, a space and a word
pub record LastWord (text front word : List ℕ) : Type 0 where
  pub parts : text ≡ front ++ (codes " " ++ word)
  pub last : IsWord word
