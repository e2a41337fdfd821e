-- A row of the table of LSP values, byte by byte.
use Rattle.std.specs.Prelude.{ℕ, List, ◌++◌, ℤ, codes, decimal}
use Rattle.std.specs.Fmt.{signed_decimal}

-- rate;code;value
abbrev pub row_text : ℕ → ℕ → ℤ → List ℕ
row_text rate code value = decimal rate ++ (codes ";" ++ (decimal code ++ (codes ";" ++ signed_decimal value)))
