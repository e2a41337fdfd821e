-- What is printed of a packet's bytes.
use Rattle.std.specs.Prelude.{ℕ, List, [], ◌∷◌, codes}
use Rattle.hex.specs.Hex.{encode_lower}

-- two digits for each byte, and a hyphen for none
abbrev pub packet_text : List ℕ → List ℕ
packet_text [] = codes "-"
packet_text (b ∷ bs) = encode_lower (b ∷ bs)
