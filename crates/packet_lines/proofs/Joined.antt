-- Words joined by spaces, as the code writes them.
use Rattle.std.proofs.Common.{◌≡◌, ℕ, ◌<◌, List, [], ◌∷◌, ◌++◌, length, drop, get_or, map, decimal, sym, ap, ◌∙◌, arith}
use Rattle.std.specs.List.{join_with_byte}
use Rattle.std.proofs.lemmas.List.{append-nil}
use Rattle.packet_lines.specs.Texts.{spaced}

joined : (n : ℕ) (ns : List ℕ) → join_with_byte 32 (map decimal (n ∷ ns)) ≡ decimal n ++ spaced ns
joined n [] = sym (append-nil (decimal n))
joined n (m ∷ ns) = ap (λ t. decimal n ++ (32 ∷ t)) (joined m ns)

pub joined_text : (s ns : List ℕ) → 0 < length ns → s ≡ decimal (get_or ns 0 0) ++ spaced (drop 1 ns) → s ≡ join_with_byte 32 (map decimal ns)
joined_text s [] h e = absurd (omega arith)
joined_text s (n ∷ ns) h e = e ∙ sym (joined n ns)
