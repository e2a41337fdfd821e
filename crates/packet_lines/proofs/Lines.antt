-- A line that is put together from words is read as these words.
use Rattle.std.proofs.Common.{◌≡◌, ℕ, suc, ◌-◌, ◌*◌, ◌<◌, true, false, List, [], ◌∷◌, ◌++◌, length, get_or, take, drop, map, codes, decimal, Ok, inl, inr, sym, refl, ap, ◌∙◌, append_assoc, eqb, arith, rules}
use Rattle.std.specs.List.{All, AllByRecursion, join_with_byte}
use Rattle.std.specs.Str.{bytes_eq}
use Rattle.std.specs.Str.Lines.{strip_carriage_return}
use Rattle.std.proofs.lemmas.Bool.{cases_lt, ne_eqb}
use Rattle.std.proofs.Math.Bool.{and-false}
use Rattle.std.proofs.lemmas.Bool.Decides.{nat_tests}
use Rattle.std.proofs.lemmas.Fmt.{decimal_is_IsNumeral}
use Rattle.std.proofs.lemmas.Str.Parse.{digit_at}
use Rattle.std.proofs.lemmas.List.{get_or_past, length-append, take_at, drop_at, get_or_at}
use Rattle.std.proofs.lemmas.List.Elements.{All-append, All-cons, All-from_get_or, All-head, All-nil, All-tail, All-weaker, All-from_recursion}
use Rattle.std.proofs.lemmas.List.Splits.{slice_split_at, slice_split_none}
use Rattle.hex.specs.Hex.{IsBytes, encode_lower, is_hex_digit, lower_digits}
use Rattle.hex.proofs.HexLemmas.{decode_of-encode_lower, decode_of-ok, length-encode_with}
use Rattle.packet.specs.declared.codes.CodeNumbers.{CodeNumbers}
use Rattle.packet.specs.Codes.{in_order, numbers_of}
use Rattle.packet_lines.specs.Reading.{numbers, pack_words, packet_bytes, reading, request_of, words}
use Rattle.packet_lines.specs.Reading.Asked.{pack, unpack}
use Rattle.packet_lines.specs.Texts.{codes_text, packet_text}
use Rattle.packet_lines.proofs.Numbers.{number_decimal}

-- neither a space nor a control character
abbrev Visible : List ℕ → Type 0
Visible w = All (λ b. 32 < b) w

visible_decimal : (n : ℕ) → n < 256 → Visible (decimal n)
visible_decimal n h =
    let digits = (decimal_is_IsNumeral n (omega arith)).0.1 in
    All-from_get_or (λ b. 32 < b) (decimal n) 0 (λ i l. let d = digit_at (decimal n) i digits l in omega arith)

visible_hex : (c : ℕ) → is_hex_digit c ≡ true → 32 < c
visible_hex c h = grind (arith, nat_tests)

visible_encoded : (bytes : List ℕ) → IsBytes bytes → Visible (encode_lower bytes)
visible_encoded bytes fits =
    let ok = decode_of-ok (encode_lower bytes) bytes (decode_of-encode_lower bytes fits) in
    All-weaker (λ c. is_hex_digit c ≡ true) (λ c. 32 < c) visible_hex (encode_lower bytes) ok.1

-- the words, joined by spaces
abbrev line : List (List ℕ) → List ℕ
line ws = join_with_byte 32 ws

no_space : (w : List ℕ) → Visible w → All (λ b. eqb b 32 ≡ false) w
no_space w v = All-weaker (λ b. 32 < b) (λ b. eqb b 32 ≡ false) (λ b h. ne_eqb b 32 (omega arith)) w v

words_line : (w : List ℕ) (ws : List (List ℕ)) → AllByRecursion Visible (w ∷ ws) → words (line (w ∷ ws)) ≡ w ∷ ws
words_line w [] v = slice_split_none (λ b. eqb b 32) w (no_space w v.0)
words_line w (x ∷ ws) v =
    slice_split_at (λ b. eqb b 32) w 32 (line (x ∷ ws)) (no_space w v.0) refl ∙ ap (λ xs. w ∷ xs) (words_line x ws v.1)

no_control : (w : List ℕ) (ws : List (List ℕ)) → AllByRecursion Visible (w ∷ ws) → All (λ b. 31 < b) (line (w ∷ ws))
no_control w [] v = All-weaker (λ b. 32 < b) (λ b. 31 < b) (λ b h. omega arith) w v.0
no_control w (x ∷ ws) v =
    All-append (λ b. 31 < b) w (32 ∷ line (x ∷ ws))
    (All-weaker (λ b. 32 < b) (λ b. 31 < b) (λ b h. omega arith) w v.0)
    (All-cons (λ b. 31 < b) 32 (line (x ∷ ws)) (omega arith) (no_control x ws v.1))

no_return : (l : List ℕ) → All (λ b. 31 < b) l → strip_carriage_return l ≡ l
no_return l h =
    elim (cases_lt 0 (length l)) [
      | inl some ↦
          let last : 31 < get_or l (length l - 1) 0 = h (length l - 1) 0 (omega arith) in
          rw (ne_eqb (get_or l (length l - 1) 0) 13 (omega arith)) refl
      | inr none ↦
          let last : get_or l (length l - 1) 0 ≡ 0 = get_or_past l (length l - 1) 0 (omega arith) in
          rw (ne_eqb (get_or l (length l - 1) 0) 13 (omega arith)) refl
    ]

words_again : (w : List ℕ) (ws : List (List ℕ)) → AllByRecursion Visible (w ∷ ws) → words (strip_carriage_return (line (w ∷ ws))) ≡ w ∷ ws
words_again w ws v = ap words (no_return (line (w ∷ ws)) (no_control w ws v)) ∙ words_line w ws v

numbers_decimals : (ns : List ℕ) → All (λ n. n < 256) ns → numbers (map decimal ns) ≡ Ok ns
numbers_decimals [] h = refl
numbers_decimals (n ∷ ns) h =
    rw (number_decimal n (All-head (λ m. m < 256) n ns h), numbers_decimals ns (All-tail (λ m. m < 256) n ns h)) refl

visible_decimals : (ns : List ℕ) → All (λ n. n < 256) ns → AllByRecursion Visible (map decimal ns)
visible_decimals [] h = tt
visible_decimals (n ∷ ns) h = (visible_decimal n (All-head (λ m. m < 256) n ns h), visible_decimals ns (All-tail (λ m. m < 256) n ns h))

visible_pack : Visible (codes "pack")
visible_pack = All-from_recursion (λ b. 32 < b) (codes "pack") (search rules)

visible_unpack : Visible (codes "unpack")
visible_unpack = All-from_recursion (λ b. 32 < b) (codes "unpack") (search rules)

length_decimals : (ns : List ℕ) → length (map decimal ns) ≡ length ns
length_decimals [] = refl
length_decimals (n ∷ ns) = ap suc (length_decimals ns)

pack_words_again : (ns : List ℕ) → length ns ≡ 36 → All (λ n. n < 256) ns → pack_words (map decimal ns) ≡ Ok (pack (get_or ns 0 0) (numbers_of (drop 1 ns)))
pack_words_again ns long h = rw (length_decimals ns, long, numbers_decimals ns h) refl

pack_row : (rate : ℕ) (row : List ℕ) → rate < 256 → length row ≡ 35 → All (λ n. n < 256) row
    → reading (codes "pack " ++ (decimal rate ++ (codes " " ++ line (map decimal row)))) ≡ Ok (pack rate (numbers_of row))
pack_row rate [] small long h = absurd (omega arith)
pack_row rate (n ∷ ns) small long h =
    let all : All (λ m. m < 256) (rate ∷ n ∷ ns) = All-cons (λ m. m < 256) rate (n ∷ ns) small h in
    ap request_of (words_again (codes "pack") (map decimal (rate ∷ n ∷ ns)) (visible_pack, visible_decimals (rate ∷ n ∷ ns) all))
    ∙ pack_words_again (rate ∷ n ∷ ns) (omega arith) all

part_is : (front part back row : List ℕ) (n m : ℕ) → row ≡ front ++ (part ++ back) → length front ≡ n → length part ≡ m → take m (drop n row) ≡ part
part_is front part back row n m e long short =
    ap (λ r. take m (drop n r)) e ∙ ap (take m) (drop_at front (part ++ back) n long) ∙ take_at part back m short

-- as many codes of each name as there are, each a byte
pub record Bytes (n : ℕ) (xs : List ℕ) : Type 0 where
  pub long : length xs ≡ n
  pub fit : (i : ℕ) → get_or xs i 0 < 256

abbrev made : (lsp plag pgain cbindex cbgain : List ℕ) (cbseed : ℕ) → CodeNumbers
made a b c d e f = record { lsp = a; pitch = record { plag = b; pgain = c }; codebook = record { cbindex = d; cbgain = e }; cbseed = f }

same_numbers : {c d : CodeNumbers} → c.lsp ≡ d.lsp → c.pitch.plag ≡ d.pitch.plag → c.pitch.pgain ≡ d.pitch.pgain → c.codebook.cbindex ≡ d.codebook.cbindex → c.codebook.cbgain ≡ d.codebook.cbgain → c.cbseed ≡ d.cbseed → c ≡ d
same_numbers {c} {d} e1 e2 e3 e4 e5 e6 =
    let same : made c.lsp c.pitch.plag c.pitch.pgain c.codebook.cbindex c.codebook.cbgain c.cbseed ≡ made d.lsp d.pitch.plag d.pitch.pgain d.codebook.cbindex d.codebook.cbgain d.cbseed = cc in
    same

module _ (c : CodeNumbers) (lsp : Bytes 10 c.lsp) (plag : Bytes 4 c.pitch.plag) (pgain : Bytes 4 c.pitch.pgain) (cbindex : Bytes 8 c.codebook.cbindex) (cbgain : Bytes 8 c.codebook.cbgain)
    (cbseed : c.cbseed < 256) where
  row_fits : All (λ n. n < 256) (in_order c)
  row_fits =
      let each = λ (xs : List ℕ) (f : (i : ℕ) → get_or xs i 0 < 256). All-from_get_or (λ n. n < 256) xs 0 (λ i l. f i) in
      All-append (λ n. n < 256) c.lsp _ (each c.lsp lsp.fit)
      (All-append (λ n. n < 256) c.pitch.plag _ (each c.pitch.plag plag.fit)
      (All-append (λ n. n < 256) c.pitch.pgain _ (each c.pitch.pgain pgain.fit)
      (All-append (λ n. n < 256) c.codebook.cbindex _ (each c.codebook.cbindex cbindex.fit)
      (All-append (λ n. n < 256) c.codebook.cbgain _ (each c.codebook.cbgain cbgain.fit)
      (All-cons (λ n. n < 256) c.cbseed [] cbseed (All-nil (λ n. n < 256)))))))

  row_length : length (in_order c) ≡ 35
  row_length = simp length-append (omega (arith, lsp.long, plag.long, pgain.long, cbindex.long, cbgain.long))

  row_again : numbers_of (in_order c) ≡ c
  row_again =
      let row = in_order c in
      let t5 = c.cbseed ∷ [] in
      let t4 = c.codebook.cbgain ++ t5 in
      let t3 = c.codebook.cbindex ++ t4 in
      let t2 = c.pitch.pgain ++ t3 in
      let f2 = c.lsp ++ c.pitch.plag in
      let f3 = f2 ++ c.pitch.pgain in
      let f4 = f3 ++ c.codebook.cbindex in
      let f5 = f4 ++ c.codebook.cbgain in
      let r2 : row ≡ f2 ++ t2 = sym (append_assoc c.lsp c.pitch.plag t2) in
      let r3 : row ≡ f3 ++ t3 = r2 ∙ sym (append_assoc f2 c.pitch.pgain t3) in
      let r4 : row ≡ f4 ++ t4 = r3 ∙ sym (append_assoc f3 c.codebook.cbindex t4) in
      let r5 : row ≡ f5 ++ t5 = r4 ∙ sym (append_assoc f4 c.codebook.cbgain t5) in
      let l2 : length f2 ≡ 14 = omega (arith, length-append c.lsp c.pitch.plag, lsp.long, plag.long) in
      let l3 : length f3 ≡ 18 = omega (arith, length-append f2 c.pitch.pgain, pgain.long) in
      let l4 : length f4 ≡ 26 = omega (arith, length-append f3 c.codebook.cbindex, cbindex.long) in
      let l5 : length f5 ≡ 34 = omega (arith, length-append f4 c.codebook.cbgain, cbgain.long) in
      let e1 : take 10 (drop 0 row) ≡ c.lsp = part_is [] c.lsp (c.pitch.plag ++ t2) row 0 10 refl refl lsp.long in
      let e2 : take 4 (drop 10 row) ≡ c.pitch.plag = part_is c.lsp c.pitch.plag t2 row 10 4 refl lsp.long plag.long in
      let e3 : take 4 (drop 14 row) ≡ c.pitch.pgain = part_is f2 c.pitch.pgain t3 row 14 4 r2 l2 pgain.long in
      let e4 : take 8 (drop 18 row) ≡ c.codebook.cbindex = part_is f3 c.codebook.cbindex t4 row 18 8 r3 l3 cbindex.long in
      let e5 : take 8 (drop 26 row) ≡ c.codebook.cbgain = part_is f4 c.codebook.cbgain t5 row 26 8 r4 l4 cbgain.long in
      let e6 : get_or row 34 0 ≡ c.cbseed = ap (λ l. get_or l 34 0) r5 ∙ get_or_at f5 c.cbseed [] 0 34 l5 in
      same_numbers e1 e2 e3 e4 e5 e6

  pub pack_line : (rate : ℕ) → rate < 256 → reading (codes "pack " ++ (decimal rate ++ (codes " " ++ codes_text c))) ≡ Ok (pack rate c)
  pack_line rate small = pack_row rate (in_order c) small row_length row_fits ∙ ap (λ d. Ok (pack rate d)) row_again

not_hyphen : (w : List ℕ) → 1 < length w → bytes_eq w (codes "-") ≡ false
not_hyphen [] h = absurd (omega arith)
not_hyphen (x ∷ []) h = absurd (omega arith)
not_hyphen (x ∷ y ∷ w) h = and-false (eqb x 45)

packet_again : (bytes : List ℕ) → IsBytes bytes → packet_bytes (packet_text bytes) ≡ Ok bytes
packet_again [] h = refl
packet_again (b ∷ bs) h =
    let w = encode_lower (b ∷ bs) in
    let long : length w ≡ 2 * length (b ∷ bs) = length-encode_with lower_digits (b ∷ bs) in
    rw (not_hyphen w (omega arith), ne_eqb (length w) 0 (omega arith), decode_of-encode_lower (b ∷ bs) h) refl

visible_packet : (bytes : List ℕ) → IsBytes bytes → Visible (packet_text bytes)
visible_packet [] h = All-from_recursion (λ b. 32 < b) (codes "-") (search rules)
visible_packet (b ∷ bs) h = visible_encoded (b ∷ bs) h

pub unpack_line : (rate : ℕ) (bytes : List ℕ) → rate < 256 → IsBytes bytes
    → reading (codes "unpack " ++ (decimal rate ++ (codes " " ++ packet_text bytes))) ≡ Ok (unpack rate bytes)
unpack_line rate bytes small h =
    let w = packet_text bytes in
    ap request_of (words_again (codes "unpack") (decimal rate ∷ w ∷ []) (visible_unpack, (visible_decimal rate small, (visible_packet bytes h, tt))))
    ∙ rw (number_decimal rate small, packet_again bytes h) refl
