-- The codes of a record in order, and the list of them with PCB.
use Rattle.std.proofs.Common.{◌≡◌, ℕ, suc, ◌+◌, ◌-◌, ◌<◌, ◌≤◌, replicate, List, [], ◌∷◌, ◌++◌, length, get_or, set, take, drop, slice_set, refl, sym, ◌∙◌, ap, ap₂, arith}
use Rattle.std.proofs.Math.Seq.{take-add}
use Rattle.std.proofs.lemmas.List.{take_more, take_more_set, append_assoc, take_all, append-nil, length-set, length-take, get_or-take, drop-take, take-take, set_at}
use Rattle.packet.specs.declared.codes.CodeNumbers.{CodeNumbers}
use Rattle.packet.specs.Codes.{in_order, numbers_of}

-- the list after i codes
unfoldable pub Put : List ℕ → ℕ → List ℕ → ℕ → List ℕ → Type 0
Put list0 from codes i list = take (from + i) list ≡ take from list0 ++ take i codes

module _ (list0 : List ℕ) (from : ℕ) (codes : List ℕ) where
  pub put_none : Put list0 from codes 0 list0
  unfolding Put
  put_none = ap (λ n. take n list0) (omega arith) ∙ sym (append-nil (take from list0))

  pub put_more : (list : List ℕ) (i : ℕ) → from + i < length list → i < length codes → Put list0 from codes i list
      → Put list0 from codes (i + 1) (slice_set list (from + i) (get_or codes i 0))
  unfolding Put
  put_more list i h l so =
      let c = get_or codes i 0 in
      ap (λ n. take n (set list (from + i) c)) (omega arith)
      ∙ take_more_set list (from + i) c h
      ∙ ap (λ f. f ++ c ∷ []) so
      ∙ append_assoc (take from list0) (take i codes) (c ∷ [])
      ∙ ap (λ t. take from list0 ++ t) (sym (take_more codes i 0 l))

  pub put_all : (list : List ℕ) (i : ℕ) → length codes ≤ i → i ≤ length codes → Put list0 from codes i list → take (from + length codes) list ≡ take from list0 ++ codes
  unfolding Put
  put_all list i more less so =
      let e : length codes ≡ i = omega arith in
      ap (λ n. take (from + n) list) e ∙ so ∙ ap (λ l. take from list0 ++ l) (take_all i codes more)

-- the codes in order, from the fields that were put there one after the other
pub order_put : (c : CodeNumbers) (r0 r1 r2 r3 r4 r5 : List ℕ) → length c.lsp ≡ 10 → length c.pitch.plag ≡ 4 → length c.pitch.pgain ≡ 4
    → length c.codebook.cbindex ≡ 8 → length c.codebook.cbgain ≡ 8 → length r5 ≡ 35
    → take (0 + length c.lsp) r1 ≡ take 0 r0 ++ c.lsp
    → take (10 + length c.pitch.plag) r2 ≡ take 10 r1 ++ c.pitch.plag
    → take (14 + length c.pitch.pgain) r3 ≡ take 14 r2 ++ c.pitch.pgain
    → take (18 + length c.codebook.cbindex) r4 ≡ take 18 r3 ++ c.codebook.cbindex
    → take (26 + length c.codebook.cbgain) r5 ≡ take 26 r4 ++ c.codebook.cbgain
    → slice_set r5 34 c.cbseed ≡ in_order c
order_put c r0 r1 r2 r3 r4 r5 h1 h2 h3 h4 h5 long e1 e2 e3 e4 e5 =
    let f1 : take 10 r1 ≡ c.lsp = ap (λ n. take (0 + n) r1) (sym h1) ∙ e1 in
    let f2 : take 14 r2 ≡ c.lsp ++ c.pitch.plag = ap (λ n. take (10 + n) r2) (sym h2) ∙ e2 ∙ ap (λ l. l ++ c.pitch.plag) f1 in
    let f3 : take 18 r3 ≡ (c.lsp ++ c.pitch.plag) ++ c.pitch.pgain = ap (λ n. take (14 + n) r3) (sym h3) ∙ e3 ∙ ap (λ l. l ++ c.pitch.pgain) f2 in
    let f4 : take 26 r4 ≡ ((c.lsp ++ c.pitch.plag) ++ c.pitch.pgain) ++ c.codebook.cbindex = ap (λ n. take (18 + n) r4) (sym h4) ∙ e4 ∙ ap (λ l. l ++ c.codebook.cbindex) f3 in
    let f5 : take 34 r5 ≡ (((c.lsp ++ c.pitch.plag) ++ c.pitch.pgain) ++ c.codebook.cbindex) ++ c.codebook.cbgain = ap (λ n. take (26 + n) r5) (sym h5) ∙ e5 ∙ ap (λ l. l ++ c.codebook.cbgain) f4 in
    let r6 = set r5 34 c.cbseed in
    let f6 : take 35 r6 ≡ ((((c.lsp ++ c.pitch.plag) ++ c.pitch.pgain) ++ c.codebook.cbindex) ++ c.codebook.cbgain) ++ c.cbseed ∷ [] = take_more_set r5 34 c.cbseed (omega arith) ∙ ap (λ l. l ++ c.cbseed ∷ []) f5 in
    sym (take_all 35 r6 (omega (arith, length-set r5 34 c.cbseed))) ∙ f6 ∙ simp append_assoc

-- the list of 36 after i codes of the order, with PCB in the places that are left
unfoldable pub listed : List ℕ → ℕ → ℕ → List ℕ
listed order pcb i = take i order ++ replicate (36 - i) pcb

module _ (order : List ℕ) (pcb : ℕ) where
  pub listed_none : listed order pcb 0 ≡ replicate 36 pcb
  unfolding listed
  listed_none = refl

  pub listed_more : (i : ℕ) → i < length order → length order ≡ 35 → slice_set (listed order pcb i) i (get_or order i 0) ≡ listed order pcb (i + 1)
  unfolding listed
  listed_more i h long =
      let front : length (take i order) ≡ i = omega (arith, length-take i order) in
      let left : 36 - i ≡ suc (36 - (i + 1)) = omega arith in
      ap (λ n. set (take i order ++ replicate n pcb) i (get_or order i 0)) left
      ∙ set_at (take i order) pcb (replicate (36 - (i + 1)) pcb) (get_or order i 0) i front
      ∙ sym (append_assoc (take i order) (get_or order i 0 ∷ []) (replicate (36 - (i + 1)) pcb))
      ∙ ap (λ l. l ++ replicate (36 - (i + 1)) pcb) (sym (take_more order i 0 h))

  pub listed_all : (i : ℕ) → length order ≤ i → i ≤ length order → length order ≡ 35 → listed order pcb i ≡ order ++ pcb ∷ []
  unfolding listed
  listed_all i more less long =
      let same : i ≡ 35 = omega arith in
      ap (λ n. take n order ++ replicate (36 - n) pcb) same ∙ ap (λ l. l ++ pcb ∷ []) (take_all 35 order (omega arith))

-- the first i codes of the list
unfoldable pub Narrowed : List ℕ → ℕ → List ℕ → Type 0
Narrowed list i codes = take i codes ≡ take i list

module _ (list : List ℕ) where
  pub narrowed_none : (codes : List ℕ) → Narrowed list 0 codes
  unfolding Narrowed
  narrowed_none codes = refl

  pub narrowed_more : (codes : List ℕ) (i : ℕ) → i < length codes → i < length list → Narrowed list i codes → Narrowed list (i + 1) (slice_set codes i (get_or list i 0))
  unfolding Narrowed
  narrowed_more codes i h l e =
      take_more_set codes i (get_or list i 0) h
      ∙ ap (λ f. f ++ get_or list i 0 ∷ []) e
      ∙ sym (take_more list i 0 l)

  pub narrowed_all : (codes : List ℕ) (i : ℕ) → length codes ≡ 35 → 35 ≤ i → i ≤ 35 → Narrowed list i codes → codes ≡ take 35 list
  unfolding Narrowed
  narrowed_all codes i long more less e =
      let same : i ≡ 35 = omega arith in
      sym (take_all i codes (omega arith)) ∙ e ∙ ap (λ m. take m list) same

-- the part of a list is that of its first 35
part_of_front : (list : List ℕ) (n m : ℕ) → n + m ≤ 35 → take m (drop n (take 35 list)) ≡ take m (drop n list)
part_of_front list n m h =
    let e : 35 ≡ n + (35 - n) = omega arith in
    ap (λ k. take m (drop n (take k list))) e ∙ ap (take m) (drop-take n (35 - n) list) ∙ take-take m (35 - n) (drop n list) (omega arith)

pub numbers_of_front : (list codes : List ℕ) → codes ≡ take 35 list → numbers_of codes ≡ numbers_of list
numbers_of_front list codes e =
    ap numbers_of e
    ∙ rw (part_of_front list 0 10 (omega arith), part_of_front list 10 4 (omega arith), part_of_front list 14 4 (omega arith), part_of_front list 18 8 (omega arith), part_of_front list 26 8 (omega arith), get_or-take 35 list 34 0 (omega arith)) refl

-- the list again, from fields that were taken from it
pub list_again : (list : List ℕ) (c : CodeNumbers) → length list ≡ 36 → c.lsp ≡ take 10 (drop 0 list) → c.pitch.plag ≡ take 4 (drop 10 list)
    → c.pitch.pgain ≡ take 4 (drop 14 list) → c.codebook.cbindex ≡ take 8 (drop 18 list) → c.codebook.cbgain ≡ take 8 (drop 26 list) → c.cbseed ≡ get_or list 34 0
    → in_order c ≡ take 35 list
list_again list c long e1 e2 e3 e4 e5 e6 =
    let f2 : take 14 list ≡ c.lsp ++ c.pitch.plag = take-add 10 4 list ∙ ap₂ (λ a b. a ++ b) (sym e1) (sym e2) in
    let f3 : take 18 list ≡ (c.lsp ++ c.pitch.plag) ++ c.pitch.pgain = take-add 14 4 list ∙ ap₂ (λ a b. a ++ b) f2 (sym e3) in
    let f4 : take 26 list ≡ ((c.lsp ++ c.pitch.plag) ++ c.pitch.pgain) ++ c.codebook.cbindex = take-add 18 8 list ∙ ap₂ (λ a b. a ++ b) f3 (sym e4) in
    let f5 : take 34 list ≡ (((c.lsp ++ c.pitch.plag) ++ c.pitch.pgain) ++ c.codebook.cbindex) ++ c.codebook.cbgain = take-add 26 8 list ∙ ap₂ (λ a b. a ++ b) f4 (sym e5) in
    let f6 : take 35 list ≡ ((((c.lsp ++ c.pitch.plag) ++ c.pitch.pgain) ++ c.codebook.cbindex) ++ c.codebook.cbgain) ++ c.cbseed ∷ []
    = take_more list 34 0 (omega arith) ∙ ap₂ (λ a x. a ++ x ∷ []) f5 (sym e6) in
    sym (f6 ∙ simp append_assoc)
