-- The codes of a frame by their names, and in order.
use Rattle.std.proofs.Common.{◌≡◌, ◌≢◌, ℕ, ◌+◌, ◌<◌, List, [], ◌∷◌, ◌++◌, length, slice_index, zero-add, refl, sym, ◌∙◌, ap, arith}
use Rattle.std.proofs.lemmas.List.{get_or_append_left, get_or-append-add, length-append}
use Rattle.service.specs.declared.rates.Rate.{Rate}
use Rattle.packet_layout.specs.declared.code_bits.CodeName.{CodeName}
use Rattle.packet_layout.specs.declared.code_bits.CodeName.TheVariants.{Lsp, Plag, Pgain, Cbindex, Cbgain, Cbseed, Pcb}
use Rattle.packet_layout.specs.CodeBits.{first}
use Rattle.packet_layout.proofs.Names.{most}
use Rattle.packet.specs.declared.codes.CodeNumbers.{CodeNumbers}
use Rattle.packet.specs.Codes.{Within, in_order}
use Rattle.packet_layout.specs.CodeBits.{Fits}
use Rattle.packet.specs.Codes.{Sized}

-- the codes of a name; PCB is none of the codes
abbrev pub codes_of : CodeName → CodeNumbers → List ℕ
codes_of Lsp c = c.lsp
codes_of Plag c = c.pitch.plag
codes_of Pgain c = c.pitch.pgain
codes_of Cbindex c = c.codebook.cbindex
codes_of Cbgain c = c.codebook.cbgain
codes_of Cbseed c = c.cbseed ∷ []
codes_of Pcb c = []

pub codes_length : (c : CodeNumbers) → Sized c → (name : CodeName) → name ≢ Pcb → length (codes_of name c) ≡ most name
codes_length c size Lsp other = size.lsp
codes_length c size Plag other = size.plag
codes_length c size Pgain other = size.pgain
codes_length c size Cbindex other = size.cbindex
codes_length c size Cbgain other = size.cbgain
codes_length c size Cbseed other = refl
codes_length c size Pcb other = absurd (other refl)

pub all_fit : (rate : Rate) (c : CodeNumbers) → Within rate c → (name : CodeName) → name ≢ Pcb → Fits rate name (codes_of name c)
all_fit rate c within Lsp other = within.lsp
all_fit rate c within Plag other = within.plag
all_fit rate c within Pgain other = within.pgain
all_fit rate c within Cbindex other = within.cbindex
all_fit rate c within Cbgain other = within.cbgain
all_fit rate c within Cbseed other = within.cbseed
all_fit rate c within Pcb other = absurd (other refl)

-- past the n elements of a list stands the rest
past : (xs ys : List ℕ) (n i j : ℕ) → length xs ≡ n → n + i ≡ j → slice_index (xs ++ ys) j ≡ slice_index ys i
past xs ys n i j long e = ap (slice_index (xs ++ ys)) (sym e ∙ ap (λ m. m + i) (sym long)) ∙ get_or-append-add xs ys i 0

front : (xs ys : List ℕ) (n i : ℕ) → length xs ≡ n → i < n → slice_index (xs ++ ys) i ≡ slice_index xs i
front xs ys n i long h = get_or_append_left xs ys 0 i (omega arith)

module _ (c : CodeNumbers) (size : Sized c) where
  pub in_order_length : length (in_order c) ≡ 35
  in_order_length = let h1 = size.lsp in let h2 = size.plag in let h3 = size.pgain in let h4 = size.cbindex in let h5 = size.cbgain in simp length-append (omega arith)

  after_lsp : (i j : ℕ) → 10 + i ≡ j → slice_index (in_order c) j ≡ slice_index (c.pitch.plag ++ (c.pitch.pgain ++ (c.codebook.cbindex ++ (c.codebook.cbgain ++ (c.cbseed ∷ []))))) i
  after_lsp i j e = past c.lsp _ 10 i j size.lsp e

  after_plag : (i j : ℕ) → 14 + i ≡ j → slice_index (in_order c) j ≡ slice_index (c.pitch.pgain ++ (c.codebook.cbindex ++ (c.codebook.cbgain ++ (c.cbseed ∷ [])))) i
  after_plag i j e = after_lsp (4 + i) j (omega arith) ∙ past c.pitch.plag _ 4 i (4 + i) size.plag refl

  after_pgain : (i j : ℕ) → 18 + i ≡ j → slice_index (in_order c) j ≡ slice_index (c.codebook.cbindex ++ (c.codebook.cbgain ++ (c.cbseed ∷ []))) i
  after_pgain i j e = after_plag (4 + i) j (omega arith) ∙ past c.pitch.pgain _ 4 i (4 + i) size.pgain refl

  after_cbindex : (i j : ℕ) → 26 + i ≡ j → slice_index (in_order c) j ≡ slice_index (c.codebook.cbgain ++ (c.cbseed ∷ [])) i
  after_cbindex i j e = after_pgain (8 + i) j (omega arith) ∙ past c.codebook.cbindex _ 8 i (8 + i) size.cbindex refl

  after_cbgain : (i j : ℕ) → 34 + i ≡ j → slice_index (in_order c) j ≡ slice_index (c.cbseed ∷ []) i
  after_cbgain i j e = after_cbindex (8 + i) j (omega arith) ∙ past c.codebook.cbgain _ 8 i (8 + i) size.cbgain refl

  -- a code by its name stands in the order where its name begins
  pub at_name : (name : CodeName) (i : ℕ) → name ≢ Pcb → i < most name → slice_index (in_order c) (first name + i) ≡ slice_index (codes_of name c) i
  at_name Lsp i other h = ap (slice_index (in_order c)) (zero-add i) ∙ front c.lsp _ 10 i size.lsp h
  at_name Plag i other h = after_lsp i (10 + i) refl ∙ front c.pitch.plag _ 4 i size.plag h
  at_name Pgain i other h = after_plag i (14 + i) refl ∙ front c.pitch.pgain _ 4 i size.pgain h
  at_name Cbindex i other h = after_pgain i (18 + i) refl ∙ front c.codebook.cbindex _ 8 i size.cbindex h
  at_name Cbgain i other h = after_cbindex i (26 + i) refl ∙ front c.codebook.cbgain _ 8 i size.cbgain h
  at_name Cbseed i other h = after_cbgain i (34 + i) refl
  at_name Pcb i other h = absurd (other refl)

abbrev made : List ℕ → List ℕ → List ℕ → List ℕ → List ℕ → ℕ → CodeNumbers
made l p g i n s = record { lsp = l; pitch = record { plag = p; pgain = g }; codebook = record { cbindex = i; cbgain = n }; cbseed = s }

-- two records with the same codes of each name are equal
pub same_codes : (c d : CodeNumbers) → ((name : CodeName) → name ≢ Pcb → codes_of name c ≡ codes_of name d) → c ≡ d
same_codes c d same =
    ap (λ l. made l c.pitch.plag c.pitch.pgain c.codebook.cbindex c.codebook.cbgain c.cbseed) (same Lsp (λ e. let h = ap first e in omega (arith, h)))
    ∙ ap (λ p. made d.lsp p c.pitch.pgain c.codebook.cbindex c.codebook.cbgain c.cbseed) (same Plag (λ e. let h = ap first e in omega (arith, h)))
    ∙ ap (λ g. made d.lsp d.pitch.plag g c.codebook.cbindex c.codebook.cbgain c.cbseed) (same Pgain (λ e. let h = ap first e in omega (arith, h)))
    ∙ ap (λ i. made d.lsp d.pitch.plag d.pitch.pgain i c.codebook.cbgain c.cbseed) (same Cbindex (λ e. let h = ap first e in omega (arith, h)))
    ∙ ap (λ n. made d.lsp d.pitch.plag d.pitch.pgain d.codebook.cbindex n c.cbseed) (same Cbgain (λ e. let h = ap first e in omega (arith, h)))
    ∙ ap (λ s. made d.lsp d.pitch.plag d.pitch.pgain d.codebook.cbindex d.codebook.cbgain s) (ap (λ l. slice_index l 0) (same Cbseed (λ e. let h = ap first e in omega (arith, h))))
