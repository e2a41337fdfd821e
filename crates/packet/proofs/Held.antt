-- The codes that a packet holds, from the list that was read.
use Rattle.std.proofs.Common.{◌≡◌, ◌≢◌, ℕ, zero, suc, ◌+◌, ◌-◌, ◌^◌, ◌<◌, ◌≤◌, nat_lt, List, [], ◌∷◌, length, replicate, take, drop, Option, Some, None, slice_index, refl, sym, ◌∙◌, ap, subst, arith, add-one}
use Rattle.std.proofs.lemmas.Bool.{cond-true, lt-ltb}
use Rattle.std.proofs.lemmas.List.{get_or-drop, get_or-take, length-drop, length-take}
use Rattle.service.specs.declared.rates.Rate.{Rate}
use Rattle.service.specs.Rates.{rate_is}
use Rattle.packet_layout.specs.declared.code_bits.CodeName.{CodeName}
use Rattle.packet_layout.specs.declared.code_bits.CodeName.TheVariants.{Lsp, Plag, Pgain, Cbindex, Cbgain, Cbseed, Pcb}
use Rattle.packet_layout.specs.declared.code_bits.CodeBit.{CodeBit}
use Rattle.packet_layout.specs.CodeBits.{Has, bits_at, code_bit, count, width, first, index}
use Rattle.packet_layout.specs.Layouts.{at, layout}
use Rattle.packet_layout.proofs.Laws.{at_each_rate}
use Rattle.packet_layout.proofs.Names.{back, below, bit_lt_code, code_at, index_lt_pcb, most, named}
use Rattle.packet_layout.proofs.Once.{place_lt}
use Rattle.packet.specs.declared.codes.CodeNumbers.{CodeNumbers}
use Rattle.packet.proofs.Reading.{holds_bit, holds_none, holds_spare, marked}
use Rattle.packet.specs.Bits.{bit, bit_at, value}
use Rattle.packet.specs.Reading.{CarriedBefore, HoldsBits, ReadsTo}
use Rattle.packet.specs.Calls.{Holds}
use Rattle.packet.specs.Codes.{Sized, Within, in_order, numbers_of}
use Rattle.packet_layout.specs.CodeBits.{Fits}
use Rattle.packet.proofs.Fields.{list_again}
use Rattle.packet.proofs.Numbers.{width_of}

-- no place carries a bit above a code's width, or of a code that the rate lacks
not_carried : (rate : Rate) (n : ℕ) (name : CodeName) (i b : ℕ) → i < most name → bits_at rate name i ≤ b → CarriedBefore rate n (first name + i) b → ⊥
not_carried rate n name i b h above (k, (c, (less, (e, (ei, eb))))) =
    let has : Has rate c = (at_each_rate rate).carried k c e in
    let at_i : index c ≡ first name + (i + 1) - 1 = omega (arith, ei) in
    let is : c ≡ code_bit name (i + 1) b =
    sym (back rate c has) ∙ ap (λ s. code_at s c.bit) at_i ∙ ap (code_at (first name + (i + 1) - 1)) eb ∙ named name (i + 1) b (omega arith) (omega arith) in
    let this : Has rate (code_bit name (i + 1) b) = subst (Has rate) is has in
    let inside : i < count rate name = omega (arith, this.to) in
    let w : bits_at rate name i ≡ width rate name = cond-true (nat_lt i (count rate name)) (width rate name) 0 (lt-ltb i (count rate name) inside) in
    omega (arith, this.bit, w)

-- each code that was read is within its width
module _ (rate : Rate) (packet list : List ℕ) (r : HoldsBits rate (rate_is rate).bits packet list) where
  read_fits : (name : CodeName) (i : ℕ) → i < most name → slice_index list (first name + i) < 2 ^ bits_at rate name i
  read_fits name i h =
      let less : first name + i < 36 = omega (arith, below name (i + 1) (omega arith)) in
      width_of (slice_index list (first name + i)) (bits_at rate name i)
      (λ b above. r.others (first name + i) b less (not_carried rate (rate_is rate).bits name i b h above))

  part_fits : (name : CodeName) → Fits rate name (take (most name) (drop (first name) list))
  part_fits name i h =
      let codes = drop (first name) list in
      let less : i < most name = omega (arith, length-take (most name) codes) in
      let e : slice_index (take (most name) codes) i ≡ slice_index list (first name + i) = get_or-take (most name) codes i 0 less ∙ get_or-drop (first name) list i 0 in
      subst (λ x. x < 2 ^ bits_at rate name i) (sym e) (read_fits name i less)

  seed_fits : Fits rate Cbseed (slice_index list (first Cbseed) ∷ [])
  seed_fits i h = let z : 0 ≡ i = omega arith in subst (λ j. slice_index (slice_index list (first Cbseed) ∷ []) j < 2 ^ bits_at rate Cbseed j) z (read_fits Cbseed 0 (omega arith))

  part_length : (from n : ℕ) → from + n ≤ 36 → length (take n (drop from list)) ≡ n
  part_length from n h = omega (arith, length-take n (drop from list), length-drop from list, r.size)

  read_sized : Sized (numbers_of list)
  read_sized = record {
    lsp = part_length 0 10 (omega arith);
    plag = part_length 10 4 (omega arith);
    pgain = part_length 14 4 (omega arith);
    cbindex = part_length 18 8 (omega arith);
    cbgain = part_length 26 8 (omega arith);
  }

  read_within : Within rate (numbers_of list)
  read_within = record {
    sized = read_sized;
    lsp = part_fits Lsp;
    plag = part_fits Plag;
    pgain = part_fits Pgain;
    cbindex = part_fits Cbindex;
    cbgain = part_fits Cbgain;
    cbseed = seed_fits;
  }

  read_bits : (k : ℕ) (b : CodeBit) → at (layout rate) k ≡ Some b → b.name ≢ Pcb → value (in_order (numbers_of list)) (Some b) ≡ bit_at packet k
  read_bits k b e other =
      let law = at_each_rate rate in
      let front : in_order (numbers_of list) ≡ take 35 list = list_again list (numbers_of list) r.size refl refl refl refl refl refl in
      let less : index b < 35 = index_lt_pcb rate b (law.carried k b e) other in
      ap (λ xs. value xs (Some b)) front ∙ ap (λ n. bit n b.bit) (get_or-take 35 list (index b) 0 less)
      ∙ r.bits k b (omega (arith, place_lt (layout rate) k b e, law.bits)) e

pub read_holds : (rate : Rate) (packet list : List ℕ) → ReadsTo rate (rate_is rate).bits packet list → Holds rate packet (numbers_of list)
unfolding ReadsTo
read_holds rate packet list r = record { within = read_within rate packet list r; bits = read_bits rate packet list r }

-- each code but PCB fits a byte
pub read_narrow : (rate : Rate) (packet list : List ℕ) → ReadsTo rate (rate_is rate).bits packet list
    → (s : ℕ) → s < 35 → slice_index list s < 256
unfolding ReadsTo
read_narrow rate packet list r s h =
    width_of (slice_index list s) 8
    (λ b above. r.others s b (omega arith)
    (λ (k, (c, (less, (e, (ei, eb))))). omega (arith, bit_lt_code rate c ((at_each_rate rate).carried k c e) (omega arith))))

-- ---- each packet holds a record: what is read of it, place by place

read_more : (rate : Rate) (packet list : List ℕ) (n : ℕ) → HoldsBits rate n packet list → (o : Option CodeBit) → at (layout rate) n ≡ o
    → (next : List ℕ) × HoldsBits rate (n + 1) packet next
read_more rate packet list n r None e = (list, holds_spare (at_each_rate rate) packet list n e r)
read_more rate packet list n r (Some c) e = (marked list c (bit_at packet n), holds_bit (at_each_rate rate) packet list n c e r)

read_some : (rate : Rate) (packet : List ℕ) (n : ℕ) → (list : List ℕ) × HoldsBits rate n packet list
read_some rate packet zero = (replicate 36 0, holds_none (at_each_rate rate) packet)
read_some rate packet (suc n) =
    let (list, r) = read_some rate packet n in
    let (next, held) = read_more rate packet list n r (at (layout rate) n) refl in
    (next, subst (λ m. HoldsBits rate m packet next) (add-one n) held)

pub some_record : (rate : Rate) (bytes : List ℕ) → (c : CodeNumbers) × Holds rate bytes c
some_record rate bytes =
    let (list, r) = read_some rate bytes (rate_is rate).bits in
    (numbers_of list, record { within = read_within rate bytes list r; bits = read_bits rate bytes list r })
