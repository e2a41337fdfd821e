-- With at most four of the 29 bits changed, what is read is what was sent.
use Rattle.std.proofs.Common.{◌≡◌, ℕ, suc, ◌+◌, ◌*◌, ◌/◌, ◌%◌, ◌^◌, ◌<◌, ◌≤◌, Some, None, Option, sym, refl, ap, ◌∙◌, ap₂, inl, inr, add-zero, one-mul, pow-suc, add-one, arith, pow_pos, pow_mono}
use lib.Arith.{bin_ind}
use lib.Bits.{bit_and, bit_xor, xor_comm, xor_self, xor_shr, xor_mod, xor_lt, xor_shifted, xor_add_and, and_shr, and_mod}
use lib.Count.{ones, ones_step, ones_cat}
use lib.Pow.{pow-lt}
use Rattle.std.proofs.lemmas.Nat.{zero_from_ones}
use Rattle.std.proofs.lemmas.Bool.{cases_lt}
use Rattle.cyclic.specs.Polynomials.{rem}
use Rattle.cyclic.specs.Words.{codeword, sent, cyclic_bits, message, syndrome, parity, corrected, differing, Points, PlainRule, SuspectRule}
use Rattle.cyclic.specs.Laws.{FourChanges}
use Rattle.cyclic.proofs.Linear.{bit_cases, xor_back, xor_none, rem-xor, rem_lt, rem_low}
use Rattle.cyclic.proofs.Distance.{distance}

-- ---- how many bits are set

pub ones_bit : (t : ℕ) → t < 2 → ones t ≡ t
unfolding ones
ones_bit = bit_cases (λ (t : ℕ). ones t ≡ t) refl refl

pub ones_both : (a b : ℕ) → ones (bit_xor a b) + 2 * ones (bit_and a b) ≡ ones a + ones b
ones_both =
    bin_ind (λ (a : ℕ). (b : ℕ) → ones (bit_xor a b) + 2 * ones (bit_and a b) ≡ ones a + ones b) (λ b. let z = ones_bit 0 (omega arith) in omega arith)
    (λ a ih b.
    let u : ones (bit_xor a b) ≡ bit_xor (a % 2) (b % 2) + ones (bit_xor (a / 2) (b / 2)) =
    ones_step (bit_xor a b) ∙ ap₂ (λ (m n : ℕ). m + ones n) (xor_mod a b 1) (xor_shr a b 1) in
    let v : ones (bit_and a b) ≡ bit_and (a % 2) (b % 2) + ones (bit_and (a / 2) (b / 2)) =
    ones_step (bit_and a b) ∙ ap₂ (λ (m n : ℕ). m + ones n) (and_mod a b 1) (and_shr a b 1) in
    omega (arith, u, v, ih (b / 2), xor_add_and (a % 2) (b % 2), ones_step a, ones_step b))

pub ones_pow : (p : ℕ) → ones (2 ^ p) ≡ 1
unfolding ones
ones_pow p =
    ap ones (sym (add-zero (2 ^ p)) ∙ ap (λ (n : ℕ). n + 0) (sym (one-mul (2 ^ p)))) ∙ ones_cat p 1 0 (pow_pos p)

pub ones_one : (w : ℕ) → ones w ≡ 1 → (p : ℕ) × (w ≡ 2 ^ p)
unfolding ones
ones_one =
    bin_ind (λ (w : ℕ). ones w ≡ 1 → (p : ℕ) × (w ≡ 2 ^ p)) (λ h. absurd (omega arith))
    (λ w ih h.
    let s = ones_step w in
    elim (cases_lt (w % 2) 1) [
      | inl l ↦
          let e = ih (omega arith) in
          let t = e.1 in
          let u = pow-suc 2 e.0 in
          (suc e.0, omega arith)
      | inr g ↦ let z : w / 2 ≡ 0 = zero_from_ones (w / 2) (omega arith) in (0, omega arith)
    ])

-- ---- the codeword

module _ (a : ℕ) where
  pub codeword_rem : rem (codeword a) ≡ 0
  codeword_rem =
      let r = rem (a * 2 ^ 10) in
      ap rem (sym (xor_shifted a 10 r (rem_lt (a * 2 ^ 10))))
      ∙ rem-xor (a * 2 ^ 10) r
      ∙ ap (bit_xor r) (rem_low r (rem_lt (a * 2 ^ 10)))
      ∙ xor_self r

  pub codeword_data : codeword a / 2 ^ 10 ≡ a
  codeword_data = let h = rem_lt (a * 2 ^ 10) in omega arith

  pub codeword_lt : a < 2 ^ 18 → codeword a < 2 ^ 28
  codeword_lt l = let h = rem_lt (a * 2 ^ 10) in omega arith

  pub sent_half : cyclic_bits (sent a) ≡ codeword a
  sent_half = omega arith

  -- an even number of the bits sent are 1
  pub sent_even : parity (sent a) ≡ 0
  sent_even =
      let n = ones (codeword a) in
      let e = ones_cat 1 (codeword a) (n % 2) (omega arith) in
      let f = ones_bit (n % 2) (omega arith) in
      omega arith

-- ---- a word with one place corrected

pub cyclic_bits-corrected : (w p : ℕ) → cyclic_bits (corrected w p) ≡ bit_xor (cyclic_bits w) (2 ^ p)
cyclic_bits-corrected w p =
    let d : 2 ^ (p + 1) ≡ 2 ^ p * 2 = ap (λ (n : ℕ). 2 ^ n) (add-one p) ∙ pow-suc 2 p in
    let half : 2 ^ (p + 1) / 2 ≡ 2 ^ p = omega arith in
    xor_shr w (2 ^ (p + 1)) 1 ∙ ap (bit_xor (w / 2)) half

pub message-cyclic_bits : (w : ℕ) → message w ≡ cyclic_bits w / 2 ^ 10
message-cyclic_bits w = omega arith

-- ---- the word received

module _ (a w : ℕ) (la : a < 2 ^ 18) (lw : w < 2 ^ 29) where
  -- where the 28 bits changed
  abbrev pub changed : ℕ
  changed = bit_xor (codeword a) (cyclic_bits w)

  pub changed_lt : changed < 2 ^ 28
  changed_lt = xor_lt 28 (codeword a) (w / 2) (codeword_lt a la) (omega arith)

  -- the 28 places, and the parity bit
  pub split : differing (sent a) w ≡ ones changed + bit_xor (sent a) w % 2
  split =
      let e : bit_xor (sent a) w / 2 ≡ changed = xor_shr (sent a) w 1 ∙ ap (λ (n : ℕ). bit_xor n (w / 2)) (sent_half a) in
      let s = ones_step (bit_xor (sent a) w) in
      let f = ap ones e in
      omega arith

  pub syndrome_is : syndrome w ≡ rem changed
  syndrome_is = sym (rem-xor (codeword a) (w / 2) ∙ ap (λ (r : ℕ). bit_xor r (rem (w / 2))) (codeword_rem a))

  pub parity_is : parity w ≡ differing (sent a) w % 2
  parity_is = omega (arith, ones_both (sent a) w, sent_even a)

  -- nothing changed, so the guarded code bits are those sent
  pub same_data : changed ≡ 0 → message w ≡ a
  same_data z = let e = xor_none (codeword a) (w / 2) z in let d = codeword_data a in omega arith

  -- one place changed, so the guarded code bits are those sent once it is corrected
  pub mended_data : (p : ℕ) → changed ≡ 2 ^ p → message (corrected w p) ≡ a
  mended_data p e =
      message-cyclic_bits (corrected w p)
      ∙ ap (λ (n : ℕ). n / 2 ^ 10)
      (cyclic_bits-corrected w p ∙ ap (bit_xor (w / 2)) (sym e ∙ xor_comm (codeword a) (w / 2)) ∙ xor_back (w / 2) (codeword a))
      ∙ codeword_data a

  pub none_changed : ones changed ≤ 4 → syndrome w ≡ 0 → changed ≡ 0
  none_changed o z = distance changed changed_lt o (sym syndrome_is ∙ z)

  -- a syndrome that points at a place comes from that place alone, where at most three of the 28 changed
  pub one_changed : ones changed ≤ 3 → (p : ℕ) → Points (syndrome w) p → changed ≡ 2 ^ p
  one_changed o p (l, e) =
      let u = ones_both changed (2 ^ p) in
      let v = ones_pow p in
      xor_none changed (2 ^ p)
      (distance (bit_xor changed (2 ^ p)) (xor_lt 28 changed (2 ^ p) changed_lt (pow-lt l)) (omega arith)
      (rem-xor changed (2 ^ p) ∙ ap (bit_xor (rem changed)) (e ∙ syndrome_is) ∙ xor_self (rem changed)))

  pub some_changed : (syndrome w ≡ 0 → ⊥) → 1 ≤ ones changed
  unfolding rem
  some_changed z = elim (cases_lt 0 (ones changed)) [
    | inl l ↦ l
    | inr g ↦ absurd (z (syndrome_is ∙ ap rem (zero_from_ones changed (omega arith))))
  ]

  suspect_read : (r : Option ℕ) → SuspectRule w r → differing (sent a) w ≤ 1 → r ≡ Some a
  suspect_read (Some v) (inl (z, e)) h = let s = split in ap Some (e ∙ same_data (none_changed (omega arith) z))
  suspect_read (Some v) (inr (p, (o, at), e)) h =
      let s = split in ap Some (e ∙ mended_data p (one_changed (omega arith) p at))
  suspect_read None (z, n) h =
      let s = split in
      let q = parity_is in
      let c = some_changed z in
      let k = ones_one changed (omega arith) in
      let l : k.0 < 28 = elim (cases_lt k.0 28) [ inl l ↦ l | inr g ↦ absurd (omega (arith, pow_mono g, k.1, changed_lt)) ] in
      absurd (n k.0 (omega arith, (l, ap rem (sym k.1) ∙ sym syndrome_is)))

  suspect_erased : (r : Option ℕ) → SuspectRule w r → differing (sent a) w ≤ 4 → 1 < differing (sent a) w → r ≡ None
  suspect_erased None h few two = refl
  suspect_erased (Some v) (inl (z, e)) few two =
      let s = split in
      let c = ap ones (none_changed (omega arith) z) in
      let o = ones_bit 0 (omega arith) in
      absurd (omega arith)
  suspect_erased (Some v) (inr (p, (o, at), e)) few two =
      let s = split in
      let q = parity_is in
      let c = ap ones (one_changed (omega arith) p at) in
      let k = ones_pow p in
      absurd (omega arith)

  plain_read : (r : Option ℕ) → PlainRule w r → ones changed ≤ 0 → r ≡ Some a
  plain_read (Some v) (z, e) h = ap Some (e ∙ same_data (none_changed (omega arith) z))
  plain_read None z h = let c = some_changed z in absurd (omega arith)

  plain_erased : (r : Option ℕ) → PlainRule w r → ones changed ≤ 4 → 0 < ones changed → r ≡ None
  plain_erased None z few h = refl
  plain_erased (Some v) (z, e) few h =
      let c = ap ones (none_changed few z) in
      let o = ones_bit 0 (omega arith) in
      absurd (omega arith)

pub four_changes : FourChanges
four_changes a w f =
    let la = f.message in
    let lw = f.word in
    let few = f.few in
    let s = split a w la lw in
    record {
      plain = λ r h. record { read = plain_read a w la lw r h; erased = plain_erased a w la lw r h (omega arith) };
      suspect = λ r h. record { read = suspect_read a w la lw r h; erased = suspect_erased a w la lw r h few };
    }
