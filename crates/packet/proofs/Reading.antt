-- A packet is read place by place: what the list has after n of them.
use Rattle.std.proofs.Common.{◌≡◌, ℕ, ◌+◌, ◌-◌, ◌*◌, ◌/◌, ◌%◌, ◌^◌, ◌<◌, ◌≢◌, inl, inr, List, length, replicate, Some, None, slice_index, slice_set, refl, sym, ◌∙◌, ap, subst, arith}
use Rattle.std.specs.Int.Bits.{bit_or, or_zero_l, or_zero_r}
use Rattle.std.proofs.lemmas.Bool.{cases_eq}
use Rattle.std.proofs.lemmas.List.{get_or-set_same, get_or-set_other, get_or-replicate, length-set}
use Rattle.service.specs.declared.rates.Rate.{Rate}
use Rattle.packet_layout.specs.declared.code_bits.CodeBit.{CodeBit}
use Rattle.packet_layout.specs.CodeBits.{index}
use Rattle.packet_layout.specs.Layouts.{at, layout}
use Rattle.packet_layout.specs.Laws.{EachCodeBitOnce}
use Rattle.packet_layout.proofs.Names.{same, index_lt}
use Rattle.packet_layout.proofs.Once.{same_some, none_some}
use Rattle.packet.specs.Bits.{bit, bit_at, value}
use Rattle.packet.specs.Reading.{CarriedBefore, HoldsBits, ReadsTo}
use Rattle.packet.proofs.Numbers.{bit_lt, bit_of_or, bit_of_zero, shifted_here, shifted_elsewhere}

-- the list with a bit set at a code bit
abbrev pub marked : List ℕ → CodeBit → ℕ → List ℕ
marked list c x = slice_set list (index c) (bit_or (slice_index list (index c)) (x * 2 ^ c.bit))

module _ (list : List ℕ) (c : CodeBit) (x : ℕ) (h : index c < length list) (hx : x < 2) where
  same_code : (b : ℕ) → bit (slice_index (marked list c x) (index c)) b ≡ bit_or (bit (slice_index list (index c)) b) (bit (x * 2 ^ c.bit) b)
  same_code b =
      ap (λ n. bit n b) (get_or-set_same list (index c) (bit_or (slice_index list (index c)) (x * 2 ^ c.bit)) 0 h)
      ∙ bit_of_or (slice_index list (index c)) (x * 2 ^ c.bit) b

  pub marked_here : bit (slice_index list (index c)) c.bit ≡ 0 → bit (slice_index (marked list c x) (index c)) c.bit ≡ x
  marked_here e = same_code c.bit ∙ ap (λ y. bit_or y (bit (x * 2 ^ c.bit) c.bit)) e ∙ or_zero_l (bit (x * 2 ^ c.bit) c.bit) ∙ shifted_here x c.bit hx

  pub marked_other : (s b : ℕ) → (index c ≡ s → c.bit ≡ b → ⊥) → bit (slice_index (marked list c x) s) b ≡ bit (slice_index list s) b
  marked_other s b apart =
      elim (cases_eq s (index c)) [
        | inl e ↦
            ap (λ u. bit (slice_index (marked list c x) u) b) e ∙ same_code b
            ∙ ap (λ y. bit_or (bit (slice_index list (index c)) b) y) (shifted_elsewhere x c.bit b hx (λ eb. apart (sym e) (sym eb)))
            ∙ or_zero_r (bit (slice_index list (index c)) b) ∙ ap (λ u. bit (slice_index list u) b) (sym e)
        | inr ne ↦ ap (λ n. bit n b) (get_or-set_other list (index c) s (bit_or (slice_index list (index c)) (x * 2 ^ c.bit)) 0 ne)
      ]

before_more : (rate : Rate) (n s b : ℕ) → CarriedBefore rate n s b → CarriedBefore rate (n + 1) s b
before_more rate n s b (k, (c, (less, rest))) = (k, (c, (omega arith, rest)))

module _ {rate : Rate} (law : EachCodeBitOnce rate (layout rate)) (packet : List ℕ) where
  pub holds_none : HoldsBits rate 0 packet (replicate 36 0)
  holds_none = record {
    size = refl;
    bits = λ k c less e. absurd (omega arith);
    others = λ s b h none. ap (λ n. bit n b) (get_or-replicate 36 s 0 0 h) ∙ bit_of_zero b;
  }

  -- a place that carries nothing
  pub holds_spare : (list : List ℕ) (n : ℕ) → at (layout rate) n ≡ None → HoldsBits rate n packet list → HoldsBits rate (n + 1) packet list
  holds_spare list n e r = record {
    size = r.size;
    bits = λ k c less at_k. elim (cases_eq k n) [
      | inl same ↦ absurd (none_some c (sym e ∙ ap (at (layout rate)) (sym same) ∙ at_k))
      | inr other ↦ r.bits k c (omega arith) at_k
    ];
    others = λ s b h none. r.others s b h (λ before. none (before_more rate n s b before));
  }

  -- a place that carries a code bit
  pub holds_bit : (list : List ℕ) (n : ℕ) (c : CodeBit) → at (layout rate) n ≡ Some c → HoldsBits rate n packet list
      → HoldsBits rate (n + 1) packet (marked list c (bit_at packet n))
  holds_bit list n c e r =
      let x = bit_at packet n in
      let hx : x < 2 = bit_lt (slice_index packet (n / 8)) (7 - n % 8) in
      let hs : index c < length list = omega (arith, r.size, index_lt rate c (law.carried n c e)) in
      let apart : (k : ℕ) (d : CodeBit) → at (layout rate) k ≡ Some d → k ≢ n → index c ≡ index d → c.bit ≡ d.bit → ⊥
      = λ k d at_k other ei eb.
      let is : c ≡ d = same rate c d (law.carried n c e) (law.carried k d at_k) ei eb in
      let (p, at_p, one) = law.once c (law.carried n c e) in
      other (one k (at_k ∙ ap Some (sym is)) ∙ sym (one n e)) in
      let fresh : bit (slice_index list (index c)) c.bit ≡ 0
      = r.others (index c) c.bit (omega arith) (λ (k, (d, (less, (at_k, (ei, eb))))). apart k d at_k (λ same_k. omega arith) (sym ei) (sym eb)) in
      record {
        size = length-set list (index c) (bit_or (slice_index list (index c)) (x * 2 ^ c.bit)) ∙ r.size;
        bits = λ k d less at_k. elim (cases_eq k n) [
          | inl same_k ↦
              let is : c ≡ d = same_some c d (sym e ∙ ap (at (layout rate)) (sym same_k) ∙ at_k) in
              subst (λ f. value (marked list c x) (Some f) ≡ bit_at packet k) is
              (marked_here list c x hs hx fresh ∙ ap (bit_at packet) (sym same_k))
          | inr other ↦ marked_other list c x hs hx (index d) d.bit (apart k d at_k other) ∙ r.bits k d (omega arith) at_k
        ];
        others = λ s b h none.
            marked_other list c x hs hx s b (λ ei eb. none (n, (c, (omega arith, (e, (ei, eb))))))
            ∙ r.others s b h (λ before. none (before_more rate n s b before));
      }

  pub reads_none : (list : List ℕ) → list ≡ replicate 36 0 → ReadsTo rate 0 packet list
  unfolding ReadsTo
  reads_none list e = subst (HoldsBits rate 0 packet) (sym e) holds_none

  pub reads_spare : (list : List ℕ) (n : ℕ) → at (layout rate) n ≡ None → ReadsTo rate n packet list → ReadsTo rate (n + 1) packet list
  unfolding ReadsTo
  reads_spare list n e r = holds_spare list n e r

  pub reads_bit : (list : List ℕ) (n x : ℕ) (c : CodeBit) → at (layout rate) n ≡ Some c → x ≡ bit_at packet n → ReadsTo rate n packet list
      → ReadsTo rate (n + 1) packet (slice_set list (index c) (bit_or (slice_index list (index c)) (x * 2 ^ c.bit)))
  unfolding ReadsTo
  reads_bit list n x c e ex r = subst (λ y. HoldsBits rate (n + 1) packet (marked list c y)) (sym ex) (holds_bit list n c e r)
