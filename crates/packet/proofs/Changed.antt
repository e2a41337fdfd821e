-- One bit of a packet changed, in its bytes and in its word.
use Rattle.std.proofs.Common.{◌≡◌, ◌≢◌, ℕ, zero, suc, ◌+◌, ◌-◌, ◌*◌, ◌/◌, ◌%◌, ◌^◌, ◌<◌, ◌==◌, Bool, true, not, ◌&&◌, nat_lt, List, [], ◌∷◌, length, bit_xor, slice_index, set, inl, inr, refl, sym, ap, ap₂, ◌∙◌, arith, pow-suc, one-mul, subst}
use Rattle.std.specs.Int.Bits.{xor_assoc, xor_block, xor_lt, xor_mod, xor_shr, xor_zero_r}
use Rattle.std.proofs.lemmas.Bool.{and_parts, cases_eq}
use Rattle.std.proofs.lemmas.Bool.Decides.{nat_tests}
use Rattle.std.proofs.lemmas.List.{ext_get_or, get_or-set_other, get_or-set_same, length-set}
use Rattle.std.proofs.Math.Pow.{pow-lt}
use Rattle.std.proofs.lemmas.Nat.{pow-add, xor_comm}
use Rattle.service.specs.declared.rates.Rate.TheVariants.{Full}
use Rattle.service.specs.Rates.{rate_is}
use Rattle.cyclic.specs.Words.{corrected}
use Rattle.cyclic.proofs.Linear.{xor_twice}
use Rattle.packet_layout.specs.Guarded.{guarded_bits}
use Rattle.packet_layout.specs.Laws.{place}
use Rattle.packet.specs.Bits.{bit, bit_at, number_of}
use Rattle.packet.specs.Changes.{BitsChange, OneBitChanged, corrected_packet, packet_bit, with_bit_changed, with_place_changed}
use Rattle.packet.specs.CheckBits.{inversion, word_of}
use Rattle.packet.proofs.Numbers.{bit_lt, number_lt, number_same, shifted_elsewhere, shifted_here}

-- ---- the number of the packet bits of a list of numbers

pub packet_bit_lt : (n : ℕ) (xs : List ℕ) → packet_bit n xs < 2
packet_bit_lt n xs = bit_lt (slice_index xs (place Full n / 8)) (7 - place Full n % 8)

abbrev pub listed : List ℕ → List ℕ → ℕ → ℕ
listed ns xs i = packet_bit (slice_index ns i) xs

pub listed_lt : (ns xs : List ℕ) (i : ℕ) → listed ns xs i < 2
listed_lt ns xs i = packet_bit_lt (slice_index ns i) xs

-- ---- the 29 guarded bits

pub guarded_lt : (xs : List ℕ) → number_of (listed guarded_bits xs) 29 < 2 ^ 29
guarded_lt xs = number_lt (listed guarded_bits xs) (listed_lt guarded_bits xs) 29

pub guarded_length : length guarded_bits ≡ 29
unfolding guarded_bits
guarded_length = refl

-- ---- one bit of a packet changed

bit_of_xor : (m n b : ℕ) → bit (bit_xor m n) b ≡ bit_xor (bit m b) (bit n b)
bit_of_xor m n b = ap (λ x. x % 2) (xor_shr m n b) ∙ xor_mod (m / 2 ^ b) (n / 2 ^ b) 1

xor_here : (m b : ℕ) → bit (bit_xor m (2 ^ b)) b ≡ bit_xor (bit m b) 1
xor_here m b = bit_of_xor m (2 ^ b) b ∙ ap (bit_xor (bit m b)) (ap (λ x. bit x b) (sym (one-mul (2 ^ b))) ∙ shifted_here 1 b (omega arith))

xor_elsewhere : (m b c : ℕ) → c ≢ b → bit (bit_xor m (2 ^ b)) c ≡ bit m c
xor_elsewhere m b c ne =
    bit_of_xor m (2 ^ b) c ∙ ap (bit_xor (bit m c)) (ap (λ x. bit x c) (sym (one-mul (2 ^ b))) ∙ shifted_elsewhere 1 b c (omega arith) ne)
    ∙ xor_zero_r (bit m c)

change_here : (k : ℕ) (xs : List ℕ) → k / 8 < length xs → bit_at (with_place_changed k xs) k ≡ bit_xor (bit_at xs k) 1
change_here k xs h =
    let b = slice_index xs (k / 8) in
    let i = 7 - k % 8 in
    ap (λ n. bit n i) (get_or-set_same xs (k / 8) (bit_xor b (2 ^ i)) 0 h) ∙ xor_here b i

pub change_elsewhere : (k j : ℕ) (xs : List ℕ) → k / 8 < length xs → j ≢ k → bit_at (with_place_changed k xs) j ≡ bit_at xs j
change_elsewhere k j xs h ne =
    let b = slice_index xs (k / 8) in
    let i = 7 - j % 8 in
    let v = bit_xor b (2 ^ (7 - k % 8)) in
    elim (cases_eq (j / 8) (k / 8)) [
      | inl e ↦
          let apart : i ≢ 7 - k % 8 = λ f. ne (omega (arith, e, f)) in
          ap (λ q. bit (slice_index (set xs (k / 8) v) q) i) e
          ∙ ap (λ n. bit n i) (get_or-set_same xs (k / 8) v 0 h)
          ∙ xor_elsewhere b (7 - k % 8) i apart
          ∙ ap (λ q. bit (slice_index xs q) i) (sym e)
      | inr f ↦ ap (λ n. bit n i) (get_or-set_other xs (k / 8) (j / 8) v 0 f)
    ]

change_back : (k : ℕ) (xs : List ℕ) → k / 8 < length xs → with_place_changed k (with_place_changed k xs) ≡ xs
change_back k xs h =
    let t = k / 8 in
    let m = 2 ^ (7 - k % 8) in
    let b = slice_index xs t in
    let once = with_place_changed k xs in
    let same : length once ≡ length xs = length-set xs t (bit_xor b m) in
    let here : slice_index once t ≡ bit_xor b m = get_or-set_same xs t (bit_xor b m) 0 h in
    ext_get_or 0 (with_place_changed k once) xs (length-set once t (bit_xor (slice_index once t) m) ∙ same)
    (λ i l. elim (cases_eq i t) [
      | inl e ↦
          ap (slice_index (with_place_changed k once)) e
          ∙ get_or-set_same once t (bit_xor (slice_index once t) m) 0 (omega (arith, same))
          ∙ ap (λ n. bit_xor n m) here ∙ xor_twice b m ∙ ap (slice_index xs) (sym e)
      | inr ne ↦ get_or-set_other once t i (bit_xor (slice_index once t) m) 0 ne ∙ get_or-set_other xs t i (bit_xor b m) 0 ne
    ])

-- a change of one of the 171 bits leaves the spare bits as they are, and bytes bytes
high_bit : (k : ℕ) → k / 8 ≡ 21 → k < 171 → 2 ^ (7 - k % 8) % 2 ^ 5 ≡ 0
high_bit k e h =
    let d = 2 - k % 8 in
    let five : d + 5 ≡ 7 - k % 8 = omega (arith, e) in
    let p : 2 ^ (7 - k % 8) ≡ 2 ^ d * 2 ^ 5 = ap (λ j. 2 ^ j) (sym five) ∙ pow-add 2 d 5 in
    omega (arith, p)

module _ (k : ℕ) (h : k < 171) (xs : List ℕ) (l : k / 8 < length xs) where
  abbrev byte : ℕ
  byte = slice_index xs (k / 8)

  abbrev mask : ℕ
  mask = 2 ^ (7 - k % 8)

  spare_kept : slice_index (with_place_changed k xs) 21 % 2 ^ 5 ≡ slice_index xs 21 % 2 ^ 5
  spare_kept = elim (cases_eq 21 (k / 8)) [
    | inl e ↦
        let none : mask % 2 ^ 5 ≡ 0 = high_bit k (sym e) h in
        ap (λ j. slice_index (with_place_changed k xs) j % 2 ^ 5) e ∙ ap (λ x. x % 2 ^ 5) (get_or-set_same xs (k / 8) (bit_xor byte mask) 0 l)
        ∙ xor_mod byte mask 5 ∙ ap (bit_xor (byte % 2 ^ 5)) none ∙ xor_zero_r (byte % 2 ^ 5) ∙ ap (λ j. slice_index xs j % 2 ^ 5) (sym e)
    | inr ne ↦ ap (λ x. x % 2 ^ 5) (get_or-set_other xs (k / 8) 21 (bit_xor byte mask) 0 ne)
  ]

  bytes_kept : ((j : ℕ) → slice_index xs j < 256) → (j : ℕ) → slice_index (with_place_changed k xs) j < 256
  bytes_kept small j = elim (cases_eq j (k / 8)) [
    | inl e ↦
        let m_lt : mask < 2 ^ 8 = pow-lt {j = 8} (omega arith) in
        subst (λ x. x < 256) (sym (ap (slice_index (with_place_changed k xs)) e ∙ get_or-set_same xs (k / 8) (bit_xor byte mask) 0 l))
        (xor_lt 8 byte mask (small (k / 8)) m_lt)
    | inr ne ↦ subst (λ x. x < 256) (sym (get_or-set_other xs (k / 8) j (bit_xor byte mask) 0 ne)) (small j)
  ]

pub one_bit_changed : (packet : List ℕ) (n : ℕ) → length packet ≡ (rate_is Full).bytes → n < (rate_is Full).bits → OneBitChanged packet n
unfolding with_bit_changed
one_bit_changed xs n long h =
    let k = place Full n in
    let l : k / 8 < length xs = omega arith in
    let low : k < 171 = omega arith in
    let size : length (with_place_changed k xs) ≡ length xs = length-set xs (k / 8) (bit_xor (slice_index xs (k / 8)) (2 ^ (7 - k % 8))) in
    record {
      size = size;
      bit = change_here k xs l;
      others = λ j ne. change_elsewhere k j xs l ne;
      back = change_back k xs l;
      bytes = bytes_kept k low xs l;
      lawful = λ lawful. record {
        length = size ∙ lawful.length;
        spare = ap (λ x. not (x == 0)) (spare_kept k low xs l) ∙ lawful.spare;
      };
    }

-- ---- the word of a corrected packet

-- one bit of a number of n bits changed
number_changed : (f g : ℕ → ℕ) (n k : ℕ) → ((i : ℕ) → f i < 2) → k < n → g k ≡ bit_xor (f k) 1 → ((i : ℕ) → i < n → i ≢ k → g i ≡ f i)
    → number_of g n ≡ bit_xor (number_of f n) (2 ^ (n - 1 - k))
unfolding number_of
number_changed f g zero k small h here others = absurd (omega arith)
number_changed f g (suc n) k small h here others =
    let u = number_of f n in
    elim (cases_eq k n) [
      | inl e ↦
          let last : suc n - 1 - k ≡ 0 = omega (arith, e) in
          let b = f n in
          let same : number_of g n ≡ u = number_same g f n (λ i hi. others i (omega arith) (omega (arith, e))) in
          let changed : g n ≡ bit_xor b 1 = ap g (sym e) ∙ here ∙ ap (λ i. bit_xor (f i) 1) e in
          ap₂ (λ m t. m * 2 + t) same changed
          ∙ ap (λ m. m * 2 + bit_xor b 1) (sym (xor_zero_r u))
          ∙ sym (xor_block 1 u 0 b 1 (small n) (omega arith))
          ∙ ap (λ t. bit_xor (u * 2 + b) (2 ^ t)) (sym last)
      | inr ne ↦
          let t = n - 1 - k in
          let next : suc n - 1 - k ≡ suc t = omega (arith, ne) in
          let p : 2 ^ suc t ≡ 2 ^ t * 2 + 0 = omega (arith, pow-suc 2 t) in
          let b = f n in
          let same = number_changed f g n k small (omega (arith, ne)) here (λ i hi. others i (omega arith)) in
          ap₂ (λ m s. m * 2 + s) same (others n (omega arith) (λ e. ne (sym e)) ∙ sym (xor_zero_r b))
          ∙ sym (xor_block 1 u (2 ^ t) b 0 (small n) (omega arith))
          ∙ ap (bit_xor (u * 2 + b)) (sym p ∙ ap (λ s. 2 ^ s) (sym next))
    ]

-- no two of the guarded bits are the same, and each is one of the packet's
absent : ℕ → List ℕ → Bool
absent q [] = true
absent q (p ∷ ps) = not (p == q) && absent q ps

distinct : List ℕ → Bool
distinct [] = true
distinct (p ∷ ps) = nat_lt p 171 && absent p ps && distinct ps

not_equal : (p q : ℕ) → not (p == q) ≡ true → p ≢ q
not_equal p q t e = grind (arith, nat_tests)

absent_at : (q : ℕ) (ps : List ℕ) → absent q ps ≡ true → (k : ℕ) → k < length ps → slice_index ps k ≢ q
unfolding absent
absent_at q [] t k h = absurd (omega arith)
absent_at q (p ∷ ps) t zero h = not_equal p q (and_parts (not (p == q)) (absent q ps) t).0
absent_at q (p ∷ ps) t (suc k) h = absent_at q ps (and_parts (not (p == q)) (absent q ps) t).1 k (omega arith)

distinct_parts : (p : ℕ) (ps : List ℕ) → distinct (p ∷ ps) ≡ true → (nat_lt p 171 ≡ true) × (absent p ps ≡ true) × (distinct ps ≡ true)
unfolding distinct
distinct_parts p ps t =
    let u = and_parts (nat_lt p 171 && absent p ps) (distinct ps) t in
    let v = and_parts (nat_lt p 171) (absent p ps) u.0 in
    (v.0, v.1, u.1)

distinct_at : (ps : List ℕ) → distinct ps ≡ true → (i j : ℕ) → i < length ps → j < length ps → i ≢ j → slice_index ps i ≢ slice_index ps j
distinct_at [] t i j hi hj ne = absurd (omega arith)
distinct_at (p ∷ ps) t zero zero hi hj ne = absurd (ne refl)
distinct_at (p ∷ ps) t zero (suc j) hi hj ne = λ e. absent_at p ps (distinct_parts p ps t).1 j (omega arith) (sym e)
distinct_at (p ∷ ps) t (suc i) zero hi hj ne = absent_at p ps (distinct_parts p ps t).1 i (omega arith)
distinct_at (p ∷ ps) t (suc i) (suc j) hi hj ne = distinct_at ps (distinct_parts p ps t).2 i j (omega arith) (omega arith) (λ e. ne (ap suc e))

small_at : (ps : List ℕ) → distinct ps ≡ true → (i : ℕ) → i < length ps → slice_index ps i < 171
small_at [] t i h = absurd (omega arith)
small_at (p ∷ ps) t zero h = let s = (distinct_parts p ps t).0 in grind (arith, nat_tests)
small_at (p ∷ ps) t (suc i) h = small_at ps (distinct_parts p ps t).2 i (omega arith)

all_distinct : distinct guarded_bits ≡ true
unfolding guarded_bits distinct absent
all_distinct = refl

pub guarded_apart : (i j : ℕ) → i < 29 → j < 29 → i ≢ j → slice_index guarded_bits i ≢ slice_index guarded_bits j
guarded_apart i j hi hj = distinct_at guarded_bits all_distinct i j (omega (arith, guarded_length)) (omega (arith, guarded_length))

pub guarded_small : (i : ℕ) → i < 29 → slice_index guarded_bits i < 171
guarded_small i h = small_at guarded_bits all_distinct i (omega (arith, guarded_length))

-- to change guarded bit i of a packet changes the bit of its word that is i places from the top
pub word_changed : (xs : List ℕ) (i : ℕ) → length xs ≡ (rate_is Full).bytes → i < 29
    → word_of (with_bit_changed (slice_index guarded_bits i) xs) ≡ bit_xor (word_of xs) (2 ^ (28 - i))
unfolding word_of
word_changed xs i long h =
    let n = slice_index guarded_bits i in
    let ys = with_bit_changed n xs in
    let u = number_of (listed guarded_bits xs) 29 in
    let m = 2 ^ (28 - i) in
    let law = one_bit_changed xs n long (guarded_small i h) in
    let e : number_of (listed guarded_bits ys) 29 ≡ bit_xor u m =
    number_changed (listed guarded_bits xs) (listed guarded_bits ys) 29 i (listed_lt guarded_bits xs) h law.bit
    (λ j hj ne.
    let apart = guarded_apart j i hj h ne in
    let low = guarded_small j hj in
    let low' = guarded_small i h in
    law.others (place Full (slice_index guarded_bits j)) (λ e. apart (omega arith))) in
    ap (λ w. bit_xor w inversion) e ∙ xor_assoc u m inversion ∙ ap (bit_xor u) (xor_comm m inversion) ∙ sym (xor_assoc u inversion m)

pub word_corrected : (xs : List ℕ) (p : ℕ) → length xs ≡ (rate_is Full).bytes → p < 28 → word_of (corrected_packet p xs) ≡ corrected (word_of xs) p
word_corrected xs p long h =
    let e : 28 - (27 - p) ≡ p + 1 = omega arith in
    word_changed xs (27 - p) long (omega arith) ∙ ap (λ n. bit_xor (word_of xs) (2 ^ n)) e

pub bits_change : BitsChange
bits_change = record { changed = one_bit_changed; corrected = word_corrected }
