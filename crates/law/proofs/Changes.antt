-- How many guarded bits of a packet changed, in its bytes and in its word.
use Rattle.std.proofs.Common.{◌≡◌, ℕ, zero, suc, ◌+◌, ◌*◌, ◌/◌, ◌^◌, ◌<◌, if◌then◌else◌, ◌==◌, List, [], ◌∷◌, length, take, bit_xor, count_ones, refl, sym, ap, ap₂, ◌∙◌, arith, pow-suc, mul_assoc}
use Rattle.std.specs.Int.Bits.{xor_block, xor_lt, xor_self, xor_shr, xor_zero_r}
use Rattle.std.proofs.lemmas.List.{get_or-take}
use Rattle.std.proofs.lemmas.Nat.{ones_cat}
use Rattle.cyclic.specs.Words.{cyclic_bits, differing}
use Rattle.cyclic.proofs.Changes.{ones_bit}
use Rattle.cyclic.proofs.Linear.{swap}
use Rattle.packet_layout.specs.Guarded.{guarded_bits}
use Rattle.packet.specs.Bits.{number_of}
use Rattle.packet.specs.Changes.{packet_bit}
use Rattle.packet.specs.CheckBits.{inversion, word_of}
use Rattle.packet.proofs.Changed.{guarded_length, listed, listed_lt, packet_bit_lt}
use Rattle.packet.proofs.Numbers.{number_lt, number_more, number_same}
use Rattle.rules.specs.GuardedBits.{changed_besides_pcb0, changed_guarded, differing_bits}
use Rattle.law.specs.Changes.{ChangesOfWords}

-- the first bit is the highest
number_first : (f : ℕ → ℕ) (n : ℕ) → number_of f (suc n) ≡ f 0 * 2 ^ n + number_of (λ i. f (suc i)) n
unfolding number_of
number_first f zero = omega arith
number_first f (suc n) =
    let h = number_first f n in
    let q : f 0 * 2 ^ suc n ≡ f 0 * 2 ^ n * 2 = ap (λ x. f 0 * x) (pow-suc 2 n) ∙ sym (mul_assoc (f 0) (2 ^ n) 2) in
    ap (λ x. x * 2 + f (suc n)) h ∙ omega (arith, q)

one_change : (a b : ℕ) → a < 2 → b < 2 → (if a == b then 0 else 1) ≡ count_ones (bit_xor a b)
one_change zero zero p q = sym (ones_bit 0 (omega arith))
one_change zero (suc zero) p q = sym (ones_bit 1 (omega arith))
one_change zero (suc (suc b)) p q = absurd (omega arith)
one_change (suc zero) zero p q = sym (ones_bit 1 (omega arith))
one_change (suc zero) (suc zero) p q = sym (ones_bit 0 (omega arith))
one_change (suc zero) (suc (suc b)) p q = absurd (omega arith)
one_change (suc (suc a)) b p q = absurd (omega arith)

abbrev gathered : List ℕ → List ℕ → ℕ
gathered ns xs = number_of (listed ns xs) (length ns)

differing_is : (ns xs ys : List ℕ) → differing_bits ns xs ys ≡ count_ones (bit_xor (gathered ns xs) (gathered ns ys))
unfolding differing_bits number_of
differing_is [] xs ys = sym (ones_bit 0 (omega arith))
differing_is (n ∷ ns) xs ys =
    let a = packet_bit n xs in
    let b = packet_bit n ys in
    let u = gathered ns xs in
    let v = gathered ns ys in
    let k = length ns in
    let hu = number_lt (listed ns xs) (listed_lt ns xs) k in
    let hv = number_lt (listed ns ys) (listed_lt ns ys) k in
    ap₂ (λ m t. m + t) (one_change a b (packet_bit_lt n xs) (packet_bit_lt n ys)) (differing_is ns xs ys)
    ∙ sym (ones_cat k (bit_xor a b) (bit_xor u v) (xor_lt k u v hu hv))
    ∙ ap count_ones (sym (xor_block k a b u v hu hv))
    ∙ ap₂ (λ m t. count_ones (bit_xor m t)) (sym (number_first (listed (n ∷ ns) xs) k)) (sym (number_first (listed (n ∷ ns) ys) k))

-- ---- the 29 guarded bits, and the 28

-- the inversion cancels
words_differ : (xs ys : List ℕ) → bit_xor (word_of xs) (word_of ys) ≡ bit_xor (number_of (listed guarded_bits xs) 29) (number_of (listed guarded_bits ys) 29)
unfolding word_of
words_differ xs ys =
    let u = number_of (listed guarded_bits xs) 29 in
    let v = number_of (listed guarded_bits ys) 29 in
    swap u inversion v inversion ∙ ap (bit_xor (bit_xor u v)) (xor_self inversion) ∙ xor_zero_r (bit_xor u v)

pub changed_all : (xs ys : List ℕ) → changed_guarded xs ys ≡ differing (word_of xs) (word_of ys)
changed_all xs ys =
    differing_is guarded_bits xs ys
    ∙ ap (λ n. count_ones (bit_xor (number_of (listed guarded_bits xs) n) (number_of (listed guarded_bits ys) n))) guarded_length
    ∙ ap count_ones (sym (words_differ xs ys))

-- the first 28 are the half of all
half_of : (f : ℕ → ℕ) → ((i : ℕ) → f i < 2) → number_of f 28 ≡ number_of f 29 / 2
half_of f small = let m = number_more f 28 in let s = small 28 in omega arith

front_length : length (take 28 guarded_bits) ≡ 28
unfolding guarded_bits
front_length = refl

front_is : (xs : List ℕ) → gathered (take 28 guarded_bits) xs ≡ number_of (listed guarded_bits xs) 29 / 2
front_is xs =
    ap (number_of (listed (take 28 guarded_bits) xs)) front_length
    ∙ number_same (listed (take 28 guarded_bits) xs) (listed guarded_bits xs) 28 (λ i h. ap (λ n. packet_bit n xs) (get_or-take 28 guarded_bits i 0 h))
    ∙ half_of (listed guarded_bits xs) (listed_lt guarded_bits xs)

pub changed_front : (xs ys : List ℕ) → changed_besides_pcb0 xs ys ≡ differing (cyclic_bits (word_of xs)) (cyclic_bits (word_of ys))
changed_front xs ys =
    let u = number_of (listed guarded_bits xs) 29 in
    let v = number_of (listed guarded_bits ys) 29 in
    differing_is (take 28 guarded_bits) xs ys
    ∙ ap₂ (λ m n. count_ones (bit_xor m n)) (front_is xs) (front_is ys)
    ∙ ap count_ones (sym (xor_shr u v 1) ∙ ap (λ n. n / 2) (sym (words_differ xs ys)) ∙ xor_shr (word_of xs) (word_of ys) 1)

pub changes_of_words : ChangesOfWords
changes_of_words = record { guarded = changed_all; besides_pcb0 = changed_front }
