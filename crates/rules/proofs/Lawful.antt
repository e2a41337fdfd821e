-- Arrivals that pass the tests are lawful.
use Rattle.std.proofs.Common.{◌≡◌, ℕ, zero, suc, ◌+◌, ◌<◌, ◌≤◌, true, false, ◌==◌, nat_lt, List, [], ◌∷◌, length, drop, map, slice_index, refl, arith}
use Rattle.std.proofs.lemmas.Bool.{and_parts}
use Rattle.std.proofs.lemmas.Bool.Decides.{nat_tests}
use Rattle.std.specs.List.{range_with_len}
use Rattle.service.specs.Categories.{category_is}
use Rattle.service.specs.Tests.{spare_bits_set}
use Rattle.rules.specs.Arrivals.{Arrival, are_bytes, are_lawful, is_lawful}

pub are_bytes_of : (xs : List ℕ) → ((j : ℕ) → slice_index xs j < 256) → are_bytes xs ≡ true
unfolding are_bytes
are_bytes_of [] h = refl
are_bytes_of (x ∷ xs) h = let a : nat_lt x 256 ≡ true = (let l = h 0 in grind (arith, nat_tests)) in let b = are_bytes_of xs (λ j. h (suc j)) in rw (a, b) refl

pub lawful_of : (category : _) (bytes : List ℕ) → length bytes ≡ (category_is category).bytes → spare_bits_set category bytes ≡ false → are_bytes bytes ≡ true
    → is_lawful (record { category = category; bytes = bytes }) ≡ true
lawful_of category bytes long spare each =
    let size : (length bytes == (category_is category).bytes) ≡ true = grind (arith, nat_tests) in
    rw (size, spare, each) refl

-- those that are left of lawful arrivals are lawful
pub lawful_left : (taken : ℕ) (list : List Arrival) → are_lawful list ≡ true → are_lawful (drop taken list) ≡ true
unfolding are_lawful
lawful_left zero list h = h
lawful_left (suc n) [] h = h
lawful_left (suc n) (a ∷ list) h = lawful_left n list (and_parts (is_lawful a) (are_lawful list) h).1

-- arrivals that are given for numbers in a row are lawful if each is
pub each_lawful : (f : ℕ → Arrival) (a n : ℕ) → ((k : ℕ) → a ≤ k → k < a + n → is_lawful (f k) ≡ true)
    → are_lawful (map f (range_with_len a n)) ≡ true
unfolding are_lawful
each_lawful f a zero each = refl
each_lawful f a (suc n) each =
    rw (each a (omega arith) (omega arith), each_lawful f (a + 1) n (λ k low high. each k (omega arith) (omega arith))) refl

-- each of these numbers is one of a byte
pub bytes_at : (xs : List ℕ) → are_bytes xs ≡ true → (j : ℕ) → slice_index xs j < 256
unfolding are_bytes
bytes_at [] h j = omega arith
bytes_at (x ∷ xs) h zero = let l = (and_parts (nat_lt x 256) (are_bytes xs) h).0 in grind (arith, nat_tests)
bytes_at (x ∷ xs) h (suc j) = bytes_at xs (and_parts (nat_lt x 256) (are_bytes xs) h).1 j
