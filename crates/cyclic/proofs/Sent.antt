-- The words that are sent are exactly those whose check bits are right.
use Rattle.std.proofs.Common.{◌≡◌, ℕ, ◌+◌, ◌*◌, ◌/◌, ◌%◌, ◌^◌, ◌<◌, sym, ap, ◌∙◌, arith}
use lib.Bits.{bit_xor, xor_shifted}
use lib.Count.{ones, ones_step}
use Rattle.cyclic.specs.Polynomials.{rem}
use Rattle.cyclic.specs.Words.{codeword, sent, message, cyclic_bits, RightCheckBits}
use Rattle.cyclic.specs.Laws.{RightWords}
use Rattle.cyclic.proofs.Linear.{xor_none, rem-xor, rem_low}
use Rattle.cyclic.proofs.Changes.{codeword_rem, codeword_data, sent_half, sent_even, message-cyclic_bits}

pub sent_right : (a : ℕ) → RightCheckBits (sent a) × (message (sent a) ≡ a)
sent_right a = (
  (ap rem (sent_half a) ∙ codeword_rem a, sent_even a),
  message-cyclic_bits (sent a) ∙ ap (λ n. n / 2 ^ 10) (sent_half a) ∙ codeword_data a,
)

-- 28 bits with remainder 0 are the codeword of the highest 18
pub codeword_of : (c : ℕ) → rem c ≡ 0 → c ≡ codeword (c / 2 ^ 10)
codeword_of c z =
    let m = c / 2 ^ 10 * 2 ^ 10 in
    let l = c % 2 ^ 10 in
    let small : l < 2 ^ 10 = omega arith in
    let whole : m + l ≡ c = omega arith in
    let parts : rem c ≡ bit_xor (rem m) l =
    ap rem (sym (xor_shifted (c / 2 ^ 10) 10 l small ∙ whole)) ∙ rem-xor m l ∙ ap (bit_xor (rem m)) (rem_low l small) in
    let same : rem m ≡ l = xor_none (rem m) l (sym parts ∙ z) in
    omega (arith, same)

pub right_sent : (w : ℕ) → w < 2 ^ 29 → RightCheckBits w → w ≡ sent (message w)
right_sent w h (z, e) =
    let c : cyclic_bits w ≡ codeword (cyclic_bits w / 2 ^ 10) = codeword_of (cyclic_bits w) z in
    let d : w / 2 ≡ codeword (message w) = c ∙ ap codeword (sym (message-cyclic_bits w)) in
    let s = ones_step w in
    let n = ap ones d in
    omega (arith, d)

pub right_words : RightWords
right_words = record { sent-right = sent_right; right-sent = right_sent }
