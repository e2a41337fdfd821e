-- The ten memories stay in range, and ten codes within their rate.
use Rattle.std.proofs.Common.{◌≡◌, ℕ, ◌<◌, ◌≤◌, List, get_or, ℤ, pos, nat_abs, sym, subst}
use Rattle.service.specs.declared.rates.Rate.{Rate}
use Rattle.lsp.specs.Quantizers.{Within, top_code, value_of, unlimited_code, quantized}
use Rattle.lsp.specs.States.{bound, InRange, fresh, updated, decayed}
use Rattle.lsp.proofs.Sizes.{value_most, limited_most}
use Rattle.lsp.proofs.Tens.{each_of_ten}
use Rattle.lsp.proofs.Decays.{zero_in, decay_in, update_in}

pub fresh_in : InRange fresh
fresh_in = each_of_ten _ (pos 0) (λ i m. nat_abs m < bound i) (λ i lt. zero_in i)

pub decayed_in : (m n : List ℤ) → n ≡ decayed m → InRange m → InRange n
decayed_in m n e h =
    subst InRange (sym e)
    (each_of_ten _ (pos 0) (λ i x. nat_abs x < bound i) (λ i lt. decay_in i (get_or m i (pos 0)) (h i lt)))

pub updated_in : (rate : Rate) (codes : List ℕ) (m n : List ℤ) → n ≡ updated rate codes m → Within rate codes → InRange m → InRange n
updated_in rate codes m n e w h =
    subst InRange (sym e)
    (each_of_ten _ (pos 0) (λ i x. nat_abs x < bound i)
    (λ i lt.
    update_in i (value_of rate i (get_or codes i 0)) (get_or m i (pos 0)) (value_most rate i (get_or codes i 0) (w i lt)) (h i lt)))

-- the codes of any offsets are within their rate
pub quantized_within : (rate : Rate) (offsets : List ℤ) (codes : List ℕ) → codes ≡ quantized rate offsets → Within rate codes
quantized_within rate offsets codes e =
    subst (Within rate) (sym e)
    (each_of_ten _ 0 (λ i c. c ≤ top_code rate) (λ i lt. limited_most rate (unlimited_code rate i (get_or offsets i (pos 0)))))
