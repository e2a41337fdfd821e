-- The code of each code's value is that code, by a test that is computed over the codes of each rate and LSP.
use Rattle.std.proofs.Common.{◌≡◌, ℕ, suc, Bool, true, eqb, refl, arith}
use Rattle.std.proofs.lemmas.Bool.{eqb-true}
use Rattle.service.specs.declared.rates.Rate.{Rate}
use Rattle.service.specs.declared.rates.Rate.TheVariants.{Full, Half, Quarter, Eighth}
use Rattle.service.proofs.Computed.{all_below, all_at}
use Rattle.lsp.specs.Quantizers.{top_code, value_of, code_of}
use Rattle.lsp.specs.Laws.{CodeOfValue}

abbrev returned : Rate → ℕ → ℕ → Bool
returned rate i c = eqb (code_of rate i (value_of rate i c)) c

abbrev all_returned : Rate → ℕ → Bool
all_returned rate i = all_below (returned rate i) (suc (top_code rate))

tested : (rate : Rate) → all_below (all_returned rate) 10 ≡ true
tested Full = refl
tested Half = refl
tested Quarter = refl
tested Eighth = refl

pub code_of_value : CodeOfValue
code_of_value rate i c lt le =
    eqb-true (code_of rate i (value_of rate i c)) c
    (all_at (returned rate i) (suc (top_code rate)) c (all_at (all_returned rate) 10 i (tested rate) lt) (omega arith))
