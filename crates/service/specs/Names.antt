-- What a number names.
use Rattle.std.specs.Prelude.{◌≡◌, ◌≢◌, ℕ, Result, MatchResult}
use Rattle.service.specs.declared.rates.Rate.{Rate}
use Rattle.service.specs.declared.refusals.Refusal.{Refusal}
use Rattle.service.specs.Rates.{rate_is}
use Rattle.service.specs.Refusals.{refusal_is, refused}

-- the rate of this number, or refusal 17 if no rate has it
abbrev pub NamesRate : ℕ → Result Rate Refusal → Type 0
NamesRate number r =
    MatchResult r (λ rate. (rate_is rate).number ≡ number)
    (λ e. (refusal_is e ≡ refused 17) × ((rate : Rate) → (rate_is rate).number ≢ number))
