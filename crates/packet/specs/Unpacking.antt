-- What unpacking answers, for every input.
use Rattle.std.specs.Prelude.{◌≡◌, ◌≢◌, ℕ, ◌⊎◌, true, List, Result, MatchResult, length}
use Rattle.service.specs.declared.rates.Rate.{Rate}
use Rattle.service.specs.declared.refusals.Fault.{Fault}
use Rattle.service.specs.declared.refusals.Refusal.{Refusal}
use Rattle.service.specs.Categories.{category_of_packet}
use Rattle.service.specs.Rates.{rate_is}
use Rattle.service.specs.Refusals.{Answer, fault_is, refusal_is, refused, refused_at}
use Rattle.service.specs.Tests.{spare_bits_set}
use Rattle.packet.specs.declared.codes.Codes.{Codes}
use Rattle.packet.specs.Calls.{Holds, Lawful}

-- with record 0, fault 6 if the length is not that of the rate, and else fault 9 if a spare bit is set
abbrev pub UnpackFault : Rate → List ℕ → Answer → Type 0
UnpackFault rate bytes a =
    ((a ≡ refused_at 6 0) × (length bytes ≢ (rate_is rate).bytes))
    ⊎ ((a ≡ refused_at 9 0) × (length bytes ≡ (rate_is rate).bytes)
    × (spare_bits_set (category_of_packet rate) bytes ≡ true))

-- what unpacking at a rate answers: the codes that a lawful packet holds, and else the fault
abbrev pub UnpacksCodes : Rate → List ℕ → Result Codes Fault → Type 0
UnpacksCodes rate bytes r =
    MatchResult r (λ c. (c.rate ≡ rate) × Lawful rate bytes × Holds rate bytes c.numbers)
    (λ e. UnpackFault rate bytes (fault_is e))

-- what unpacking at the rate of a number answers: refusal 17 exactly if it names no rate
abbrev pub Unpacks : ℕ → List ℕ → Result Codes Refusal → Type 0
Unpacks number bytes r =
    MatchResult r (λ c. ((rate_is c.rate).number ≡ number) × Lawful c.rate bytes × Holds c.rate bytes c.numbers)
    (λ e. ((refusal_is e ≡ refused 17) × ((rate : Rate) → (rate_is rate).number ≢ number))
    ⊎ ((rate : Rate) × ((rate_is rate).number ≡ number) × UnpackFault rate bytes (refusal_is e)))
