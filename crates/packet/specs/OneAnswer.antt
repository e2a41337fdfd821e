-- Packing and unpacking have one answer for each input.
use Rattle.std.specs.Prelude.{◌≡◌, ℕ, List, Ok, Err, Result}
use Rattle.service.specs.declared.refusals.Refusal.{Refusal}
use Rattle.service.specs.Refusals.{refusal_is}
use Rattle.packet.specs.declared.codes.CodeNumbers.{CodeNumbers}
use Rattle.packet.specs.declared.codes.Codes.{Codes}
use Rattle.packet.specs.Calls.{Packs}
use Rattle.packet.specs.Unpacking.{Unpacks}

-- the same length, or a refusal with the same number and place
abbrev pub SamePacked : Result ℕ Refusal → Result ℕ Refusal → Type 0
SamePacked (Ok n) (Ok m) = n ≡ m
SamePacked (Err e) (Err f) = refusal_is e ≡ refusal_is f
SamePacked _ _ = ⊥

-- the same codes at the same rate, or a refusal with the same number and place
abbrev pub SameUnpacked : Result Codes Refusal → Result Codes Refusal → Type 0
SameUnpacked (Ok c) (Ok d) = (c.rate ≡ d.rate) × (c.numbers ≡ d.numbers)
SameUnpacked (Err e) (Err f) = refusal_is e ≡ refusal_is f
SameUnpacked _ _ = ⊥

-- two answers to one call are the same, and so are the buffers after it
pub record OneAnswer : Type 0 where
  pub packing :
      (number : ℕ) (c : CodeNumbers) (before after after' : List ℕ) (r r' : Result ℕ Refusal)
      → Packs number c before after r → Packs number c before after' r'
      → (after ≡ after') × SamePacked r r'
  pub unpacking :
      (number : ℕ) (bytes : List ℕ) (r r' : Result Codes Refusal) → Unpacks number bytes r → Unpacks number bytes r'
      → SameUnpacked r r'
