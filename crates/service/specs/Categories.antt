-- The seven categories in which a frame can arrive.
use Rattle.std.specs.Prelude.{ℕ, [], ◌∷◌, Some, None, Option, slice_index_or}
use Rattle.service.specs.declared.rates.Rate.{Rate}
use Rattle.service.specs.declared.rates.Rate.TheVariants.{Full as Rate1, Half as Rate1/2, Quarter as Rate1/4}
use Rattle.service.specs.declared.rates.Rate.TheVariants.{Eighth as Rate1/8}
use Rattle.service.specs.declared.categories.Category.{Category}
use Rattle.service.specs.declared.categories.Category.TheVariants.{Blank, Eighth, Quarter, Half, Full, Suspect, Erasure}
use Rattle.service.specs.Rates.{rate_is}

pub record CategoryValues : Type 0 where
  pub number : ℕ
  pub rate : Option Rate  -- of the packet, if it has one
  pub bits : ℕ  -- of the packet
  pub bytes : ℕ  -- that hold these bits

abbrev pub packet : ℕ → Rate → CategoryValues
packet n r = record { number = n; rate = Some r; bits = (rate_is r).bits; bytes = (rate_is r).bytes }

abbrev pub no_packet : ℕ → CategoryValues
no_packet n = record { number = n; rate = None; bits = 0; bytes = 0 }

-- what each category is
abbrev pub category_is : Category → CategoryValues
category_is Blank = no_packet 0
category_is Eighth = packet 1 Rate1/8
category_is Quarter = packet 2 Rate1/4
category_is Half = packet 3 Rate1/2
category_is Full = packet 4 Rate1
category_is Suspect = packet 5 Rate1
category_is Erasure = no_packet 6

-- the category of a number from 0 to 6
abbrev pub category_of : ℕ → Category
category_of n = slice_index_or (Blank ∷ Eighth ∷ Quarter ∷ Half ∷ Full ∷ Suspect ∷ Erasure ∷ []) n Blank

-- the category of a packet at a rate, as it is sent: it has the number of the rate
abbrev pub category_of_packet : Rate → Category
category_of_packet rate = category_of (rate_is rate).number
