-- What is printed of a category and of a refusal, byte by byte.
use Rattle.std.specs.Prelude.{ℕ, List, ◌++◌, Some, None, codes, decimal, Option}
use Rattle.service.specs.declared.categories.Category.{Category}
use Rattle.service.specs.declared.categories.Category.TheVariants.{Blank, Eighth, Quarter, Half, Full, Suspect, Erasure}
use Rattle.service.specs.Refusals.{Answer}

-- what arrived, in words
abbrev pub category_text : Category → List ℕ
category_text Blank = codes "blank"
category_text Eighth = codes "Rate 1/8"
category_text Quarter = codes "Rate 1/4"
category_text Half = codes "Rate 1/2"
category_text Full = codes "Rate 1"
category_text Suspect = codes "suspect Rate 1"
category_text Erasure = codes "erasure"

-- a number, and a place after a space if there is one
abbrev pub refused_by : ℕ → Option ℕ → List ℕ
refused_by n None = codes "refused " ++ decimal n
refused_by n (Some p) = codes "refused " ++ (decimal n ++ (codes " " ++ decimal p))

abbrev pub refused_text : Answer → List ℕ
refused_text a = refused_by a.number a.place
