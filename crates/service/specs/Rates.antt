-- The four rates of a voice packet.
use Rattle.std.specs.Prelude.{ℕ}
use Rattle.service.specs.declared.rates.Rate.{Rate}
use Rattle.service.specs.declared.rates.Rate.TheVariants.{Full, Half, Quarter, Eighth}

pub record RateValues : Type 0 where
  pub number : ℕ  -- by which calls name the rate
  pub bits : ℕ  -- of a packet
  pub bytes : ℕ  -- that hold these bits
  pub pitch_subframes : ℕ  -- of a frame
  pub codebook_subframes : ℕ  -- of a frame

-- what each rate is
abbrev pub rate_is : Rate → RateValues
rate_is Full = record { number = 4; bits = 171; bytes = 22; pitch_subframes = 4; codebook_subframes = 8 }
rate_is Half = record { number = 3; bits = 80; bytes = 10; pitch_subframes = 2; codebook_subframes = 4 }
rate_is Quarter = record { number = 2; bits = 40; bytes = 5; pitch_subframes = 1; codebook_subframes = 2 }
rate_is Eighth = record { number = 1; bits = 16; bytes = 2; pitch_subframes = 0; codebook_subframes = 1 }
