-- The codes of a frame.
use Rattle.std.specs.Prelude.{◌≡◌, ℕ, ◌%◌, List, [], ◌∷◌, ◌++◌, length, slice_index, take, drop}
use Rattle.service.specs.declared.rates.Rate.{Rate}
use Rattle.service.specs.declared.rates.Rate.TheVariants.{Full, Half, Quarter, Eighth}
use Rattle.packet_layout.specs.declared.code_bits.CodeName.TheVariants.{Lsp, Plag, Pgain, Cbindex, Cbgain, Cbseed}
use Rattle.packet_layout.specs.CodeBits.{Fits, first}
use Rattle.packet.specs.declared.codes.CodeNumbers.{CodeNumbers}

-- a record has so many codes of each name, whether or not the rate has them
pub record Sized (c : CodeNumbers) : Type 0 where
  pub lsp : length c.lsp ≡ 10
  pub plag : length c.pitch.plag ≡ 4
  pub pgain : length c.pitch.pgain ≡ 4
  pub cbindex : length c.codebook.cbindex ≡ 8
  pub cbgain : length c.codebook.cbgain ≡ 8

-- a record of codes of a rate: each code is within its width, so that a code that the rate lacks is zero
pub record Within (rate : Rate) (c : CodeNumbers) : Type 0 where
  pub sized : Sized c
  pub lsp : Fits rate Lsp c.lsp
  pub plag : Fits rate Plag c.pitch.plag
  pub pgain : Fits rate Pgain c.pitch.pgain
  pub cbindex : Fits rate Cbindex c.codebook.cbindex
  pub cbgain : Fits rate Cbgain c.codebook.cbgain
  pub cbseed : Fits rate Cbseed (c.cbseed ∷ [])

-- the 35 codes of a frame in order
abbrev pub in_order : CodeNumbers → List ℕ
in_order c =
    c.lsp ++ (c.pitch.plag ++ (c.pitch.pgain ++ (c.codebook.cbindex ++ (c.codebook.cbgain ++ (c.cbseed ∷ [])))))

-- the 36 codes of a frame in order: these, and PCB
abbrev pub list_of : CodeNumbers → ℕ → List ℕ
list_of c pcb = in_order c ++ (pcb ∷ [])

-- the record of codes that stand in this order
abbrev pub numbers_of : List ℕ → CodeNumbers
numbers_of list = record {
  lsp = take 10 (drop (first Lsp) list);
  pitch = record { plag = take 4 (drop (first Plag) list); pgain = take 4 (drop (first Pgain) list) };
  codebook = record { cbindex = take 8 (drop (first Cbindex) list); cbgain = take 8 (drop (first Cbgain) list) };
  cbseed = slice_index list (first Cbseed);
}

-- the codes with the lowest four bits of a number as CBSEED; only Rate 1/8 has it, and at the others nothing changes
abbrev pub with_cbseed : Rate → ℕ → CodeNumbers → CodeNumbers
with_cbseed Full n c = c
with_cbseed Half n c = c
with_cbseed Quarter n c = c
with_cbseed Eighth n c = record { lsp = c.lsp; pitch = c.pitch; codebook = c.codebook; cbseed = n % 16 }
