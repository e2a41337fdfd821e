-- The cases of pack.txt: a rate, the codes and the packet.
use Rattle.std.specs.Prelude.{◌≡◌, ℕ, List, ◌++◌, codes, Option, Some}
use Rattle.packet_lines.specs.Answers.{Answers}
use Rattle.vector_check.specs.Differences.{Finds, joined}
use Rattle.vector_check.specs.Words.{IsWord}

-- the rate and the packet are words, and the codes are what stands between them
pub record PackLine (line rate values packet : List ℕ) : Type 0 where
  pub parts : line ≡ rate ++ (codes " " ++ (values ++ (codes " " ++ packet)))
  pub first : IsWord rate
  pub last : IsWord packet

abbrev pub pack_of : List ℕ → List ℕ → List ℕ
pack_of rate values = codes "pack " ++ (rate ++ (codes " " ++ values))

abbrev pub unpack_of : List ℕ → List ℕ → List ℕ
unpack_of rate packet = codes "unpack " ++ (rate ++ (codes " " ++ packet))

abbrev pub IsPackCase : List ℕ → Type 0
IsPackCase line = (rate : List ℕ) × (values : List ℕ) × (packet : List ℕ) × PackLine line rate values packet

-- at the rate of the line, its codes give its packet, and its packet gives its codes
pub record RightPack (rate values packet : List ℕ) : Type 0 where
  pub packs : Answers (pack_of rate values) packet
  pub unpacks : Answers (unpack_of rate packet) values

abbrev pub IsRightPack : List ℕ → Type 0
IsRightPack line =
    (rate : List ℕ) × (values : List ℕ) × (packet : List ℕ) × PackLine line rate values packet
    × RightPack rate values packet

-- what is found of packing and of unpacking, where it is not as the line says
pub record FindsPack (rate values packet : List ℕ) (found : Option (List ℕ)) : Type 0 where
  pub packed : Option (List ℕ)
  pub unpacked : Option (List ℕ)
  pub packs : Finds (Answers (pack_of rate values)) (pack_of rate values) packet packed
  pub unpacks : Finds (Answers (unpack_of rate packet)) (unpack_of rate packet) values unpacked
  pub both : found ≡ joined packed unpacked

-- a text names it
abbrev pub NamesPack : List ℕ → List ℕ → Type 0
NamesPack line text =
    (rate : List ℕ) × (values : List ℕ) × (packet : List ℕ) × PackLine line rate values packet
    × FindsPack rate values packet (Some text)
