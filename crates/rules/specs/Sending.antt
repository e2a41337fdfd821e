-- How a sender codes a frame, and when it refuses one.
use Rattle.std.specs.Prelude.{◌≡◌, ℕ, zero, suc, ◌+◌, ◌*◌, ◌%◌, ◌<◌, ◌≤◌, List, [], ◌∷◌, length, Ok, Err, Result}
use Rattle.std.specs.Prelude.{ℤ}
use Rattle.service.specs.declared.rates.Rate.{Rate}
use Rattle.service.specs.declared.rates.Rate.TheVariants.{Full, Half, Quarter, Eighth}
use Rattle.service.specs.declared.refusals.Refusal.{Refusal}
use Rattle.service.specs.declared.refusals.Refusal.TheVariants.{Frequency, Pitch, Codebook, Draws}
use Rattle.service.specs.Categories.{category_of_packet}
use Rattle.service.specs.Refusals.{refusal_is}
use Rattle.lsp.specs.Histories.{after, packet as packet_event}
use Rattle.lsp.specs.Offsets.{FrequenciesAllowed, RefusesFrequencies, offsets}
use Rattle.lsp.specs.Quantizers.{quantized}
use Rattle.packet.specs.declared.codes.CodeNumbers.{CodeNumbers}
use Rattle.packet.specs.Bits.{bit}
use Rattle.packet.specs.Calls.{packet}
use Rattle.figures.specs.declared.codebook.CodebookParameter.{CodebookParameter}
use Rattle.figures.specs.Codebook.{CodebooksAllowed, EncodesCodebooks, RefusesCodebooks}
use Rattle.figures.specs.Pitch.{EncodesPitches, PitchesAllowed, RefusesPitches}
use Rattle.rules.specs.Arrivals.{Arrival}
use Rattle.rules.specs.Readings.{AllOnes, last_pitch}
use Rattle.rules.specs.Ends.{Sender}

-- the parameters of a frame: LSP frequencies in grains, pitch pairs and codebook parameters. Those past the subframes
-- of the rate are not looked at.
pub record Parameters : Type 0 where
  pub frequencies : List ℤ
  pub pitches : List (ℕ × ℕ)
  pub codebooks : List CodebookParameter

-- there are ten, four and eight of them
pub record AreComplete (p : Parameters) : Type 0 where
  pub frequencies : length p.frequencies ≡ 10
  pub pitches : length p.pitches ≡ 4
  pub codebooks : length p.codebooks ≡ 8

-- ---- their codes

-- the codes of the parameters, sent with memories m, but for CBSEED
pub record Encodes (rate : Rate) (p : Parameters) (m : List ℤ) (c : CodeNumbers) : Type 0 where
  pub lsp : c.lsp ≡ quantized rate (offsets p.frequencies m)
  pub pitch : EncodesPitches rate p.pitches c.pitch
  pub codebook : EncodesCodebooks rate p.codebooks c.codebook

-- SD after n draws
unfoldable pub drawn : ℕ → ℕ → ℕ
drawn zero seed = seed
drawn (suc n) seed = (521 * drawn n seed + 259) % 65536

-- CBSEED of SD: CBSEED[k] is bit 4 × k + 3 of SD
abbrev pub cbseed_of : ℕ → ℕ
cbseed_of seed = bit seed 15 * 8 + bit seed 11 * 4 + bit seed 7 * 2 + bit seed 3

-- with CBSEED of draw n the packet of these codes is all ones
abbrev pub AllOnesAtDraw : CodeNumbers → ℕ → ℕ → Type 0
AllOnesAtDraw c seed n = AllOnes Eighth (packet Eighth (record c { cbseed = cbseed_of (drawn n seed) }))

-- at most 16 draws are made for a packet
abbrev pub max_draws : ℕ
max_draws = 16

-- draw n is the first whose packet is not all ones
pub record FirstNotAllOnes (c : CodeNumbers) (seed n : ℕ) : Type 0 where
  pub some : 1 ≤ n
  pub most : n ≤ max_draws
  pub before : (k : ℕ) → 1 ≤ k → k < n → AllOnesAtDraw c seed k
  pub at : AllOnesAtDraw c seed n → ⊥

-- n draws of the seed are made for the codes c, and the last gives CBSEED; only Rate 1/8 has any
abbrev pub DrawsCbseed : Rate → CodeNumbers → ℕ → ℕ → Type 0
DrawsCbseed Eighth c seed n = FirstNotAllOnes c seed n × (c.cbseed ≡ cbseed_of (drawn n seed))
DrawsCbseed Quarter c seed n = (n ≡ 0) × (c.cbseed ≡ 0)
DrawsCbseed Half c seed n = (n ≡ 0) × (c.cbseed ≡ 0)
DrawsCbseed Full c seed n = (n ≡ 0) × (c.cbseed ≡ 0)

-- each draw that may be made for the codes of the parameters gives a packet of all ones; only Rate 1/8 can have that
abbrev pub AllDrawsAllOnes : Rate → Parameters → List ℤ → ℕ → Type 0
AllDrawsAllOnes Eighth p m seed =
    (c : CodeNumbers) × Encodes Eighth p m c × ((k : ℕ) → 1 ≤ k → k ≤ max_draws → AllOnesAtDraw c seed k)
AllDrawsAllOnes Quarter p m seed = ⊥
AllDrawsAllOnes Half p m seed = ⊥
AllDrawsAllOnes Full p m seed = ⊥

-- ---- a frame is coded, or refused

-- what is sent of a frame: the draws that were made, and the packet
pub record Sent : Type 0 where
  pub draws : ℕ
  pub rate : Rate
  pub codes : CodeNumbers
  pub bytes : List ℕ

-- a sender e codes the parameters at a rate
pub record CodesFrame (q : Rate) (p : Parameters) (e : Sender) (f : Sent) : Type 0 where
  pub rate : f.rate ≡ q
  pub frequencies : FrequenciesAllowed p.frequencies
  pub codes : Encodes q p e.memories f.codes
  pub draws : DrawsCbseed q f.codes e.seed f.draws
  pub bytes : f.bytes ≡ packet q f.codes

-- the sender after it; its memories follow the codes, as a receiver's do
abbrev pub sender_after : Parameters → Sent → Sender → Sender
sender_after p f e = record {
  memories = after e.memories (packet_event f.rate f.codes.lsp ∷ []);
  pitch = last_pitch f.rate p.pitches;
  seed = drawn f.draws e.seed;
}

-- it refuses them; the tests are made in the order 10, 11, 12, 13
abbrev pub CodingRefused : Rate → Parameters → Sender → Refusal → Type 0
CodingRefused rate p e (Frequency i) = RefusesFrequencies p.frequencies (refusal_is (Frequency i))
CodingRefused rate p e (Pitch i) =
    FrequenciesAllowed p.frequencies × RefusesPitches rate p.pitches (refusal_is (Pitch i))
CodingRefused rate p e (Codebook i) =
    FrequenciesAllowed p.frequencies × PitchesAllowed rate p.pitches
    × RefusesCodebooks rate p.codebooks (refusal_is (Codebook i))
CodingRefused rate p e Draws =
    FrequenciesAllowed p.frequencies × PitchesAllowed rate p.pitches × CodebooksAllowed rate p.codebooks
    × AllDrawsAllOnes rate p e.memories e.seed
CodingRefused rate p e _ = ⊥

-- the packet as it arrives, if nothing disturbs it: the category of a packet has the number of its rate
abbrev pub arrival_sent : Sent → Arrival
arrival_sent f = record { category = category_of_packet f.rate; bytes = f.bytes }

-- what a send answers its caller: the number of draws, or the refusal
abbrev pub send_answer : Result Sent Refusal → Result ℕ Refusal
send_answer (Ok f) = Ok f.draws
send_answer (Err e) = Err e
