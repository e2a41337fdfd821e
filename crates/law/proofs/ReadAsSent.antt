-- What was sent, and not disturbed, is read as it was sent.
use Rattle.std.proofs.Common.{◌≡◌, ℕ, Some, refl, sym, ap, subst, inl, inr}
use Rattle.service.specs.declared.rates.Rate.{Rate}
use Rattle.service.specs.declared.rates.Rate.TheVariants.{Full, Half, Quarter, Eighth}
use Rattle.service.specs.declared.readings.Letter.TheVariants.{C}
use Rattle.service.specs.Categories.{category_of_packet}
use Rattle.packet.specs.declared.codes.CodeNumbers.{CodeNumbers}
use Rattle.packet.specs.Calls.{packet}
use Rattle.packet.specs.Codes.{Within}
use Rattle.packet.proofs.Trips.{unpacking_returns}
use Rattle.figures.proofs.Frames.{frames_read_as_sent}
use Rattle.rules.specs.Readings.{AllOnes, IsReadWithPitch, Reading, Reads}
use Rattle.rules.specs.Sending.{DrawsCbseed, cbseed_of, drawn}
use Rattle.law.specs.Answers.{SentIsReadAsSent}
use Rattle.law.proofs.Corrected.{sent_syndrome}
use Rattle.law.proofs.OneReading.{codebooks_some, pitches_some}
use Rattle.law.proofs.Sent.{sent_within}

module _ (q : Rate) (c : CodeNumbers) (within : Within q c) where
  abbrev reading : Reading
  reading = record {
    rate = q;
    codes = c;
    pitches = (pitches_some q c.pitch within.sized.plag within.sized.pgain).0;
    codebooks = (codebooks_some q c.codebook within.sized.cbindex within.sized.cbgain).0;
  }

  with_pitch : IsReadWithPitch C q (packet q c) C (Some reading)
  with_pitch = (
    refl,
    (
      record {
        rate = refl;
        codes = (unpacking_returns q c within).holds;
        codebooks = (codebooks_some q c.codebook within.sized.cbindex within.sized.cbgain).1;
      },
      (pitches_some q c.pitch within.sized.plag within.sized.pgain).1,
    ),
  )

-- a packet of a rate arrives in its category, and is read
reads : (q : Rate) (c : CodeNumbers) (within : Within q c) (seed n : ℕ) → DrawsCbseed q c seed n → Reads (category_of_packet q) (packet q c) C (Some (reading q c within))
reads Full c within seed n d = inl (sent_syndrome c within, with_pitch Full c within)
reads Half c within seed n d = with_pitch Half c within
reads Quarter c within seed n d = with_pitch Quarter c within
reads Eighth c within seed n d =
    let same : record c { cbseed = cbseed_of (drawn n seed) } ≡ c = ap (λ k. record c { cbseed = k }) (sym d.1) in
    inr (λ ones. d.0.at (subst (λ x. AllOnes Eighth (packet Eighth x)) (sym same) ones), with_pitch Eighth c within)

pub sent_is_read : SentIsReadAsSent
sent_is_read q p e f a =
    let w : Within q f.codes = subst (λ r. Within r f.codes) a.rate (sent_within q p e f a) in
    let r = reading q f.codes w in
    record {
      reading = r;
      read =
          subst (λ b. Reads (category_of_packet f.rate) b C (Some r)) (sym a.bytes)
          (subst (λ k. Reads (category_of_packet k) (packet q f.codes) C (Some r)) (sym a.rate) (reads q f.codes w e.seed f.draws a.draws));
      rate = refl;
      codes = refl;
      pitches =
          frames_read_as_sent.pitch q p.pitches r.pitches f.codes.pitch a.codes.pitch
          (pitches_some q f.codes.pitch w.sized.plag w.sized.pgain).1;
      codebooks =
          frames_read_as_sent.codebook q p.codebooks r.codebooks f.codes.codebook a.codes.codebook
          (codebooks_some q f.codes.codebook w.sized.cbindex w.sized.cbgain).1;
    }
