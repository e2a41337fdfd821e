-- The worked page, computed.
use Rattle.std.proofs.Common.{◌≡◌, ℕ, Bool, eqb, [], ◌∷◌, ◌++◌, Some, None, refl, sym, ap, ap₂, ◌∙◌, subst, inl, inr, arith}
use Rattle.std.specs.Prelude.{codes}
use Rattle.std.specs.Fmt.{digits}
use Rattle.std.proofs.lemmas.Bool.{eqb-true}
use Rattle.service.specs.declared.rates.Rate.TheVariants.{Eighth as Rate1/8}
use Rattle.service.specs.declared.categories.Category.TheVariants.{Eighth}
use Rattle.service.specs.declared.readings.Letter.TheVariants.{C, D}
use Rattle.service.proofs.Computed.{all_at}
use Rattle.lsp.specs.Decay.{decay}
use Rattle.lsp.specs.Ten.{ten}
use Rattle.lsp.specs.States.{frequencies}
use Rattle.packet_layout.specs.declared.code_bits.CodeName.TheVariants.{Lsp, Plag, Pgain, Cbindex, Cbgain, Cbseed}
use Rattle.packet_layout.specs.Layouts.{layout}
use Rattle.packet.specs.declared.codes.CodeNumbers.{CodeNumbers}
use Rattle.packet.specs.Bits.{bit_at, byte_of, carried, number_of, packet_of}
use Rattle.packet.specs.Calls.{Holds, packet}
use Rattle.packet.specs.Codes.{Within}
use Rattle.packet.proofs.Returns.{packet_holds}
use Rattle.rules.specs.Arrivals.{Arrival}
use Rattle.rules.specs.Readings.{AllOnes, Reading, Reads}
use Rattle.rules.specs.Ends.{Receiver, Taken, new_receiver, receiver_after}
use Rattle.rules.specs.Pages.{digits_text, frequencies_text, header_text, row_text, rows_text}
use Rattle.rules.specs.Reels.{recorded}
use Rattle.rules.specs.Rows.{TakesAll, row_of}
use Rattle.law.specs.Listing.{WorkedListing, listed_reel, listing}
use Rattle.law.specs.Marks.{only_cbgain8}
use Rattle.law.proofs.OneReading.{codebooks_some, pitches_some}
use Rattle.law.proofs.Silent.{zeros_fit}

-- ---- the first packet, which is that of codes 0

abbrev zeros : CodeNumbers
zeros = only_cbgain8 0

within : Within Rate1/8 zeros
within = record {
  sized = record { lsp = refl; plag = refl; pgain = refl; cbindex = refl; cbgain = refl };
  lsp = zeros_fit Rate1/8 Lsp 10;
  plag = zeros_fit Rate1/8 Plag 4;
  pgain = zeros_fit Rate1/8 Pgain 4;
  cbindex = zeros_fit Rate1/8 Cbindex 8;
  cbgain = zeros_fit Rate1/8 Cbgain 8;
  cbseed = zeros_fit Rate1/8 Cbseed 1;
}

packet_is : packet Rate1/8 zeros ≡ 0 ∷ 0 ∷ []
unfolding packet_of byte_of carried number_of layout
packet_is = refl

holds : Holds Rate1/8 (0 ∷ 0 ∷ []) zeros
holds =
    subst (λ bytes. Holds Rate1/8 bytes zeros) packet_is
    (record { within = within; bits = packet_holds Rate1/8 zeros within.sized })

not_ones : AllOnes Rate1/8 (0 ∷ 0 ∷ []) → ⊥
not_ones ones = let one = ones 0 (omega arith) in absurd (omega arith)

-- what is read of it
abbrev reading : Reading
reading = record {
  rate = Rate1/8;
  codes = zeros;
  pitches = (pitches_some Rate1/8 zeros.pitch refl refl).0;
  codebooks = (codebooks_some Rate1/8 zeros.codebook refl refl).0;
}

reads : Reads Eighth (0 ∷ 0 ∷ []) C (Some reading)
reads =
    inr (
      not_ones,
      (
        refl,
        (
          record { rate = refl; codes = holds; codebooks = (codebooks_some Rate1/8 zeros.codebook refl refl).1 },
          (pitches_some Rate1/8 zeros.pitch refl refl).1,
        ),
      ),
    )

-- ---- the second, which is all ones

abbrev is_one : ℕ → Bool
is_one k = eqb (bit_at (255 ∷ 255 ∷ []) k) 1

ones : AllOnes Rate1/8 (255 ∷ 255 ∷ [])
ones k h = eqb-true (bit_at (255 ∷ 255 ∷ []) k) 1 (all_at is_one 16 k refl h)

-- ---- they are taken

abbrev first : Arrival
first = record { category = Eighth; bytes = 0 ∷ 0 ∷ [] }

abbrev second : Arrival
second = record { category = Eighth; bytes = 255 ∷ 255 ∷ [] }

recorded_are : recorded listed_reel ≡ first ∷ second ∷ []
unfolding recorded
recorded_are = refl

abbrev after_first : Receiver
after_first = receiver_after C (Some reading) new_receiver

abbrev after_second : Receiver
after_second = receiver_after D None after_first

abbrev first_taken : Taken
first_taken = record { arrival = first; letter = C; frequencies = frequencies after_first.memories; reading = Some reading }

abbrev second_taken : Taken
second_taken = record { arrival = second; letter = D; frequencies = frequencies after_second.memories; reading = None }

takes : TakesAll new_receiver (first ∷ second ∷ []) (first_taken ∷ second_taken ∷ []) after_second []
takes = (
  after_first,
  second ∷ [],
  record { first = refl; received = record { read = reads; receiver = refl; answer = refl } },
  (
    after_second,
    [],
    record { first = refl; received = record { read = inl (ones, (refl, refl)); receiver = refl; answer = refl } },
    (refl, refl),
  ),
)

-- ---- and printed

first_row : row_text 1 (row_of first_taken)
    ≡ codes "1;C;383385600;874905600;1366425600;1857945600;2349465600;" ++ codes "2840985600;3332505600;3824025600;4315545600;4807065600;0\n"
unfolding frequencies_text digits_text digits ten decay
first_row = refl

second_row : row_text 2 (row_of second_taken)
    ≡ codes "2;D;393523200;885043200;1376563200;1868083200;2359603200;" ++ codes "2851123200;3342643200;3834163200;4325683200;4817203200;-\n"
unfolding frequencies_text digits_text digits ten decay
second_row = refl

rows_are : rows_text 1 (row_of first_taken ∷ row_of second_taken ∷ []) ≡ row_text 1 (row_of first_taken) ++ (row_text 2 (row_of second_taken) ++ [])
unfolding rows_text
rows_are = refl

printed : listing ≡ header_text ++ rows_text 1 (row_of first_taken ∷ row_of second_taken ∷ [])
printed =
    ap (λ l. header_text ++ l)
    (ap₂ (λ a b. a ++ (b ++ [])) (sym first_row) (sym second_row) ∙ sym rows_are)

pub worked_listing : WorkedListing
worked_listing = (
  row_of first_taken ∷ row_of second_taken ∷ [],
  (
    first_taken ∷ second_taken ∷ [],
    after_second,
    subst (λ list. TakesAll new_receiver list (first_taken ∷ second_taken ∷ []) after_second []) (sym recorded_are) takes,
    refl,
  ),
  printed,
)
