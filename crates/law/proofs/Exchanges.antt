-- One frame sent and taken, on a link that takes from its own line.
use Rattle.std.proofs.Common.{◌≡◌, ℕ, true, List, [], ◌∷◌, replicate, Some, Option, Ok, ℤ, pos, negsuc, ◌+ℤ◌, refl, sym, ap, ap₂, ◌∙◌, subst, arith}
use Rattle.std.proofs.lemmas.List.{get_or-replicate}
use Rattle.service.proofs.Computed.{all_at}
use Rattle.service.specs.declared.rates.Rate.TheVariants.{Full as Rate1}
use Rattle.service.specs.declared.categories.Category.TheVariants.{Suspect}
use Rattle.service.specs.declared.readings.Letter.{Letter}
use Rattle.lsp.specs.Histories.{after, packet as packet_event}
use Rattle.lsp.specs.Quantizers.{quantized, value_of}
use Rattle.lsp.specs.States.{bias, frequencies}
use Rattle.lsp.specs.Ten.{ten}
use Rattle.lsp.proofs.Ranges.{quantized_within}
use Rattle.lsp.proofs.Tens.{get_or_ten}
use Rattle.packet.specs.Codes.{Within}
use Rattle.packet.specs.Calls.{packet}
use Rattle.figures.specs.declared.codebook.CodebookParameter.{CodebookParameter}
use Rattle.figures.specs.declared.codebook.Sign.TheVariants.{Plus}
use Rattle.figures.specs.Codebook.{EncodesCodebooks, codebook_allowed, codebook_codes, parameter_at}
use Rattle.figures.specs.Codebook as codebook
use Rattle.figures.specs.Pitch.{pitch_allowed, pitch_codes, no_pitch}
use Rattle.rules.specs.Arrivals.{Arrival, blank_arrival, is_lawful}
use Rattle.rules.specs.Readings.{Reading, Reads, event_read, pitch_after}
use Rattle.rules.specs.Ends.{Taken}
use Rattle.rules.specs.Sending.{Encodes, Parameters, Sent, arrival_sent, drawn}
use Rattle.rules.specs.Links.{Link, this_line}
use Rattle.law.specs.Runs.{Send, Blank, Disturb, Take, Step}
use Rattle.law.proofs.Sent.{ten_length}
use Rattle.law.proofs.Silent.{silent, silent_within, zero_at}
use Rattle.lsp.specs.Offsets.{FrequenciesAllowed, frequency_allowed, offsets}

-- ---- the parameters: the highest frequencies that code 15 gives a new end, no pitch, and the least codebook figure

abbrev pub parameter : CodebookParameter
parameter = record { sign = Plus; index = 0; increment = negsuc 3 }

abbrev frequency : ℕ → ℤ
frequency i = bias i +ℤ value_of Rate1 i 15

abbrev pub parameters : Parameters
parameters = record { frequencies = ten frequency; pitches = replicate 4 no_pitch; codebooks = replicate 8 parameter }

allowed : FrequenciesAllowed (ten frequency)
allowed i h =
    subst (λ f. frequency_allowed f ≡ true) (sym (get_or_ten frequency (pos 0) i h)) (all_at (λ i. frequency_allowed (frequency i)) 10 i refl h)

no_pitch_allowed : pitch_allowed no_pitch ≡ true
unfolding pitch_allowed
no_pitch_allowed = refl

no_pitch_codes : pitch_codes no_pitch ≡ (0, 0)
unfolding pitch_codes
no_pitch_codes = refl

parameter_allowed : codebook_allowed Rate1 parameter ≡ true
unfolding codebook_allowed codebook.increment_number
parameter_allowed = refl

parameter_codes : codebook_codes Rate1 parameter ≡ (0, 0)
unfolding codebook_codes codebook.increment_number
parameter_codes = refl

-- the LSP codes that an end with memories m sends
abbrev pub lsp_codes : List ℤ → List ℕ
lsp_codes m = quantized Rate1 (offsets (ten frequency) m)

pub encodes : (m : List ℤ) → Encodes Rate1 parameters m (silent (lsp_codes m))
encodes m = record {
  lsp = refl;
  pitch = record {
    pairs_length = refl;
    plag_length = refl;
    pgain_length = refl;
    allowed = λ i h. ap pitch_allowed (get_or-replicate 4 i no_pitch (0, 0) h) ∙ no_pitch_allowed;
    encoded = λ i h. ap₂ (λ a b. (a, b)) (zero_at 4 i) (zero_at 4 i) ∙ sym no_pitch_codes ∙ ap pitch_codes (sym (get_or-replicate 4 i no_pitch (0, 0) h));
    past = λ i h l. absurd (omega arith);
  };
  codebook = record {
    parameters_length = refl;
    cbindex_length = refl;
    cbgain_length = refl;
    allowed = λ i h. ap (codebook_allowed Rate1) (get_or-replicate 8 i parameter _ h) ∙ parameter_allowed;
    encoded = λ i h. ap₂ (λ a b. (a, b)) (zero_at 8 i) (zero_at 8 i) ∙ sym parameter_codes ∙ ap (codebook_codes Rate1) (sym (get_or-replicate 8 i parameter _ h));
    past = λ i h l. absurd (omega arith);
  };
}

pub sends_within : (m : List ℤ) → Within Rate1 (silent (lsp_codes m))
sends_within m = silent_within (lsp_codes m) (ten_length _) (quantized_within Rate1 (offsets (ten frequency) m) (lsp_codes m) refl)

-- ---- the calls

abbrev pub sent : List ℤ → Sent
sent m = record { draws = 0; rate = Rate1; codes = silent (lsp_codes m); bytes = packet Rate1 (silent (lsp_codes m)) }

-- a link whose ends have memories m and r, with these arrivals waiting
abbrev pub link : List ℤ → List ℤ → List Arrival → Link
link m r waiting = record {
  sender = record { memories = m; pitch = no_pitch; seed = 0 };
  line = record { waiting = waiting; places = 1 };
  receiver = record { memories = r; pitch = no_pitch };
  source = this_line;
}

-- the memories after a packet with these LSP codes
abbrev pub after_codes : List ℕ → List ℤ → List ℤ
after_codes codes m = after m (packet_event Rate1 codes ∷ [])

pub send_step : (m r : List ℤ) → Step (link m r []) (Send 4 parameters (Ok (sent m))) (link (after_codes (lsp_codes m) m) r (arrival_sent (sent m) ∷ []))
unfolding drawn
send_step m r = (
  (
    record { frequencies = ten_length _; pitches = refl; codebooks = refl },
    record {
      ready = (refl, omega arith);
      coded = record { rate = refl; frequencies = allowed; codes = encodes m; draws = (refl, refl); bytes = refl };
      sender = refl;
      line_after = refl;
    },
  ),
  refl,
)

pub blank_step : (m r : List ℤ) → Step (link m r []) (Blank (Ok tt)) (link m r (blank_arrival ∷ []))
blank_step m r = (((omega arith, refl), refl), refl)

-- the waiting arrival is replaced by a suspect packet
pub disturb_step : (m r : List ℤ) (a : Arrival) (bytes : List ℕ) → is_lawful (record { category = Suspect; bytes = bytes }) ≡ true
    → Step (link m r (a ∷ [])) (Disturb 1 5 bytes (Ok tt)) (link m r (record { category = Suspect; bytes = bytes } ∷ []))
disturb_step m r a bytes lawful = (record { waits = (omega arith, omega arith); made = (refl, (refl, lawful)); line_after = refl }, refl)

-- it is taken
abbrev pub taken : Arrival → Letter → Option Reading → List ℤ → Taken
taken a l x r = record { arrival = a; letter = l; frequencies = frequencies (after r (event_read l x ∷ [])); reading = x }

pub take_step : (m r : List ℤ) (a : Arrival) (l : Letter) (x : Option Reading) → Reads a.category a.bytes l x → pitch_after l x no_pitch ≡ no_pitch
    → Step (link m r (a ∷ [])) (Take (Some (taken a l x r))) (link m (after r (event_read l x ∷ [])) [])
take_step m r a l x reads pitch = (
  record {
    first = refl;
    received = record { read = reads; receiver = ap (λ p. record { memories = after r (event_read l x ∷ []); pitch = p }) (sym pitch); answer = refl };
  },
  refl,
)
