-- What each line is answered.
use Rattle.std.specs.Prelude.{◌≡◌, ℕ, ◌⊎◌, List, ◌++◌, Ok, Err, Result, codes}
use Rattle.service.specs.declared.rates.Rate.{Rate}
use Rattle.service.specs.declared.refusals.Refusal.{Refusal}
use Rattle.service.specs.Rates.{rate_is}
use Rattle.service.specs.Refusals.{refusal_is, refused}
use Rattle.service.specs.Texts.{refused_text}
use Rattle.packet.specs.declared.codes.CodeNumbers.{CodeNumbers}
use Rattle.packet.specs.declared.codes.Codes.{Codes}
use Rattle.packet.specs.Calls.{AreNotCodes, packet}
use Rattle.packet.specs.Codes.{Within}
use Rattle.packet.specs.Unpacking.{Unpacks}
use Rattle.packet_lines.specs.declared.reasons.Unreadable.{Unreadable}
use Rattle.packet_lines.specs.Reading.{Asked, reading}
use Rattle.packet_lines.specs.Reading.Asked.{pack, unpack}
use Rattle.packet_lines.specs.Texts.{codes_text, packet_text, reason_text}

-- codes of the rate of this number are answered by their packet, and what is not such codes by refusal 17
abbrev pub AnswersPack : ℕ → CodeNumbers → List ℕ → Type 0
AnswersPack number c text =
    ((rate : Rate) × ((rate_is rate).number ≡ number) × Within rate c × (text ≡ packet_text (packet rate c)))
    ⊎ (AreNotCodes number c × (text ≡ refused_text (refused 17)))

abbrev pub unpacked_text : Result Codes Refusal → List ℕ
unpacked_text (Ok c) = codes_text c.numbers
unpacked_text (Err e) = refused_text (refusal_is e)

-- a packet is answered by its codes, or by why it is refused
abbrev pub AnswersUnpack : ℕ → List ℕ → List ℕ → Type 0
AnswersUnpack number bytes text = (r : Result Codes Refusal) × Unpacks number bytes r × (text ≡ unpacked_text r)

abbrev pub AnswersReading : Result Asked Unreadable → List ℕ → Type 0
AnswersReading (Ok (pack rate c)) text = AnswersPack rate c text
AnswersReading (Ok (unpack rate bytes)) text = AnswersUnpack rate bytes text
AnswersReading (Err e) text = text ≡ codes "unreadable: " ++ reason_text e

-- what a line is answered
abbrev pub Answers : List ℕ → List ℕ → Type 0
Answers line text = AnswersReading (reading line) text

-- no line has two answers
abbrev pub OneAnswerToEachLine : Type 0
OneAnswerToEachLine = (line a b : List ℕ) → Answers line a → Answers line b → a ≡ b
