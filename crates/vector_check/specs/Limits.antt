-- The cases of pack-limits.txt: a rate and codes, the length of a buffer, and what packing into it is answered.
use Rattle.std.specs.Prelude.{◌≡◌, ◌≢◌, ℕ, ◌<◌, ◌≤◌, ◌⊎◌, List, ◌++◌, codes, decimal, string_bytes, Some, Ok}
use Rattle.std.specs.Str.Parse.{IsNumeral, digits_value, without_leading_plus}
use Rattle.service.specs.declared.rates.Rate.{Rate}
use Rattle.service.specs.Rates.{rate_is}
use Rattle.service.specs.Refusals.{refused}
use Rattle.service.specs.Texts.{refused_text}
use Rattle.packet.specs.declared.codes.CodeNumbers.{CodeNumbers}
use Rattle.packet.specs.Calls.{AreNotCodes, packet}
use Rattle.packet.specs.Codes.{Within}
use Rattle.packet_lines.specs.Reading.{reading}
use Rattle.packet_lines.specs.Reading.Asked.{pack}
use Rattle.packet_lines.specs.Texts.{packet_text}
use Rattle.vector_check.specs.declared.limits.LimitCase.{LimitCase}
use Rattle.vector_check.specs.Differences.{Finds}
use Rattle.vector_check.specs.Words.{IsWord}

-- codes of a rate are answered by their packet if it has room, and else by refusal 16
abbrev pub AnswersCodes : Rate → CodeNumbers → ℕ → List ℕ → Type 0
AnswersCodes rate c room text =
    (((rate_is rate).bytes ≤ room) × (text ≡ packet_text (packet rate c)))
    ⊎ ((room < (rate_is rate).bytes) × (text ≡ refused_text (refused 16)))

-- and what is no codes by refusal 17, whatever the room
abbrev pub AnswersInRoom : ℕ → CodeNumbers → ℕ → List ℕ → Type 0
AnswersInRoom number c room text =
    ((rate : Rate) × ((rate_is rate).number ≡ number) × Within rate c × AnswersCodes rate c room text)
    ⊎ (AreNotCodes number c × (text ≡ refused_text (refused 17)))

-- a packet is one word, and a refusal two, of which the first is `refused`: so a packet does not stand behind it
abbrev pub IsExpected : List ℕ → List ℕ → Type 0
IsExpected length answer =
    (IsWord answer × (length ≢ codes "refused"))
    ⊎ ((number : List ℕ) × IsWord number × (answer ≡ codes "refused " ++ number))

-- the codes with their rate, the length of a buffer, and what packing into it is to be answered
pub record LimitParts (line values length answer : List ℕ) : Type 0 where
  pub parts : line ≡ values ++ (codes " " ++ (length ++ (codes " " ++ answer)))
  pub word : IsWord length
  pub expected : IsExpected length answer

-- the length is a decimal number, at most 64; a plus may stand before it
pub record IsRoom (length : List ℕ) (room : ℕ) : Type 0 where
  pub digits : IsNumeral 10 (without_leading_plus length)
  pub number : room ≡ digits_value 10 (without_leading_plus length)
  pub small : room ≤ 64

-- a case: the codes as they stand in the line, and as they are read in a line about packets
pub record Limit : Type 0 where
  pub values : List ℕ
  pub rate : ℕ
  pub numbers : CodeNumbers
  pub room : ℕ
  pub answer : List ℕ

abbrev pub limit_of : LimitCase → Limit
limit_of case = record {
  values = case.codes.now;
  rate = case.rate;
  numbers = case.numbers;
  room = case.room;
  answer = string_bytes case.answer;
}

abbrev pub pack_line : List ℕ → List ℕ
pack_line values = codes "pack " ++ values

pub record LimitLine (line : List ℕ) (l : Limit) : Type 0 where
  pub length : List ℕ
  pub parts : LimitParts line l.values length l.answer
  pub is_room : IsRoom length l.room
  pub reads : reading (pack_line l.values) ≡ Ok (pack l.rate l.numbers)

abbrev pub IsLimitCase : List ℕ → Type 0
IsLimitCase line = (l : Limit) × LimitLine line l

-- what packing the codes of the line into a buffer of its length is answered
abbrev pub AnswersLimit : Limit → List ℕ → Type 0
AnswersLimit l text = AnswersInRoom l.rate l.numbers l.room text

-- it is the answer of the line
abbrev pub IsRightLimit : List ℕ → Type 0
IsRightLimit line = (l : Limit) × LimitLine line l × AnswersLimit l l.answer

-- a text names what packing is answered instead
abbrev pub limit_text : Limit → List ℕ
limit_text l = pack_line l.values ++ (codes " into " ++ (decimal l.room ++ codes " bytes"))

abbrev pub NamesLimit : List ℕ → List ℕ → Type 0
NamesLimit line text =
    (l : Limit) × LimitLine line l × Finds (AnswersLimit l) (limit_text l) l.answer (Some text)
