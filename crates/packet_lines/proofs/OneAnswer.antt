-- Each line has one answer.
use Rattle.std.proofs.Common.{◌≡◌, ℕ, List, Ok, Err, Result, inl, inr, sym, ◌∙◌, ap}
use Rattle.service.specs.declared.refusals.Refusal.{Refusal}
use Rattle.service.specs.Texts.{refused_text}
use Rattle.packet.specs.declared.codes.CodeNumbers.{CodeNumbers}
use Rattle.packet.specs.declared.codes.Codes.{Codes}
use Rattle.packet.specs.Calls.{packet}
use Rattle.packet.specs.OneAnswer.{SameUnpacked}
use Rattle.packet.proofs.Answers.{one_answer, same_rate}
use Rattle.packet_lines.specs.declared.reasons.Unreadable.{Unreadable}
use Rattle.packet_lines.specs.Answers.{AnswersPack, AnswersReading, AnswersUnpack, OneAnswerToEachLine, unpacked_text}
use Rattle.packet_lines.specs.Reading.{Asked, reading}
use Rattle.packet_lines.specs.Reading.Asked.{pack, unpack}
use Rattle.packet_lines.specs.Texts.{codes_text, packet_text}

one_packed : (number : ℕ) (c : CodeNumbers) (a b : List ℕ) → AnswersPack number c a → AnswersPack number c b → a ≡ b
one_packed number c a b (inl (rate, is, within, ea)) (inl (rate', is', within', eb)) =
    ea ∙ ap (λ r. packet_text (packet r c)) (same_rate rate rate' number is is') ∙ sym eb
one_packed number c a b (inl (rate, is, within, ea)) (inr (none, eb)) = absurd (none rate is within)
one_packed number c a b (inr (none, ea)) (inl (rate, is, within, eb)) = absurd (none rate is within)
one_packed number c a b (inr (none, ea)) (inr (none', eb)) = ea ∙ sym eb

same_text : (r r' : Result Codes Refusal) → SameUnpacked r r' → unpacked_text r ≡ unpacked_text r'
same_text (Ok c) (Ok d) (rates, numbers) = ap codes_text numbers
same_text (Ok c) (Err f) no_way = absurd no_way
same_text (Err e) (Ok d) no_way = absurd no_way
same_text (Err e) (Err f) is = ap refused_text is

one_unpacked : (number : ℕ) (bytes a b : List ℕ) → AnswersUnpack number bytes a → AnswersUnpack number bytes b → a ≡ b
one_unpacked number bytes a b (r, u, ea) (r', u', eb) = ea ∙ same_text r r' (one_answer.unpacking number bytes r r' u u') ∙ sym eb

one_reading : (r : Result Asked Unreadable) (a b : List ℕ) → AnswersReading r a → AnswersReading r b → a ≡ b
one_reading (Ok (pack rate c)) a b p q = one_packed rate c a b p q
one_reading (Ok (unpack rate bytes)) a b p q = one_unpacked rate bytes a b p q
one_reading (Err e) a b p q = p ∙ sym q

pub one_answer_to_each_line : OneAnswerToEachLine
one_answer_to_each_line line a b p q = one_reading (reading line) a b p q
