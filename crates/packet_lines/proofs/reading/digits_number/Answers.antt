use Rattle.std.proofs.Common.{rules}
use Rattle.packet_lines.proofs.Numbers.{number_parsed, text_found}
use Rattle.packet_lines.proofs.reading.digits_number.Goals as goal

pub unwrap-requires : goal.unwrap-requires
unwrap-requires c = text_found _ _ c.args.word.now c.from_utf8.result c.from_utf8.ensures.cases (search rules)

pub returns : goal.returns
returns c = search (rules, number_parsed c.args.word.now c.parse.result)
