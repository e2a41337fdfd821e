use Rattle.packet_lines.proofs.OneAnswer.{one_answer_to_each_line}
use Rattle.packet_lines.proofs.laws.one_answer_to_each_line.Goals as goal

pub returns : goal.returns
returns c = one_answer_to_each_line
