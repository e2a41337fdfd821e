use Rattle.std.proofs.Common.{◌<◌, rules, arith}
use Rattle.packet_lines.proofs.Lines.{Bytes, pack_line}
use Rattle.packet_lines.proofs.laws.pack_line_reads_back.Goals as goal

pub returns : goal.returns
returns c =
    let n = c.args.numbers in
    let lsp : Bytes 10 n.lsp = record { long = search rules; fit = λ i. search rules } in
    let plag : Bytes 4 n.pitch.plag = record { long = search rules; fit = λ i. search rules } in
    let pgain : Bytes 4 n.pitch.pgain = record { long = search rules; fit = λ i. search rules } in
    let cbindex : Bytes 8 n.codebook.cbindex = record { long = search rules; fit = λ i. search rules } in
    let cbgain : Bytes 8 n.codebook.cbgain = record { long = search rules; fit = λ i. search rules } in
    let cbseed : n.cbseed < 256 = search rules in
    pack_line n lsp plag pgain cbindex cbgain cbseed c.args.rate (omega arith)
