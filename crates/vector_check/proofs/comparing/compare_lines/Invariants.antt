use Rattle.std.proofs.Common.{◌≡◌, None, map, take}
use Rattle.std.specs.String.{string_bytes}
use Rattle.vector_check.specs.Tallies.{Tallied}
use Rattle.vector_check.proofs.TallyLemmas.{Within}
use Rattle.vector_check.proofs.comparing.compare_lines.Given as goal

-- the lines so far have the form of the file, and are tallied
abbrev pub invariant-loop-line : goal.invariant-loop-line
invariant-loop-line g l = record {
  whole : l.comparison.malformed ≡ None;
  within : Within l.comparison.tally;
  tallied : Tallied (g.F.CaseFile.is_case l.fn.file) (g.F.CaseFile.is_right l.fn.file) (g.F.CaseFile.names l.fn.file) (map (λ line. line.now) (take l.line-index l.lines))
      l.comparison.tally (string_bytes l.comparison.differences);
}
