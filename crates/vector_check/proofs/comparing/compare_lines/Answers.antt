use Rattle.std.proofs.Common.{◌+◌, ℕ, List, [], Bor, get_or, drop, map, take, sym, subst, ◌∙◌}
use Rattle.std.specs.String.{string_bytes}
use Rattle.std.proofs.lemmas.List.{map_more}
use Rattle.vector_check.specs.Tallies.{Tallied}
use Rattle.vector_check.proofs.TallyLemmas.{parts_at, tallied_more, whole_more, within_more}
use Rattle.vector_check.proofs.comparing.compare_lines.Goals as goal

pub returns-in-Some : goal.returns-in-Some
returns-in-Some g c =
    let file = c.args.file.now in
    let lines = c.args.lines.now in
    let i = c.loop-line.line-index in
    let blank : Bor (List ℕ) = record { ref_ptr = (0, 0); now = [] } in
    let ends = rw c.in-Some.is at c.in_ok-reason.ensures in
    record {
      before = map (λ line. line.now) (take i lines);
      line = (get_or lines i blank).now;
      after = map (λ line. line.now) (drop (i + 1) lines);
      parts = parts_at (λ line. line.now) lines i blank c.loop-line-test.true;
      tallied = subst (λ k. Tallied (g.F.CaseFile.is_case file) (g.F.CaseFile.is_right file) (g.F.CaseFile.names file) (map (λ line. line.now) (take i lines)) k.tally (string_bytes k.differences))
          (sym ends.0) c.loop-line.invariant.tallied;
      malformed = ends.1;
    }

pub loop-line-preserved : goal.loop-line-preserved
loop-line-preserved g c =
    let file = c.args.file.now in
    let lines = c.args.lines.now in
    let i = c.loop-line.line-index in
    let old = c.loop-line.comparison in
    let new = c.compare_line.new.self in
    let blank : Bor (List ℕ) = record { ref_ptr = (0, 0); now = [] } in
    let line = (get_or lines i blank).now in
    let case = g.F.CaseFile.is_case file in
    let right = g.F.CaseFile.is_right file in
    let names = g.F.CaseFile.names file in
    let adds = rw c.in_default.is at c.in_ok-reason.ensures in
    let more = tallied_more case right names (map (λ line. line.now) (take i lines)) line old new c.loop-line.invariant.tallied adds in
    record {
      whole = whole_more (case line) (right line) (names line) old new adds ∙ c.loop-line.invariant.whole;
      within = within_more (case line) (right line) (names line) old new c.loop-line.invariant.within adds;
      tallied = subst (λ ls. Tallied case right names ls new.tally (string_bytes new.differences)) (sym (map_more (λ line. line.now) lines i blank c.loop-line-test.true)) more;
    }
