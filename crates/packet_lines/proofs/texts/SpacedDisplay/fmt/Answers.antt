-- By hand, since grind does not repeat the library's has_written_append for each turn of a loop.
use Rattle.std.proofs.Common.{[], ◌++◌, codes, decimal, get_or, take, sym, ap, ◌∙◌, rules}
use Rattle.std.proofs.Output.{has_written_append, has_written_of_eq}
use Rattle.std.proofs.lemmas.List.{take_more, flat_map_more}
use Rattle.packet_lines.specs.Texts.{spaced}
use Rattle.packet_lines.proofs.texts.SpacedDisplay.fmt.Goals as goal

pub loop-number-preserved : goal.loop-number-preserved
loop-number-preserved g c = λ p.
    let ns = c.args.self.now.0.now in
    let i = c.loop-number.number-index in
    let n = get_or ns i 0 in
    has_written_of_eq _ _ _ _ _ (flat_map_more (λ m. codes " " ++ decimal m) [] (take i ns) n ∙ ap spaced (sym (take_more ns i 0 c.loop-number-test.true)))
    (has_written_append _ _ _ _ (codes " " ++ decimal n) _ (c.loop-number.invariant p) (search rules))
