-- By hand, since the clause is about every value, and the check does not find what from_fn_ten asks of each call.
use Rattle.std.proofs.Common.{of_calls}
use Rattle.lsp.proofs.Tens.{from_fn_ten}
use Rattle.lsp.proofs.ten.Lsp.each.Goals as goal

pub returns : goal.returns
returns g c = λ value each. from_fn_ten _ _ _ (λ i x f lt k. search (of_calls, each)) _ c.from_fn.ensures.items
