use Rattle.std.specs.String.{string_bytes}
use Rattle.std.proofs.lemmas.Result.{err_from_is_err_and}
use Rattle.vector_check.proofs.LimitLemmas.{no_codes_read, no_room}
use Rattle.vector_check.proofs.limits.limit_case.Goals as goal

pub returns-in_err-room : goal.returns-in_err-room
returns-in_err-room c =
    let parts = c.in_ok-parts.parts in
    let p = err_from_is_err_and c.from_residual-in_err-room.result c.from_residual-in_err-room.ensures.1 in
    rw (p.1, p.2)
    (no_room c.args.line.now parts.codes.now parts.length.now (string_bytes parts.answer) c.in_ok-parts.ensures c.in_err-room.ensures)

pub returns-in_err-codes : goal.returns-in_err-codes
returns-in_err-codes c =
    let parts = c.in_ok-parts.parts in
    let p = err_from_is_err_and c.from_residual-in_err-codes.result c.from_residual-in_err-codes.ensures.1 in
    rw (p.1, p.2) (no_codes_read c.args.line.now parts.codes.now parts.length.now (string_bytes parts.answer) c.in_err-codes.field-0.0
    c.in_ok-parts.ensures c.in_err-codes.ensures)
