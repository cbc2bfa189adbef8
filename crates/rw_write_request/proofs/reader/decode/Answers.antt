use Rattle.std.proofs.Common.{Ok, Err}
use Rattle.std.proofs.lemmas.Result.{err_from_is_err_and}
use Rattle.rw_write_request.proofs.Decoded.{is_found, is_only}
use Rattle.rw_write_request.proofs.reader.decode.Goals as goal

pub returns-in-Ok-clause-found : goal.returns-in-Ok-clause-found
returns-in-Ok-clause-found c = is_found c.args.bytes.now (Ok c.in-Ok.message) c.in-Ok.ensures

pub returns-in-Ok-clause-only : goal.returns-in-Ok-clause-only
returns-in-Ok-clause-only c = is_only c.args.bytes.now (Ok c.in-Ok.message) c.in-Ok.ensures

pub returns-in_err-check_message-in-Err-clause-only : goal.returns-in_err-check_message-in-Err-clause-only
returns-in_err-check_message-in-Err-clause-only c =
    let p = err_from_is_err_and c.from_residual.result c.from_residual.ensures.1 in
    rw (p.1, p.2) (is_only c.args.bytes.now (Err c.in_err-check_message-in-Err.field-0.0) (λ _. c.in_err-check_message-in-Err.ensures.fault))

pub returns-in-Err-2-clause-only : goal.returns-in-Err-2-clause-only
returns-in-Err-2-clause-only c = is_only c.args.bytes.now (Err c.in-Err.fault) c.in-Err.ensures
