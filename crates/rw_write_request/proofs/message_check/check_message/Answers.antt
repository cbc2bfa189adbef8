use Rattle.std.proofs.Common.{◌≡◌, Err, rules}
use Rattle.std.specs.Prelude.{IfErr}
use Rattle.rw_write_request.specs.declared.kind.Kind.TheVariants as kinds
use Rattle.rw_write_request.specs.Read.{read, request_step}
use Rattle.rw_write_request.proofs.Certain.{judged-certain}
use Rattle.rw_write_request.proofs.Loop.{done}
use Rattle.rw_write_request.proofs.message_check.check_message.Goals as goal

pub returns-in_err-series-clause-certain : goal.returns-in_err-series-clause-certain
returns-in_err-series-clause-certain c =
    let fault : IfErr c.from_residual.result (λ e. read c.args.bytes.now ≡ Err e) = search rules in
    judged-certain c.args.bytes.now c.from_residual.result fault

pub returns-in_err-check_series-clause-certain : goal.returns-in_err-check_series-clause-certain
returns-in_err-check_series-clause-certain c =
    let fault : IfErr c.from_residual-in_err-check_series.result (λ e. read c.args.bytes.now ≡ Err e) = search rules in
    judged-certain c.args.bytes.now c.from_residual-in_err-check_series.result fault

pub returns-clause-found : goal.returns-clause-found
returns-clause-found c =
    let m = c.loop-rest.invariant in
    (m.0, done kinds.WriteRequest request_step m.0 c.loop-rest.rest.now (read c.args.bytes.now) (search rules) m.1)
