use Rattle.std.proofs.Common.{◌≡◌, ◌∙◌, true, ap, sym, subst}
use Rattle.rw_types.specs.Requests.{is_host_name, is_request_path}
use Rattle.rw_world.specs.Arriving.{AnswersBytes}
use Rattle.rw_world.specs.Machine.{Machine}
use Rattle.rw_world.specs.contracts.engine.Engine.{the_view}
use Rattle.rw_world.proofs.ArriveLemmas.{answers}
use Rattle.rw_world.proofs.engine.Engine.answers_bytes.Goals as goal

pub returns : goal.returns
returns c =
    let s = c.self.inside in
    let m : Machine = the_view s in
    let host : is_host_name s.host ≡ true = c.conforms.ensures in
    let path : is_request_path s.limits.path ≡ true = c.conforms-2.ensures in
    subst (λ (x : Machine). AnswersBytes x.setup x.world) c.self.view_is (answers m.setup m.world s.host s.limits.path host path c.requests_are_read.ensures.read c.requests_are_read.ensures.refused c.self.invariant.1)
