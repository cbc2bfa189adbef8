use Rattle.std.proofs.Common.{◌≡◌, ◌<◌, ◌≤◌, ◌^◌, [], length, None, Some, true, refl, ap, ◌∙◌, subst, arith}
use Rattle.rw_types.specs.Memory.{Reserved}
use Rattle.rw_types.specs.Requests.{is_request_path}
use Rattle.rw_in_memory.proofs.AskLemmas.{asked_once, read_so, refused_so}
use Rattle.rw_in_memory.proofs.line.ask.Goals as goal

pub returns : goal.returns
returns g c = λ host body valid is.
    let new = c.in-Ok.ensures in
    let path = c.limits-limits.ensures.path in
    let limit = c.limits-limits.ensures.limit in
    let text = c.args.request.now in
    let few : length text < 2 ^ 63 = omega arith in
    let sound = subst (λ p. is_request_path p ≡ true) path c.conforms.ensures in
    let written = ap (λ (r : Reserved). Some r.bytes) new in
    let whole = ap (λ (r : Reserved). r.has_failed) new in
    let room : 86 ≤ c.in-Ok.writer.room = omega (arith, ap (λ (r : Reserved). r.room) new) in
    asked_once (λ a. a.seat) (λ a. a.status) g.L.HeadNaming.opening g.L.Endpoint.limit body (record c.args.asker.now { status = None }) c.serve.new.answer refl [] (Some c.serve.new.writer.bytes) c.serve.result
    (λ le. c.serve.ensures.alone text [] body refl written refl whole room (read_so host g.L.Endpoint.path body text g.L.Endpoint.limit valid sound is few _ _ path limit le))
    (λ lt. c.serve.ensures.refused text [] 413 refl written refl whole room (omega arith) (refused_so host g.L.Endpoint.path body text g.L.Endpoint.limit valid sound is few _ _ path limit lt))
