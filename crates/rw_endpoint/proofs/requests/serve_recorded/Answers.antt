use Rattle.std.proofs.Common.{◌≡◌, ℕ, List, refl, subst}
use Rattle.rw_endpoint.specs.Serving.{HasWritten}
use Rattle.rw_endpoint.specs.Coding.{intake_of}
use Rattle.rw_endpoint.specs.declared.intake.Intake.{Intake}
use Rattle.rw_endpoint.proofs.KnownLemmas.{some_is}
use Rattle.rw_endpoint.proofs.requests.serve_recorded.Goals as goal

pub returns-clause-recorded : goal.returns-clause-recorded
returns-clause-recorded g c = λ before w.
    let path : c.as_bytes-path.result.now ≡ c.args.limits.now.path = cc in
    let intake : c.intake_of.result ≡ intake_of c.args.limits.now = c.intake_of.ensures in
    let h = c.serve_all.ensures.recorded before w c.args.reader.now.past refl in (
      h.0,
      some_is _ _ h.1,
      subst (λ (p : List ℕ). HasWritten p (intake_of c.args.limits.now) g.A.Answer.answers h.0 c.args.answer.now before (g.W.Sink.contents c.serve_all.new.writer) c.serve_all.new.answer c.serve_all.result) path
          (subst (λ (n : Intake). HasWritten c.as_bytes-path.result.now n g.A.Answer.answers h.0 c.args.answer.now before (g.W.Sink.contents c.serve_all.new.writer) c.serve_all.new.answer c.serve_all.result) intake h.2),
    )
