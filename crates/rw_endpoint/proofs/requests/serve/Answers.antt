use Rattle.std.proofs.Common.{◌≡◌, ℕ, List, sym, subst}
use Rattle.rw_endpoint.specs.Serving.{HasWritten, IsTooSmall, IsStoppedAtBody}
use Rattle.rw_endpoint.specs.Coding.{intake_of}
use Rattle.rw_endpoint.specs.declared.intake.Intake.{Intake}
use Rattle.rw_endpoint.specs.Alone.{IsOneRequest, IsOneRefusal}
use Rattle.rw_endpoint.proofs.AloneLemmas.{served_alone}
use Rattle.rw_endpoint.proofs.RefusedLemmas.{turned_away}
use Rattle.rw_endpoint.proofs.requests.serve.Goals as goal

pub returns-clause-served : goal.returns-clause-served
returns-clause-served g c = λ input before e w.
    let path : c.as_bytes-path.result.now ≡ c.args.limits.now.path = cc in
    let intake : c.intake_of.result ≡ intake_of c.args.limits.now = c.intake_of.ensures in
    let h = c.serve_all.ensures.served input before e w in
    subst (λ (p : List ℕ). HasWritten p (intake_of c.args.limits.now) g.A.Answer.answers input c.args.answer.now before (g.W.Sink.contents c.serve_all.new.writer) c.serve_all.new.answer c.serve_all.result) path
    (subst (λ (n : Intake). HasWritten c.as_bytes-path.result.now n g.A.Answer.answers input c.args.answer.now before (g.W.Sink.contents c.serve_all.new.writer) c.serve_all.new.answer c.serve_all.result) intake h)

pub returns-clause-fits : goal.returns-clause-fits
returns-clause-fits g c = λ input before e w sure sound is.
    let path : c.as_bytes-path.result.now ≡ c.args.limits.now.path = cc in
    let intake : c.intake_of.result ≡ intake_of c.args.limits.now = c.intake_of.ensures in
    let h = c.serve_all.ensures.fits input before e w sure sound is in
    subst (λ (p : List ℕ). IsTooSmall p (intake_of c.args.limits.now) g.A.Answer.answers input c.args.answer.now (g.W.Sink.room c.args.writer.now)) path
    (subst (λ (n : Intake). IsTooSmall c.as_bytes-path.result.now n g.A.Answer.answers input c.args.answer.now (g.W.Sink.room c.args.writer.now)) intake h)

pub returns-clause-alone : goal.returns-clause-alone
returns-clause-alone g c = λ input before held e w sure sound fits one.
    let path : c.as_bytes-path.result.now ≡ c.args.limits.now.path = cc in
    let intake : c.intake_of.result ≡ intake_of c.args.limits.now = c.intake_of.ensures in
    let same = subst (λ (p : List ℕ). IsOneRequest p c.intake_of.result input held) (sym path)
    (subst (λ (n : Intake). IsOneRequest c.args.limits.now.path n input held) (sym intake) one) in
    served_alone c.as_bytes-path.result.now c.intake_of.result g.A.Answer.answers input held c.args.answer.now before (g.W.Sink.contents c.serve_all.new.writer) c.serve_all.new.answer c.serve_all.result (g.W.Sink.room c.args.writer.now)
    same (c.serve_all.ensures.served input before e w) fits (λ is. c.serve_all.ensures.fits input before e w sure sound is)

pub returns-clause-refused : goal.returns-clause-refused
returns-clause-refused g c = λ input before status e w sure sound fits short one.
    let path : c.as_bytes-path.result.now ≡ c.args.limits.now.path = cc in
    let intake : c.intake_of.result ≡ intake_of c.args.limits.now = c.intake_of.ensures in
    let same = subst (λ (p : List ℕ). IsOneRefusal p c.intake_of.result input status) (sym path)
    (subst (λ (n : Intake). IsOneRefusal c.args.limits.now.path n input status) (sym intake) one) in
    turned_away c.as_bytes-path.result.now c.intake_of.result g.A.Answer.answers input status c.args.answer.now before (g.W.Sink.contents c.serve_all.new.writer) c.serve_all.new.answer c.serve_all.result (g.W.Sink.room c.args.writer.now)
    same (c.serve_all.ensures.served input before e w) fits (λ is. c.serve_all.ensures.fits input before e w sure sound is)
    (λ is. c.serve_all.ensures.certain input before e w short is)

pub returns-clause-certain : goal.returns-clause-certain
returns-clause-certain g c = λ input before e w short is.
    let path : c.as_bytes-path.result.now ≡ c.args.limits.now.path = cc in
    let intake : c.intake_of.result ≡ intake_of c.args.limits.now = c.intake_of.ensures in
    let h = c.serve_all.ensures.certain input before e w short is in
    subst (λ (p : List ℕ). IsStoppedAtBody p (intake_of c.args.limits.now) g.A.Answer.answers input c.args.answer.now before (g.W.Sink.contents c.serve_all.new.writer) c.serve_all.new.answer) path
    (subst (λ (n : Intake). IsStoppedAtBody c.as_bytes-path.result.now n g.A.Answer.answers input c.args.answer.now before (g.W.Sink.contents c.serve_all.new.writer) c.serve_all.new.answer) intake h)
