use Rattle.std.proofs.Common.{ap, ◌∙◌, subst}
use Rattle.std.specs.Prelude.{is_some}
use Rattle.rw_fleet.specs.Fleets.{EndBy}
use Rattle.rw_sender.specs.Reports.{end_kind, workers_of}
use Rattle.rw_sender.specs.Shipping.{Shipping}
use Rattle.rw_sender.proofs.shared.ShippingLemmas.{if_some}
use Rattle.rw_sender.proofs.shipper.Shipper.stop_orderly.Goals as goal

pub returns-clause-failed : goal.returns-clause-failed
returns-clause-failed g c = if_some c.args.self.fault _ (λ some. c.stop.ensures.hard (c.is_some-is_hard.ensures ∙ ap (λ (s : Shipping _). is_some s.fault) c.self.view_is ∙ some))

pub returns-clause-cut : goal.returns-clause-cut
returns-clause-cut g c = λ fine. c.stop.ensures.cut (c.is_some-is_hard.ensures ∙ ap (λ (s : Shipping _). is_some s.fault) c.self.view_is ∙ ap is_some fine)

pub returns-clause-ended : goal.returns-clause-ended
returns-clause-ended g c =
    subst (λ hard. EndBy (end_kind hard) c.args.self.fleet (workers_of c.stop.result)) (c.is_some-is_hard.ensures ∙ ap (λ (s : Shipping _). is_some s.fault) c.self.view_is) c.stop.ensures.ended
