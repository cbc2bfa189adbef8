use Rattle.std.proofs.Common.{◌≡◌, Option, refl, sym, subst}
use Rattle.std.specs.Prelude.{is_some}
use Rattle.rw_fleet.specs.Fleets.{EndBy}
use Rattle.rw_fleet.specs.declared.running_shard.Fault.{Fault}
use Rattle.rw_sender.specs.Reports.{end_kind, workers_of}
use Rattle.rw_send.specs.declared.follow_fault.FollowFault.{FollowFault}
use Rattle.rw_send.specs.inner.Sending.{answer_for}
use Rattle.rw_send.proofs.AnswerLemmas.{abandons_so, failed, goes_on, well_answered}
use Rattle.rw_send.proofs.FeedErrorLemmas.{live_no_more}
use Rattle.rw_send.proofs.stopping.stop_shipper.Goals as goal

pub returns-in-None-clause-cut : goal.returns-in-None-clause-cut
returns-in-None-clause-cut g c = λ soft. c.stop_orderly-report.ensures.cut (goes_on c.args.shipper c.args.shipped c.requires.halted c.requires.live (sym c.in-None.ensures))

pub returns-in-None-clause-ended : goal.returns-in-None-clause-ended
returns-in-None-clause-ended g c =
    let stop = c.stop_orderly-report in
    subst (λ (o : Option FollowFault). EndBy (end_kind (is_some o)) c.args.shipper.fleet (workers_of stop.result)) c.in-None.ensures
    (subst (λ (o : Option Fault). EndBy (end_kind (is_some o)) c.args.shipper.fleet (workers_of stop.result)) (goes_on c.args.shipper c.args.shipped c.requires.halted c.requires.live (sym c.in-None.ensures)) stop.ensures.ended)

pub returns-in-None-clause-answer : goal.returns-in-None-clause-answer
returns-in-None-clause-answer g c =
    subst (λ (o : Option FollowFault). c.answer_to-answer.result ≡ answer_for o c.stop_orderly-report.result.outcome) c.in-None.ensures c.answer_to-answer.ensures

pub returns-in-None-clause-whole : goal.returns-in-None-clause-whole
returns-in-None-clause-whole g c =
    let stopped = c.stop_orderly-report.ensures.stopped in
    well_answered c.args.shipper stopped.joined c.args.shipped _ _ c.requires.halted (sym c.in-None.ensures) stopped.ends c.answer_to-answer.ensures

pub returns-in-None-clause-hard : goal.returns-in-None-clause-hard
returns-in-None-clause-hard g c = λ some. live_no_more _ some (sym c.in-None.ensures)

pub returns-in-Some-clause-ended : goal.returns-in-Some-clause-ended
returns-in-Some-clause-ended g c =
    subst (λ (o : Option FollowFault). EndBy (end_kind (is_some o)) c.args.shipper.fleet (workers_of c.stop_hard.result)) c.in-Some.ensures c.stop_hard.ensures.ended

pub returns-in-Some-clause-failed : goal.returns-in-Some-clause-failed
returns-in-Some-clause-failed g c = abandons_so _ _ c.stop_hard.ensures.hard

pub returns-in-Some-clause-answer : goal.returns-in-Some-clause-answer
returns-in-Some-clause-answer g c = subst (λ (o : Option FollowFault). failed c.in-Some.fault ≡ answer_for o c.stop_hard.result.outcome) c.in-Some.ensures refl
