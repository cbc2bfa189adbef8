use Rattle.std.proofs.Common.{◌≤◌, refl, sym, ap, ◌∙◌, subst, length, map}
use Rattle.rw_worker.specs.Report.{is_hard}
use Rattle.rw_fleet.specs.Fleets.{EndBy}
use Rattle.rw_fleet.specs.Work.{finished_of}
use Rattle.rw_sender.specs.Reports.{end_kind}
use Rattle.rw_sender.specs.Shipping.{Shipping}
use Rattle.rw_sender.proofs.shared.ShippingLemmas.{places_whole, stopped_seen, read_of, ends_so, is_abandoned, lists_cut, begins_less}
use Rattle.rw_sender.proofs.shipper.Shipper.stop.Goals as goal

pub returns-clause-stopped : goal.returns-clause-stopped
returns-clause-stopped g c =
    let view = c.self.view_is in
    let l = c.finish_listed-ended.ensures in
    let o = c.outcome_of-outcome.ensures in
    stopped_seen g.C.T.Transport.tells g.C.T.Transport.seen g.C.T.Transport.is_for _ _ _ view (record {
      joined = c.finish_listed-ended.result.0.items;
      own = c.finish-dropped.result.0;
      workers = refl;
      parts = refl;
      samples = places_whole c.self.inside.feeder c.self.inside.fleet c.finish_listed-ended.result.0.items c.self.invariant.0 l.all;
      worked = l.worked;
      setup = l.setup;
      all = l.all;
      names = c.finish-dropped.ensures.names;
      filter_count = c.finish-dropped.ensures.filtered;
      read = begins_less c.self.inside.feeder.placed c.self.inside.feeder.hand _ c.finish-dropped.ensures.begins;
      ends = ends_so (record { log = c.self.inside.feeder; fleet = c.self.inside.fleet; fault = c.self.inside.fault; limit = c.self.inside.cuts.limit }) c.finish_listed-ended.result.0.items c.args.is_hard c.finish_listed-ended.result.2 c.args.placed c.self.inside.damage _ _ (c.requires.placed ∙ ap (λ (s : Shipping _). length s.log.placed) (sym view)) l.samples l.resolved
          (λ soft. read_of c.self.inside.feeder c.self.inside.fault c.self.inside.damage c.self.invariant.2 (ap (λ (s : Shipping _). s.fault) view ∙ c.requires.ready soft)) o.hard o.apart o.whole;
    })

pub returns-clause-hard : goal.returns-clause-hard
returns-clause-hard g c = λ hard. is_abandoned c.args.placed _ _ (c.outcome_of-outcome.ensures.hard hard)

pub returns-clause-cut : goal.returns-clause-cut
returns-clause-cut g c = λ soft left.
    let l = c.finish_listed-ended.ensures in
    lists_cut c.finish_listed-ended.result.0.items _ c.finish_listed-ended.result.2 c.args.placed c.self.inside.damage _ refl (l.cut (ap is_hard (c.kind_of-kind.ensures ∙ ap end_kind soft))) (c.outcome_of-outcome.ensures.whole soft) left

pub returns-clause-ended : goal.returns-clause-ended
returns-clause-ended g c =
    let workers = map finished_of c.finish_listed-ended.result.0.items in
    subst (λ k. EndBy k c.args.self.fleet workers) c.kind_of-kind.ensures (subst (λ (s : Shipping _). EndBy c.kind_of-kind.result s.fleet workers) c.self.view_is c.finish_listed-ended.ensures.by)

pub returns-clause-folded : goal.returns-clause-folded
returns-clause-folded g c = subst (λ (s : Shipping _). c.finish_listed-ended.result.0.folded ≤ length s.fleet.ended) c.self.view_is c.finish_listed-ended.ensures.folded
