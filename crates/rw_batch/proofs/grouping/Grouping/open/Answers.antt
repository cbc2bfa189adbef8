use Rattle.rw_batch.proofs.GroupsLemmas.{grown_by, grouped_by}
use Rattle.rw_batch.proofs.grouping.Grouping.open.Goals as goal

pub invariant_of-self-2 : goal.invariant_of-self-2
invariant_of-self-2 c =
    grouped_by c.args.number c.args.labels.now c.args.sample c.self.inside.numbers.keys c.insert.new.self.keys c.self.inside.series.items c.reserve.new.self.items c.push.new.self.items c.args.self.now
    c.in_ok-series.series c.self.view_is c.requires.unknown c.requires.fits c.in_ok-series.ensures c.reserve.ensures.items c.in_ok-push.ensures.items c.in_ok-insert.ensures.keys c.self.invariant

pub returns-clause-series : goal.returns-clause-series
returns-clause-series c =
    grown_by c.args.number c.args.labels.now c.args.sample c.self.inside.numbers.keys c.self.inside.series.items c.reserve.new.self.items c.push.new.self.items c.args.self.now c.in_ok-series.series
    c.self.view_is c.requires.unknown c.requires.fits c.in_ok-series.ensures c.reserve.ensures.items c.in_ok-push.ensures.items
