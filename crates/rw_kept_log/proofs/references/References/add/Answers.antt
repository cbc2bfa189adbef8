use Rattle.rw_kept_log.proofs.PlaceLemmas.{added_of, added_points}
use Rattle.rw_kept_log.proofs.references.References.add.Goals as goal

pub returns-clause-of : goal.returns-clause-of
returns-clause-of c =
    added_of c.args.self.now c.reference.new.self c.args.labels.now c.in_ok-reference.reference c.args.samples.now.items c.args.new.now c.put_points.new.samples.items
    c.reference.ensures.grows c.in_ok-reference.ensures.is c.requires c.in_ok-put_points.ensures

pub returns-clause-points : goal.returns-clause-points
returns-clause-points c =
    added_points c.args.self.now c.reference.new.self c.args.labels.now c.in_ok-reference.reference c.args.samples.now.items c.args.new.now c.put_points.new.samples.items
    c.reference.ensures.grows c.in_ok-reference.ensures.is c.requires c.in_ok-put_points.ensures
