use Rattle.std.proofs.Common.{◌+◌, ◌-◌, ap, refl, ◌∙◌}
use Rattle.rw_kept_log.specs.References.{with_set}
use Rattle.rw_kept_log.proofs.TableLemmas.{grown_table, is_last, last_named, table_grown}
use Rattle.rw_kept_log.proofs.references.References.insert.Goals as goal

pub invariant_of-self-2 : goal.invariant_of-self-2
invariant_of-self-2 c =
    table_grown c.self.inside.sets.entries c.insert.new.self.entries c.self.inside.defined c.self.inside.next c.len.result (c.self.inside.next + (c.len.result - c.self.inside.defined)) c.args.labels.now c.in_ok-set.set
    c.args.self.now c.self.invariant c.self.view_is c.conforms.ensures c.requires.none c.in_ok-set.ensures c.in_ok-insert.ensures.entries c.len.ensures.len refl

pub returns-clause-is : goal.returns-clause-is
returns-clause-is c =
    let q = c.self.inside.next + (c.len.result - c.self.inside.defined) in
    last_named c.self.inside.sets.entries c.insert.new.self.entries c.self.inside.defined c.self.inside.next q c.args.labels.now
    (table_grown c.self.inside.sets.entries c.insert.new.self.entries c.self.inside.defined c.self.inside.next c.len.result q c.args.labels.now c.in_ok-set.set c.args.self.now c.self.invariant c.self.view_is
    c.conforms.ensures c.requires.none c.in_ok-set.ensures c.in_ok-insert.ensures.entries c.len.ensures.len refl)
    (is_last c.self.inside.sets.entries c.insert.new.self.entries c.self.inside.defined c.self.inside.next q c.args.labels.now c.in_ok-set.set c.args.self.now c.self.invariant c.self.view_is c.requires.none
    c.in_ok-set.ensures c.in_ok-insert.ensures.entries)

pub returns-clause-more : goal.returns-clause-more
returns-clause-more c =
    let q = c.self.inside.next + (c.len.result - c.self.inside.defined) in
    grown_table c.self.inside.sets.entries c.insert.new.self.entries c.self.inside.defined c.self.inside.next q c.args.labels.now c.self.invariant
    (is_last c.self.inside.sets.entries c.insert.new.self.entries c.self.inside.defined c.self.inside.next q c.args.labels.now c.in_ok-set.set c.args.self.now c.self.invariant c.self.view_is c.requires.none
    c.in_ok-set.ensures c.in_ok-insert.ensures.entries)
    ∙ ap (with_set c.args.labels.now) c.self.view_is
