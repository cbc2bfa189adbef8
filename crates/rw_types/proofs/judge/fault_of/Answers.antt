use Rattle.std.proofs.Common.{rules, sym}
use Rattle.rw_types.proofs.shared.JudgeLemmas.{pairs_fault-is}
use Rattle.rw_types.proofs.judge.fault_of.Goals as goal

pub returns-then-not-are_texts : goal.returns-then-not-are_texts
returns-then-not-are_texts g c = rw (sym (pairs_fault-is c.args.names g.L.LabelBytes.shown c.args.labels.now)) (search rules)

pub returns-then-not-have_names : goal.returns-then-not-have_names
returns-then-not-have_names g c = rw (sym (pairs_fault-is c.args.names g.L.LabelBytes.shown c.args.labels.now)) (search rules)

pub returns-then-not-are_well_named : goal.returns-then-not-are_well_named
returns-then-not-are_well_named g c = rw (sym (pairs_fault-is c.args.names g.L.LabelBytes.shown c.args.labels.now)) (search rules)

pub returns-then-not-have_values : goal.returns-then-not-have_values
returns-then-not-have_values g c = rw (sym (pairs_fault-is c.args.names g.L.LabelBytes.shown c.args.labels.now)) (search rules)

pub returns-then-not-are_sorted : goal.returns-then-not-are_sorted
returns-then-not-are_sorted g c = rw (sym (pairs_fault-is c.args.names g.L.LabelBytes.shown c.args.labels.now)) (search rules)

pub returns-then-labels-gt-MAX_LABELS : goal.returns-then-labels-gt-MAX_LABELS
returns-then-labels-gt-MAX_LABELS g c = rw (sym (pairs_fault-is c.args.names g.L.LabelBytes.shown c.args.labels.now)) (search rules)

pub returns-then-are_longer_than : goal.returns-then-are_longer_than
returns-then-are_longer_than g c = rw (sym (pairs_fault-is c.args.names g.L.LabelBytes.shown c.args.labels.now)) (search rules)

pub returns : goal.returns
returns g c = rw (sym (pairs_fault-is c.args.names g.L.LabelBytes.shown c.args.labels.now)) (search rules)
