use Rattle.std.proofs.Common.{◌≡◌, drop}
use Rattle.rw_relabel.specs.Rules.{keeps}
use Rattle.rw_relabel.proofs.rules.Rules.keeps.Given as goal

abbrev pub invariant-loop-rule : goal.invariant-loop-rule
invariant-loop-rule l = keeps l.self l.labels ≡ keeps (drop l.rule-index l.rule-items) l.labels
