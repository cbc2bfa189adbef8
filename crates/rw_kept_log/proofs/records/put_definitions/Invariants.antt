use Rattle.std.proofs.Common.{map, take}
use Rattle.rw_kept_log.specs.Additions.{definition_entry}
use Rattle.rw_kept_log.specs.inner.Writing.{Holds}
use Rattle.rw_kept_log.proofs.records.put_definitions.Given as goal

abbrev pub invariant-loop-definition : goal.invariant-loop-definition
invariant-loop-definition l = Holds l.initial.writer l.writer (map definition_entry (take l.definition-index l.definitions))
