use Rattle.std.proofs.Common.{length}
use Rattle.rw_wal_format.specs.Records.{definition_at}
use Rattle.rw_wal_tail.proofs.FormLaws.{LeftEntries}
use Rattle.rw_wal_tail.proofs.form.are_definitions.Given as goal

-- some entries and those of the rest are the entries
abbrev pub invariant-loop-rest : goal.invariant-loop-rest
invariant-loop-rest l = LeftEntries definition_at l.bytes l.rest

abbrev pub decreases-loop-rest : goal.decreases-loop-rest
decreases-loop-rest l = length l.rest
