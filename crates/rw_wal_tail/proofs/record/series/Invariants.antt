use Rattle.std.proofs.Common.{length}
use Rattle.rw_wal_format.specs.Records.{definition_at}
use Rattle.rw_wal_tail.proofs.ItemLaws.{Left}
use Rattle.rw_wal_tail.proofs.record.series.Given as goal

-- the entries so far and those of the rest are the entries
abbrev pub invariant-loop-rest : goal.invariant-loop-rest
invariant-loop-rest l = Left definition_at l.bytes l.out.items l.rest

abbrev pub decreases-loop-rest : goal.decreases-loop-rest
decreases-loop-rest l = length l.rest
