use Rattle.std.proofs.Common.{length}
use Rattle.std.specs.Int.{cast_signed, w64}
use Rattle.rw_wal_format.specs.Records.{sample_at}
use Rattle.rw_wal_tail.proofs.FormLaws.{LeftEntries}
use Rattle.rw_wal_tail.proofs.form.are_samples.Given as goal

-- some entries and those of the rest are the entries
abbrev pub invariant-loop-rest : goal.invariant-loop-rest
invariant-loop-rest l = LeftEntries (sample_at l.base (cast_signed w64 l.start)) l.bytes l.rest

abbrev pub decreases-loop-rest : goal.decreases-loop-rest
decreases-loop-rest l = length l.rest
