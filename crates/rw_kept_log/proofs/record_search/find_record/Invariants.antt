use Rattle.std.proofs.Common.{ℕ, ◌<◌}
use Rattle.rw_kept_log.specs.Records.{IsRecordAt}
use Rattle.rw_kept_log.proofs.record_search.find_record.Given as goal

abbrev pub invariant-loop-at : goal.invariant-loop-at
invariant-loop-at l = (o : ℕ) → l.offset < o → o < l.at → IsRecordAt l.text o → ⊥
