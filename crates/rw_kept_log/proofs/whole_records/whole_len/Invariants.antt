use Rattle.std.proofs.Common.{◌≡◌, ◌-◌, ◌≤◌, length}
use Rattle.rw_wal_format.specs.Pieces.{page_size}
use Rattle.rw_wal_tail.specs.Places.{stop_offset}
use Rattle.rw_kept_log.proofs.WalkLemmas.{IsWalked}
use Rattle.rw_kept_log.proofs.whole_records.whole_len.Given as goal

abbrev pub invariant-loop-at : goal.invariant-loop-at
invariant-loop-at l = record {
  at : l.at ≤ length l.text;
  whole : l.whole ≤ length l.text;
  walked : l.stop ≡ stop_offset page_size l.text → IsWalked page_size l.text l.at l.whole;
}

abbrev pub decreases-loop-at : goal.decreases-loop-at
decreases-loop-at l = length l.text - l.at
