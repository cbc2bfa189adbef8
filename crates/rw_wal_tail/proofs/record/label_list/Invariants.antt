use Rattle.std.proofs.Common.{◌≡◌, ◌≤◌, length, ◌-◌}
use Rattle.rw_wal_format.specs.Records.{label_list_at}
use Rattle.rw_wal_tail.proofs.ItemLaws.{with_labels}
use Rattle.rw_wal_tail.proofs.record.label_list.Given as goal

-- the labels so far and those of the rest are the labels
abbrev pub invariant-loop : goal.invariant-loop
invariant-loop l = record {
  left : label_list_at l.count l.bytes ≡ with_labels l.labels (label_list_at (l.count - l.counter) l.rest);
  shorter : length l.rest ≤ length l.bytes;
}
