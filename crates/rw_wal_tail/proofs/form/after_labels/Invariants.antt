use Rattle.std.proofs.Common.{◌≤◌, length}
use Rattle.rw_wal_tail.proofs.FormLaws.{LeftLabels}
use Rattle.rw_wal_tail.proofs.form.after_labels.Given as goal

-- some labels and those of the rest are the labels
abbrev pub invariant-loop : goal.invariant-loop
invariant-loop l = record {
  left : LeftLabels l.count l.counter l.bytes l.rest;
  shorter : length l.rest ≤ length l.bytes;
}
