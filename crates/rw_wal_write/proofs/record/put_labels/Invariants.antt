use Rattle.std.proofs.Common.{◌≡◌, ◌++◌, flat_map, map, take}
use Rattle.rw_types.specs.Labels.{bytes_label}
use Rattle.rw_wal_format.specs.Laws.{AreTexts}
use Rattle.rw_wal_format.specs.Records.{label_bytes}
use Rattle.rw_wal_write.proofs.record.put_labels.Given as goal

abbrev pub invariant-loop-label : goal.invariant-loop-label
invariant-loop-label l = record {
  bytes : l.out.items ≡ l.fn.out.items ++ flat_map label_bytes (map bytes_label (take l.label-index l.labels));
  texts : AreTexts (map bytes_label (take l.label-index l.labels));
}
