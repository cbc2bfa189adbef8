use Rattle.std.proofs.Common.{◌≡◌, ◌≤◌, ◌++◌, length, take}
use Rattle.std.specs.Vec.{vec_capacity}
use Rattle.std.specs.List.{AllByRecursion}
use Rattle.rw_write_request.specs.Canon.{canon}
use Rattle.rw_batch.specs.Grouping.{message}
use Rattle.rw_batch.specs.inner.Kept.{HasLabels}
use Rattle.rw_batch.proofs.body.put_all_series.Given as goal

abbrev pub invariant-loop-place : goal.invariant-loop-place
invariant-loop-place l = record {
  items : l.out.items ≡ l.fn.out.items ++ canon (take l.place (message l.rows.samples));
  labels : AllByRecursion HasLabels (take l.place (message l.rows.samples));
  capacity : vec_capacity l.fn.out ≤ vec_capacity l.out;
  row : length l.rows.samples ≤ vec_capacity l.row;
}
