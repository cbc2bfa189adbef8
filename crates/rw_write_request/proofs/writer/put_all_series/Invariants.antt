use Rattle.std.proofs.Common.{◌≡◌, ◌≤◌, ◌++◌, take}
use Rattle.std.specs.Vec.{vec_capacity}
use Rattle.std.specs.List.{AllByRecursion}
use Rattle.rw_write_request.specs.Valid.{IsSeries}
use Rattle.rw_write_request.specs.Canon.{canon}
use Rattle.rw_write_request.proofs.writer.put_all_series.Given as goal

abbrev pub invariant-loop-s : goal.invariant-loop-s
invariant-loop-s l = record {
  items : l.out.items ≡ l.fn.out.items ++ canon (take l.s-index l.list);
  valid : AllByRecursion IsSeries (take l.s-index l.list);
  capacity : vec_capacity l.fn.out ≤ vec_capacity l.out;
}
