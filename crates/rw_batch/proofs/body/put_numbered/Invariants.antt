use Rattle.std.proofs.Common.{◌≡◌, ◌≤◌, ◌++◌, take}
use Rattle.std.specs.Vec.{vec_capacity}
use Rattle.std.specs.List.{flat_map}
use Rattle.rw_batch.specs.inner.Kept.{field_at}
use Rattle.rw_batch.proofs.body.put_numbered.Given as goal

abbrev pub invariant-loop-number : goal.invariant-loop-number
invariant-loop-number l = record {
  items : l.out.items ≡ l.fn.out.items ++ flat_map (field_at l.fields.samples) (take l.number-index l.numbers);
  capacity : vec_capacity l.fn.out ≤ vec_capacity l.out;
}
