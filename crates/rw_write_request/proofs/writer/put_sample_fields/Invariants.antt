use Rattle.std.proofs.Common.{◌≡◌, ◌≤◌, ◌++◌, take}
use Rattle.std.specs.Vec.{vec_capacity}
use Rattle.std.specs.List.{AllByRecursion}
use Rattle.rw_write_request.specs.Valid.{IsValidSample}
use Rattle.rw_write_request.specs.Canon.{sample_fields}
use Rattle.rw_write_request.proofs.writer.put_sample_fields.Given as goal

abbrev pub invariant-loop-word : goal.invariant-loop-word
invariant-loop-word l = record {
  items : l.out.items ≡ l.fn.out.items ++ sample_fields (take l.word-index l.samples);
  words : AllByRecursion IsValidSample (take l.word-index l.samples);
  capacity : vec_capacity l.fn.out ≤ vec_capacity l.out;
}
