use Rattle.std.proofs.Common.{◌≤◌, ◌+◌, List, length}
use Rattle.rw_write_request.specs.Fields.{Field}
use Rattle.rw_write_request.specs.Spells.{AreFieldsOf}
use Rattle.rw_write_request.proofs.Counts.{Left}
use Rattle.rw_write_request.proofs.reader.field_counts.Given as goal

abbrev pub invariant-loop-part : goal.invariant-loop-part
invariant-loop-part l = record {
  bound : l.ones + l.twos + length l.rest ≤ length l.bytes;
  left : (fields : List Field) → AreFieldsOf l.kind l.bytes fields → Left l.kind l.rest l.ones l.twos fields;
}

abbrev pub decreases-loop-part : goal.decreases-loop-part
decreases-loop-part l = length l.rest
