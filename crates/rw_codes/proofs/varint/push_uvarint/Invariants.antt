use Rattle.std.proofs.Common.{◌≡◌}
use Rattle.std.specs.Vec.{vec_len, vec_capacity}
use Rattle.rw_codes.proofs.shared.Digits.{Left}
use Rattle.rw_codes.proofs.varint.push_uvarint.Given as goal

abbrev pub invariant-loop-rest : goal.invariant-loop-rest
invariant-loop-rest l = record {
  left : Left l.fn.out.items l.out.items (vec_len l.out) (vec_capacity l.fn.out) l.n l.rest;
  capacity : vec_capacity l.out ≡ vec_capacity l.fn.out;
}

abbrev pub decreases-loop-rest : goal.decreases-loop-rest
decreases-loop-rest l = l.rest
