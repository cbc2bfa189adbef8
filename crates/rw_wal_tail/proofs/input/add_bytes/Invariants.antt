use Rattle.std.proofs.Common.{◌≡◌, ◌+◌, map, take}
use Rattle.rw_wal_tail.specs.inner.Held.{waits_as, later_bytes}
use Rattle.rw_wal_tail.proofs.input.add_bytes.Given as goal

abbrev pub invariant-loop-i : goal.invariant-loop-i
invariant-loop-i l = l.total ≡ l.count + later_bytes (take l.i (map waits_as l.segments.items))
