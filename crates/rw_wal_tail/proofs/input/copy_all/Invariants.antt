use Rattle.std.proofs.Common.{◌≡◌, map, take}
use Rattle.rw_wal_tail.specs.inner.Held.{waits_as}
use Rattle.rw_wal_tail.proofs.input.copy_all.Given as goal

abbrev pub invariant-loop-i : goal.invariant-loop-i
invariant-loop-i l = map waits_as l.copy.items ≡ take l.i (map waits_as l.segments.items)
