use Rattle.std.proofs.Common.{◌≡◌, take}
use Rattle.rw_wal_tail.proofs.reader.copy_ready.Given as goal

abbrev pub invariant-loop-i : goal.invariant-loop-i
invariant-loop-i l = l.copy.items ≡ take l.i l.ready.items
