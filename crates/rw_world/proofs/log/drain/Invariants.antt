use Rattle.std.proofs.Common.{◌≡◌, take, length}
use Rattle.rw_wal_tail.specs.Taking.{HasTaken}
use Rattle.rw_world.proofs.log.drain.Given as goal

abbrev pub invariant-entries : goal.invariant-entries
invariant-entries l = HasTaken l.tail l.entries.items × (l.tail.pieces ≡ l.fn.tail.pieces) × (take (length l.fn.entries.items) l.entries.items ≡ l.fn.entries.items)
