use Rattle.std.proofs.Common.{◌≡◌, ◌≤◌, ap, length, map, arith}
use Rattle.rw_wal_format.specs.Pieces.{entries}
use Rattle.rw_wal_tail.specs.Fed.{Fed, told_of}
use Rattle.rw_wal_tail.proofs.FedLaws.{given_within}
use Rattle.rw_wal_tail.proofs.tail.Tail.entries_read.Goals as goal

pub returns-clause-within : goal.returns-clause-within
returns-clause-within c =
    let i = c.self.invariant in
    let w : length c.self.inside.given ≤ length (entries (map told_of c.self.inside.pieces)) = given_within _ c.self.inside.given c.self.inside.reader i.follows in
    let p : length (entries (map told_of c.self.inside.pieces)) ≡ length (entries c.args.self.now.pieces) = ap (λ (t : Fed). length (entries t.pieces)) c.self.view_is in
    omega (arith, w, p, i.counted)
