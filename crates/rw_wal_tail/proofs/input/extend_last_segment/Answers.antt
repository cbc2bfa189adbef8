use Rattle.std.proofs.Common.{◌≡◌, ◌-◌, List, ℕ, length, ap, arith}
use Rattle.std.proofs.lemmas.Result.{on_ok_weaker, on_err_weaker}
use Rattle.rw_wal_tail.specs.inner.Held.{waits_as}
use Rattle.rw_wal_tail.proofs.HeldLaws.{extended_ok, extended_err, last_extended, last_same}
use Rattle.rw_wal_tail.proofs.input.extend_last_segment.Goals as goal

pub returns-clause-ok : goal.returns-clause-ok
returns-clause-ok c =
    let n : c.len-last.result - 1 ≡ length c.args.later.now.items - 1 = omega (arith, c.len-last.ensures) in
    on_ok_weaker c.extend_from_slice.result
    (λ e. last_extended waits_as c.args.piece.now c.args.later.now.items (c.len-last.result - 1) c.index_mut.result.now _ n c.requires c.index_mut.ensures.value (ap (λ (l : List ℕ). (c.index_mut.result.now.number, l)) e))
    (extended_ok c.extend_from_slice.result c.index_mut.result.now.bytes.items c.extend_from_slice.new.self.items c.args.piece.now c.extend_from_slice.ensures.items)

pub returns-clause-err : goal.returns-clause-err
returns-clause-err c =
    on_err_weaker c.extend_from_slice.result
    (λ e. last_same waits_as c.args.later.now.items (c.len-last.result - 1) c.index_mut.result.now _ c.index_mut.ensures.value (ap (λ (l : List ℕ). (c.index_mut.result.now.number, l)) e))
    (extended_err c.extend_from_slice.result c.index_mut.result.now.bytes.items c.extend_from_slice.new.self.items c.args.piece.now c.extend_from_slice.ensures.items)
