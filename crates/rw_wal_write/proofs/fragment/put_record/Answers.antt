use Rattle.std.proofs.Common.{arith}
use Rattle.rw_wal_write.proofs.Taking.{takes_failure, all_at_ok, part_at_err}
use Rattle.rw_wal_write.proofs.Underway.{underway_start, underway_step, underway_fails, underway_ends}
use Rattle.rw_wal_write.proofs.fragment.put_record.Goals as goal

pub loop-rest-init : goal.loop-rest-init
loop-rest-init g c = underway_start _ _ _ _ _ _ c.requires.some c.requires.place

pub returns-in_err-put_fragment-clause-bytes : goal.returns-in_err-put_fragment-clause-bytes
returns-in_err-put_fragment-clause-bytes g c =
    takes_failure _ _ _ _ _ _ _ c.from_residual-in_err-put_fragment.ensures.0
    (underway_fails _ _ _ _ _ _ _ _ _ _ _ _ _ _ c.loop-rest.invariant c.room_in_page-room.ensures (omega arith) c.split_at.ensures.front c.of-in-loop-rest.ensures c.in_err-put_fragment.ensures)

pub loop-rest-preserved : goal.loop-rest-preserved
loop-rest-preserved g c =
    underway_step _ _ _ _ _ _ _ _ _ _ _ _ _ _ _ c.loop-rest.invariant c.room_in_page-room.ensures (omega arith) c.split_at.ensures.front c.split_at.ensures.back
    c.of-in-loop-rest.ensures c.in_ok-put_fragment.ensures

pub returns-in_err-len-clause-bytes : goal.returns-in_err-len-clause-bytes
returns-in_err-len-clause-bytes g c =
    takes_failure _ _ _ _ _ _ _ c.from_residual.ensures.0
    (part_at_err _ _ _ _ _ _ _ _ c.in_err-len.was (underway_ends _ _ _ _ _ _ _ _ _ _ _ _ _ _ c.loop-rest.invariant c.room_in_page-room.ensures (omega arith) c.of.ensures c.put_last.ensures.bytes))

pub returns-then-rest-room-clause-bytes : goal.returns-then-rest-room-clause-bytes
returns-then-rest-room-clause-bytes g c =
    all_at_ok _ _ _ _ _ _ _ _ c.in_ok-len.was (underway_ends _ _ _ _ _ _ _ _ _ _ _ _ _ _ c.loop-rest.invariant c.room_in_page-room.ensures (omega arith) c.of.ensures c.put_last.ensures.bytes)
