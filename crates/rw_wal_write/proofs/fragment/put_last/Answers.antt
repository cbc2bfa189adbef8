use Rattle.std.proofs.Common.{◌-◌, length, arith, length-append}
use Rattle.rw_wal_format.specs.Writing.{frame, padding}
use Rattle.rw_wal_format.specs.Types.{kind_of}
use Rattle.rw_wal_write.proofs.Taking.{takes_part_after, takes_failure}
use Rattle.rw_wal_write.proofs.fragment.put_last.Goals as goal
use Rattle.rw_wal_format.proofs.shared.Written.{length-frame}

pub returns-in_err-zeros-clause-bytes : goal.returns-in_err-zeros-clause-bytes
returns-in_err-zeros-clause-bytes g c =
    takes_failure _ _ _ _ _ _ _ c.from_residual-in_err-zeros.ensures.0 (takes_part_after _ _ _ _ _ _ _ _ c.in_ok-put_fragment.ensures c.in_err-zeros.ensures.bytes)

pub returns-clause-len : goal.returns-clause-len
returns-clause-len g c =
    let front = frame (kind_of c.args.kind) c.args.part.now in
    let zeros = padding (c.args.room - length c.args.part.now) in
    omega (arith, length-append front zeros, length-frame (kind_of c.args.kind) c.args.part.now, c.in_ok-zeros.ensures.len)
