use Rattle.std.proofs.Common.{arith}
use Rattle.rw_shard_core.proofs.ReplyLemmas.{some_bytes, passed_over}
use Rattle.rw_shard_core.proofs.replies.read_reply.Goals as goal

pub loop-len-init : goal.loop-len-init
loop-len-init c = λ read r. r

pub loop-len-smaller : goal.loop-len-smaller
loop-len-smaller c =
    let found = c.in-Informational.ensures in
    omega (arith, some_bytes found.0, found.1.short, found.3)

pub loop-len-preserved : goal.loop-len-preserved
loop-len-preserved c = λ read r.
    let found = c.in-Informational.ensures in
    c.loop-len.invariant read
    (passed_over c.loop-len.room c.loop-len.rest.now found.0 _ found.1 found.2 read (rw (← found.3, ← c.without-rest.ensures) r))

pub returns-in-Decided : goal.returns-in-Decided
returns-in-Decided c = c.loop-len.invariant _ c.in-Decided.ensures
