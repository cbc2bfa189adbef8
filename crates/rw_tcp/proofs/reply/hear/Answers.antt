use Rattle.std.proofs.Common.{◌<◌, length, arith}
use Rattle.rw_tcp.proofs.HearingLemmas.{partial_is_short}
use Rattle.rw_tcp.proofs.reply.hear.Goals as goal

pub loop-reader-smaller : goal.loop-reader-smaller
loop-reader-smaller g c =
    let short : length c.loop-reader.text.items < 8192 = partial_is_short 8192 _ (rw c.as_slice.ensures.value at c.in-Partial.ensures) in
    omega (arith, short, c.in_ok-count-in-Partial.ensures.len, c.if-count-eq0.false)
