use Rattle.std.proofs.Common.{arith}
use Rattle.rw_tcp.proofs.HearingLemmas.{status_is_final}
use Rattle.rw_tcp.proofs.reply.hear_answer.Goals as goal

pub unreachable-requires : goal.unreachable-requires
unreachable-requires g c =
    let said = rw c.in-Status.is at c.in_ok-said.ensures.heard.says in
    let final = status_is_final c.in-Status.status 8192 _ said in
    c.in-Err.ensures (omega (arith, final.0), final.1)
