use Rattle.std.proofs.Common.{◌≡◌}
use Rattle.test_sender.proofs.channels.drained.Given as goal

abbrev pub invariant-loop : goal.invariant-loop
invariant-loop g l = l.drain.queue ≡ l.fn.drain.queue
