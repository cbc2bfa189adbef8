use Rattle.rw_machine.specs.Worlds.{start}
use Rattle.rw_machine.specs.Steps.{run}
use Rattle.rw_world.proofs.ArriveLemmas.{answers_one}
use Rattle.rw_world.proofs.laws.requests_are_answered_as_bytes.Goals as goal

pub returns : goal.returns
returns c s es host path k r at again few =
    answers_one s (run s es (start s)) k r host path c.requests_are_read.ensures.read c.requests_are_read.ensures.refused (c.requests_carry_their_batches.ensures.bytes s es k r at) again at few
