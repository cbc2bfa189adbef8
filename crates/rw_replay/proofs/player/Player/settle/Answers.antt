use Rattle.rw_replay.proofs.PlayedLemmas.{settled}
use Rattle.rw_replay.specs.Played.{Played}
use Rattle.rw_shard_core.specs.Endings.{ending_of}
use Rattle.rw_replay.proofs.player.Player.settle.Goals as goal

pub returns : goal.returns
returns c =
    let before : Played = record { machine = c.self.inside.world; offset = c.self.inside.offset } in
    let ended = c.in_ok-_outcome.ensures in
    rw (← c.self.view_is) (settled before c.settle.new.self (ending_of c.in_ok-_outcome._outcome) ended.rounds.rounds ended.rounds.settled ended.report)
