use Rattle.std.proofs.Common.{map}
use Rattle.rw_replay.specs.ScriptText.{order_of}
use Rattle.rw_world.specs.Machine.{setup_of}
use Rattle.rw_replay.proofs.PrintLemmas.{printed, also_if_ok}
use Rattle.rw_replay.proofs.run.state_after.Goals as goal

pub returns : goal.returns
returns c =
    also_if_ok c.state.result
    (λ text e. printed (setup_of c.args.settings.config c.args.settings.limits) (map order_of c.args.commands.items) c.in_ok-player.player c.play_all.new.self text.items c.in_ok-player.ensures c.in_ok-play_all.ensures e)
    c.state.ensures
