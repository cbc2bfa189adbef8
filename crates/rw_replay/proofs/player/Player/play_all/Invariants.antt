use Rattle.std.proofs.Common.{◌≡◌, length, map}
use Rattle.std.specs.Vec.Iter.{into_iter_items, into_iter_len}
use Rattle.rw_replay.specs.ScriptText.{order_of}
use Rattle.rw_replay.proofs.PlayedLemmas.{Playing}
use Rattle.rw_replay.proofs.player.Player.play_all.Given as goal

abbrev pub invariant-loop-command : goal.invariant-loop-command
invariant-loop-command l = record {
  playing : Playing l.fn.self (map order_of l.fn.commands.items) (map order_of (into_iter_items l.command-iterator)) l.self;
  counted : into_iter_len l.command-iterator ≡ length (into_iter_items l.command-iterator);
}
