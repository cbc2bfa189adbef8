use Rattle.std.proofs.Common.{◌≡◌, ◌∷◌, map, length, ap, arith}
use Rattle.std.specs.Vec.Iter.{into_iter_items}
use Rattle.rw_replay.specs.ScriptText.{order_of}
use Rattle.rw_replay.proofs.PlayedLemmas.{playing_more}
use Rattle.rw_replay.proofs.player.Player.play_all.Goals as goal

pub loop-command-preserved : goal.loop-command-preserved
loop-command-preserved c =
    let at = c.loop-command in
    let steps : into_iter_items at.command-iterator ≡ c.in-Some.command ∷ into_iter_items c.next.new.self = c.in-Some.ensures.steps.0 in
    record {
      playing = playing_more c.args.self.now at.self c.play.new.self (map order_of c.args.commands.items) (into_iter_items at.command-iterator) (into_iter_items c.next.new.self) c.in-Some.command
          at.invariant.playing steps c.in_ok-play.ensures;
      counted = let was = at.invariant.counted in
          let gone = c.in-Some.ensures.steps.1 in
          let short = ap length steps in
          omega arith;
    }
