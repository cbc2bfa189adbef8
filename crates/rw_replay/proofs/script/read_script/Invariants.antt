use Rattle.std.proofs.Common.{length, map}
use Rattle.rw_replay.specs.ScriptText.{order_of}
use Rattle.rw_replay.proofs.ScriptTextLemmas.{Begun}
use Rattle.rw_replay.proofs.script.read_script.Given as goal

abbrev pub invariant-loop-rest : goal.invariant-loop-rest
invariant-loop-rest l = Begun l.text l.rest l.number (map order_of l.commands.items) l.ways

abbrev pub decreases-loop-rest : goal.decreases-loop-rest
decreases-loop-rest l = length l.rest
