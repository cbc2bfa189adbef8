use Rattle.std.proofs.Common.{map}
use Rattle.rw_replay.specs.ScriptText.{order_of}
use Rattle.rw_replay.proofs.ScriptTextLemmas.{begun_added, begun_empty}
use Rattle.rw_replay.proofs.script.read_script.Goals as goal

pub loop-rest-preserved-in_ok-add-in-Ok-Some : goal.loop-rest-preserved-in_ok-add-in-Ok-Some
loop-rest-preserved-in_ok-add-in-Ok-Some c =
    begun_added c.args.text.now c.loop-rest.rest.now c.first_line.result.0.now c.first_line.result.1.now c.loop-rest.number c.loop-rest.commands.items c.add.new.commands.items c.loop-rest.ways c.with-ways.result c.in-Ok-Some.command
    c.loop-rest.invariant c.first_line.ensures.parts c.first_line.ensures.shorter (rw c.in-Ok-Some.field-0-is at c.in-Ok-Some.ensures.ok) c.with-ways.ensures c.in_ok-add-in-Ok-Some.ensures

pub loop-rest-preserved : goal.loop-rest-preserved
loop-rest-preserved c =
    begun_empty c.args.text.now c.loop-rest.rest.now c.first_line.result.0.now c.first_line.result.1.now c.loop-rest.number (map order_of c.loop-rest.commands.items) c.loop-rest.ways
    c.loop-rest.invariant c.first_line.ensures.parts c.first_line.ensures.shorter (rw c.in-Ok-None.field-0-is at c.in-Ok-None.ensures.ok)
