use Rattle.rw_replay.proofs.ScriptLemmas.{script_writable}
use Rattle.rw_replay.proofs.run.run_replay.Goals as goal

pub state_after-requires : goal.state_after-requires
state_after-requires g c = script_writable c.in_ok-commands.ensures.ok.text _ c.in_ok-commands.ensures.ok.script
