use Rattle.std.proofs.Common.{◌≡◌, drop, fold, None}
use Rattle.rw_settings.specs.Faults.{lesser}
use Rattle.rw_settings.proofs.fault.least.Given as goal

abbrev pub invariant-loop-fault : goal.invariant-loop-fault
invariant-loop-fault l = fold lesser l.worst (drop l.fault-index l.faults) ≡ fold lesser None l.faults
