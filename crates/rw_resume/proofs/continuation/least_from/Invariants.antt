use Rattle.std.proofs.Common.{take}
use Rattle.rw_resume.specs.Continuations.{IsLeastFrom}
use Rattle.rw_resume.proofs.continuation.least_from.Given as goal

abbrev pub invariant-loop-number : goal.invariant-loop-number
invariant-loop-number l = IsLeastFrom l.segment (take l.number-index l.numbers) l.least
