use Rattle.std.proofs.Common.{◌≡◌, ◌++◌, take}
use Rattle.rw_kept_log.specs.Retiring.{texts_of}
use Rattle.rw_kept_log.proofs.memory.put_copies.Given as goal

abbrev pub invariant-loop-text : goal.invariant-loop-text
invariant-loop-text l = texts_of l.copies.items ≡ texts_of l.initial.copies.items ++ texts_of (take l.text-index l.texts)
