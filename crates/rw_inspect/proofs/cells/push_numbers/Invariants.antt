use Rattle.std.proofs.Common.{◌≡◌, ◌++◌, take, flat_map}
use Rattle.rw_inspect.specs.Cells.{number_text}
use Rattle.rw_inspect.proofs.cells.push_numbers.Given as goal

abbrev pub invariant-loop-n : goal.invariant-loop-n
invariant-loop-n l = l.out.items ≡ l.fn.out.items ++ flat_map (number_text l.before) (take l.n-index l.numbers)
