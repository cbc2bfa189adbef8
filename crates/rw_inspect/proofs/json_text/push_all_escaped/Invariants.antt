use Rattle.std.proofs.Common.{◌≡◌, ◌++◌, take, flat_map}
use Rattle.rw_inspect.specs.JsonText.{json_escaped}
use Rattle.rw_inspect.proofs.json_text.push_all_escaped.Given as goal

abbrev pub invariant-loop-byte : goal.invariant-loop-byte
invariant-loop-byte l = l.out.items ≡ l.fn.out.items ++ flat_map json_escaped (take l.byte-index l.text)
