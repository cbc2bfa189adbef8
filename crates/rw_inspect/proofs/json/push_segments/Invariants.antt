use Rattle.std.proofs.Common.{◌≡◌, ◌++◌, take, flat_map}
use Rattle.rw_inspect.specs.Json.{line_json}
use Rattle.rw_inspect.proofs.json.push_segments.Given as goal

abbrev pub invariant-loop-segment : goal.invariant-loop-segment
invariant-loop-segment l = l.out.items ≡ l.fn.out.items ++ flat_map line_json (take l.segment-index l.segments)
