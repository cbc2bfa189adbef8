use Rattle.std.proofs.Common.{◌≡◌, ◌++◌, map, take}
use Rattle.rw_log_folder.specs.Order.{place_in}
use Rattle.rw_log_folder.proofs.order.push_places.Given as goal

abbrev pub invariant-loop-name : goal.invariant-loop-name
invariant-loop-name l = l.places.items ≡ l.fn.places.items ++ map (place_in l.checkpoint) (take l.name-index l.names)
