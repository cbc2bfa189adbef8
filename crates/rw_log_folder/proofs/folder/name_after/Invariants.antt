use Rattle.std.proofs.Common.{◌≡◌, length}
use Rattle.std.specs.List.{find}
use Rattle.std.specs.Vec.Iter.{into_iter_items, into_iter_len}
use Rattle.rw_log_folder.specs.GrowingFolders.{key_at}
use Rattle.rw_log_folder.specs.Reading.{is_after}
use Rattle.rw_log_folder.proofs.folder.name_after.Given as goal

abbrev pub invariant-loop-next : goal.invariant-loop-next
invariant-loop-next l =
    (find (is_after l.fn.first (key_at l.fn.current)) l.fn.names.items
    ≡ find (is_after l.fn.first (key_at l.fn.current)) (into_iter_items l.next-iterator))
    × (into_iter_len l.next-iterator ≡ length (into_iter_items l.next-iterator))
