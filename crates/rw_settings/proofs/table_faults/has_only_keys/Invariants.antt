use Rattle.std.proofs.Common.{◌≡◌, map}
use Rattle.toml.specs.View.{table_view}
use Rattle.rw_settings.specs.Keys.{has_only}
use Rattle.rw_settings.specs.inner.Keys.{row_of}
use Rattle.rw_settings.proofs.KeyLemmas.{all_known}
use Rattle.rw_settings.proofs.table_faults.has_only_keys.Given as goal

abbrev pub invariant-loop-key : goal.invariant-loop-key
invariant-loop-key l =
    (goal.iterator-loop-key).can_next l.key-iterator
    × (goal.iterator-loop-key).is_finite l.key-iterator
    × (has_only (map row_of l.known) (table_view l.table) ≡ all_known (map row_of l.known) l.key-iterator)
