use Rattle.std.proofs.Common.{◌≡◌, drop, fold, map}
use Rattle.toml.specs.View.{table_view}
use Rattle.rw_settings.specs.Faults.{lesser}
use Rattle.rw_settings.specs.Keys.{keys_fault, key_fault}
use Rattle.rw_settings.specs.inner.Keys.{row_of}
use Rattle.rw_settings.proofs.table_faults.table_fault.Given as goal

abbrev pub invariant-loop-key : goal.invariant-loop-key
invariant-loop-key l =
    fold lesser l.worst (map (key_fault (table_view l.table)) (map row_of (drop l.key-index l.keys)))
    ≡ fold lesser (keys_fault (map row_of l.keys) (table_view l.table)) (map (key_fault (table_view l.table)) (map row_of l.keys))
