use Rattle.std.proofs.Common.{◌≡◌, map, drop}
use Rattle.std.specs.List.{list_any}
use Rattle.std.specs.Str.{bytes_eq}
use Rattle.rw_settings.specs.inner.Keys.{row_of}
use Rattle.rw_settings.proofs.table_faults.is_known.Given as goal

abbrev pub invariant-loop-name : goal.invariant-loop-name
invariant-loop-name l =
    list_any (λ row. bytes_eq l.key row.0) (map row_of l.known)
    ≡ list_any (λ row. bytes_eq l.key row.0) (map row_of (drop l.name-index l.known))
