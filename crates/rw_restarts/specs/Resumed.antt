-- A sender that goes on at a position of its log: it is given the definitions before the position,
-- and then what comes after it.
use Rattle.std.specs.Prelude.{◌≡◌, ℤ, false, List, []}
use Rattle.std.specs.List.{AllByRecursion}
use Rattle.rw_types.specs.Labels.{Labels}
use Rattle.rw_types.specs.declared.entry.Entry.{Entry}
use Rattle.rw_wal_format.specs.Series.{samples_after}
use Rattle.rw_head.specs.Order.{Point}
use Rattle.rw_restarts.specs.Owed.{pairs_of, is_from}

-- each sample of the label set among these entries is earlier than that time
abbrev pub AreBefore : ℤ → Labels → List Entry → Type 0
AreBefore floor l es =
    AllByRecursion (λ (p : Point). is_from floor p ≡ false) (pairs_of (samples_after l [] es))
