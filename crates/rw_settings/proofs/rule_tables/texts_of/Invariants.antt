use Rattle.std.proofs.Common.{◌≡◌, ◌++◌, drop, map, string_bytes}
use Rattle.toml.specs.View.{items_view}
use Rattle.rw_settings.specs.RuleTables.{texts_of}
use Rattle.rw_settings.proofs.rule_tables.texts_of.Given as goal

abbrev pub invariant-loop-value : goal.invariant-loop-value
invariant-loop-value l =
    map string_bytes l.texts.items ++ texts_of (items_view (drop l.value-index l.values)) ≡ texts_of (items_view l.values)
