use Rattle.std.proofs.Common.{◌≡◌, drop}
use Rattle.toml.specs.View.{items_view}
use Rattle.rw_settings.specs.Values.{are_texts}
use Rattle.rw_settings.proofs.table_faults.are_texts.Given as goal

abbrev pub invariant-loop-value : goal.invariant-loop-value
invariant-loop-value l = are_texts (items_view l.values) ≡ are_texts (items_view (drop l.value-index l.values))
