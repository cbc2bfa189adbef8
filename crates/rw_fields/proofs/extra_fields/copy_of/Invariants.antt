use Rattle.std.proofs.Common.{◌≡◌, ◌++◌, map, drop}
use Rattle.rw_fields.specs.inner.Fields.{name_and_value}
use Rattle.rw_fields.proofs.extra_fields.copy_of.Given as goal

abbrev pub invariant-loop-field : goal.invariant-loop-field
invariant-loop-field l =
    map name_and_value l.copies.items ++ map name_and_value (drop l.field-index l.fields) ≡ map name_and_value l.fields
