use Rattle.std.proofs.Common.{◌≡◌, map, drop}
use Rattle.rw_fields.specs.Fields.{has_name}
use Rattle.rw_fields.specs.inner.Fields.{name_and_value}
use Rattle.rw_fields.proofs.extra_fields.has_name.Given as goal

abbrev pub invariant-loop-field : goal.invariant-loop-field
invariant-loop-field l =
    has_name l.name (map name_and_value l.fields) ≡ has_name l.name (map name_and_value (drop l.field-index l.fields))
