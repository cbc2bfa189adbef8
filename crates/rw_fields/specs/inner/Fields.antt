-- The fields as they are stored.
use Rattle.std.specs.Prelude.{string_bytes}
use Rattle.rw_fields.specs.Fields.{NameValue}
use Rattle.rw_fields.specs.declared.extra_fields.Field.{Field}

abbrev pub name_and_value : Field → NameValue
name_and_value field = (string_bytes field.name, string_bytes field.value)
