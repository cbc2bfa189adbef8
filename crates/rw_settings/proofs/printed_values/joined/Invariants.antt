use Rattle.std.proofs.Common.{◌≡◌, map, take, codes, string_bytes}
use Rattle.std.specs.List.{join_by}
use Rattle.toml_writer.specs.Text.{string_text}
use Rattle.rw_settings.proofs.printed_values.joined.Given as goal

abbrev pub invariant-loop-i : goal.invariant-loop-i
invariant-loop-i l =
    string_bytes l.joined ≡ join_by string_text (codes ", ") (map string_bytes (take l.i l.texts))
