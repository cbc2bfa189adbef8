use Rattle.std.proofs.Common.{◌≡◌, ◌++◌, string_bytes}
use Rattle.std.specs.List.{concat}
use Rattle.rw_settings.proofs.LineLemmas.{lines_from}
use Rattle.rw_settings.proofs.printed_values.push_lines.Given as goal

abbrev pub invariant-loop-i : goal.invariant-loop-i
invariant-loop-i l =
    string_bytes l.out ++ concat (lines_from l.keys l.values l.i) ≡ string_bytes l.initial.out ++ concat (lines_from l.keys l.values 0)
