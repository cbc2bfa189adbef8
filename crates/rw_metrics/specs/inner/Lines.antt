-- Inner definitions beside those of Lines.antt: only invariants, private functions and
-- proofs use them.
use Rattle.std.specs.Prelude.{ℕ, List, ◌++◌, codes, decimal}
use Rattle.rw_metrics.specs.declared.send_numbers.Failures.{Failures}
use Rattle.rw_metrics.specs.Lines.{words}
use Rattle.rw_metrics.specs.Rows.{row_text}
use Rattle.rw_metrics.specs.declared.rows.Shown.TheVariants as shown

-- while a receiver has acknowledged nothing for this many seconds
abbrev pub stall_line : List ℕ → ℕ → Failures → List ℕ
stall_line receiver seconds f =
    codes "rwship: no acknowledgement from " ++ receiver
    ++ codes " for " ++ decimal seconds
    ++ codes " s: attempts failed in a row: " ++ decimal f.in_a_row
    ++ row_text words (codes "last") (shown.Last f.last)
    ++ codes "; trying again\n"
