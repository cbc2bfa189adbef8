-- Pages for people, in HTML.
use Rattle.std.specs.Prelude.{ℕ, List, ◌++◌, false, codes}
use Rattle.rw_metrics.specs.Rows.{Shape, Table, rows_text, statuses_text}
use Rattle.rw_metrics.specs.declared.rows.Shown.{Shown}
use Rattle.rw_metrics.specs.declared.html.TheConstants.{HEAD, STYLE, FOOT}

-- everything before the first paragraph of a page with this title
unfoldable pub page_start : List ℕ → List ℕ
page_start title = HEAD.now ++ title ++ STYLE.now ++ title ++ codes "</h1>\n"

-- the end of a page
unfoldable pub page_end : List ℕ
page_end = FOOT.now

-- the rows of a table
abbrev pub cells : Shape
cells = record { start = codes "<tr><th>"; between = codes "</th><td>"; end = codes "</td></tr>\n"; zeros = false }

-- a table, with the number of each row, and of each status
unfoldable pub table_text : Table → List Shown → (counts : List (ℕ × ℕ)) → List ℕ
table_text t numbers counts =
    codes "<h2>" ++ t.0 ++ codes "</h2>\n<table>\n"
    ++ rows_text cells t.1 numbers ++ statuses_text cells t.2 counts ++ codes "</table>\n"
