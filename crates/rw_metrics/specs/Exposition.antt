-- Metrics in the text format 0.0.4 of Prometheus.
use Rattle.std.specs.Prelude.{ℕ, List, [], ◌++◌, true, flat_map, codes}
use Rattle.std.specs.List.{zip}
use Rattle.rw_metrics.specs.Rows.{Text, Shape, row_text, rows_text, statuses_text}
use Rattle.rw_metrics.specs.declared.rows.Shown.{Shown}

-- a name, a type and a help
abbrev pub Metric : Type 0
Metric = List ℕ × List ℕ × List ℕ

-- the same, as a row of the code's tables
abbrev pub metric : Text × Text × Text → Metric
metric m = (m.0.now, m.1.now, m.2.now)

-- a name, a help, the text before the value of a label, and what it begins with if it is a status
abbrev pub Family : Type 0
Family = List ℕ × List ℕ × List ℕ × List ℕ

abbrev pub family : Text × Text × Text × Text → Family
family f = (f.0.now, f.1.now, f.2.now, f.3.now)

-- the lines of a metric before its numbers
abbrev pub about : Metric → List ℕ
about m = codes "# HELP " ++ m.0 ++ codes " " ++ m.2 ++ codes "\n# TYPE " ++ m.0 ++ codes " " ++ m.1 ++ codes "\n"

-- a metric with one number
unfoldable pub metric_text : Metric → Shown → List ℕ
metric_text m number = about m ++ row_text (record { start = []; between = codes " "; end = codes "\n"; zeros = true }) m.0 number

-- each metric with its number
abbrev pub metrics_text : List Metric → List Shown → List ℕ
metrics_text metrics numbers = flat_map (λ row. metric_text row.0 row.1) (zip metrics numbers)

-- the lines of a counter with labels: `NAME{LABEL="VALUE"} N`
abbrev pub labelled : Family → Shape
labelled f = record { start = f.0 ++ f.2; between = codes "\"} "; end = codes "\n"; zeros = true }

-- a counter with labels, with the number of each value of its label, and of each status
unfoldable pub family_text : Family → (values : List (List ℕ)) → List Shown → (counts : List (ℕ × ℕ)) → List ℕ
family_text f values numbers counts =
    about (f.0, codes "counter", f.1) ++ rows_text (labelled f) values numbers ++ statuses_text (labelled f) f.3 counts
