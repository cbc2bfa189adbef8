-- The end of each page for Prometheus: the version of the program, and what the kernel says of the
-- process.
use Rattle.std.specs.Prelude.{ℕ, List, [], ◌∷◌, ◌++◌, Option, None, Some, codes, map}
use Rattle.rw_metrics.specs.Exposition.{metric, metrics_text}
use Rattle.rw_metrics.specs.declared.process.ProcessNumbers.{ProcessNumbers}
use Rattle.rw_metrics.specs.declared.process_page.TheConstants.{BUILD, PROCESS}
use Rattle.rw_metrics.specs.declared.rows.Shown.TheVariants as shown

abbrev pub build_page : (version : List ℕ) → List ℕ
build_page version = BUILD.now ++ version ++ codes "\"} 1\n"

unfoldable pub numbers_page : ProcessNumbers → List ℕ
numbers_page n =
    metrics_text (map metric PROCESS)
    (shown.Micros n.cpu_micros ∷ shown.Count n.resident_bytes ∷ shown.Count n.open_descriptors
    ∷ shown.Micros n.start_micros ∷ [])

-- the same, if the kernel says so
unfoldable pub process_page : Option ProcessNumbers → List ℕ
process_page None = []
process_page (Some n) = numbers_page n
