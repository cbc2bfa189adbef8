-- The lines of a text, and the records that lines of log text stand for.
use Rattle.std.specs.Prelude.{◌≡◌, ℕ, ◌*◌, ◌≤◌, List, [], ◌∷◌, length, ◌==◌, if◌then◌else◌}
use Rattle.std.specs.List.{onto_first}
use Rattle.rw_wal_format.specs.Records.{series_record, sample_record}
use Rattle.rw_text.specs.LineText.{Line, series, sample, raw, IsLine}

-- the lines of a text; only LF ends a line, and the last one may lack it
abbrev pub lines : List ℕ → List (List ℕ)
lines [] = []
lines (b ∷ bs) = if b == 10 then [] ∷ lines bs else onto_first b (lines bs)

-- the record that a line stands for
abbrev pub record_of : Line → List ℕ
record_of (series reference labels) = series_record reference labels
record_of (sample reference t word) = sample_record ((reference, t, word) ∷ [])
record_of (raw bytes) = bytes

-- a line of log text, and its record, which has 16 MiB at most
pub record IsRecordOf (line rec : List ℕ) : Type 0 where
  pub said : Line
  pub is_line : IsLine line said
  pub is : rec ≡ record_of said
  pub short : length rec ≤ 16 * 1024 * 1024
