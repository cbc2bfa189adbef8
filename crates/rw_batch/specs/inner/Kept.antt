-- What a builder keeps of the samples that it took: their fields, and where those of one series
-- are.
use Rattle.std.specs.Global.{Global}
use Rattle.std.specs.Prelude.{◌≡◌, ℕ, ◌+◌, ◌*◌, ◌≤◌, Vec, vec_capacity, List, [], ◌∷◌, ◌++◌, length, take, drop, map, Some, slice_get, ⊤}
use Rattle.std.specs.Arc.{arc_value}
use Rattle.std.specs.List.{AllByRecursion}
use Rattle.std.specs.declared.sync.Arc.{Arc}
use Rattle.rw_types.specs.Labels.{Labels}
use Rattle.rw_write_request.specs.Canon.{sample_fields, series_head}
use Rattle.rw_write_request.specs.Message.{Sample, TimeSeries, WriteRequest}
use Rattle.rw_write_request.specs.Valid.{IsLabel, IsValidSample}
use Rattle.rw_batch.specs.Grouping.{LabelledSample, message, labels_of_series}
use Rattle.rw_batch.specs.declared.rows.Line.{Line}

-- samples whose fields were written, and for how many there is room
pub record Fielded : Type 0 where
  pub room : ℕ
  pub samples : List Sample

-- samples that are found by their series, and for how many there is room
pub record Rowed : Type 0 where
  pub room : ℕ
  pub samples : List LabelledSample

-- the field of the sample of this number
unfoldable pub field_at : List Sample → ℕ → List ℕ
field_at ss k = sample_fields (take 1 (drop k ss))

-- the samples without their series numbers
abbrev pub samples_alone : List LabelledSample → List Sample
samples_alone xs = map (λ x. x.sample) xs

-- the fields of the samples in a row; mark k is where the field of sample k begins, and the last
-- one where all end
pub record AreFields (room : ℕ) (bytes : Vec ℕ Global) (marks : Vec ℕ Global) (samples : List Sample) : Type 0 where
  pub most : room ≤ 10000
  pub within : length samples ≤ room
  pub bytes_are : bytes.items ≡ sample_fields samples
  pub byte_room : 22 * room ≤ vec_capacity bytes
  pub marked : length marks.items ≡ length samples + 1
  pub marks_are : (k m : ℕ) → slice_get marks.items k ≡ Some m → m ≡ length (sample_fields (take k samples))
  pub mark_room : room + 1 ≤ vec_capacity marks
  pub valid : AllByRecursion IsValidSample samples

-- the samples of one series are those numbered `back`, the last one first: `at` is that one, and
-- `before` has for each sample the one before it in its series
abbrev pub GoesBack : List LabelledSample → List ℕ → ℕ → List ℕ → List Sample → Type 0
GoesBack xs before at [] ss = ss ≡ []
GoesBack xs before at (j ∷ back) ss =
    (at ≡ j) × (b : ℕ) × (front : List Sample) × (x : LabelledSample) × (slice_get before j ≡ Some b) × (slice_get xs j ≡ Some x)
    × (ss ≡ front ++ x.sample ∷ []) × GoesBack xs before b back front

-- the numbers are found from `at` on, each by the one before the last
abbrev pub IsTrail : List ℕ → ℕ → List ℕ → Type 0
IsTrail before at [] = ⊤
IsTrail before at (j ∷ back) = (at ≡ j) × (b : ℕ) × (slice_get before j ≡ Some b) × IsTrail before b back

-- the line of a series: its last sample, how many it has, and how many bytes their fields take
pub record IsLine (xs : List LabelledSample) (before : List ℕ) (s : TimeSeries) (line : Line) : Type 0 where
  pub back : List ℕ
  pub goes : GoesBack xs before line.last back s.samples
  pub count : line.count ≡ length back
  pub few : line.count ≤ length xs
  pub bytes : line.bytes ≡ length (sample_fields s.samples)
  pub short : line.bytes ≤ 22 * line.count

-- each series has its line
abbrev pub HasLines : List LabelledSample → List ℕ → WriteRequest → List Line → Type 0
HasLines xs before [] [] = ⊤
HasLines xs before [] (line ∷ lines) = ⊥
HasLines xs before (s ∷ ss) [] = ⊥
HasLines xs before (s ∷ ss) (line ∷ lines) = IsLine xs before s line × HasLines xs before ss lines

-- label sets that are shared
abbrev pub Shared : Type 0
Shared = Arc Labels Global

-- samples by their series: the label sets of their message, and a line for each of its series
pub record AreRows (room : ℕ) (series : List Shared) (left : ℕ) (lines : Vec Line Global) (before : Vec ℕ Global) (samples : List LabelledSample) : Type 0 where
  pub most : room ≤ 10000
  pub within : length samples ≤ room
  pub labels_are : map arc_value series ≡ labels_of_series (message samples)
  pub lines_are : HasLines samples before.items (message samples) lines.items
  pub few : length lines.items ≤ length samples
  pub numbered : length before.items ≡ length samples
  pub line_room : room ≤ vec_capacity lines
  pub number_room : room ≤ vec_capacity before
  pub series_room : room ≤ left + length samples

-- the labels are texts
abbrev pub HasLabels : TimeSeries → Type 0
HasLabels s = AllByRecursion IsLabel s.labels

-- how long the field of a series is, by its parts
abbrev pub parts_len : TimeSeries → ℕ
parts_len s = length (series_head s.labels (length (sample_fields s.samples))) + length (sample_fields s.samples)
