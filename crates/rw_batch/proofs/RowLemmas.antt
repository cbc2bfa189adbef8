-- Samples by their series: a line for each series, as samples are taken.
use Rattle.std.proofs.Common.{◌≡◌, ℕ, zero, suc, ◌+◌, ◌≤◌, ◌<◌, Vec, vec_capacity, List, [], ◌∷◌, ◌++◌, length, map, set, take, drop, get_or, reverse, Bool, true, false, cond, not, Some, slice_get, refl, sym, ap, ◌∙◌, subst, length-append, arith}
use Rattle.std.specs.Global.{Global}
use Rattle.std.specs.List.{list_any, AllByRecursion, flat_map}
use Rattle.std.specs.Arc.{arc_value}
use Rattle.std.specs.Option.{option_map}
use Rattle.std.proofs.lemmas.List.{length_push, length-map, length-set, append-nil, reverse-append}
use Rattle.std.proofs.lemmas.List.Concat.{flat_map-cons}
use Rattle.std.proofs.lemmas.Grind.{flat_map-append}
use Rattle.std.proofs.lemmas.Option.{slice_get-get_or, slice_get-map, get_or_from_slice_get}
use Rattle.rw_types.specs.Labels.{Labels}
use Rattle.rw_types.specs.LabelOrder.{labels_eq}
use Rattle.rw_types.proofs.shared.AllLemmas.{AllByRecursion-append}
use Rattle.rw_write_request.specs.Canon.{sample_fields}
use Rattle.rw_write_request.specs.Message.{Sample, TimeSeries, WriteRequest}
use Rattle.rw_write_request.proofs.shared.Spelled.{sample-field-length}
use Rattle.rw_plain_queue.proofs.shared.Lists.{get_front, get_below}
use Rattle.rw_batch.specs.Grouping.{LabelledSample, message, with_labels, labels_of_series, distinct}
use Rattle.rw_batch.specs.inner.Grouping.{series_at}
use Rattle.rw_batch.specs.inner.Kept.{samples_alone, field_at, GoesBack, IsTrail, IsLine, HasLines, Shared, AreRows}
use Rattle.rw_batch.specs.declared.rows.Line.{Line}
use Rattle.rw_batch.proofs.FieldLemmas.{one_field, fields-append, fields-push, field_at-is, get_here}
use Rattle.rw_batch.proofs.KeysLemmas.{any-map, kept_or_pushed, opened, keys_stay, grown}
use Rattle.rw_batch.proofs.shared.MessageLemmas.{message-push, message_is_distinct, labels_of-with_sample}

get_last : {A : Type 0} (xs : List A) (x : A) (n : ℕ) → n ≡ length xs → slice_get (xs ++ x ∷ []) n ≡ Some x
get_last [] x zero e = refl
get_last [] x (suc n) e = absurd (omega arith)
get_last (y ∷ xs) x zero e = absurd (omega arith)
get_last (y ∷ xs) x (suc n) e = get_last xs x n (omega arith)

-- what is of earlier samples stays
goes_stay : (xs : List LabelledSample) (x : LabelledSample) (before : List ℕ) (b at : ℕ) (back : List ℕ) (ss : List Sample) → GoesBack xs before at back ss
    → GoesBack (xs ++ x ∷ []) (before ++ b ∷ []) at back ss
goes_stay xs x before b at [] ss h = h
goes_stay xs x before b at (j ∷ back) ss h =
    (h.0, h.1, h.2, h.3, get_front before (b ∷ []) j h.1 h.4, get_front xs (x ∷ []) j h.3 h.5, h.6, goes_stay xs x before b h.1 back h.2 h.7)

line_stays : (xs : List LabelledSample) (x : LabelledSample) (before : List ℕ) (b : ℕ) (s : TimeSeries) (line : Line) → IsLine xs before s line → IsLine (xs ++ x ∷ []) (before ++ b ∷ []) s line
line_stays xs x before b s line h = record {
  back = h.back;
  goes = goes_stay xs x before b line.last h.back s.samples h.goes;
  count = h.count;
  few = omega (arith, h.few, length_push xs x);
  bytes = h.bytes;
  short = h.short;
}

lines_stay : (xs : List LabelledSample) (x : LabelledSample) (before : List ℕ) (b : ℕ) (gs : WriteRequest) (lines : List Line) → HasLines xs before gs lines → HasLines (xs ++ x ∷ []) (before ++ b ∷ []) gs lines
lines_stay xs x before b [] [] h = h
lines_stay xs x before b [] (l ∷ lines) h = h
lines_stay xs x before b (g ∷ gs) [] h = h
lines_stay xs x before b (g ∷ gs) (l ∷ lines) h = (line_stays xs x before b g l h.0, lines_stay xs x before b gs lines h.1)

-- the line of a series that gets its first sample
line_opens : (xs : List LabelledSample) (x : LabelledSample) (before : List ℕ) (b n bytes : ℕ) → n ≡ length xs → n ≡ length before → bytes ≡ length (sample_fields (x.sample ∷ [])) → bytes ≤ 22
    → IsLine (xs ++ x ∷ []) (before ++ b ∷ []) (record { labels = x.labels; samples = x.sample ∷ [] }) (record { last = n; count = 1; bytes = bytes })
line_opens xs x before b n bytes e f len short = record {
  back = n ∷ [];
  goes = (refl, b, [], x, get_last before b n f, get_last xs x n e, refl, refl);
  count = refl;
  few = omega (arith, length_push xs x);
  bytes = len;
  short = omega arith;
}

-- the line of a series that gets one more
line_grows : (xs : List LabelledSample) (x : LabelledSample) (before : List ℕ) (n bytes : ℕ) (l : Labels) (s : TimeSeries) (line : Line) → n ≡ length xs → n ≡ length before
    → bytes ≡ length (sample_fields (x.sample ∷ [])) → bytes ≤ 22 → IsLine xs before s line
    → IsLine (xs ++ x ∷ []) (before ++ line.last ∷ []) (record { labels = l; samples = s.samples ++ x.sample ∷ [] }) (record { last = n; count = line.count + 1; bytes = line.bytes + bytes })
line_grows xs x before n bytes l s line e f len short h = record {
  back = n ∷ h.back;
  goes = (refl, line.last, s.samples, x, get_last before line.last n f, get_last xs x n e, refl, goes_stay xs x before line.last line.last h.back s.samples h.goes);
  count = omega (arith, h.count);
  few = omega (arith, h.few, length_push xs x);
  bytes = omega (arith, h.bytes, len, ap length (fields-append s.samples (x.sample ∷ [])), length-append (sample_fields s.samples) (sample_fields (x.sample ∷ [])));
  short = omega (arith, h.short);
}

lines_push : (xs : List LabelledSample) (before : List ℕ) (gs : WriteRequest) (lines : List Line) (g : TimeSeries) (line : Line) → HasLines xs before gs lines → IsLine xs before g line → HasLines xs before (gs ++ g ∷ []) (lines ++ line ∷ [])
lines_push xs before [] [] g line h new = (new, h)
lines_push xs before [] (l ∷ lines) g line h new = absurd h
lines_push xs before (x ∷ gs) [] g line h new = absurd h
lines_push xs before (x ∷ gs) (l ∷ lines) g line h new = (h.0, lines_push xs before gs lines g line h.1 new)

lines_set : (xs : List LabelledSample) (before : List ℕ) (gs : WriteRequest) (lines : List Line) (i : ℕ) (g : TimeSeries) (line : Line) → HasLines xs before gs lines → IsLine xs before g line → HasLines xs before (set gs i g) (set lines i line)
lines_set xs before [] [] i g line h new = h
lines_set xs before [] (l ∷ lines) i g line h new = absurd h
lines_set xs before (x ∷ gs) [] i g line h new = absurd h
lines_set xs before (x ∷ gs) (l ∷ lines) zero g line h new = (new, h.1)
lines_set xs before (x ∷ gs) (l ∷ lines) (suc i) g line h new = (h.0, lines_set xs before gs lines i g line h.1 new)

pub line_at : (xs : List LabelledSample) (before : List ℕ) (gs : WriteRequest) (lines : List Line) (i : ℕ) (g : TimeSeries) (line : Line) → HasLines xs before gs lines
    → slice_get gs i ≡ Some g → slice_get lines i ≡ Some line → IsLine xs before g line
line_at xs before [] [] i g line h e f = absurd cc
line_at xs before [] (l ∷ lines) i g line h e f = absurd h
line_at xs before (x ∷ gs) [] i g line h e f = absurd h
line_at xs before (x ∷ gs) (l ∷ lines) zero g line h e f =
    let one : x ≡ g = cc in
    let other : l ≡ line = cc in
    subst (λ (y : TimeSeries). IsLine xs before y line) one (subst (λ (y : Line). IsLine xs before x y) other h.0)
line_at xs before (x ∷ gs) (l ∷ lines) (suc i) g line h e f = line_at xs before gs lines i g line h.1 e f

pub as_many : (xs : List LabelledSample) (before : List ℕ) (gs : WriteRequest) (lines : List Line) → HasLines xs before gs lines → length gs ≡ length lines
as_many xs before [] [] h = refl
as_many xs before [] (l ∷ lines) h = absurd h
as_many xs before (x ∷ gs) [] h = absurd h
as_many xs before (x ∷ gs) (l ∷ lines) h = ap suc (as_many xs before gs lines h.1)

-- before the first sample
message-none : message [] ≡ []
unfolding message distinct
message-none = refl

pub no_lines : (xs : List LabelledSample) (before : List ℕ) (lines : List Line) → xs ≡ [] → lines ≡ [] → HasLines xs before (message xs) lines
no_lines xs before lines e f =
    let P : WriteRequest → List Line → Type 0 = λ gs ls. HasLines xs before gs ls in
    subst (λ (gs : WriteRequest). P gs lines) (sym (ap message e ∙ message-none)) (subst (λ (ls : List Line). P [] ls) (sym f) tt)

pub no_labels : (xs : List LabelledSample) (series : List Shared) → xs ≡ [] → series ≡ [] → map arc_value series ≡ labels_of_series (message xs)
no_labels xs series e f = ap (map arc_value) f ∙ sym (ap labels_of_series (ap message e ∙ message-none))

-- a sample of a series that is new
pub lines_open : (xs : List LabelledSample) (x : LabelledSample) (before : List ℕ) (n bytes : ℕ) (series : List Shared) (lines : List Line) (b : Bool) → n ≡ length xs → n ≡ length before
    → bytes ≡ length (sample_fields (x.sample ∷ [])) → bytes ≤ 22 → HasLines xs before (message xs) lines → map arc_value series ≡ labels_of_series (message xs)
    → b ≡ not (list_any (λ k. labels_eq x.labels (arc_value k)) series) → b ≡ true
    → HasLines (xs ++ x ∷ []) (before ++ n ∷ []) (message (xs ++ x ∷ [])) (lines ++ record { last = n; count = 1; bytes = bytes } ∷ [])
lines_open xs x before n bytes series lines b e f len short h same is new =
    let line : Line = record { last = n; count = 1; bytes = bytes } in
    let is_message : message (xs ++ x ∷ []) ≡ message xs ++ record { labels = x.labels; samples = x.sample ∷ [] } ∷ [] =
    message-push xs x ∙ opened arc_value series (message xs) x.labels x.sample b same is new in
    subst (λ (gs : WriteRequest). HasLines (xs ++ x ∷ []) (before ++ n ∷ []) gs (lines ++ line ∷ [])) (sym is_message)
    (lines_push (xs ++ x ∷ []) (before ++ n ∷ []) (message xs) lines (record { labels = x.labels; samples = x.sample ∷ [] }) line
    (lines_stay xs x before n (message xs) lines h) (line_opens xs x before n n bytes e f len short))

-- a sample of a series that is known
pub lines_grow : (xs : List LabelledSample) (x : LabelledSample) (before : List ℕ) (n bytes : ℕ) (series : List Shared) (lines : List Line) (i : ℕ) (line : Line) → n ≡ length xs → n ≡ length before
    → bytes ≡ length (sample_fields (x.sample ∷ [])) → bytes ≤ 22 → HasLines xs before (message xs) lines → map arc_value series ≡ labels_of_series (message xs)
    → (k : Shared) → slice_get series i ≡ Some k → labels_eq x.labels (arc_value k) ≡ true → slice_get lines i ≡ Some line
    → HasLines (xs ++ x ∷ []) (before ++ line.last ∷ []) (message (xs ++ x ∷ [])) (set lines i (record { last = n; count = line.count + 1; bytes = line.bytes + bytes }))
lines_grow xs x before n bytes series lines i line e f len short h same k at equal line_is =
    let gs = message xs in
    let new : Line = record { last = n; count = line.count + 1; bytes = line.bytes + bytes } in
    let below : i < length gs = omega (arith, get_below lines i line line_is, as_many xs before gs lines h) in
    let old : TimeSeries = get_or gs i (record { labels = []; samples = [] }) in
    let old_at : slice_get gs i ≡ Some old = slice_get-get_or gs i (record { labels = []; samples = [] }) below in
    let g : TimeSeries = record { labels = old.labels; samples = old.samples ++ x.sample ∷ [] } in
    let is : old ≡ get_or gs i old = sym (get_or_from_slice_get gs i old old old_at) in
    let is_message : message (xs ++ x ∷ []) ≡ set gs i g =
    message-push xs x ∙ sym (grown arc_value series series k gs x.labels x.sample i old g refl same (message_is_distinct xs) at equal is refl) in
    subst (λ (ms : WriteRequest). HasLines (xs ++ x ∷ []) (before ++ line.last ∷ []) ms (set lines i new)) (sym is_message)
    (lines_set (xs ++ x ∷ []) (before ++ line.last ∷ []) gs lines i g new (lines_stay xs x before line.last gs lines h)
    (line_grows xs x before n bytes old.labels old line e f len short (line_at xs before gs lines i old line h old_at line_is)))

-- what a line says of the series at its place
pub line_here : (xs : List LabelledSample) (before : List ℕ) (lines : List Line) (place : ℕ) (line : Line) → HasLines xs before (message xs) lines → place < length (message xs)
    → line ≡ get_or lines place line → IsLine xs before (series_at xs place) line
line_here xs before lines place line h lt e =
    line_at xs before (message xs) lines place (series_at xs place) line h (slice_get-get_or (message xs) place (record { labels = []; samples = [] }) lt)
    (get_here lines place line (omega (arith, lt, as_many xs before (message xs) lines h)) e)

-- and its labels
pub labels_here : (xs : List LabelledSample) (series : List Shared) (place : ℕ) (set : Shared) → map arc_value series ≡ labels_of_series (message xs) → place < length (message xs)
    → set ≡ get_or series place set → arc_value set ≡ (series_at xs place).labels
labels_here xs series place set same lt e =
    let n : length series ≡ length (message xs) = sym (length-map series arc_value) ∙ ap length same ∙ length-map (message xs) (λ (g : TimeSeries). g.labels) in
    let at : slice_get series place ≡ Some set = get_here series place set (omega (arith, lt, n)) e in
    let one : slice_get (map arc_value series) place ≡ Some (arc_value set) = slice_get-map arc_value series place ∙ ap (option_map arc_value) at in
    let other : slice_get (labels_of_series (message xs)) place ≡ Some (series_at xs place).labels =
    slice_get-map (λ (g : TimeSeries). g.labels) (message xs) place ∙ ap (option_map (λ (g : TimeSeries). g.labels)) (slice_get-get_or (message xs) place (record { labels = []; samples = [] }) lt) in
    some_same (sym one ∙ ap (λ (ls : List Labels). slice_get ls place) same ∙ other)
  where
    some_same : {A : Type 0} {x y : A} → Some x ≡ Some y → x ≡ y
    some_same e = cc

pub series_below : (xs : List LabelledSample) (series : List Shared) (place : ℕ) → map arc_value series ≡ labels_of_series (message xs) → place < length (message xs) → place < length series
series_below xs series place same lt =
    omega (arith, lt, length-map series arc_value, ap length same, length-map (message xs) (λ (g : TimeSeries). g.labels))

-- the samples of a series are found from the last one on
pub trail_of : (xs : List LabelledSample) (before : List ℕ) (at : ℕ) (back : List ℕ) (ss : List Sample) → GoesBack xs before at back ss → IsTrail before at back
trail_of xs before at [] ss h = tt
trail_of xs before at (j ∷ back) ss h = (h.0, h.1, h.4, trail_of xs before h.1 back h.2 h.7)

-- one step along a trail
pub trail_step : (before : List ℕ) (at next i : ℕ) (back : List ℕ) → i < length back → IsTrail before at (drop i back) → next ≡ get_or before at 0
    → (take (suc i) back ≡ take i back ++ at ∷ []) × IsTrail before next (drop (suc i) back)
trail_step before at next i [] lt h e = absurd (omega arith)
trail_step before at next zero (j ∷ back) lt h e =
    let here : slice_get before at ≡ Some h.1 = ap (slice_get before) h.0 ∙ h.2 in
    let same : next ≡ h.1 = e ∙ get_or_from_slice_get before at h.1 0 here in
    (ap (λ (k : ℕ). k ∷ []) (sym h.0), subst (λ (b : ℕ). IsTrail before b back) (sym same) h.3)
trail_step before at next (suc i) (j ∷ back) lt h e =
    let rest = trail_step before at next i back (omega arith) h e in (ap (λ (js : List ℕ). j ∷ js) rest.0, rest.1)

pub trail_below : (before : List ℕ) (at i : ℕ) (back : List ℕ) → i < length back → IsTrail before at (drop i back) → at < length before
trail_below before at i [] lt h = absurd (omega arith)
trail_below before at zero (j ∷ back) lt h = omega (arith, h.0, get_below before j h.1 h.2)
trail_below before at (suc i) (j ∷ back) lt h = trail_below before at i back (omega arith) h

-- their fields in order are those of the series
pub fields_back : (xs : List LabelledSample) (before : List ℕ) (at : ℕ) (back : List ℕ) (ss : List Sample) → GoesBack xs before at back ss
    → flat_map (field_at (samples_alone xs)) (reverse back) ≡ sample_fields ss
fields_back xs before at [] ss h = ap (λ (ts : List Sample). sample_fields ts) (sym h)
fields_back xs before at (j ∷ back) ss h =
    let x = h.3 in
    let f = field_at (samples_alone xs) in
    let sample : slice_get (samples_alone xs) j ≡ Some x.sample =
    slice_get-map (λ (y : LabelledSample). y.sample) xs j ∙ ap (option_map (λ (y : LabelledSample). y.sample)) h.5 in
    ap (flat_map f) (reverse-append (j ∷ []) back) ∙ flat_map-append f (reverse back) (j ∷ []) ∙ ap (λ (b : List ℕ). b ++ flat_map f (j ∷ [])) (fields_back xs before h.1 back h.2 h.7)
    ∙ ap (λ (b : List ℕ). sample_fields h.2 ++ b) (flat_map-cons f j [] ∙ append-nil (f j) ∙ field_at-is (samples_alone xs) j x.sample sample)
    ∙ sym (fields-push h.2 x.sample) ∙ ap (λ (ts : List Sample). sample_fields ts) (sym h.6)

pub within_back : (xs : List LabelledSample) (before : List ℕ) (at : ℕ) (back : List ℕ) (ss : List Sample) → GoesBack xs before at back ss → AllByRecursion (λ j. j < length xs) (reverse back)
within_back xs before at [] ss h = tt
within_back xs before at (j ∷ back) ss h =
    subst (AllByRecursion (λ k. k < length xs)) (sym (reverse-append (j ∷ []) back))
    (AllByRecursion-append (λ k. k < length xs) (reverse back) (j ∷ []) (within_back xs before h.1 back h.2 h.7) (get_below xs j h.3 h.5, tt))

-- what is kept after one more sample
module _ (v : Shared → Labels) where
  labels_after : (series : List Shared) (key : Shared) (xs : List LabelledSample) (x : LabelledSample) → map v series ≡ labels_of_series (message xs) → x.labels ≡ v key
      → map v (cond (list_any (λ k. labels_eq (v key) (v k)) series) series (series ++ key ∷ [])) ≡ labels_of_series (message (xs ++ x ∷ []))
  labels_after series key xs x same is =
      sym (ap labels_of_series (message-push xs x) ∙ labels_of-with_sample x.labels x.sample (message xs) ∙ ap (λ (l : Labels). with_labels l (labels_of_series (message xs))) is
      ∙ ap (with_labels (v key)) (sym same) ∙ ap (λ (b : Bool). cond b (map v series) (map v series ++ v key ∷ [])) (any-map v (v key) series)
      ∙ kept_or_pushed v series key (list_any (λ k. labels_eq (v key) (v k)) series))

pub short_field : (s : Sample) → length (sample_fields (s ∷ [])) ≤ 22
short_field s = omega (arith, ap length (one_field s), sample-field-length s)

-- a place of the series is one of the lines
lines_below : (room : ℕ) (series : List Shared) (left : ℕ) (lines : Vec Line Global) (before : Vec ℕ Global) (xs : List LabelledSample) (i : ℕ) (k : Shared) → AreRows room series left lines before xs → slice_get series i ≡ Some k → i < length lines.items
lines_below room series left lines before xs i k h at =
    omega (arith, get_below series i k at, length-map series arc_value, ap length h.labels_are, length-map (message xs) (λ (g : TimeSeries). g.labels), as_many xs before.items (message xs) lines.items h.lines_are)

-- if a label set is known its place is one of the lines, whose counts are small
pub known_below : (room : ℕ) (series news : List Shared) (left : ℕ) (lines : Vec Line Global) (before : Vec ℕ Global) (xs : List LabelledSample) (key k : Shared) (i : ℕ) (b : Bool) → AreRows room series left lines before xs
    → b ≡ not (list_any (λ k. labels_eq (arc_value key) (arc_value k)) series) → b ≡ false → news ≡ cond (list_any (λ k. labels_eq (arc_value key) (arc_value k)) series) series (series ++ key ∷ [])
    → slice_get news i ≡ Some k → i < length lines.items
known_below room series news left lines before xs key k i b h added old keys stored =
    lines_below room series left lines before xs i k h (ap (λ (ks : List Shared). slice_get ks i) (sym (keys_stay arc_value series news key (arc_value key) b added old keys)) ∙ stored)

pub known_line : (room : ℕ) (series : List Shared) (left : ℕ) (lines : Vec Line Global) (before : Vec ℕ Global) (xs : List LabelledSample) (i : ℕ) (line : Line) → AreRows room series left lines before xs
    → i < length lines.items → line ≡ get_or lines.items i line → (line.count ≤ 10000) × (line.bytes ≤ 220000)
known_line room series left lines before xs i line h below e =
    let l = line_here xs before.items lines.items i line h.lines_are (omega (arith, below, as_many xs before.items (message xs) lines.items h.lines_are)) e in
    let few : line.count ≤ 10000 = omega (arith, l.few, h.within, h.most) in
    (few, omega (arith, l.short))

pub rows_open : (room : ℕ) (series news : List Shared) (left left_after : ℕ) (lines lines_after : Vec Line Global) (before before_after : Vec ℕ Global) (xs : List LabelledSample) (x : LabelledSample) (key : Shared) (n bytes : ℕ) (b : Bool)
    → AreRows room series left lines before xs → length xs < room → x.labels ≡ arc_value key → n ≡ length xs → bytes ≡ length (sample_fields (x.sample ∷ []))
    → b ≡ not (list_any (λ k. labels_eq (arc_value key) (arc_value k)) series) → b ≡ true
    → news ≡ cond (list_any (λ k. labels_eq (arc_value key) (arc_value k)) series) series (series ++ key ∷ []) → left ≤ left_after + 1
    → lines_after.items ≡ lines.items ++ record { last = n; count = 1; bytes = bytes } ∷ [] → vec_capacity lines_after ≡ vec_capacity lines
    → before_after.items ≡ before.items ++ n ∷ [] → vec_capacity before_after ≡ vec_capacity before
    → AreRows room news left_after lines_after before_after (xs ++ x ∷ [])
rows_open room series news left left_after lines lines_after before before_after xs x key n bytes b h lt is at len added new keys spare lines_are lines_room before_are before_room = record {
  most = h.most;
  within = omega (arith, length_push xs x);
  labels_are = ap (map arc_value) keys ∙ labels_after arc_value series key xs x h.labels_are is;
  lines_are =
      subst (λ (bs : List ℕ). HasLines (xs ++ x ∷ []) bs (message (xs ++ x ∷ [])) lines_after.items) (sym before_are)
      (subst (λ (ls : List Line). HasLines (xs ++ x ∷ []) (before.items ++ n ∷ []) (message (xs ++ x ∷ [])) ls) (sym lines_are)
      (lines_open xs x before.items n bytes series lines.items b at (at ∙ sym h.numbered) len (omega (arith, len, short_field x.sample)) h.lines_are h.labels_are
      (added ∙ ap (λ (l : Labels). not (list_any (λ k. labels_eq l (arc_value k)) series)) (sym is)) new));
  few = omega (arith, ap length lines_are, length_push lines.items (record { last = n; count = 1; bytes = bytes }), h.few, length_push xs x);
  numbered = omega (arith, ap length before_are, length_push before.items n, h.numbered, length_push xs x);
  line_room = omega (arith, h.line_room, lines_room);
  number_room = omega (arith, h.number_room, before_room);
  series_room = omega (arith, h.series_room, spare, length_push xs x);
}

pub rows_grow : (room : ℕ) (series news : List Shared) (left left_after : ℕ) (lines lines_after : Vec Line Global) (before before_after : Vec ℕ Global) (xs : List LabelledSample) (x : LabelledSample) (key k : Shared) (n bytes i : ℕ) (b : Bool) (line : Line)
    → AreRows room series left lines before xs → length xs < room → x.labels ≡ arc_value key → n ≡ length xs → bytes ≡ length (sample_fields (x.sample ∷ []))
    → b ≡ not (list_any (λ k. labels_eq (arc_value key) (arc_value k)) series) → b ≡ false
    → news ≡ cond (list_any (λ k. labels_eq (arc_value key) (arc_value k)) series) series (series ++ key ∷ []) → left ≤ left_after + 1
    → slice_get news i ≡ Some k → labels_eq (arc_value key) (arc_value k) ≡ true → line ≡ get_or lines.items i line
    → lines_after.items ≡ set lines.items i (record { last = n; count = line.count + 1; bytes = line.bytes + bytes }) → vec_capacity lines_after ≡ vec_capacity lines
    → before_after.items ≡ before.items ++ line.last ∷ [] → vec_capacity before_after ≡ vec_capacity before
    → AreRows room news left_after lines_after before_after (xs ++ x ∷ [])
rows_grow room series news left left_after lines lines_after before before_after xs x key k n bytes i b line h lt is at len added old keys spare stored equal line_is lines_are lines_room before_are before_room =
    let stay : news ≡ series = keys_stay arc_value series news key (arc_value key) b added old keys in
    let new : Line = record { last = n; count = line.count + 1; bytes = line.bytes + bytes } in
    let stored_before : slice_get series i ≡ Some k = ap (λ (ks : List Shared). slice_get ks i) (sym stay) ∙ stored in
    let below : i < length lines.items = omega (arith, lines_below room series left lines before xs i k h stored_before) in
    record {
      most = h.most;
      within = omega (arith, length_push xs x);
      labels_are = ap (map arc_value) keys ∙ labels_after arc_value series key xs x h.labels_are is;
      lines_are =
          subst (λ (bs : List ℕ). HasLines (xs ++ x ∷ []) bs (message (xs ++ x ∷ [])) lines_after.items) (sym before_are)
          (subst (λ (ls : List Line). HasLines (xs ++ x ∷ []) (before.items ++ line.last ∷ []) (message (xs ++ x ∷ [])) ls) (sym lines_are)
          (lines_grow xs x before.items n bytes series lines.items i line at (at ∙ sym h.numbered) len (omega (arith, len, short_field x.sample)) h.lines_are h.labels_are
          k stored_before (ap (λ (l : Labels). labels_eq l (arc_value k)) is ∙ equal) (get_here lines.items i line below line_is)));
      few = omega (arith, ap length lines_are, length-set lines.items i new, h.few, length_push xs x);
      numbered = omega (arith, ap length before_are, length_push before.items line.last, h.numbered, length_push xs x);
      line_room = omega (arith, h.line_room, lines_room);
      number_room = omega (arith, h.number_room, before_room);
      series_room = omega (arith, h.series_room, spare, length_push xs x);
    }
