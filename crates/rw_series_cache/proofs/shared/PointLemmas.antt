-- The samples of a series, entry by entry.
use Rattle.std.proofs.Common.{◌≡◌, ℕ, ℤ, ◌+◌, ◌<◌, ◌≤◌, zero, suc, List, [], ◌∷◌, ◌++◌, length, length-append, take, filter, Bool, true, false, cond, ◌&&◌, nat_lt, is_none, refl, sym, ◌∙◌, ap, ap₂, Option, Some, None, append_assoc, arith}
use Rattle.std.proofs.lemmas.List.{append-nil}
use Rattle.std.proofs.lemmas.Bool.{lt-ltb, le-ltb}
use Rattle.rw_types.specs.Labels.{Labels, label_fault}
use Rattle.rw_types.specs.inner.LabelOrder.{same_if_equal}
use Rattle.rw_types.proofs.shared.OrderLemmas.{equal_if_same}
use Rattle.rw_types.specs.declared.entry.Entry.{Entry}
use Rattle.rw_types.specs.declared.entry.Entry.TheVariants.{Def, Sample}
use Rattle.rw_types.specs.declared.label_fault.LabelFault.{LabelFault}
use Rattle.rw_wal_format.specs.Series.{labels_of, has_labels, samples_after}
use Rattle.rw_relabel.specs.Rules.{keeps}
use Rattle.rw_relabel.specs.declared.choice.Choice.{Choice}
use Rattle.rw_series_cache.specs.Known.{Kept, known, standing_of, standing_by, standing_of_set}
use Rattle.rw_series_cache.proofs.shared.KnownLemmas.{kept_labels}
use Rattle.rw_series_cache.specs.Points.{is_kept, kept_points, kept_points_below}

abbrev Point : Type 0
Point = ℕ × ℤ × ℕ

-- the sample that an entry gives a series, after the entries before it
abbrev point_of : Labels → List Entry → Entry → List Point
point_of l before (Def r m) = []
point_of l before (Sample r t w) = cond (has_labels l (labels_of before r (length before))) ((length before, t, w) ∷ []) []

push_either : (b : Bool) (p : Point) (later now more : List Point) → now ≡ later ++ more → cond b (p ∷ now) now ≡ cond b (p ∷ later) later ++ more
push_either true p later now more e = ap (λ ps. p ∷ ps) e
push_either false p later now more e = e

samples_after-push : (l : Labels) (before es : List Entry) (e : Entry) → samples_after l before (es ++ e ∷ []) ≡ samples_after l before es ++ point_of l (before ++ es) e
samples_after-push l before [] (Def r m) = refl
samples_after-push l before [] (Sample r t w) = ap (λ b. point_of l b (Sample r t w)) (sym (append-nil before))
samples_after-push l before (Def r m ∷ es) e =
    samples_after-push l (before ++ Def r m ∷ []) es e
    ∙ ap (λ b. samples_after l (before ++ Def r m ∷ []) es ++ point_of l b e) (append_assoc before (Def r m ∷ []) es)
samples_after-push l before (Sample r t w ∷ es) e =
    push_either (has_labels l (labels_of before r (length before))) (length before, t, w) (samples_after l (before ++ Sample r t w ∷ []) es)
    (samples_after l (before ++ Sample r t w ∷ []) (es ++ e ∷ [])) (point_of l (before ++ Sample r t w ∷ es) e)
    (samples_after-push l (before ++ Sample r t w ∷ []) es e
    ∙ ap (λ b. samples_after l (before ++ Sample r t w ∷ []) es ++ point_of l b e) (append_assoc before (Sample r t w ∷ []) es))

-- labels are kept if they are a label set that the rules keep
set_kept : (l m : Labels) (b : Bool) → standing_of_set b m ≡ Kept l → (m ≡ l) × (b ≡ true)
set_kept l m true e = (cc, refl)
set_kept l m false e = absurd cc

judged_kept : (choice : Choice) (l m : Labels) (f : Option LabelFault) → standing_by choice m f ≡ Kept l → (m ≡ l) × (f ≡ None) × (keeps choice.rules m ≡ true)
judged_kept choice l m None e = let found = set_kept l m (keeps choice.rules m) e in (found.0, refl, found.1)
judged_kept choice l m (Some f) e = absurd cc

labels_kept : (choice : Choice) (l : Labels) (o : Option Labels) → standing_of choice o ≡ Kept l → (o ≡ Some l) × (label_fault choice.names l ≡ None) × (keeps choice.rules l ≡ true)
labels_kept choice l None e = absurd cc
labels_kept choice l (Some m) e =
    let found = judged_kept choice l m (label_fault choice.names m) e in
    (ap Some found.0, ap (label_fault choice.names) (sym found.0) ∙ found.1, ap (keeps choice.rules) (sym found.0) ∙ found.2)

is_kept-true : (choice : Choice) (l : Labels) → label_fault choice.names l ≡ None → keeps choice.rules l ≡ true → is_kept choice l ≡ true
is_kept-true choice l e k = ap₂ (λ (f : Option LabelFault) b. is_none f && b) e k

has_labels-own : (l : Labels) (o : Option Labels) → o ≡ Some l → has_labels l o ≡ true
has_labels-own l o e = ap (has_labels l) e ∙ equal_if_same l l refl

-- a definition gives no sample
pub definition_gives_none : (choice : Choice) (es : List Entry) (l m : Labels) (r : ℕ) → kept_points choice (es ++ Def r m ∷ []) l ≡ kept_points choice es l
definition_gives_none choice es l m r = ap (λ ps. cond (is_kept choice l) ps []) (samples_after-push l [] es (Def r m) ∙ append-nil (samples_after l [] es))

-- a sample of a reference that stands for the series
pub sample_is_kept : (choice : Choice) (es : List Entry) (l : Labels) (r : ℕ) (t : ℤ) (w : ℕ) → known choice es r ≡ Kept l
    → kept_points choice (es ++ Sample r t w ∷ []) l ≡ kept_points choice es l ++ (length es, t, w) ∷ []
unfolding known
sample_is_kept choice es l r t w e =
    let found = labels_kept choice l (labels_of es r (length es)) e in
    let keep : is_kept choice l ≡ true = is_kept-true choice l found.1 found.2 in
    ap (λ b. cond b (samples_after l [] (es ++ Sample r t w ∷ [])) []) keep
    ∙ samples_after-push l [] es (Sample r t w)
    ∙ ap (λ b. samples_after l [] es ++ cond b ((length es, t, w) ∷ []) []) (has_labels-own l (labels_of es r (length es)) found.0)
    ∙ ap (λ b. cond b (samples_after l [] es) [] ++ (length es, t, w) ∷ []) (sym keep)

kept_either : (b : Bool) (now was : List Point) → (b ≡ true → now ≡ was) → cond b now [] ≡ cond b was []
kept_either true now was h = h refl
kept_either false now was h = refl

no_point : (b : Bool) (p : Point) → (b ≡ true → ⊥) → cond b (p ∷ []) [] ≡ []
no_point true p h = absurd (h refl)
no_point false p h = refl

pub has_labels-only : (l : Labels) (o : Option Labels) → has_labels l o ≡ true → o ≡ Some l
has_labels-only l None e = absurd cc
has_labels-only l (Some m) e = ap Some (same_if_equal m l e)

pub both_kept : (f : Option LabelFault) (b : Bool) → (is_none f && b) ≡ true → (f ≡ None) × (b ≡ true)
both_kept None b e = (refl, e)
both_kept (Some f) b e = absurd cc

-- a sample of another reference
pub sample_is_other : (choice : Choice) (es : List Entry) (l : Labels) (r : ℕ) (t : ℤ) (w : ℕ) → (known choice es r ≡ Kept l → ⊥)
    → kept_points choice (es ++ Sample r t w ∷ []) l ≡ kept_points choice es l
unfolding known
sample_is_other choice es l r t w other =
    kept_either (is_kept choice l) (samples_after l [] (es ++ Sample r t w ∷ [])) (samples_after l [] es) (λ keep.
    let fine = both_kept (label_fault choice.names l) (keeps choice.rules l) keep in
    samples_after-push l [] es (Sample r t w)
    ∙ ap (λ ps. samples_after l [] es ++ ps) (no_point (has_labels l (labels_of es r (length es))) (length es, t, w) (λ there.
    other (ap (standing_of choice) (has_labels-only l (labels_of es r (length es)) there) ∙ kept_labels choice l fine.0 fine.1)))
    ∙ append-nil (samples_after l [] es))

-- which samples are below a position
abbrev is_below : ℕ → Point → Bool
is_below end p = nat_lt p.0 end

filter_first : (b c : Bool) (end : ℕ) (p : Point) (later : List Point) → is_below end p ≡ c
    → filter (is_below end) (cond b (p ∷ later) later) ≡ cond b (cond c (p ∷ filter (is_below end) later) (filter (is_below end) later)) (filter (is_below end) later)
filter_first true c end p later e = ap (λ x. cond x (p ∷ filter (is_below end) later) (filter (is_below end) later)) e
filter_first false c end p later e = refl

either_same : {A : Type 0} (b : Bool) (a : A) → cond b a a ≡ a
either_same true a = refl
either_same false a = refl

none_below : (l : Labels) (before es : List Entry) (end : ℕ) → end ≤ length before → filter (is_below end) (samples_after l before es) ≡ []
none_below l before [] end h = refl
none_below l before (Def r m ∷ es) end h = none_below l (before ++ Def r m ∷ []) es end (omega (arith, length-append before (Def r m ∷ [])))
none_below l before (Sample r t w ∷ es) end h =
    let later = samples_after l (before ++ Sample r t w ∷ []) es in
    filter_first (has_labels l (labels_of before r (length before))) false end (length before, t, w) later (le-ltb (length before) end h)
    ∙ either_same (has_labels l (labels_of before r (length before))) (filter (is_below end) later)
    ∙ none_below l (before ++ Sample r t w ∷ []) es end (omega (arith, length-append before (Sample r t w ∷ [])))

below_is_take : (l : Labels) (before es : List Entry) (n end : ℕ) → end ≡ length before + n → filter (is_below end) (samples_after l before es) ≡ samples_after l before (take n es)
below_is_take l before [] zero end e = refl
below_is_take l before [] (suc n) end e = refl
below_is_take l before (d ∷ es) zero end e = none_below l before (d ∷ es) end (omega arith)
below_is_take l before (Def r m ∷ es) (suc n) end e = below_is_take l (before ++ Def r m ∷ []) es n end (omega (arith, length-append before (Def r m ∷ [])))
below_is_take l before (Sample r t w ∷ es) (suc n) end e =
    let later = samples_after l (before ++ Sample r t w ∷ []) es in
    let here : length before < end = omega arith in
    filter_first (has_labels l (labels_of before r (length before))) true end (length before, t, w) later (lt-ltb (length before) end here)
    ∙ ap (λ ps. cond (has_labels l (labels_of before r (length before))) ((length before, t, w) ∷ ps) ps)
    (below_is_take l (before ++ Sample r t w ∷ []) es n end (omega (arith, length-append before (Sample r t w ∷ []))))

-- the samples below a position are those of the entries below it
pub below_a_position : (choice : Choice) (es : List Entry) (l : Labels) (end : ℕ) → kept_points_below choice es l end ≡ kept_points choice (take end es) l
below_a_position choice es l end = filter_kept (is_kept choice l) (samples_after l [] es) ∙ ap (λ ps. cond (is_kept choice l) ps []) (below_is_take l [] es end end (omega arith))
  where
    filter_kept : (b : Bool) (ps : List Point) → filter (is_below end) (cond b ps []) ≡ cond b (filter (is_below end) ps) []
    filter_kept true ps = refl
    filter_kept false ps = refl
