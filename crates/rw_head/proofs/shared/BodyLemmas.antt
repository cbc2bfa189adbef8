-- Bodies, series by series.
use Rattle.std.proofs.Common.{◌≡◌, ◌≢◌, ℕ, ◌<◌, ◌≤◌, List, [], ◌∷◌, ◌++◌, length, map, Bool, true, false, cond, Option, Some, None, Result, Ok, Err, ◌-◌, refl, sym, ◌∙◌, ap, subst, arith, append-nil, ◌^◌}
use Rattle.std.specs.Prelude.{is_some, nat_lt, ◌||◌, IfOk, String}
use Rattle.std.specs.Global.{Global}
use Rattle.std.proofs.lemmas.Bool.{lt-ltb}
use Rattle.rw_types.specs.Labels.{Labels, IsLabelSet, label_fault, text_label, text_len}
use Rattle.rw_types.specs.LabelFields.{label_fields}
use Rattle.rw_types.specs.declared.names.Names.TheVariants.{Utf8}
use Rattle.rw_write_request.specs.Canon.{series}
use Rattle.rw_write_request.proofs.shared.Meanings.{series-again}
use Rattle.rw_write_request.proofs.shared.Spelled.{series-spelled}
use Rattle.rw_write_request.proofs.shared.Validity.{set_texts}
use Rattle.rw_write_request.specs.Message.{Sample, TimeSeries, WriteRequest}
use Rattle.rw_write_request.specs.Parts.{read_on, read_on_after, IsHeadOf, SamplesGive}
use Rattle.rw_write_request.specs.Texts.{series_of_texts}
use Rattle.rw_write_request.specs.Read.{fields_in, read, read_series}
use Rattle.rw_write_request.specs.declared.fault.WireFault.{WireFault}
use Rattle.rw_write_request.specs.declared.fault.WireFault.TheVariants.{OutOfMemory, Truncated, VarintTooBig, WrongWire, BadWire, FieldZero, NotUtf8}
use Rattle.rw_head.specs.declared.verdict.Verdict.{Verdict}
use Rattle.rw_head.specs.declared.verdict.Verdict.TheVariants.{Stored, BadBody, BadLabels, OverLimit, OutOfOrder, NoMemory}
use Rattle.rw_head.specs.Store.{Store, list_of, total}
use Rattle.rw_head.specs.Order.{Point, points, accept}
use Rattle.rw_head.specs.Verdicts.{LabelLimits, is_over_limits, refusal, accepted, taken_unless, taken, taken_next, taken_all, judged}
use Rattle.rw_head.specs.Head.{State, status_of, judged_body}
use Rattle.rw_head.specs.Bodies.{verdict_of}
use Rattle.rw_head.specs.inner.Bodies.{HasFewLabels, Takes, Refuses, SeriesGives, KnownGives, known_of, RefusesAll}
use Rattle.rw_head.specs.inner.Lists.{StoreGives}
use Rattle.rw_head.proofs.shared.VerdictLemmas.{taken_all-err}

-- ---- a series that is refused is refused with 400
refusal_status : (limits : LabelLimits) (ls : Labels) (a b : Bool) (v : Verdict) → (cond a (Some BadLabels) (cond b (Some OverLimit) None)) ≡ Some v → status_of v ≡ 400
refusal_status limits ls true b v e = let same : BadLabels ≡ v = cc in subst (λ (w : Verdict). status_of w ≡ 400) same refl
refusal_status limits ls false true v e = let same : OverLimit ≡ v = cc in subst (λ (w : Verdict). status_of w ≡ 400) same refl
refusal_status limits ls false false v e = absurd cc

accepted_status : (l : Labels) (store : Store) (o : Option (List Point)) (v : Verdict) → accepted l store o ≡ Err v → status_of v ≡ 400
accepted_status l store None v e = let same : OutOfOrder ≡ v = cc in subst (λ (w : Verdict). status_of w ≡ 400) same refl
accepted_status l store (Some xs) v e = absurd cc

unless_status : (limits : LabelLimits) (store : Store) (s : TimeSeries) (o : Option Verdict) (v : Verdict) → refusal limits s.labels ≡ o → taken_unless o store s ≡ Err v → status_of v ≡ 400
unless_status limits store s (Some w) v r e =
    let same : w ≡ v = cc in
    subst (λ (x : Verdict). status_of x ≡ 400) same (refusal_status limits s.labels (is_some (label_fault limits.names s.labels)) (is_over_limits limits s.labels) w r)
unless_status limits store s None v r e = accepted_status s.labels store (accept (Some (list_of store s.labels)) (points s.samples)) v e

pub taken_status : (limits : LabelLimits) (store : Store) (s : TimeSeries) (v : Verdict) → taken limits store s ≡ Err v → status_of v ≡ 400
taken_status limits store s v e = unless_status limits store s (refusal limits s.labels) v refl e

pub refuses : (limits : LabelLimits) (store : Store) (r : Result TimeSeries WireFault) (s : TimeSeries) (v : Verdict) → r ≡ Ok s → taken limits store s ≡ Err v → (status_of v ≡ 400) × Refuses limits store r
refuses limits store r s v e bad = (taken_status limits store s v bad, subst (Refuses limits store) (sym e) (v, bad, taken_status limits store s v bad))

-- no series is spelled, unless memory ran out
is_bad : (e : WireFault) → verdict_of e ≢ NoMemory → (verdict_of e ≡ BadBody) × (e ≢ OutOfMemory)
is_bad OutOfMemory ne = absurd (ne refl)
is_bad Truncated ne = (refl, λ e. cc)
is_bad VarintTooBig ne = (refl, λ e. cc)
is_bad WrongWire ne = (refl, λ e. cc)
is_bad BadWire ne = (refl, λ e. cc)
is_bad FieldZero ne = (refl, λ e. cc)
is_bad NotUtf8 ne = (refl, λ e. cc)

pub faulty : (limits : LabelLimits) (store : Store) (r : Result TimeSeries WireFault) (e : WireFault) → (e ≢ OutOfMemory → r ≡ Err e) → verdict_of e ≢ NoMemory → (status_of (verdict_of e) ≡ 400) × Refuses limits store r
faulty limits store r e is ne = let bad = is_bad e ne in (ap status_of bad.0, subst (Refuses limits store) (sym (is bad.1)) tt)

pub faulty_status : (e : WireFault) → verdict_of e ≢ NoMemory → status_of (verdict_of e) ≡ 400
faulty_status e ne = ap status_of (is_bad e ne).0

pub series_gives : (r : Result (Unit {0}) Verdict) (limits : LabelLimits) (store next : Store) (series : Result TimeSeries WireFault) (s : TimeSeries) → series ≡ Ok s → StoreGives r (taken limits store s) next → SeriesGives r limits store series next
series_gives (Ok u) limits store next series s e given = (s, e, given)
series_gives (Err v) limits store next series s e given = λ ne. refuses limits store series s v e (given ne)

pub known_gives : (r : Result (Unit {0}) Verdict) (limits : LabelLimits) (store next : Store) (series : Result TimeSeries WireFault) (s : TimeSeries) → series ≡ Ok s → StoreGives r (taken limits store s) next → KnownGives (known_of r) limits store series next
known_gives (Ok u) limits store next series s e given = (s, e, given)
known_gives (Err v) limits store next series s e given = λ ne. refuses limits store series s v e (given ne)

pub known_true : (b : Bool) (limits : LabelLimits) (store next : Store) (series : Result TimeSeries WireFault) → b ≡ true → KnownGives (Ok b) limits store series next → Takes limits store series next
known_true true limits store next series e h = h
known_true false limits store next series e h = absurd cc

pub known_false : (b : Bool) (limits : LabelLimits) (store next : Store) (series : Result TimeSeries WireFault) → b ≡ false → KnownGives (Ok b) limits store series next → next ≡ store
known_false true limits store next series e h = absurd cc
known_false false limits store next series e h = h

pub all_read : (b : Bool) (labels : Labels) (samples : List Sample) (series : Result TimeSeries WireFault) → b ≡ true → SamplesGive (Ok b) labels samples series → series ≡ Ok (record { labels = labels; samples = samples })
all_read true labels samples series e h = h
all_read false labels samples series e h = absurd cc

pub head_spelled : (bytes : List ℕ) (s : TimeSeries) (texts ts : List (String Global × String Global)) (samples : List Sample) (labels : Labels) → read_series bytes ≡ Ok s → series_of_texts texts samples ≡ s → length samples ≡ 0 → ts ≡ texts → labels ≡ map text_label ts
    → IsHeadOf bytes labels
head_spelled bytes s texts ts [] labels r v n e l =
    let same : s ≡ record { labels = labels; samples = [] } = sym v ∙ ap (λ (ls : Labels). record { labels = ls; samples = [] }) (ap (map text_label) (sym e) ∙ sym l) in
    r ∙ ap Ok same
head_spelled bytes s texts ts (x ∷ xs) labels r v n e l = absurd (omega (arith, n))

-- one with too many labels
too_many : (limits : LabelLimits) (store : Store) (s : TimeSeries) (a b : Bool) → cond a (Some BadLabels) (cond (true || b) (Some OverLimit) None) ≡ refusal limits s.labels
    → Refuses limits store (Ok s)
too_many limits store s true b e = (BadLabels, ap (λ o. taken_unless o store s) (sym e), refl)
too_many limits store s false b e = (OverLimit, ap (λ o. taken_unless o store s) (sym e), refl)

pub few_labels : (limits : LabelLimits) (n : ℕ) (r : Result TimeSeries WireFault) → IfOk r (λ s. n ≡ length s.labels) → n ≤ limits.max_labels → HasFewLabels limits r
few_labels limits n (Ok s) e le = omega (arith, e, le)
few_labels limits n (Err e) is le = tt

pub over : (limits : LabelLimits) (store : Store) (n : ℕ) (r : Result TimeSeries WireFault) → IfOk r (λ s. n ≡ length s.labels) → limits.max_labels < n → Refuses limits store r
over limits store n (Ok s) e lt =
    let more : nat_lt limits.max_labels (length s.labels) ≡ true = lt-ltb limits.max_labels (length s.labels) (omega (arith, e, lt)) in
    too_many limits store s (is_some (label_fault limits.names s.labels)) (nat_lt limits.max_label_bytes (text_len s.labels))
    (ap (λ b. cond (is_some (label_fault limits.names s.labels)) (Some BadLabels) (cond (b || nat_lt limits.max_label_bytes (text_len s.labels)) (Some OverLimit) None)) (sym more))
over limits store n (Err e) h lt = tt

-- ---- one series after the other
taken_all-append : (limits : LabelLimits) (r : Result Store Verdict) (xs ys : WriteRequest) → taken_all limits r (xs ++ ys) ≡ taken_all limits (taken_all limits r xs) ys
taken_all-append limits r [] ys = refl
taken_all-append limits r (x ∷ xs) ys = taken_all-append limits (taken_next limits r x) xs ys

taken_all-push : (limits : LabelLimits) (first store : Store) (xs : WriteRequest) (x : TimeSeries) → taken_all limits (Ok first) xs ≡ Ok store → taken_all limits (Ok first) (xs ++ x ∷ []) ≡ taken limits store x
taken_all-push limits first store xs x e = taken_all-append limits (Ok first) xs (x ∷ []) ∙ ap (λ r. taken_all limits r (x ∷ [])) e

-- series were read and taken, and the rest of the body is still to be read
pub record HasStaged (limits : LabelLimits) (first store : Store) (body rest : List ℕ) : Type 0 where
  pub series : WriteRequest
  pub reads : read_on series rest ≡ read body
  pub takes : taken_all limits (Ok first) series ≡ Ok store

pub none_staged : (limits : LabelLimits) (store : Store) (body : List ℕ) → HasStaged limits store store body body
none_staged limits store body = record { series = []; reads = refl; takes = refl }

abbrev Passes : List ℕ → List ℕ → Type 0
Passes rest after = (m : WriteRequest) → read_on m rest ≡ read_on m after

abbrev Follows : List ℕ → List ℕ → List ℕ → Type 0
Follows rest bytes after = (m : WriteRequest) → read_on m rest ≡ read_on_after m (read_series bytes) after

pub passed_over : (limits : LabelLimits) (first store : Store) (body rest after : List ℕ) → Passes rest after → HasStaged limits first store body rest → HasStaged limits first store body after
passed_over limits first store body rest after p h = record { series = h.series; reads = sym (p h.series) ∙ h.reads; takes = h.takes }

pub one_more : (limits : LabelLimits) (first store next : Store) (body rest bytes after : List ℕ) → Follows rest bytes after → Takes limits store (read_series bytes) next → HasStaged limits first store body rest → HasStaged limits first next body after
one_more limits first store next body rest bytes after f t h = record {
  series = h.series ++ t.0 ∷ [];
  reads = sym (f h.series ∙ ap (λ (r : Result TimeSeries WireFault). read_on_after h.series r after) t.1) ∙ h.reads;
  takes = taken_all-push limits first store h.series t.0 h.takes ∙ t.2;
}

pub no_part : (limits : LabelLimits) (first store : Store) (body rest : List ℕ) (e : WireFault) → ((m : WriteRequest) → read_on m rest ≡ Err e) → HasStaged limits first store body rest → RefusesAll limits first (read body)
no_part limits first store body rest e f h = subst (RefusesAll limits first) (sym (f h.series) ∙ h.reads) tt

abbrev Stays : Type 0
Stays = (bytes : List ℕ) (before whole : WriteRequest) → read_on before bytes ≡ Ok whole → (more : WriteRequest) × (whole ≡ before ++ more)

refused_there : (limits : LabelLimits) (first store : Store) (m more whole : WriteRequest) (t : TimeSeries) (v : Verdict) → taken_all limits (Ok first) m ≡ Ok store → taken limits store t ≡ Err v → whole ≡ (m ++ t ∷ []) ++ more
    → taken_all limits (Ok first) whole ≡ Err v
refused_there limits first store m more whole t v good bad e =
    ap (taken_all limits (Ok first)) e ∙ taken_all-append limits (Ok first) (m ++ t ∷ []) more
    ∙ ap (λ r. taken_all limits r more) (taken_all-push limits first store m t good ∙ bad) ∙ taken_all-err limits v more

refused_part_at : (limits : LabelLimits) (first store : Store) (m : WriteRequest) (t : TimeSeries) (after : List ℕ) (r : Result WriteRequest WireFault) → Stays → taken_all limits (Ok first) m ≡ Ok store → Refuses limits store (Ok t)
    → read_on (m ++ t ∷ []) after ≡ r → RefusesAll limits first r
refused_part_at limits first store m t after (Err e) stays good bad is = tt
refused_part_at limits first store m t after (Ok whole) stays good bad is =
    let w = stays after (m ++ t ∷ []) whole is in
    (bad.0, refused_there limits first store m w.0 whole t bad.0 good bad.1 w.1, bad.2)

refused_part : (limits : LabelLimits) (first store : Store) (m : WriteRequest) (after : List ℕ) (s : Result TimeSeries WireFault) → Stays → taken_all limits (Ok first) m ≡ Ok store → Refuses limits store s
    → RefusesAll limits first (read_on_after m s after)
refused_part limits first store m after (Err e) stays good bad = tt
refused_part limits first store m after (Ok t) stays good bad = refused_part_at limits first store m t after (read_on (m ++ t ∷ []) after) stays good bad refl

pub bad_part : (limits : LabelLimits) (first store : Store) (body rest bytes after : List ℕ) → Stays → Follows rest bytes after → Refuses limits store (read_series bytes) → HasStaged limits first store body rest
    → RefusesAll limits first (read body)
bad_part limits first store body rest bytes after stays f bad h =
    subst (RefusesAll limits first) (sym (f h.series) ∙ h.reads) (refused_part limits first store h.series after (read_series bytes) stays h.takes bad)

no_bytes : (m : WriteRequest) (rest : List ℕ) → length rest ≡ 0 → read_on m rest ≡ Ok m
unfolding fields_in
no_bytes m [] e = refl
no_bytes m (b ∷ bs) e = absurd (omega (arith, e))

pub all_staged : (limits : LabelLimits) (first store : Store) (body rest : List ℕ) → length rest ≡ 0 → HasStaged limits first store body rest
    → (m : WriteRequest) × (read body ≡ Ok m) × (taken_all limits (Ok first) m ≡ Ok store)
all_staged limits first store body rest e h = (h.series, sym h.reads ∙ no_bytes h.series rest e, h.takes)

-- ---- the verdict on a body
pub taken_body : (h : State) (body : List ℕ) (next : Store) (m : WriteRequest) → read body ≡ Ok m → taken_all h.limits (Ok h.store) m ≡ Ok next
    → judged_body h (read body) ≡ record { verdict = Stored (total next - total h.store); store = next }
taken_body h body next m e t = ap (judged_body h) e ∙ ap (judged h.store) t

pub refused_status : (h : State) (r : Result WriteRequest WireFault) → RefusesAll h.limits h.store r → status_of (judged_body h r).verdict ≡ 400
refused_status h (Ok m) g = ap (λ q. status_of (judged h.store q).verdict) g.1 ∙ g.2
refused_status h (Err e) g = refl

pub refused_store : (h : State) (r : Result WriteRequest WireFault) → RefusesAll h.limits h.store r → (judged_body h r).store ≡ h.store
refused_store h (Ok m) g = ap (λ q. (judged h.store q).store) g.1
refused_store h (Err e) g = refl

-- the canonical fields of a label set spell it
pub fields_spell : (labels : Labels) → IsLabelSet Utf8 labels → length (label_fields labels) < 2 ^ 64 → IsHeadOf (label_fields labels) labels
unfolding series
fields_spell labels set short =
    let whole : TimeSeries = record { labels = labels; samples = [] } in
    let same : series whole ≡ label_fields labels = append-nil (label_fields labels) in
    let spelled = series-spelled whole (record { labels = set_texts labels set; samples = tt }) (subst (λ (bytes : List ℕ). length bytes < 2 ^ 64) (sym same) short) in
    subst (λ (bytes : List ℕ). read_series bytes ≡ Ok whole) same (series-again (series whole) whole spelled)
