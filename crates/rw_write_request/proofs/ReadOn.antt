-- A message part by part, and a series after its head.
use Rattle.std.proofs.Common.{◌≡◌, ◌≢◌, ℕ, ◌<◌, ◌≤◌, true, false, eqb, List, [], ◌∷◌, ◌++◌, length, Result, Ok, Err, refl, sym, ap, ◌∙◌, append_assoc, append-nil, length-append, inl, inr, eq-eqb, arith}
use Rattle.std.specs.Prelude.{IfOk}
use Rattle.std.proofs.lemmas.Bool.{ne_eqb}
use Rattle.std.specs.List.{AllByRecursion}
use Rattle.rw_codes.specs.Varint.{◌>>=◌}
use Rattle.rw_types.specs.Labels.{Labels}
use Rattle.rw_write_request.specs.declared.fault.WireFault.{WireFault}
use Rattle.rw_write_request.specs.declared.fault.WireFault.TheVariants.{WrongWire}
use Rattle.rw_write_request.specs.declared.kind.Kind.{Kind}
use Rattle.rw_write_request.specs.declared.kind.Kind.TheVariants as kinds
use Rattle.rw_write_request.specs.Message.{Sample, TimeSeries, WriteRequest}
use Rattle.rw_write_request.specs.Fields.{Content, Bytes, Field, AreFields, HasKnownWire, contents}
use Rattle.rw_write_request.specs.Spells.{EachSpells, SpellsLabel, AreFieldsOf}
use Rattle.rw_write_request.specs.Read.{field_at, nested, read_fields, read_label, read_series, request_step, series_step}
use Rattle.rw_write_request.specs.Parts.{read_on, read_on_after, series_on, IsHeadOf}
use Rattle.rw_write_request.proofs.Results.{bind_ok, bind-is, chosen}
use Rattle.rw_write_request.proofs.Loop.{field-shorter, more}
use Rattle.rw_write_request.proofs.Grammar.{field-again, fold_fields, read-takes}
use Rattle.rw_write_request.proofs.shared.Meanings.{ok_is, series-takes, samples-longer, labels-longer}

-- ---- a message
passed : (m : WriteRequest) (f : Field) → f.number ≢ 1 → request_step m f ≡ Ok m
unfolding request_step
passed m f ne = let no : eqb f.number 1 ≡ false = ne_eqb f.number 1 ne in rw no refl

pub other_part : (bytes : List ℕ) (f : Field) (rest : List ℕ) (m : WriteRequest) → 0 < length bytes → field_at kinds.WriteRequest bytes ≡ Ok (f, rest) → f.number ≢ 1 → read_on m bytes ≡ read_on m rest
other_part bytes f rest m lt at ne = more kinds.WriteRequest request_step m bytes f rest lt at ∙ ap (λ (r : Result WriteRequest WireFault). r >>= λ next. read_on next rest) (passed m f ne)

series_next : (m : WriteRequest) (rest : List ℕ) (r : Result TimeSeries WireFault)
    → ((r >>= λ s. (let made : Result WriteRequest WireFault = Ok (m ++ s ∷ []) in made)) >>= λ next. read_on next rest) ≡ read_on_after m r rest
series_next m rest (Ok s) = refl
series_next m rest (Err e) = refl

brought : (m : WriteRequest) (f : Field) → f.number ≡ 1 → request_step m f ≡ (nested read_series f.content >>= λ s. Ok (m ++ s ∷ []))
unfolding request_step
brought m f e = let yes : eqb f.number 1 ≡ true = eq-eqb f.number 1 e in rw yes refl

pub series_part : (bytes series : List ℕ) (f : Field) (rest : List ℕ) (m : WriteRequest) → 0 < length bytes → field_at kinds.WriteRequest bytes ≡ Ok (f, rest) → f.number ≡ 1 → f.content ≡ Bytes series
    → read_on m bytes ≡ read_on_after m (read_series series) rest
unfolding nested
series_part bytes series f rest m lt at e is =
    more kinds.WriteRequest request_step m bytes f rest lt at ∙ ap (λ (r : Result WriteRequest WireFault). r >>= λ next. read_on next rest) (brought m f e)
    ∙ ap (λ (c : Content). (nested read_series c >>= λ s. (let made : Result WriteRequest WireFault = Ok (m ++ s ∷ []) in made)) >>= λ next. read_on next rest) is
    ∙ series_next m rest (read_series series)

pub wrong_part : (bytes : List ℕ) (f : Field) (rest : List ℕ) (m : WriteRequest) → 0 < length bytes → field_at kinds.WriteRequest bytes ≡ Ok (f, rest) → f.number ≡ 1 → nested read_series f.content ≡ Err WrongWire → read_on m bytes ≡ Err WrongWire
wrong_part bytes f rest m lt at e is =
    more kinds.WriteRequest request_step m bytes f rest lt at ∙ ap (λ (r : Result WriteRequest WireFault). r >>= λ next. read_on next rest) (brought m f e)
    ∙ ap (λ (r : Result TimeSeries WireFault). (r >>= λ s. (let made : Result WriteRequest WireFault = Ok (m ++ s ∷ []) in made)) >>= λ next. read_on next rest) is

-- a field adds a series at most
abbrev Longer : WriteRequest → WriteRequest → Type 0
Longer before whole = (more : WriteRequest) × (whole ≡ before ++ more)

step_longer : (m next : WriteRequest) (f : Field) → request_step m f ≡ Ok next → Longer m next
unfolding request_step
step_longer m next f e =
    elim (chosen (eqb f.number 1) _ _ (Ok next) e) [
      | inl p ↦ let h = bind_ok (nested read_series f.content) (λ s. Ok (m ++ s ∷ [])) next p.1 in (h.0 ∷ [], sym (ok_is (m ++ h.0 ∷ []) next h.2))
      | inr p ↦ ([], sym (ok_is m next p.1) ∙ sym (append-nil m))
    ]

fold_longer : (fs : List Field) (m whole : WriteRequest) → fold_fields request_step m fs ≡ Ok whole → Longer m whole
fold_longer [] m whole e = ([], sym (ok_is m whole e) ∙ sym (append-nil m))
fold_longer (f ∷ fs) m whole e =
    let n = bind_ok (request_step m f) (λ next. fold_fields request_step next fs) whole e in
    let a = step_longer m n.0 f n.1 in
    let b = fold_longer fs n.0 whole n.2 in
    (a.0 ++ b.0, b.1 ∙ ap (λ (ms : WriteRequest). ms ++ b.0) a.1 ∙ append_assoc m a.0 b.0)

pub read_longer : (bytes : List ℕ) (before whole : WriteRequest) → read_on before bytes ≡ Ok whole → Longer before whole
read_longer bytes before whole e = let t = read-takes kinds.WriteRequest request_step before bytes whole e in fold_longer t.fields before whole t.folded

-- ---- a series
length-spelled : {X : Type 0} (S : List ℕ → X → Type 0) (cs : List Content) (xs : List X) → EachSpells S cs xs → length cs ≡ length xs
length-spelled S [] [] h = refl
length-spelled S [] (x ∷ xs) h = absurd h
length-spelled S (Bytes b ∷ cs) [] h = absurd h
length-spelled S (Bytes b ∷ cs) (x ∷ xs) h = let e = length-spelled S cs xs h.1 in omega (arith, e)
length-spelled S (c ∷ cs) xs h = absurd h

pub labels_counted : (bytes : List ℕ) (n : ℕ) (r : Result TimeSeries WireFault) → ((fields : List Field) → AreFieldsOf kinds.TimeSeries bytes fields → n ≡ length (contents 1 fields)) → read_series bytes ≡ r → IfOk r (λ s. n ≡ length s.labels)
labels_counted bytes n (Ok s) h e = let t = series-takes bytes s e in h t.fields t.are ∙ length-spelled SpellsLabel (contents 1 t.fields) s.labels t.labels
labels_counted bytes n (Err e) h is = tt

-- what whole fields were read to is gone on from, whatever follows them, a fault too
reads_on : {X : Type 0} (kind : Kind) (step : X → Field → Result X WireFault) (so_far x : X) (head tail : List ℕ) (fs : List Field) → AreFields head fs → AllByRecursion (HasKnownWire kind) fs → fold_fields step so_far fs ≡ Ok x → read_fields kind step so_far (head ++ tail) ≡ read_fields kind step x tail
reads_on kind step so_far x head tail [] h w e = let same : so_far ≡ x = cc in rw (h, same) refl
reads_on kind step so_far x head tail (f ∷ fs) h w e =
    let n = bind_ok (step so_far f) (λ next. fold_fields step next fs) x e in
    let rest : List ℕ = h.1 ++ tail in
    let parts : head ++ tail ≡ h.0 ++ rest = ap (λ (y : List ℕ). y ++ tail) h.2 ∙ append_assoc h.0 h.1 tail in
    let at : field_at kind (head ++ tail) ≡ Ok (f, rest) = ap (field_at kind) parts ∙ field-again kind h.0 f rest h.3 w.0 in
    let s = field-shorter kind (head ++ tail) (f, rest) at in
    let lt : 0 < length (head ++ tail) = omega arith in
    more kind step so_far (head ++ tail) f rest lt at ∙ bind-is (step so_far f) (λ next. read_fields kind step next rest) n.0 (read_fields kind step x tail) n.1 (reads_on kind step n.0 x h.1 tail fs h.4 w.1 n.2)

-- a series goes on from its head
pub behind_head : (head tail : List ℕ) (labels : Labels) → IsHeadOf head labels → read_series (head ++ tail) ≡ read_fields kinds.TimeSeries series_step (record { labels = labels; samples = [] }) tail
behind_head head tail labels e =
    let none : TimeSeries = record { labels = []; samples = [] } in
    let s : TimeSeries = record { labels = labels; samples = [] } in
    let t = read-takes kinds.TimeSeries series_step none head s e in
    reads_on kinds.TimeSeries series_step none s head tail t.fields t.spelled t.wires t.folded

-- a series that is read goes on after each of its fields
pub goes_further : (s : TimeSeries) (f : Field) (bytes after : List ℕ) (whole : TimeSeries) → 0 < length bytes → field_at kinds.TimeSeries bytes ≡ Ok (f, after) → series_on s bytes ≡ Ok whole
    → (next : TimeSeries) × (series_step s f ≡ Ok next) × (series_on next after ≡ Ok whole)
goes_further s f bytes after whole lt at is = bind_ok (series_step s f) (λ next. series_on next after) whole (sym (more kinds.TimeSeries series_step s bytes f after lt at) ∙ is)

-- and has no fault
pub not_both : (r : Result TimeSeries WireFault) (whole : TimeSeries) (e : WireFault) → r ≡ Ok whole → r ≡ Err e → ⊥
not_both r whole e is bad = cc

-- a label that is read is one more label of the series
labelled : (s : TimeSeries) (f : Field) → f.number ≡ 1 → series_step s f ≡ (nested read_label f.content >>= λ l. Ok (record { labels = s.labels ++ l ∷ []; samples = s.samples }))
unfolding series_step
labelled s f e = let yes : eqb f.number 1 ≡ true = eq-eqb f.number 1 e in rw yes refl

pub one_label_more : (s : TimeSeries) (f : Field) (bytes after : List ℕ) (whole : TimeSeries) → 0 < length bytes → field_at kinds.TimeSeries bytes ≡ Ok (f, after) → f.number ≡ 1 → series_on s bytes ≡ Ok whole → length s.labels < length whole.labels
one_label_more s f bytes after whole lt at one is =
    let n = goes_further s f bytes after whole lt at is in
    let h = bind_ok (nested read_label f.content) (λ l. Ok (record { labels = s.labels ++ l ∷ []; samples = s.samples })) n.0 (sym (labelled s f one) ∙ n.1) in
    let step = ap (λ (x : TimeSeries). length x.labels) (ok_is (record { labels = s.labels ++ h.0 ∷ []; samples = s.samples }) n.0 h.2) in
    let longer = labels-longer after n.0 whole n.2 in
    let first = length-append s.labels (h.0 ∷ []) in
    let then_more = ap (λ (ls : Labels). length ls) longer.1 ∙ length-append n.0.labels longer.0 in
    omega (arith, step, first, then_more)

-- no more samples were read than the series has
pub no_more_samples : (s : TimeSeries) (bytes : List ℕ) (whole : TimeSeries) → series_on s bytes ≡ Ok whole → length s.samples ≤ length whole.samples
no_more_samples s bytes whole is =
    let longer = samples-longer bytes s whole is in
    let e = ap (λ (xs : List Sample). length xs) longer.1 ∙ length-append s.samples longer.0 in
    omega (arith, e)
