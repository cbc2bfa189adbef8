use Rattle.std.proofs.Common.{◌≡◌, ◌++◌, ◌<◌, ℕ, List, length, ap, sym, ◌∙◌, subst, length-append, arith}
use Rattle.std.specs.List.{flat_map, AllByRecursion}
use Rattle.std.proofs.lemmas.List.{length-map}
use Rattle.rw_types.specs.Labels.{Labels}
use Rattle.rw_write_request.specs.Message.{Sample}
use Rattle.rw_write_request.specs.Canon.{series_head, sample_fields}
use Rattle.rw_batch.specs.Grouping.{LabelledSample}
use Rattle.rw_batch.specs.inner.Grouping.{series_at}
use Rattle.rw_batch.specs.inner.Kept.{field_at}
use Rattle.rw_batch.proofs.BodyLemmas.{len_of_parts, joined}
use Rattle.rw_batch.proofs.body.put_series.Goals as goal

pub put_series_head-requires-clause-fits : goal.put_series_head-requires-clause-fits
put_series_head-requires-clause-fits c =
    let s = series_at c.args.rows.now.samples c.args.place in
    rw (c.labels.ensures, c.sample_bytes.ensures) (omega (arith, len_of_parts s, c.requires.fits))

pub put_series_head-requires-clause-room : goal.put_series_head-requires-clause-room
put_series_head-requires-clause-room c =
    let s = series_at c.args.rows.now.samples c.args.place in
    rw (c.labels.ensures, c.sample_bytes.ensures) (omega (arith, len_of_parts s, c.requires.room))

pub put_numbered-requires-clause-within : goal.put_numbered-requires-clause-within
put_numbered-requires-clause-within c =
    let n : length c.args.fields.now.samples ≡ length c.args.rows.now.samples = ap length c.requires.same ∙ length-map c.args.rows.now.samples (λ (x : LabelledSample). x.sample) in
    subst (λ (js : List ℕ). AllByRecursion (λ j. j < length c.args.fields.now.samples) js) (sym c.deref.ensures.value)
    (subst (λ (m : ℕ). AllByRecursion (λ j. j < m) c.numbers.new.row.items) (sym n) c.numbers.ensures.within)

pub put_numbered-requires-clause-room : goal.put_numbered-requires-clause-room
put_numbered-requires-clause-room c =
    let s = series_at c.args.rows.now.samples c.args.place in
    let head = c.put_series_head.ensures.items ∙ ap (λ (l : Labels). c.args.out.now.items ++ series_head l c.sample_bytes.result) (c.labels.ensures)
    ∙ ap (λ (n : ℕ). c.args.out.now.items ++ series_head s.labels n) c.sample_bytes.ensures in
    let found = ap (flat_map (field_at c.args.fields.now.samples)) c.deref.ensures.value ∙ ap (λ (ss : List Sample). flat_map (field_at ss) c.numbers.new.row.items) c.requires.same ∙ c.numbers.ensures.fields in
    omega (arith, ap length head, length-append c.args.out.now.items (series_head s.labels (length (sample_fields s.samples))), ap length found, c.put_series_head.new.out.ok.0, c.args.out.now.ok.0, c.put_series_head.ensures.capacity, c.requires.room, len_of_parts s)

pub returns-clause-items : goal.returns-clause-items
returns-clause-items c =
    let s = series_at c.args.rows.now.samples c.args.place in
    let head = c.put_series_head.ensures.items ∙ ap (λ (l : Labels). c.args.out.now.items ++ series_head l c.sample_bytes.result) (c.labels.ensures)
    ∙ ap (λ (n : ℕ). c.args.out.now.items ++ series_head s.labels n) c.sample_bytes.ensures in
    let found = ap (flat_map (field_at c.args.fields.now.samples)) c.deref.ensures.value ∙ ap (λ (ss : List Sample). flat_map (field_at ss) c.numbers.new.row.items) c.requires.same ∙ c.numbers.ensures.fields in
    c.put_numbered.ensures.items ∙ joined s c.args.out.now.items c.put_series_head.new.out.items _ head found
