use Rattle.std.proofs.Common.{◌≡◌, ◌<◌, ◌++◌, Ok, length, sym, ◌∙◌, arith, rules}
use Rattle.std.proofs.lemmas.Result.{err_from_is_err_and}
use Rattle.rw_write_request.specs.declared.kind.Kind.TheVariants as kinds
use Rattle.rw_write_request.specs.Message.{TimeSeries}
use Rattle.rw_write_request.specs.Parts.{series_on}
use Rattle.rw_write_request.specs.inner.View.{field_view}
use Rattle.rw_write_request.specs.Read.{series_step, read_series}
use Rattle.rw_write_request.proofs.Loop.{goes_on, bad_field, bad_step, done, field-shorter}
use Rattle.rw_write_request.proofs.ReadOn.{behind_head, one_label_more, no_more_samples}
use Rattle.rw_write_request.proofs.parts.read_samples.Goals as goal
use Rattle.rw_write_request.proofs.parts.read_samples.Goals.{then-part-eq1-via-then-part-eq1, then-part-eq1-via-else-part-eq1+then-len-ge-MOST_SAMPLES}

pub returns-in_err-part-clause-given : goal.returns-in_err-part-clause-given
returns-in_err-part-clause-given c =
    let p = err_from_is_err_and c.from_residual.result c.from_residual.ensures.1 in
    let more : 0 < length c.loop-rest.rest.now = search rules in
    rw (p.1, p.2) (λ head labels is _. bad_field kinds.TimeSeries series_step (record { labels = labels; samples = c.loop-rest.samples.items }) c.loop-rest.rest.now c.in_err-part.field-0.0 (read_series (head ++ c.args.bytes.now)) more c.in_err-part.ensures
    (c.loop-rest.invariant.read labels ∙ sym (behind_head head c.args.bytes.now labels is)))

pub returns-in_err-add_sample-clause-given : goal.returns-in_err-add_sample-clause-given
returns-in_err-add_sample-clause-given c =
    let p = err_from_is_err_and c.from_residual-in_err-add_sample.result c.from_residual-in_err-add_sample.ensures.1 in
    let more : 0 < length c.loop-rest.rest.now = search rules in
    rw (p.1, p.2) (λ head labels is ne. bad_step kinds.TimeSeries series_step (record { labels = labels; samples = c.loop-rest.samples.items }) c.loop-rest.rest.now (field_view c.in_ok-part.part) c.in_ok-part.after.now c.in_err-add_sample.field-0.0 (read_series (head ++ c.args.bytes.now)) more c.in_ok-part.ensures
    (c.in_err-add_sample.ensures.step labels ne) (c.loop-rest.invariant.read labels ∙ sym (behind_head head c.args.bytes.now labels is)))

pub loop-rest-smaller : goal.loop-rest-smaller
loop-rest-smaller c = field-shorter kinds.TimeSeries c.loop-rest.rest.now (field_view c.in_ok-part.part, c.in_ok-part.after.now) c.in_ok-part.ensures

pub loop-rest-preserved : goal.loop-rest-preserved
loop-rest-preserved c =
    let more : 0 < length c.loop-rest.rest.now = search rules in
    record {
      read = λ labels. goes_on kinds.TimeSeries series_step (record { labels = labels; samples = c.loop-rest.samples.items }) (record { labels = labels; samples = c.add_sample.new.samples.items }) c.loop-rest.rest.now (field_view c.in_ok-part.part) c.in_ok-part.after.now _ more c.in_ok-part.ensures
          (c.in_ok-add_sample.ensures.step labels) (c.loop-rest.invariant.read labels);
      few = omega (arith, c.in_ok-add_sample.ensures.one, c.len.ensures);
    }

pub returns-clause-given : goal.returns-clause-given
returns-clause-given c = λ head labels is.
    done kinds.TimeSeries series_step (record { labels = labels; samples = c.loop-rest.samples.items }) c.loop-rest.rest.now (read_series (head ++ c.args.bytes.now)) (search rules)
    (c.loop-rest.invariant.read labels ∙ sym (behind_head head c.args.bytes.now labels is))

pub returns-then-part-eq1-clause-enough : goal.returns-then-part-eq1-clause-enough
returns-then-part-eq1-clause-enough c = λ head whole is read few refused.
    let more : 0 < length c.loop-rest.rest.now = search rules in
    let here : TimeSeries = record { labels = whole.labels; samples = c.loop-rest.samples.items } in
    let on : series_on here c.loop-rest.rest.now ≡ Ok whole = c.loop-rest.invariant.read whole.labels ∙ sym (behind_head head c.args.bytes.now whole.labels is) ∙ read in
    elim c.then-part-eq1.branch [
      | then-part-eq1-via-then-part-eq1 w ↦
          let longer = one_label_more here (field_view c.in_ok-part.part) c.loop-rest.rest.now c.in_ok-part.after.now whole more c.in_ok-part.ensures w.if-part-eq1.true on in omega (arith, longer)
      | then-part-eq1-via-else-part-eq1+then-len-ge-MOST_SAMPLES w ↦
          let longer = no_more_samples here c.loop-rest.rest.now whole on in omega (arith, longer, w.if-len-ge-MOST_SAMPLES.true, w.len.ensures, few)
    ]
