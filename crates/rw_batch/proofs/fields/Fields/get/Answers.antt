use Rattle.std.proofs.Common.{◌<◌, ◌+◌, length, ap, ◌∙◌, arith}
use Rattle.rw_write_request.specs.Message.{Sample}
use Rattle.std.proofs.Common.{List}
use Rattle.rw_batch.specs.inner.Kept.{Fielded}
use Rattle.rw_batch.proofs.FieldLemmas.{get_here, marks_rise, marks_within, field_there, field_here}
use Rattle.rw_batch.proofs.fields.Fields.get.Goals as goal

pub index-requires : goal.index-requires
index-requires c =
    omega (arith, c.requires, ap (λ (f : Fielded). length f.samples) c.self.view_is, c.self.invariant.marked, c.self.inside.marks.ok.0)

pub index-requires-2 : goal.index-requires-2
index-requires-2 c =
    omega (arith, c.requires, ap (λ (f : Fielded). length f.samples) c.self.view_is, c.self.invariant.marked, c.self.inside.marks.ok.0)

pub part-requires : goal.part-requires
part-requires c =
    let ss : List Sample = c.self.inside.samples in
    let lt : c.args.k < length ss = omega (arith, c.requires, ap (λ (f : Fielded). length f.samples) c.self.view_is) in
    let m = c.self.invariant.marks_are c.args.k c.index.result.now (get_here c.self.inside.marks.items c.args.k c.index.result.now (omega (arith, lt, c.self.invariant.marked)) c.index.ensures) in
    let n = c.self.invariant.marks_are (c.args.k + 1) c.index-2.result.now (get_here c.self.inside.marks.items (c.args.k + 1) c.index-2.result.now (omega (arith, lt, c.self.invariant.marked)) c.index-2.ensures) in
    record {
      start = omega (arith, m, n, marks_rise ss c.args.k lt);
      end = omega (arith, n, marks_within ss (c.args.k + 1), ap length c.self.invariant.bytes_are, ap length c.deref.ensures.value);
    }

pub returns-clause-field : goal.returns-clause-field
returns-clause-field c =
    let ss : List Sample = c.self.inside.samples in
    let lt : c.args.k < length ss = omega (arith, c.requires, ap (λ (f : Fielded). length f.samples) c.self.view_is) in
    let m = c.self.invariant.marks_are c.args.k c.index.result.now (get_here c.self.inside.marks.items c.args.k c.index.result.now (omega (arith, lt, c.self.invariant.marked)) c.index.ensures) in
    let n = c.self.invariant.marks_are (c.args.k + 1) c.index-2.result.now (get_here c.self.inside.marks.items (c.args.k + 1) c.index-2.result.now (omega (arith, lt, c.self.invariant.marked)) c.index-2.ensures) in
    rw (← c.self.view_is) (c.part.ensures ∙ field_here ss c.args.k c.deref.result.now c.index.result.now c.index-2.result.now (c.deref.ensures.value ∙ c.self.invariant.bytes_are) m n lt)

pub returns-clause-sample : goal.returns-clause-sample
returns-clause-sample c s at =
    let ss : List Sample = c.self.inside.samples in
    let lt : c.args.k < length ss = omega (arith, c.requires, ap (λ (f : Fielded). length f.samples) c.self.view_is) in
    let m = c.self.invariant.marks_are c.args.k c.index.result.now (get_here c.self.inside.marks.items c.args.k c.index.result.now (omega (arith, lt, c.self.invariant.marked)) c.index.ensures) in
    let n = c.self.invariant.marks_are (c.args.k + 1) c.index-2.result.now (get_here c.self.inside.marks.items (c.args.k + 1) c.index-2.result.now (omega (arith, lt, c.self.invariant.marked)) c.index-2.ensures) in
    c.part.ensures ∙ field_there ss c.args.k s c.deref.result.now c.index.result.now c.index-2.result.now (c.deref.ensures.value ∙ c.self.invariant.bytes_are) m n (rw (← c.self.view_is) at at)
