use Rattle.std.proofs.Common.{◌∙◌, map}
use Rattle.rw_types.specs.Labels.{text_label}
use Rattle.rw_head.specs.Partial.{one_of}
use Rattle.rw_head.proofs.PartialLemmas.{judged_within, step_held, step_taken}
use Rattle.rw_head.proofs.partial.stage_each.Goals as goal

pub loop-sample-preserved : goal.loop-sample-preserved
loop-sample-preserved c =
    let limits = c.args.bounds.now in
    let l = map text_label c.args.labels.now in
    let ss = c.args.samples.now in
    let i = c.loop-sample.sample-index in
    let s = c.sample-item.result in
    let store = c.loop-sample.table.staged in
    let next = c.stage_one.new.table.staged in
    let is_taken = c.in_ok-is_taken.is_taken in
    let was = c.in_ok-is_taken.ensures.staged in
    let inv = c.loop-sample.invariant in record {
      kept = c.in_ok-is_taken.ensures.kept ∙ inv.kept;
      placed = c.in_ok-is_taken.ensures.placed ∙ inv.placed;
      forgets = c.in_ok-is_taken.ensures.forgets ∙ inv.forgets;
      within = judged_within limits (one_of l s) store next is_taken inv.within was;
      staged = inv.staged ∙ step_held limits l ss i s store next is_taken c.loop-sample-test.true c.sample-item.is was;
      taken = inv.taken ∙ step_taken limits l ss i s store next is_taken c.loop-sample.into.items c.put_if.new.into.items c.loop-sample-test.true c.sample-item.is was c.in_ok-put_if.ensures;
    }
