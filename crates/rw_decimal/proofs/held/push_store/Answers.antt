use Rattle.std.proofs.Common.{rules, ◌≡◌, ◌∷◌, ◌∙◌}
use Rattle.rw_head.specs.Store.{held_series}
use Rattle.rw_decimal.specs.DecimalStore.{IsReceivedText}
use Rattle.rw_decimal.proofs.PartLemmas.{writing_more}
use Rattle.rw_decimal.proofs.StoreLemmas.{same_received}
use Rattle.rw_decimal.proofs.held.push_store.Goals as goal

pub loop-series-preserved : goal.loop-series-preserved
loop-series-preserved c =
    let p = c.in_ok-push_received.ensures in let s = c.in-Some.series in
    let next : c.loop-series.all ≡ s ∷ c.next.new.self = search rules in
    let samples : c.deref.result.now ≡ s.1 = c.deref.ensures.value ∙ c.in_ok-samples.ensures in
    writing_more IsReceivedText (held_series c.args.head.now.store) c.args.out.now.items c.loop-series.out.items c.push_received.new.out.items p.0 s c.loop-series.all c.next.new.self c.loop-series.invariant next p.1
    (same_received c.labels.result.now s.0 c.deref.result.now s.1 p.0 c.labels.ensures samples p.2)
