use Rattle.rw_report_text.proofs.shared.StateLemmas.{store_begins}
use Rattle.rw_report_text.proofs.state.push_store.Goals as goal

pub loop-series-init : goal.loop-series-init
loop-series-init c = store_begins c.args.head.now.store c.series-all.result c.args.out.now.items c.series-all.ensures.list c.series-all.ensures.lists
