use Rattle.std.proofs.Common.{length}
use Rattle.rw_report_text.specs.StateText.{received_text, store_text}
use Rattle.rw_report_text.proofs.shared.StateLemmas.{Written}
use Rattle.rw_report_text.proofs.state.push_store.Given as goal

abbrev pub invariant-loop-series : goal.invariant-loop-series
invariant-loop-series l = Written (λ s. received_text s.0 s.1) l.fn.out.items (store_text l.fn.head.store) l.out.items l.all

abbrev pub decreases-loop-series : goal.decreases-loop-series
decreases-loop-series l = length l.all
