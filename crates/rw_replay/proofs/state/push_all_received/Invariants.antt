use Rattle.std.proofs.Common.{length}
use Rattle.rw_head.specs.Store.{list_of}
use Rattle.rw_report_text.specs.StateText.{received_text, store_text}
use Rattle.rw_report_text.proofs.shared.StateLemmas.{Written}
use Rattle.rw_replay.proofs.state.push_all_received.Given as goal

abbrev pub invariant-loop-labels : goal.invariant-loop-labels
invariant-loop-labels l = Written (λ x. received_text x (list_of l.fn.world.world.head.store x)) l.fn.out.items (store_text l.fn.world.world.head.store) l.out.items l.label_sets

abbrev pub decreases-loop-labels : goal.decreases-loop-labels
decreases-loop-labels l = length l.label_sets
