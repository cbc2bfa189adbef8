use Rattle.std.proofs.Common.{◌≡◌, ◌∙◌, ◌++◌, ap}
use Rattle.std.proofs.lemmas.List.Sorted.{IsNonDecreasingBy-from_sort}
use Rattle.std.specs.Prelude.{◌==◌}
use Rattle.std.specs.List.{list_any}
use Rattle.rw_plain_queue.specs.Items.{Placed}
use Rattle.rw_machine.specs.Shards.{pending_in_shard}
use Rattle.rw_world.specs.Sending.{Sending}
use Rattle.rw_world.specs.inner.Sending.{all_pending}
use Rattle.rw_world.proofs.PendingLemmas.{all_found}
use Rattle.rw_world.proofs.shards.Shards.pending.Goals as goal

pub returns-clause-found : goal.returns-clause-found
returns-clause-found c =
    let s = c.self.inside in
    let all : c.add_pending.new.positions.items ≡ all_pending s.shards.items = c.in_ok-add_pending.ensures ∙ ap (λ xs. xs ++ all_pending c.deref.result.now) c.new-positions.ensures.items ∙ ap all_pending c.deref.ensures.value in
    λ pos. all_found pos s.shards.items c.add_pending.new.positions.items c.sort_unstable.new.self.items all c.sort_unstable.ensures.permutation
    ∙ ap (λ (v : Sending). list_any (λ s. list_any (λ (x : Placed). x.place.pos == pos) (pending_in_shard s)) v.shards) c.self.view_is

pub returns-clause-sorted : goal.returns-clause-sorted
returns-clause-sorted c = IsNonDecreasingBy-from_sort (λ x. x) c.sort_unstable.new.self.items c.sort_unstable.ensures.sorted
