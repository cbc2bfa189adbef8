use Rattle.std.proofs.Common.{◌≡◌, ◌≤◌, ◌∙◌, ◌++◌, ◌∷◌, [], List, ℕ, length, take, sym, ap, arith}
use Rattle.std.specs.VecDeque.Iter.{deque_iter_rest}
use Rattle.std.proofs.lemmas.Iterator.Consumers.{YieldsList-from_deque, YieldsList-turn, YieldsList-end}
use Rattle.std.proofs.lemmas.List.{length_push, take_all}
use Rattle.rw_plain_queue.specs.Items.{places_in}
use Rattle.rw_plain_queue.specs.declared.item.Item.{Item}
use Rattle.rw_shard_core.specs.Shard.{positions_of}
use Rattle.rw_world.proofs.PendingLemmas.{items_more}
use Rattle.rw_world.proofs.shard.add_queued.Goals as goal

pub loop-item-preserved : goal.loop-item-preserved
loop-item-preserved c =
    let items = c.args.queue.now.items in
    let old = c.args.positions.now.items in
    let x = c.in-Some.item.now in
    let rest : deque_iter_rest c.into_iter-item-iterator.result ≡ items = cc in
    let t = YieldsList-turn (YieldsList-from_deque items rest) c.loop-item.yielded _ c.loop-item.yielded_by _ _ c.in-Some.item c.in-Some.is c.next.ensures.steps in
    c.in_ok-add_item.ensures ∙ ap (λ (xs : List ℕ). xs ++ positions_of (places_in (x ∷ []))) c.loop-item.invariant ∙ items_more old items (length c.loop-item.yielded) x t.0 t.1
    ∙ ap (λ (n : ℕ). old ++ positions_of (places_in (take n items))) (sym (length_push c.loop-item.yielded c.in-Some.item))

pub returns : goal.returns
returns c =
    let items = c.args.queue.now.items in
    let old = c.args.positions.now.items in
    let rest : deque_iter_rest c.into_iter-item-iterator.result ≡ items = cc in
    let t = YieldsList-end (YieldsList-from_deque items rest) c.loop-item.yielded _ c.loop-item.yielded_by _ _ c.in-None.is c.next.ensures.steps in
    let all : length items ≤ length c.loop-item.yielded = omega (arith, t.1) in
    c.loop-item.invariant ∙ ap (λ (xs : List Item). old ++ positions_of (places_in xs)) (take_all (length c.loop-item.yielded) items all)
