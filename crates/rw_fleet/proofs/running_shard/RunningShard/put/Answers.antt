use mir.Val.{SFits, to_z, of_z}
use mir.Syntax.{w64}
use Rattle.std.proofs.Common.{rules, ◌≡◌, ◌<◌, Some, ◌∷◌, ◌++◌, [], length, refl, sym, ap, ◌∙◌, subst}
use Rattle.std.proofs.lemmas.Int.{to_z-of_z}
use Rattle.std.specs.Prelude.{slice_get}
use Rattle.rw_shard_queue.specs.Ends.{QueueId}
use Rattle.rw_plain_queue.specs.Items.{Placed, samples_in, places_in}
use Rattle.rw_plain_queue.specs.declared.item.Item.{Item}
use Rattle.rw_fleet.specs.ShardHistories.{ShardHistory, put_as, item_as, marks_in}
use Rattle.rw_fleet.specs.inner.Positions.{Positions}
use Rattle.rw_fleet.proofs.PutLemmas.{few_more, samples_more, positions_more, positions_length, as_put, as_item, marks_same_but}
use Rattle.rw_fleet.proofs.SoftLemmas.{unended_push}
use Rattle.rw_fleet.proofs.running_shard.RunningShard.put.Goals as goal

pub invariant_of-self-2 : goal.invariant_of-self-2
invariant_of-self-2 g c =
    let i = c.self.invariant in
    let queue = sym c.put.ensures.queue.0 in
    (positions_more _ _ _ _ _ _ c.in_default.ensures.put refl i.0 (ap (λ (p : Positions). p.all) c.push.ensures), i.1 ∙ ap (λ (q : QueueId). q.epoch) queue, i.2 ∙ ap (λ (q : QueueId). q.shard) queue, i.3 ∙ queue, i.4, i.5, unended_push _ _ _ c.in_default.ensures.put refl, ap (λ (p : Positions). p.most) c.push.ensures ∙ i.7, i.8)

pub put-requires : goal.put-requires
put-requires g c =
    let i = c.self.invariant in
    let len : c.len-seq.result ≡ length (places_in c.self.inside.feed.put) = c.len-seq.ensures ∙ positions_length c.self.inside.feed.put _ i.0 in
    (i.1, i.2, len, few_more c.self.inside.feed.put (record { epoch = c.self.inside.epoch; shard = c.self.inside.shard; seq = c.len-seq.result; pos = c.args.sample.pos; series = c.args.sample.series }) (to_z w64 (of_z w64 c.args.sample.t)) c.args.sample.word c.args.sample.labels (subst (λ n. n < 1152921504606846976) len c.if-seq.false), (λ k o at. c.requires.later k o (subst (λ (l : ShardHistory). slice_get (places_in l.put) k ≡ Some o) c.self.view_is at)))

pub returns-clause-put : goal.returns-clause-put
returns-clause-put g c =
    let i = c.self.invariant in
    let fits : SFits w64 c.args.sample.t = search rules in
    let len : c.len-seq.result ≡ length (places_in c.self.inside.feed.put) = c.len-seq.ensures ∙ positions_length c.self.inside.feed.put _ i.0 in
    let queue = sym i.3 in
    let lane : ShardHistory = record { setup = c.self.inside.worker.value; put = c.self.inside.feed.put } in
    samples_more _ _ _ c.in_default.ensures.put
    ∙ ap (λ (p : Placed). samples_in c.self.inside.feed.put ++ p ∷ []) (as_put lane c.args.sample _ _ _ _ (i.1 ∙ ap (λ (q : QueueId). q.epoch) queue) (i.2 ∙ ap (λ (q : QueueId). q.shard) queue) len (to_z-of_z w64 c.args.sample.t fits))
    ∙ ap (λ (l : ShardHistory). samples_in l.put ++ put_as l c.args.sample ∷ []) c.self.view_is

pub returns-clause-marks : goal.returns-clause-marks
returns-clause-marks g c = marks_same_but _ _ _ c.in_default.ensures.put refl ∙ ap (λ (l : ShardHistory). marks_in l.put) c.self.view_is

pub returns-clause-items : goal.returns-clause-items
returns-clause-items g c =
    let i = c.self.invariant in
    let fits : SFits w64 c.args.sample.t = search rules in
    let len : c.len-seq.result ≡ length (places_in c.self.inside.feed.put) = c.len-seq.ensures ∙ positions_length c.self.inside.feed.put _ i.0 in
    let queue = sym i.3 in
    let lane : ShardHistory = record { setup = c.self.inside.worker.value; put = c.self.inside.feed.put } in
    c.in_default.ensures.put
    ∙ ap (λ (x : Item). c.self.inside.feed.put ++ x ∷ []) (as_item lane c.args.sample _ _ _ _ (i.1 ∙ ap (λ (q : QueueId). q.epoch) queue) (i.2 ∙ ap (λ (q : QueueId). q.shard) queue) len (to_z-of_z w64 c.args.sample.t fits))
    ∙ ap (λ (l : ShardHistory). l.put ++ item_as l c.args.sample ∷ []) c.self.view_is
