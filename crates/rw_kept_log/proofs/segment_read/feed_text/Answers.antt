use Rattle.std.proofs.Common.{[], refl, sym, ap, ◌∙◌, ◌++◌, List, ℕ, ◌≡◌, take, take-append-drop}
use Rattle.rw_kept_log.proofs.ReadingLemmas.{has_fed-none, fed_more}
use Rattle.rw_kept_log.proofs.segment_read.feed_text.Goals as goal

pub loop-rest-init : goal.loop-rest-init
loop-rest-init g c = record {
  some = record { read = []; parts = refl; fed = has_fed-none c.args.tail.now (g.S.Taker.taken c.args.sink.now) c.requires };
  fixed = refl;
}

pub loop-rest-preserved : goal.loop-rest-preserved
loop-rest-preserved g c =
    let cut : c.loop-rest.rest.now ≡ c.split_at.result.0.now ++ c.split_at.result.1.now =
    sym (ap (λ (f : List ℕ). f ++ c.split_at.result.1.now) c.split_at.ensures.front ∙ ap (λ (b : List ℕ). take c.if-rest-lt-CHUNK.len c.loop-rest.rest.now ++ b) c.split_at.ensures.back ∙ take-append-drop c.if-rest-lt-CHUNK.len c.loop-rest.rest.now) in
    record {
      some = fed_more _ _ _ _ _ _ _ _ _ _ _ c.loop-rest.invariant.some cut c.in_ok-feed.ensures.ok c.in_ok-feed.ensures.taken c.in_ok-take_all.ensures.all c.take_all.ensures.pieces;
      fixed = c.in_ok-take_all.ensures.fixed ∙ c.loop-rest.invariant.fixed;
    }
