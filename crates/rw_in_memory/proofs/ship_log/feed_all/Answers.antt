use Rattle.std.proofs.Common.{refl, sym, ap, ◌∙◌, ◌++◌, ◌∷◌, [], length, append-nil, append_assoc, subst, arith}
use Rattle.rw_wal_tail.specs.Fed.{piece_of}
use Rattle.rw_sender.specs.Shipping.{Feeds, Joins}
use Rattle.rw_in_memory.proofs.ShipLemmas.{grown, fleet_on, fails}
use Rattle.rw_in_memory.proofs.ship_log.feed_all.Goals as goal

pub loop-piece-init : goal.loop-piece-init
loop-piece-init g c =
    let into = c.into_iter-piece-iterator.ensures.into_iter_gives in record {
      fault = c.requires.fault;
      read = c.requires.read;
      pieces = sym (append-nil _);
      choice = refl;
      labels = refl;
      fleet = refl;
      len = refl;
      left = sym into.0;
      counted = into.1 ∙ c.args.log.ok.0 ∙ ap length (sym into.0);
    }

pub loop-piece-preserved : goal.loop-piece-preserved
loop-piece-preserved g c =
    let i = c.loop-piece.invariant in
    let step = c.in-Some.ensures.steps in
    let more = c.loop-piece.yielded in
    let piece = c.in-Some.piece in
    let left = i.left ∙ ap (λ l. more ++ l) step.0 in
    let now = c.feed.new.self in
    let before = c.loop-piece.shipper in
    let e = c.feed.ensures in record {
      fault = (subst (Feeds now) c.in-Ok.is (e.fed i.fault)).1;
      read = (subst (Feeds now) c.in-Ok.is (e.fed i.fault)).0;
      pieces = grown c.args.shipper.now before now c.args.log.items more _ piece left i.pieces i.choice i.labels i.fleet i.len e.choice e.labels e.rest e.len (subst (Joins before.log now.log (piece_of piece)) c.in-Ok.is (e.pieces i.fault));
      choice = e.choice ∙ i.choice;
      labels = e.labels ∙ i.labels;
      fleet = fleet_on c.args.shipper.now before now c.args.log.items more _ piece left i.pieces i.choice i.labels i.fleet i.len e.choice e.labels e.rest e.len;
      len = e.len ∙ i.len;
      left = left ∙ sym (append_assoc more (piece ∷ []) _);
      counted = omega (arith, i.counted, step.1, ap length step.0);
    }

pub returns-in-Err : goal.returns-in-Err
returns-in-Err g c =
    let i = c.loop-piece.invariant in
    let step = c.in-Some.ensures.steps in
    let more = c.loop-piece.yielded in
    let piece = c.in-Some.piece in
    let now = c.feed.new.self in
    let before = c.loop-piece.shipper in
    let e = c.feed.ensures in
    fails c.args.shipper.now before now c.args.log.items more _ piece (i.left ∙ ap (λ l. more ++ l) step.0) i.pieces i.choice i.labels i.fleet i.len e.choice e.labels e.rest e.len
    c.in-Err.fault (subst (Feeds now) c.in-Err.is (e.fed i.fault)) (subst (Joins before.log now.log (piece_of piece)) c.in-Err.is (e.pieces i.fault))
