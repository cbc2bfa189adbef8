use Rattle.std.proofs.Common.{◌≡◌, ◌<◌, ◌≤◌, ℕ, length, refl, sym, ap, ◌∙◌, subst, arith}
use Rattle.rw_sender.specs.Placement.{IsShardCount}
use Rattle.rw_sender.specs.inner.Shipping.{Rests}
use Rattle.rw_sender.specs.declared.place.Rest.{Rest}
use Rattle.rw_sender.proofs.shared.SkewLemmas.{begun_as, broken_as, len_begun, longer_of, longer_on, longer_self, over_broken, over_of, over_part, putting_as, putting_of, skew_as, whole_begun, whole_next, whole_on, within_as, within_of}
use Rattle.rw_sender.proofs.shared.ListingLemmas.{room_still}
use Rattle.rw_sender.proofs.epochs.place_over.Goals as goal

pub loop-init : goal.loop-init
loop-init g c = record {
  hand = c.requires.hand;
  longer = longer_self c.args.feeder.now;
  whole = whole_begun _ _ c.args.fleet.now;
  places = c.requires.places;
  limit = refl;
  most = refl;
  counted = c.requires.counted;
  since = c.requires.since;
  number = c.requires.number;
  room = c.requires.room;
}

pub returns-in_err-found-clause-over : goal.returns-in_err-found-clause-over
returns-in_err-found-clause-over g c =
    let was = c.loop.invariant in
    let placed = c.place_all.ensures in
    over_part _ _ _ _ c.loop.fleet _ was.whole (putting_as _ _ _ _ was.limit (putting_of _ _ _ _ _ placed.goes)) (skew_as _ _ _ _ was.most placed.spanned.skew)

pub returns-in_err-found-clause-longer : goal.returns-in_err-found-clause-longer
returns-in_err-found-clause-longer g c = longer_on _ _ _ c.loop.invariant.longer (longer_of _ _ _ _ _ c.place_all.ensures.goes)

pub returns-in_err-found-clause-room : goal.returns-in_err-found-clause-room
returns-in_err-found-clause-room g c = room_still c.loop.fleet c.place_all.new.fleet c.loop.samples c.loop.invariant.room c.place_all.ensures.goes.fleet c.place_all.ensures.goes.len

pub returns-in-Read-clause-whole : goal.returns-in-Read-clause-whole
returns-in-Read-clause-whole g c =
    let was = c.loop.invariant in
    let placed = c.place_all.ensures in
    whole_on _ _ _ c.loop.fleet _ was.whole (within_as _ _ _ _ _ _ was.limit was.most (within_of c.loop.cuts c.place_all.new.cuts c.loop.span c.place_all.new.span _ _ _ _ placed.goes c.in_ok-found.ensures.cut placed.spanned))

pub returns-in-Read-clause-over : goal.returns-in-Read-clause-over
returns-in-Read-clause-over g c =
    let was = c.loop.invariant in
    let placed = c.place_all.ensures in
    over_of _ _ _ _ _ (whole_on _ _ _ c.loop.fleet _ was.whole (within_as _ _ _ _ _ _ was.limit was.most (within_of c.loop.cuts c.place_all.new.cuts c.loop.span c.place_all.new.span _ _ _ _ placed.goes c.in_ok-found.ensures.cut placed.spanned)))

pub returns-in-Read-clause-longer : goal.returns-in-Read-clause-longer
returns-in-Read-clause-longer g c = longer_on _ _ _ c.loop.invariant.longer (longer_of _ _ _ _ _ c.place_all.ensures.goes)

pub returns-in-Read-clause-room : goal.returns-in-Read-clause-room
returns-in-Read-clause-room g c = room_still c.loop.fleet c.place_all.new.fleet c.loop.samples c.loop.invariant.room c.place_all.ensures.goes.fleet c.place_all.ensures.goes.len

pub loop-preserved : goal.loop-preserved
loop-preserved g c =
    let was = c.loop.invariant in
    let placed = c.place_all.ensures in
    let put = c.in_ok-put_in_next-in-Late.ensures in
    let whole = whole_on _ _ _ c.loop.fleet _ was.whole (within_as _ _ _ _ _ _ was.limit was.most (within_of c.loop.cuts c.place_all.new.cuts c.loop.span c.place_all.new.span _ _ _ _ placed.goes c.in_ok-found.ensures.cut placed.spanned)) in
    record {
      hand = put.hand;
      longer = longer_on _ _ _ (longer_on _ _ _ was.longer (longer_of _ _ _ _ _ placed.goes)) put.longer;
      whole = whole_next _ _ _ c.place_all.new.fleet _ whole (begun_as _ _ _ _ _ _ (placed.limit ∙ was.limit) (placed.spanned.most ∙ was.most) put.begun);
      places = put.places;
      limit = put.limit ∙ placed.limit ∙ was.limit;
      most = put.most ∙ placed.spanned.most ∙ was.most;
      counted = put.counted;
      since = put.since;
      number = subst IsShardCount (sym (len_begun _ _ _ _ put.begun ∙ placed.goes.len)) was.number;
      room = put.room;
    }

pub returns-in_err-put_in_next-in-Late-clause-over : goal.returns-in_err-put_in_next-in-Late-clause-over
returns-in_err-put_in_next-in-Late-clause-over g c =
    let was = c.loop.invariant in
    let placed = c.place_all.ensures in
    let put = c.in_err-put_in_next-in-Late.ensures in
    let whole = whole_on _ _ _ c.loop.fleet _ was.whole (within_as _ _ _ _ _ _ was.limit was.most (within_of c.loop.cuts c.place_all.new.cuts c.loop.span c.place_all.new.span _ _ _ _ placed.goes c.in_ok-found.ensures.cut placed.spanned)) in
    over_broken _ _ c.put_in_next.new.feeder _ c.place_all.new.fleet c.put_in_next.new.fleet whole (broken_as _ _ _ _ c.put_in_next.new.feeder c.place_all.new.fleet c.put_in_next.new.fleet (placed.limit ∙ was.limit) (placed.spanned.most ∙ was.most) put.broken)

pub returns-in_err-put_in_next-in-Late-clause-longer : goal.returns-in_err-put_in_next-in-Late-clause-longer
returns-in_err-put_in_next-in-Late-clause-longer g c =
    longer_on _ _ _ (longer_on _ _ _ c.loop.invariant.longer (longer_of _ _ _ _ _ c.place_all.ensures.goes)) c.put_in_next.ensures.longer
