use Rattle.std.proofs.Common.{◌≡◌, [], length, Bool, refl, ap, ◌∙◌, subst}
use Rattle.rw_sender.specs.Feeders.{Sorting}
use Rattle.rw_sender.proofs.shared.ShippingLemmas.{failed_so}
use Rattle.rw_send.specs.Logs.{Seen, seen_of}
use Rattle.rw_send.specs.Segments.{IsShortLog, meal_of}
use Rattle.rw_send.specs.Sending.{StopsAtOnce}
use Rattle.rw_send.specs.Steps.{HasComeTo, HasLapped}
use Rattle.rw_send.specs.inner.EpochSizes.{KeepsEpochSizes}
use Rattle.rw_send.specs.inner.Turns.{IsCut}
use Rattle.rw_send.proofs.AnswerLemmas.{answered, at_ok, cut_for, ends_for, fed_all, ok_start, on_start, signed_ok, why_stopped}
use Rattle.rw_send.proofs.EpochLemmas.{none_ended}
use Rattle.rw_send.proofs.EpochSizeLemmas.{sizes_at_first}
use Rattle.rw_send.proofs.ShortLemmas.{marked_begun, fed_begun}
use Rattle.rw_send.proofs.StepLemmas.{between}
use Rattle.rw_send.proofs.follow.ship.Goals as goal

pub returns : goal.returns
returns g c = λ start h.
    let live = c.ship_live-ended.ensures in
    let stopped = c.stop_shipper-report.ensures in
    let shipper = c.ship_live-ended.new.shipper in
    let segments = c.ship_live-ended.new.segments in
    let report = c.stop_shipper-report.result.report in
    let ended = c.ship_live-ended.result in
    let signed = c.or_stopped-answer in
    let fed = meal_of shipper.log.pieces in
    let log : Seen = seen_of (g.S.Segments.gave segments start) (g.S.Segments.had_all segments start) (g.S.Segments.lacks segments) (g.S.Segments.may_fail c.args.segments.now) in
    let before = g.W.Watch.said c.ship_live-ended.new.watch in
    let said = g.W.Watch.said signed.new.watch in
    let cause = StopsAtOnce log said fed signed.result in
    let unread : g.S.Segments.Start → Type 0 = λ a. g.S.Segments.gave c.args.segments.now a (meal_of []) in
    let cut = on_start unread (λ a e. IsCut shipper (seen_of (g.S.Segments.gave segments a) (g.S.Segments.had_all segments a) (g.S.Segments.lacks segments) (g.S.Segments.may_fail c.args.segments.now)) before e) ended start h live.cut in
    let whole = ok_start unread (λ a. g.S.Segments.had_all segments a fed) ended start h live.whole in
    let why = why_stopped shipper log before said report.outcome ended c.stop_shipper-report.result.answer signed.result stopped.answer signed.ensures.answer signed.ensures.watch cut in
    let least = c.of-sharding.ensures.fewest in
    let greatest = c.of-sharding.ensures.most in
    let started = c.in_ok-shipper.shipper in
    let choice : shipper.log.choice ≡ started.log.choice = λ i. (live.kept.0 i).0 in
    let labels : shipper.log.labels ≡ started.log.labels = λ i. (live.kept.0 i).1 in
    let begun = ap (λ (l : Sorting). l.pieces) c.in_ok-shipper.ensures.log in
    let opened = c.in_ok-shipper.ensures.opened in
    record {
      pieces = shipper.log.pieces;
      begins = live.begins start h;
      short = subst (λ (b : Bool). IsShortLog b shipper.log.pieces) (marked_begun _ _ begun) live.short;
      report = record {
        shipping = shipper;
        choice = choice ∙ ap (λ (l : Sorting). l.choice) c.in_ok-shipper.ensures.log;
        labels_are = labels ∙ ap (λ (l : Sorting). l.labels) c.in_ok-shipper.ensures.log;
        config = live.kept.1 ∙ c.in_ok-shipper.ensures.config;
        limit_is = λ sound. live.limit sound ∙ c.in_ok-shipper.ensures.limit;
        pieces_are = refl;
        but_last = live.but_last;
        stopped = stopped.stopped;
        placed = c.update_counters.ensures.placed;
        read = c.update_counters.ensures.read;
        ended = ends_for cause shipper report ended stopped.ended stopped.hard why;
        cut = cut_for cause shipper report ended stopped.cut why;
        failed = failed_so shipper.fault report.outcome stopped.failed;
        number = live.number;
        last = live.last (none_ended _ opened.1);
        capacity = c.of-sharding.ensures.capacity;
        batch = c.of-sharding.ensures.batch;
      };
      sizes = λ sound. between (λ fewest most. KeepsEpochSizes fewest most started.fleet shipper.fleet) least greatest (live.sizes sound) _ (sizes_at_first _ _ _ started.fleet opened.0 opened.1 opened.2);
      started = started;
      start = record {
        pieces = begun;
        ended = opened.1;
        epoch = opened.0;
        shards = opened.2;
        fresh = opened.3;
        limit_is = c.in_ok-shipper.ensures.limit;
      };
      laps = λ q. between (λ fewest most. HasComeTo fewest most log.gave fed started shipper) least greatest (live.laps q start h);
      lapped = λ ok q. between (λ fewest most. HasLapped fewest most (length fed.whole) started shipper) least greatest
          (at_ok ended live.lapped (stopped.whole (signed_ok before said c.stop_shipper-report.result.answer signed.result signed.ensures.answer ok)) q);
      idle = λ q none. live.idle q start h none;
      answers = answered shipper log before said fed report.outcome ended c.stop_shipper-report.result.answer signed.result stopped.answer stopped.hard cut (fed_all log before fed ended whole live.signed) stopped.whole signed.ensures.answer signed.ensures.watch;
      heeds = signed.ensures.heeded;
    }

pub ship_live-ended-requires-clause-begun : goal.ship_live-ended-requires-clause-begun
ship_live-ended-requires-clause-begun g c κs within = fed_begun _ _ (ap (λ (l : Sorting). l.pieces) c.in_ok-shipper.ensures.log)
