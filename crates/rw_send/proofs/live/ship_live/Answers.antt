use Rattle.std.proofs.Common.{[], length, Result, Ok, Err, IfErr, inl, refl, sym, ap, ◌∙◌, subst, rules}
use Rattle.rw_follow.specs.Meals.{Meal}
use Rattle.rw_follow.specs.Turns.{given_by}
use Rattle.rw_send.specs.Drained.{IsCount}
use Rattle.rw_send.specs.Logs.{seen_of}
use Rattle.rw_send.specs.Segments.{meal_of}
use Rattle.rw_send.specs.Steps.{HasLapped}
use Rattle.rw_send.specs.declared.feed_error.FeedError.{FeedError}
use Rattle.rw_send.specs.inner.FeedErrors.{HasDamage}
use Rattle.rw_send.specs.inner.Turns.{IsCut, IsDone, IsUndone}
use Rattle.rw_send.proofs.EpochLemmas.{last_same}
use Rattle.rw_send.proofs.EpochSizeLemmas.{sizes_on}
use Rattle.rw_send.proofs.FeedErrorLemmas.{count_so, err_so, failed_is, on_err}
use Rattle.rw_send.proofs.IntactLemmas.{intact_at_first, sound_at_first}
use Rattle.rw_send.proofs.KeepLemmas.{soon_reshards}
use Rattle.rw_send.proofs.LapLemmas.{come_to, idle_halted, idle_on, lapped}
use Rattle.rw_send.proofs.OverLemmas.{undivided_so}
use Rattle.rw_send.proofs.LoopLemmas.{almost, cut_broken, cut_halted, damage_broken, damage_halted}
use Rattle.rw_send.proofs.MealLemmas.{meal_begun}
use Rattle.rw_send.proofs.ShortLemmas.{short_begun}
use Rattle.rw_send.proofs.StepLemmas.{between, stays}
use Rattle.rw_send.proofs.TurnLemmas.{failed_not, goes_so, same_ok, unset_reshards}
use Rattle.rw_send.proofs.live.ship_live.Goals as goal

pub loop-init : goal.loop-init
loop-init g c = record {
  kept = search rules;
  limit = search rules;
  short = short_begun c.args.shipper.now.log.pieces c.requires.begun;
  but_last = sound_at_first c.args.shipper.now.log.pieces c.requires.begun;
  intact = intact_at_first c.args.shipper.now.log.pieces c.requires.begun;
  live = search rules;
  shards = search rules;
  range = (refl, refl);
  sizes = λ _ h. h;
  laps = λ _. subst (λ (m : Meal). HasLapped c.args.sharding.fewest c.args.sharding.most (length m.whole) c.args.shipper.now c.args.shipper.now) (sym (meal_begun c.args.shipper.now.log.pieces c.requires.begun)) (stays c.args.shipper.now);
  idle = λ _ _. refl;
  quiet = λ q. (undivided_so _ _ q).1;
  given = λ start h. subst (λ (m : Meal). g.S.Segments.gave c.args.segments.now start m) (sym (meal_begun c.args.shipper.now.log.pieces c.requires.begun)) h;
  followed = search rules;
  fails = λ f h. h;
  resolved = search rules;
  room = search rules;
  small = search rules;
  counted = inl (sym (ap (λ (m : Meal). length m.begun) (meal_begun c.args.shipper.now.log.pieces c.requires.begun)));
}

pub loop-preserved : goal.loop-preserved
loop-preserved g c =
    let was = c.loop.invariant in
    let turn = c.in_ok-turn.ensures in
    let soon = c.in_ok-next.ensures in
    let step = c.in_ok-sharding.ensures in
    let whole = soon_reshards c.in_ok-turn.turn c.turn.new.buf c.loop.sharding c.in_ok-next.next c.loop.shipper c.keep_if_due.new.shipper c.step.new.shipper _ soon.kept soon.config step.reshards in
    let keeps = whole.keeps in
    record {
      kept = (keeps.kept.0 ∙ was.kept.0, keeps.kept.1 ∙ was.kept.1);
      limit = keeps.limit keeps.live ∙ was.limit;
      short = keeps.short _ was.short;
      but_last = keeps.but_last was.but_last;
      intact = keeps.intact;
      live = keeps.live;
      shards = keeps.shards;
      range = (keeps.range.0 ∙ was.range.0, keeps.range.1 ∙ was.range.1);
      sizes = sizes_on c.args.sharding.fewest c.args.sharding.most c.loop.sharding.fewest c.loop.sharding.most c.args.shipper.now.fleet c.loop.shipper.fleet c.step.new.shipper.fleet was.range was.sizes (keeps.sizes keeps.live);
      laps = λ q.
          let hushed = turn.hushed (was.quiet q) in
          let due = c.is_reshard_due-is_due.ensures.quiet (soon.quiet hushed) in
          let goes = goes_so c.in_ok-turn.turn c.turn.new.buf c.loop.sharding c.in_ok-next.next c.loop.shipper c.keep_if_due.new.shipper c.step.new.shipper _
          (same_ok c.in_ok-next.next c.loop.sharding (soon.done hushed)) (soon.same hushed) (step.goes (undivided_so _ _ q).0 due.1) in
          lapped c.args.sharding.fewest c.args.sharding.most c.in_ok-turn.turn c.turn.new.buf c.args.shipper.now c.loop.shipper c.step.new.shipper (was.laps q)
          (between (λ fewest most. IsDone fewest most c.in_ok-turn.turn c.loop.shipper c.step.new.shipper) was.range.0 was.range.1 goes.done)
          (λ e. turn.unasked (was.quiet q) (ap Ok e)) goes.fed;
      idle = λ q.
          let hushed = turn.hushed (was.quiet q) in
          let due = c.is_reshard_due-is_due.ensures.quiet (soon.quiet hushed) in
          let goes = goes_so c.in_ok-turn.turn c.turn.new.buf c.loop.sharding c.in_ok-next.next c.loop.shipper c.keep_if_due.new.shipper c.step.new.shipper _
          (same_ok c.in_ok-next.next c.loop.sharding (soon.done hushed)) (soon.same hushed) (step.goes (undivided_so _ _ q).0 due.1) in
          idle_on c.loop.sharding.fewest c.loop.sharding.most c.in_ok-turn.turn c.turn.new.buf c.args.shipper.now c.loop.shipper c.step.new.shipper (was.idle q) goes.done
          (λ e. turn.unasked (was.quiet q) (ap Ok e)) turn.piece (λ n e. turn.some n (ap Ok e)) goes.fed;
      quiet = λ q. (c.is_reshard_due-is_due.ensures.quiet (soon.quiet (turn.hushed (was.quiet q)))).0;
      given = λ start h. subst (λ (m : Meal). g.S.Segments.gave c.turn.new.segments start m) (sym whole.fed) (turn.given start (meal_of c.loop.shipper.log.pieces) (was.given start h));
      followed = turn.followed;
      fails = λ f h. was.fails f (turn.later f h);
      resolved = λ done. keeps.resolved (was.resolved done);
      room = search rules;
      small = search rules;
      counted = subst (λ (m : Meal). IsCount c.fed_with-fed.result (length m.begun)) (sym whole.fed) (c.fed_with-fed.ensures c.turn.new.buf (meal_of c.loop.shipper.log.pieces) turn.piece was.counted);
    }

pub returns-in_err-sharding : goal.returns-in_err-sharding
returns-in_err-sharding g c =
    let was = c.loop.invariant in
    let turn = c.in_ok-turn.ensures in
    let soon = c.in_ok-next.ensures in
    let step = c.in_err-sharding.ensures in
    let whole = soon_reshards c.in_ok-turn.turn c.turn.new.buf c.loop.sharding c.in_ok-next.next c.loop.shipper c.keep_if_due.new.shipper c.step.new.shipper _ soon.kept soon.config step.reshards in
    let keeps = whole.keeps in
    let is_err = c.from_residual-in_err-sharding.ensures.1 in
    record {
      kept = (keeps.kept.0 ∙ was.kept.0, keeps.kept.1 ∙ was.kept.1);
      limit = λ sound. keeps.limit sound ∙ was.limit;
      number = keeps.number;
      sizes = λ sound. sizes_on c.args.sharding.fewest c.args.sharding.most c.loop.sharding.fewest c.loop.sharding.most c.args.shipper.now.fleet c.loop.shipper.fleet c.step.new.shipper.fleet was.range was.sizes (keeps.sizes sound);
      laps = λ q start h.
          let hushed = turn.hushed (was.quiet q) in
          let due = c.is_reshard_due-is_due.ensures.quiet (soon.quiet hushed) in
          let goes = goes_so c.in_ok-turn.turn c.turn.new.buf c.loop.sharding c.in_ok-next.next c.loop.shipper c.keep_if_due.new.shipper c.step.new.shipper _
          (same_ok c.in_ok-next.next c.loop.sharding (soon.done hushed)) (soon.same hushed) (step.goes (undivided_so _ _ q).0 due.1) in
          come_to c.args.sharding.fewest c.args.sharding.most c.in_ok-turn.turn c.turn.new.buf (g.S.Segments.gave c.turn.new.segments start) c.args.shipper.now c.loop.shipper c.step.new.shipper (was.laps q)
          (between (λ fewest most. IsUndone fewest most c.in_ok-turn.turn c.loop.shipper c.step.new.shipper) was.range.0 was.range.1 goes.halted)
          (λ e. turn.unasked (was.quiet q) (ap Ok e)) goes.part (turn.given start (meal_of c.loop.shipper.log.pieces) (was.given start h));
      lapped = on_err _ _ _ is_err;
      idle = λ q start h none.
          let hushed = turn.hushed (was.quiet q) in
          let due = c.is_reshard_due-is_due.ensures.quiet (soon.quiet hushed) in
          let goes = goes_so c.in_ok-turn.turn c.turn.new.buf c.loop.sharding c.in_ok-next.next c.loop.shipper c.keep_if_due.new.shipper c.step.new.shipper _
          (same_ok c.in_ok-next.next c.loop.sharding (soon.done hushed)) (soon.same hushed) (step.goes (undivided_so _ _ q).0 due.1) in
          idle_halted c.loop.sharding.fewest c.loop.sharding.most c.in_ok-turn.turn c.turn.new.buf c.args.shipper.now c.loop.shipper c.step.new.shipper goes.halted
          (λ e. turn.unasked (was.quiet q) (ap Ok e)) turn.piece (λ n e. turn.some n (ap Ok e)) (none (given_by c.in_ok-turn.turn c.turn.new.buf (meal_of c.loop.shipper.log.pieces)) (turn.given start (meal_of c.loop.shipper.log.pieces) (was.given start h)));
      last = λ done. keeps.last (was.resolved done);
      short = keeps.short _ was.short;
      but_last = keeps.but_last was.but_last;
      live = on_err _ _ _ is_err;
      begins = λ start h. almost (g.S.Segments.gave c.turn.new.segments start) c.in_ok-turn.turn c.turn.new.buf (meal_of c.loop.shipper.log.pieces) (meal_of c.step.new.shipper.log.pieces)
          (turn.given start (meal_of c.loop.shipper.log.pieces) (was.given start h)) whole.part;
      whole = on_err _ _ _ is_err;
      signed = on_err _ _ _ is_err;
      damaged = err_so _ _ _ is_err (damage_halted c.in_ok-turn.turn c.loop.shipper c.step.new.shipper _ whole.halts);
      cut = err_so _ _ _ is_err (λ start h.
          cut_halted c.loop.shipper c.step.new.shipper
          (seen_of (g.S.Segments.gave c.turn.new.segments start) (g.S.Segments.had_all c.turn.new.segments start) (g.S.Segments.lacks c.turn.new.segments) (g.S.Segments.may_fail c.args.segments.now))
          _ c.in_ok-turn.turn c.turn.new.buf _ whole.halts (turn.given start (meal_of c.loop.shipper.log.pieces) (was.given start h)) turn.piece (λ n e. turn.some n (ap Ok e)));
    }

pub returns-in_err-next : goal.returns-in_err-next
returns-in_err-next g c =
    let was = c.loop.invariant in
    let turn = c.in_ok-turn.ensures in
    let set = c.in_err-next.ensures in
    let shipper = c.keep_if_due.new.shipper in
    let whole = unset_reshards c.in_ok-turn.turn c.turn.new.buf c.loop.sharding c.loop.shipper shipper set.placed set.unset.log set.unset.limit set.unset.fleet set.config set.failed was.shards in
    let keeps = whole.keeps in
    let is_err = c.from_residual-in_err-next.ensures.1 in
    let failed = failed_is _ _ is_err set.err in
    record {
      kept = (keeps.kept.0 ∙ was.kept.0, keeps.kept.1 ∙ was.kept.1);
      limit = λ sound. keeps.limit sound ∙ was.limit;
      number = keeps.number;
      sizes = λ sound. sizes_on c.args.sharding.fewest c.args.sharding.most c.loop.sharding.fewest c.loop.sharding.most c.args.shipper.now.fleet c.loop.shipper.fleet shipper.fleet was.range was.sizes (keeps.sizes sound);
      laps = λ q start h. absurd (failed_not c.loop.sharding _ (set.done (turn.hushed (was.quiet q))));
      lapped = on_err _ _ _ is_err;
      idle = λ q start h none. absurd (failed_not c.loop.sharding _ (set.done (turn.hushed (was.quiet q))));
      last = λ done. keeps.last (was.resolved done);
      short = keeps.short _ was.short;
      but_last = keeps.but_last was.but_last;
      live = on_err _ _ _ is_err;
      begins = λ start h. almost (g.S.Segments.gave c.turn.new.segments start) c.in_ok-turn.turn c.turn.new.buf (meal_of c.loop.shipper.log.pieces) (meal_of shipper.log.pieces)
          (turn.given start (meal_of c.loop.shipper.log.pieces) (was.given start h)) whole.part;
      whole = on_err _ _ _ is_err;
      signed = on_err _ _ _ is_err;
      damaged = subst (λ (r : Result (Unit {0}) FeedError). IfErr r (HasDamage shipper)) failed tt;
      cut = subst (λ (r : Result (Unit {0}) FeedError). IfErr r (λ e. (start : g.S.Segments.Start) → g.S.Segments.gave c.args.segments.now start (meal_of []) → IsCut shipper
          (seen_of (g.S.Segments.gave c.turn.new.segments start) (g.S.Segments.had_all c.turn.new.segments start) (g.S.Segments.lacks c.turn.new.segments) (g.S.Segments.may_fail c.args.segments.now))
          (g.W.Watch.said c.keep_if_due.new.watch) e)) failed (λ start h. inl set.failed);
    }

pub returns-in_err-turn-clause-cut : goal.returns-in_err-turn-clause-cut
returns-in_err-turn-clause-cut g c =
    let turn = c.in_err-turn.ensures in
    err_so _ _ _ c.from_residual.ensures.1 (λ start h.
    cut_broken c.loop.shipper
    (seen_of (g.S.Segments.gave c.turn.new.segments start) (g.S.Segments.had_all c.turn.new.segments start) (g.S.Segments.lacks c.turn.new.segments) (g.S.Segments.may_fail c.args.segments.now))
    _ _ (λ n e. turn.missing n (ap Err e)) (λ f e. c.loop.invariant.fails f (turn.fails f (ap Err e))))

pub returns-in_err-turn-clause-damaged : goal.returns-in_err-turn-clause-damaged
returns-in_err-turn-clause-damaged g c = err_so _ _ _ c.from_residual.ensures.1 (damage_broken c.loop.shipper _)

pub returns-in_err-turn-clause-begins : goal.returns-in_err-turn-clause-begins
returns-in_err-turn-clause-begins g c = λ start h. inl (c.in_err-turn.ensures.given start _ (c.loop.invariant.given start h))

pub returns-in_err-turn-clause-lapped : goal.returns-in_err-turn-clause-lapped
returns-in_err-turn-clause-lapped g c = on_err _ _ _ c.from_residual.ensures.1

pub returns-in_err-turn-clause-laps : goal.returns-in_err-turn-clause-laps
returns-in_err-turn-clause-laps g c = λ q start h. inl (c.loop.invariant.laps q)

pub returns-in_err-turn-clause-idle : goal.returns-in_err-turn-clause-idle
returns-in_err-turn-clause-idle g c = λ q start h none. c.loop.invariant.idle q (none (meal_of c.loop.shipper.log.pieces) (c.in_err-turn.ensures.given start _ (c.loop.invariant.given start h)))

pub returns-in_err-turn-clause-last : goal.returns-in_err-turn-clause-last
returns-in_err-turn-clause-last g c = λ done. last_same c.loop.shipper (c.loop.invariant.resolved done) (count_so c.loop.invariant.shards c.loop.sharding.some c.loop.sharding.few)

pub returns-in_err-turn-clause-number : goal.returns-in_err-turn-clause-number
returns-in_err-turn-clause-number g c = λ _. count_so c.loop.invariant.shards c.loop.sharding.some c.loop.sharding.few
