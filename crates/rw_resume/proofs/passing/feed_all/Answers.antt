use Rattle.std.proofs.Common.{◌+◌, ℕ, refl, sym, ◌∙◌, subst, arith}
use Rattle.rw_resume.specs.inner.Passing.{PassesTo}
use Rattle.rw_resume.proofs.PassingLemmas.{passes_more, passes_none, takes_no_fault, within_more}
use Rattle.rw_resume.proofs.passing.feed_all.Goals as goal

pub loop-passed-init : goal.loop-passed-init
loop-passed-init g c = record {
  most = omega arith;
  room = c.requires.room;
  passes = λ k h. passes_none (g.S.Segments.gave c.args.log.now) k c.args.tail.now c.args.definitions.now h c.requires.taken;
  later = λ may. may;
}

pub returns-then-is_some-clause-within : goal.returns-then-is_some-clause-within
returns-then-is_some-clause-within g c = λ e k h start given.
    within_more (g.S.Segments.gave c.args.log.now) (g.S.Segments.gave c.loop-passed.log) (g.S.Segments.gave c.feed_some.new.log) c.loop-passed.passed c.in_ok-read.read c.args.count k
    c.loop-passed.tail c.feed_some.new.tail c.take_all.new.tail c.args.definitions.now c.loop-passed.definitions c.take_all.new.taker c.in_ok-take_all.field-0 start
    (c.loop-passed.invariant.passes k h) c.in_ok-read.ensures.feeds c.in_ok-take_all.ensures.all c.take_all.ensures.pieces (sym c.is_some.ensures ∙ c.if-is_some.true) given

pub loop-passed-preserved : goal.loop-passed-preserved
loop-passed-preserved g c = record {
  most = let m = c.in_ok-read.ensures.most in let t = c.loop-passed-test.true in omega (arith, m, t);
  room = omega (arith, c.loop-passed.invariant.room, c.feed_some.auto.buf);
  passes = λ k h.
      passes_more (g.S.Segments.gave c.args.log.now) (g.S.Segments.gave c.loop-passed.log) (g.S.Segments.gave c.feed_some.new.log) c.loop-passed.passed c.in_ok-read.read (c.loop-passed.passed + c.in_ok-read.read) k
      c.loop-passed.tail c.feed_some.new.tail c.take_all.new.tail c.args.definitions.now c.loop-passed.definitions c.take_all.new.taker
      (c.loop-passed.invariant.passes k h) c.in_ok-read.ensures.feeds (takes_no_fault _ _ _ _ _ c.in_ok-take_all.ensures.all (sym c.is_some.ensures ∙ c.if-is_some.false)) c.take_all.ensures.pieces refl;
  later = λ may. c.loop-passed.invariant.later (c.feed_some.ensures.later may);
}

pub returns-clause-all : goal.returns-clause-all
returns-clause-all g c = λ e k h.
    let most = c.loop-passed.invariant.most in
    let end = c.loop-passed-test.false in
    subst (λ (n : ℕ). PassesTo (g.S.Segments.gave c.args.log.now) (g.S.Segments.gave c.loop-passed.log) n k c.loop-passed.tail c.args.definitions.now c.loop-passed.definitions) (omega (arith, most, end)) (c.loop-passed.invariant.passes k h)
