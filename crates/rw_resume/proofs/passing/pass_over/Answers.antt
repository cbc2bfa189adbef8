use Rattle.std.proofs.Common.{◌≡◌, Ok, Some, ◌∙◌, ap}
use Rattle.rw_resume.specs.declared.passing.Passed.TheVariants as Passed
use Rattle.rw_resume.proofs.PassingLemmas.{has_passed, has_read, is_within}
use Rattle.rw_resume.proofs.passing.pass_over.Goals as goal

pub returns-in-Some-clause-within : goal.returns-in-Some-clause-within
returns-in-Some-clause-within g c = λ e start given.
    let is : c.in-Some.passed ≡ Passed.Within = cc in
    c.feed_all.ensures.within (c.in_ok-passed.was ∙ ap Ok (c.in-Some.is ∙ ap Some is)) c.args.may_compress c.in_ok-tail.ensures.text start given

pub returns-in-Some-clause-short : goal.returns-in-Some-clause-short
returns-in-Some-clause-short g c = λ n e.
    let is : c.in-Some.passed ≡ Passed.Short n = cc in
    let s = c.feed_all.ensures.short n (c.in_ok-passed.was ∙ ap Ok (c.in-Some.is ∙ ap Some is)) in
    (s.0, s.1, λ start given. has_read (g.S.Segments.gave c.args.log.now) (g.S.Segments.gave c.feed_all.new.log) c.args.may_compress n c.feed_all.new.tail start (s.2 c.args.may_compress c.in_ok-tail.ensures.text) given)

pub returns-then-branch-clause-record : goal.returns-then-branch-clause-record
returns-then-branch-clause-record g c = λ e start given.
    let p = c.feed_all.ensures.all (c.in_ok-passed.was ∙ ap Ok c.in_default.is) c.args.may_compress c.in_ok-tail.ensures.text in
    has_passed (g.S.Segments.gave c.args.log.now) (g.S.Segments.gave c.feed_all.new.log) c.args.may_compress c.args.count c.feed_all.new.tail c.args.definitions.now c.feed_all.new.definitions start p
    (c.record_ends.ensures.yes (c.in_ok-record_ends.was ∙ ap Ok c.if-branch.true) c.args.may_compress p.is.text p.drained p.is.len) given

pub returns-clause-within : goal.returns-clause-within
returns-clause-within g c = λ e start given.
    let p = c.feed_all.ensures.all (c.in_ok-passed.was ∙ ap Ok c.in_default.is) c.args.may_compress c.in_ok-tail.ensures.text in
    is_within (g.S.Segments.gave c.args.log.now) (g.S.Segments.gave c.feed_all.new.log) c.args.may_compress c.args.count c.feed_all.new.tail start p.is
    (c.record_ends.ensures.no (c.in_ok-record_ends.was ∙ ap Ok c.if-branch.false) c.args.may_compress p.is.text p.drained p.is.len) given
