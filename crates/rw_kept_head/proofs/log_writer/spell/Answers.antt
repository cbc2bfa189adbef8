use Rattle.std.proofs.Common.{◌++◌, [], ◌∷◌, ap}
use Rattle.rw_kept_head.specs.inner.Inner.{GoesOn}
use Rattle.rw_kept_head.proofs.KeptLemmas.{goes_next}
use Rattle.rw_kept_head.proofs.log_writer.spell.Goals as goal

pub returns-in-Ok-append-clause-ok : goal.returns-in-Ok-append-clause-ok
returns-in-Ok-append-clause-ok g c =
    let next = c.a_next_segment_may_begin.ensures.next (g.J.Journal.seen c.args.journal.now) c.args.end.now.offset c.requires.ends in
    goes_next c.segments_add_up.ensures (g.J.Journal.seen c.args.journal.now) (g.J.Journal.seen c.begin.new.self) (g.J.Journal.may_leave c.begin.new.self) c.new.result.offset next
    (c.a_next_segment_may_begin.ensures.whole (g.J.Journal.seen c.args.journal.now ++ [] ∷ []) 0 next) c.in_ok-begin.ensures.begun (ap (λ e. e.offset) c.new.ensures) c.in_ok-begin.ensures.durable

pub returns-in-Ok-append-clause-entries : goal.returns-in-Ok-append-clause-entries
returns-in-Ok-append-clause-entries g c =
    let next = c.a_next_segment_may_begin.ensures.next (g.J.Journal.seen c.args.journal.now) c.args.end.now.offset c.requires.ends in
    let on : GoesOn (g.J.Journal.seen c.args.journal.now) (g.J.Journal.seen c.begin.new.self) (g.J.Journal.may_leave c.begin.new.self) c.new.result.offset =
    goes_next c.segments_add_up.ensures (g.J.Journal.seen c.args.journal.now) (g.J.Journal.seen c.begin.new.self) (g.J.Journal.may_leave c.begin.new.self) c.new.result.offset next
    (c.a_next_segment_may_begin.ensures.whole (g.J.Journal.seen c.args.journal.now ++ [] ∷ []) 0 next) c.in_ok-begin.ensures.begun (ap (λ e. e.offset) c.new.ensures) c.in_ok-begin.ensures.durable in
    c.in-Ok-append.ensures.entries (g.J.Journal.seen c.begin.new.self) on.ends

pub returns-in-Err-append-clause-unspelled : goal.returns-in-Err-append-clause-unspelled
returns-in-Err-append-clause-unspelled g c =
    let next = c.a_next_segment_may_begin.ensures.next (g.J.Journal.seen c.args.journal.now) c.args.end.now.offset c.requires.ends in
    λ _.
    goes_next c.segments_add_up.ensures (g.J.Journal.seen c.args.journal.now) (g.J.Journal.seen c.begin.new.self) (g.J.Journal.may_leave c.begin.new.self) c.new.result.offset next
    (c.a_next_segment_may_begin.ensures.whole (g.J.Journal.seen c.args.journal.now ++ [] ∷ []) 0 next) c.in_ok-begin.ensures.begun (ap (λ e. e.offset) c.new.ensures) c.in_ok-begin.ensures.durable
