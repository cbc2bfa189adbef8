use Rattle.std.proofs.Common.{rules}
use Rattle.std.proofs.lemmas.Bool.{MatchBool-at_true, MatchBool-at_false}
use Rattle.rw_log_commands.proofs.shared.FillingLemmas.{filling_begins, filling_more, line_is_good, filling_stops, filling_ends}
use Rattle.rw_log_commands.proofs.filled.fill.Goals as goal

pub loop-alloc-init : goal.loop-alloc-init
loop-alloc-init c = filling_begins c.args.pages c.args.text.now c.in_ok-writer.writer c.in_ok-writer.ensures

pub log_line-requires-clause-good : goal.log_line-requires-clause-good
log_line-requires-clause-good c =
    line_is_good c.args.pages c.args.text.now c.loop-alloc.writer c.loop-alloc.rest.now c.first_line.result.0.now c.first_line.result.1.now c.requires.good c.loop-alloc.invariant c.first_line.ensures.parts

pub log_line-requires-clause-memory : goal.log_line-requires-clause-memory
log_line-requires-clause-memory c = c.loop-alloc.invariant.memory

pub returns-then-not-branch : goal.returns-then-not-branch
returns-then-not-branch c =
    let took = c.in_ok-log_line.ensures in
    rw c.end_filling.ensures.rest (filling_stops c.args.pages c.args.text.now c.loop-alloc.writer c.log_line.new.writer c.loop-alloc.rest.now c.first_line.result.0.now c.first_line.result.1.now
    c.end_filling.result.segment.items c.loop-alloc.invariant c.first_line.ensures.parts (took.0, took.1, MatchBool-at_false _ _ c.if-not-branch.true took.2) c.end_filling.ensures.segment)

pub loop-alloc-preserved : goal.loop-alloc-preserved
loop-alloc-preserved c =
    let took = c.in_ok-log_line.ensures in
    filling_more c.args.pages c.args.text.now c.loop-alloc.writer c.log_line.new.writer c.loop-alloc.rest.now c.first_line.result.0.now c.first_line.result.1.now
    c.loop-alloc.invariant c.first_line.ensures.parts (took.0, took.1, MatchBool-at_true _ _ c.if-not-branch.false took.2)

pub returns : goal.returns
returns c =
    rw c.end_filling-2.ensures.rest (filling_ends c.args.pages c.args.text.now c.loop-alloc.writer c.loop-alloc.rest.now c.end_filling-2.result.segment.items c.loop-alloc.invariant
    (search rules) c.end_filling-2.ensures.segment)
