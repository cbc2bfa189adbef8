use Rattle.rw_text.proofs.EscapeLemmas.{inside_begins, inside_more, inside_ends, inside_fails, not_quoted}
use Rattle.rw_text.proofs.quotes.read_quoted.Goals as goal

pub returns-in_default-clause-err : goal.returns-in_default-clause-err
returns-in_default-clause-err c = λ e. not_quoted c.args.text.now c.in_default.ensures

pub loop-byte-init : goal.loop-byte-init
loop-byte-init c = rw c.clear.ensures.items (inside_begins c.args.text.now c.in-Some.inside.now c.in-Some.ensures)

pub loop-byte-preserved : goal.loop-byte-preserved
loop-byte-preserved c =
    rw c.in_ok-push_byte.ensures.ok (inside_more c.args.text.now c.loop-byte.out.items c.loop-byte.rest.now c.in-Some-read_byte.more.now c.in-Some-read_byte.byte c.loop-byte.invariant c.in-Some-read_byte.ensures)

pub returns-in-Some-after-clause-ok : goal.returns-in-Some-after-clause-ok
returns-in-Some-after-clause-ok c = inside_ends c.args.text.now c.loop-byte.out.items c.loop-byte.rest.now c.in-Some-after.more.now c.loop-byte.invariant c.in-Some-after.ensures

pub returns-in-None-clause-err : goal.returns-in-None-clause-err
returns-in-None-clause-err c = λ e. inside_fails c.args.text.now c.loop-byte.out.items c.loop-byte.rest.now c.loop-byte.invariant c.in-None.ensures c.in_default-read_byte.ensures
