use Rattle.std.proofs.Common.{inl, inr, lit<, arith}
use Rattle.rw_wal_format.specs.Pieces.{page_size}
use Rattle.rw_kept_log.proofs.WalkLemmas.{walked-none, goes_by, clean_there}
use Rattle.rw_kept_log.proofs.whole_records.whole_len.Goals as goal

pub loop-at-init : goal.loop-at-init
loop-at-init c = record { at = omega arith; whole = omega arith; walked = λ e. walked-none page_size c.args.text.now (lit< tt) }

pub returns-then-header-text-clause-clean : goal.returns-then-header-text-clause-clean
returns-then-header-text-clause-clean c = λ e.
    let step = goes_by page_size c.args.text.now c.loop-at.at c.loop-at.whole c.read_header-header.result (lit< tt) (c.loop-at.invariant.walked e) (omega (arith, c.loop-at-test.true, e)) c.read_header-header.ensures.is in
    absurd (omega (arith, step.fits, c.if-header-text.true))

pub loop-at-preserved-then-header : goal.loop-at-preserved-then-header
loop-at-preserved-then-header c = record {
  at = omega (arith, c.if-header-text.false, c.loop-at.invariant.at);
  whole = omega (arith, c.if-header-text.false, c.loop-at.invariant.at);
  walked = λ e. (goes_by page_size c.args.text.now c.loop-at.at c.loop-at.whole c.read_header-header.result (lit< tt) (c.loop-at.invariant.walked e) (omega (arith, c.loop-at-test.true, e)) c.read_header-header.ensures.is).ends c.if-header.true;
}

pub loop-at-preserved : goal.loop-at-preserved
loop-at-preserved c = record {
  at = omega (arith, c.if-header-text.false, c.loop-at.invariant.at);
  whole = c.loop-at.invariant.whole;
  walked = λ e. (goes_by page_size c.args.text.now c.loop-at.at c.loop-at.whole c.read_header-header.result (lit< tt) (c.loop-at.invariant.walked e) (omega (arith, c.loop-at-test.true, e)) c.read_header-header.ensures.is).more c.if-header.false;
}

pub returns-then-at-text-clause-clean : goal.returns-then-at-text-clause-clean
returns-then-at-text-clause-clean c = λ e.
    clean_there page_size c.args.text.now (lit< tt) c.loop-at.at c.loop-at.whole (c.loop-at.invariant.walked e) c.loop-at.invariant.at c.loop-at.invariant.whole (inr c.if-at-text.true)

pub returns-clause-clean : goal.returns-clause-clean
returns-clause-clean c = λ e.
    clean_there page_size c.args.text.now (lit< tt) c.loop-at.at c.loop-at.whole (c.loop-at.invariant.walked e) c.loop-at.invariant.at c.loop-at.invariant.whole (inl (omega (arith, c.loop-at-test.false, e)))
