use Rattle.std.proofs.Common.{List, ◌∙◌, ◌++◌, refl, sym, ap, subst, arith}
use Rattle.rw_types.specs.declared.entry.Entry.{Entry}
use Rattle.rw_wal_tail.specs.Taking.{HasTaken}
use Rattle.rw_log_read.specs.inner.Counted.{Unmoved}
use Rattle.rw_log_read.proofs.shared.LogLemmas.{passed_grows, reads_segment}
use Rattle.rw_log_read.proofs.log.read_segment.Goals as goal

pub read_text-requires : goal.read_text-requires
read_text-requires g c = record {
  room = c.requires.room;
  taken = subst (HasTaken c.begin_segment.new.tail) (sym (ap g.T.Taker.taken c.begin.ensures.taker)) (c.begin_segment.ensures.taken _ c.requires.sound.taken_all);
}

pub overflow_sub-row : goal.overflow_sub-row
overflow_sub-row g c =
    let ok = c.in_ok-read.ensures.ok in
    let grown = passed_grows _ _ _ _ _ _ _ _ c.requires.sound c.begin_segment.ensures.fed ok.same ok.all in
    omega (arith, grown, c.skipped-before.ensures, c.skipped.ensures)

pub returns-clause-ok : goal.returns-clause-ok
returns-clause-ok g c =
    let ok = c.in_ok-read.ensures.ok in
    let grown = passed_grows _ _ _ _ _ _ _ _ c.requires.sound c.begin_segment.ensures.fed ok.same ok.all in
    let before = ap (λ (u : Unmoved g.T.Taker.Fixed). u.before) c.in_ok-read.ensures.fixed ∙ c.begin.ensures.before in
    reads_segment _ _ _ _ _ _ _ _ _ _ _ _ _ _ _ c.begin_segment.ensures.fed (ap g.T.Taker.taken c.begin.ensures.taker) ok refl (λ more is. c.sums.ensures more (is ∙ ap (λ (es : List Entry). es ++ more) (sym before)))
    (omega (arith, grown, c.skipped-before.ensures, c.skipped.ensures))

pub returns-clause-fixed : goal.returns-clause-fixed
returns-clause-fixed g c = ap (λ (u : Unmoved g.T.Taker.Fixed). u.fixed) c.in_ok-read.ensures.fixed ∙ ap g.T.Taker.fixed c.begin.ensures.taker
