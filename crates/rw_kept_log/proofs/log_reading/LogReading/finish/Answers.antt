use Rattle.std.proofs.Common.{◌≡◌, ◌∙◌, ap, subst}
use Rattle.rw_wal_format.specs.Pieces.{page_size}
use Rattle.rw_kept_log.specs.Journal.{Segments}
use Rattle.rw_kept_log.specs.Logs.{entries_of, IsWholeText}
use Rattle.rw_kept_log.specs.TornLogs.{AllBefore}
use Rattle.rw_kept_log.specs.Reopening.{HasDamage, IsEnd}
use Rattle.rw_kept_log.specs.Taken.{LogTaken}
use Rattle.rw_kept_log.proofs.log_reading.LogReading.finish.Goals as goal

pub returns-in-Ok-clause-entries : goal.returns-in-Ok-clause-entries
returns-in-Ok-clause-entries g c =
    let found = c.self.invariant c.if-failed.false in
    let ends = c.in-Ok.ensures.end c.self.inside.segments (g.S.Taker.taken c.self.inside.sink.taker) c.greatest.ensures found.1 in
    ap g.S.Taker.taken c.into_taker.ensures ∙ subst (λ (s : Segments). g.S.Taker.taken c.self.inside.sink.taker ≡ entries_of page_size s) (ap (λ (l : LogTaken _). l.segments) c.self.view_is) ends.taken

pub returns-in-Ok-clause-end : goal.returns-in-Ok-clause-end
returns-in-Ok-clause-end g c =
    let found = c.self.invariant c.if-failed.false in
    let ends = c.in-Ok.ensures.end c.self.inside.segments (g.S.Taker.taken c.self.inside.sink.taker) c.greatest.ensures found.1 in
    subst (λ (s : Segments). IsEnd s c.in-Ok.end) (ap (λ (l : LogTaken _). l.segments) c.self.view_is) ends.end_is

pub returns-in-Ok-clause-whole : goal.returns-in-Ok-clause-whole
returns-in-Ok-clause-whole g c =
    let found = c.self.invariant c.if-failed.false in
    let ends = c.in-Ok.ensures.end c.self.inside.segments (g.S.Taker.taken c.self.inside.sink.taker) c.greatest.ensures found.1 in
    subst (AllBefore (IsWholeText page_size)) (ap (λ (l : LogTaken _). l.segments) c.self.view_is) ends.whole

pub returns-clause-damaged : goal.returns-clause-damaged
returns-clause-damaged g c =
    let found = c.self.invariant c.if-failed.false in
    subst (λ (s : Segments). HasDamage s c.in-Err.error) (ap (λ (l : LogTaken _). l.segments) c.self.view_is) (c.in-Err.ensures.damaged c.self.inside.segments (g.S.Taker.taken c.self.inside.sink.taker) found.1)
