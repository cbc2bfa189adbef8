use Rattle.std.proofs.Common.{◌≡◌, ℕ, ◌≤◌, ◌*◌, None, ap, subst, ◌∙◌}
use Rattle.std.specs.List.{AllByRecursion}
use Rattle.rw_wal_format.specs.Pieces.{page_size}
use Rattle.rw_kept_log.specs.Logs.{IsWholeText}
use Rattle.rw_kept_head.specs.Kept.{IsLastWithin}
use Rattle.rw_kept_head.proofs.KeptLemmas.{ends_whole, last_within}
use Rattle.rw_kept_head.proofs.log_writer.LogWriter.conforms.Goals as goal

pub returns-clause-whole : goal.returns-clause-whole
returns-clause-whole g c = λ none.
    let no_fault : c.self.inside.fault ≡ None = ap (λ w. w.fault) c.self.view_is ∙ none in
    subst (λ w. AllByRecursion (IsWholeText page_size) (g.J.Journal.seen w.journal)) c.self.view_is
    (ends_whole c.a_next_segment_may_begin.ensures.next c.a_next_segment_may_begin.ensures.whole (g.J.Journal.seen c.self.inside.journal) c.self.inside.end.offset ((c.self.invariant.3 no_fault).ends))

pub returns-clause-last : goal.returns-clause-last
returns-clause-last g c = λ none.
    let no_fault : c.self.inside.fault ≡ None = ap (λ w. w.fault) c.self.view_is ∙ none in
    subst (λ w. IsLastWithin w.pages (g.J.Journal.seen w.journal)) c.self.view_is
    (last_within (g.J.Journal.seen c.self.inside.journal) c.self.inside.end.offset c.self.inside.end.pages c.self.inside.pages (c.self.invariant.3 no_fault).ends
    c.conforms.ensures.place c.self.invariant.2)
