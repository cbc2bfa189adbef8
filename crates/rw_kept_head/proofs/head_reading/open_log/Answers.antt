use Rattle.std.proofs.Common.{◌≡◌, ◌+◌, ℕ, List, None, refl, ap, sym, subst, ◌∙◌, rules}
use Rattle.rw_types.specs.declared.entry.Entry.{Entry}
use Rattle.rw_wal_format.specs.Pieces.{page_size}
use Rattle.rw_kept_log.specs.Journal.{Segments}
use Rattle.rw_kept_log.specs.Logs.{entries_of, IsWholeText}
use Rattle.rw_kept_log.specs.TornLogs.{AllBefore}
use Rattle.rw_kept_log.proofs.shared.Moments.{started}
use Rattle.rw_kept_log.specs.Reading.{greatest_after}
use Rattle.rw_kept_log.specs.Additions.{samples_of_labels}
use Rattle.rw_kept_log.specs.Ends.{EndsAt}
use Rattle.rw_head.specs.Verdicts.{LabelLimits}
use Rattle.rw_kept_log.specs.References.{ReferenceTable, IsNoted}
use Rattle.rw_kept_head.specs.Admitted.{IsRefusedAt}
use Rattle.rw_kept_head.specs.Opening.{HasSameEntries}
use Rattle.rw_kept_head.specs.Reading.{HeadTaken}
use Rattle.rw_kept_head.specs.inner.Noting.{AreNames, no_references, noted_from}
use Rattle.rw_kept_head.proofs.OpeningLemmas.{refused_by_fault}
use Rattle.rw_kept_head.proofs.NotingLemmas.{can_note_log, none_fresh, noted_log}
use Rattle.rw_kept_head.proofs.head_reading.open_log.Goals as goal

pub note_all-requires-clause-notes : goal.note_all-requires-clause-notes
note_all-requires-clause-notes g c =
    let read = entries_of page_size (g.J.Journal.seen c.args.journal.now) in
    let same : c.reading.inside.log.segments ≡ g.J.Journal.seen c.args.journal.now = ap (λ (h : HeadTaken). h.segments) c.reading.view_is ∙ c.requires.read in
    let taken : c.in_ok-restoring.restoring.taken ≡ read = c.in_ok-restoring.ensures.entries ∙ ap (entries_of page_size) same in
    let greatest : c.in_ok-restoring.end.greatest ≡ greatest_after 0 read = c.in_ok-restoring.ensures.end.greatest ∙ ap (λ (s : Segments). greatest_after 0 (entries_of page_size s)) same in
    can_note_log read c.in-Some.parts.series.entries (c.in_ok-restoring.end.greatest + 1) (subst (λ (es : List Entry). AreNames es c.in-Some.parts.series.entries) taken c.in-Some.ensures.known)
    (ap (λ (n : ℕ). n + 1) greatest)

pub returns-clause-noted : goal.returns-clause-noted
returns-clause-noted g c =
    let read = entries_of page_size (g.J.Journal.seen c.args.journal.now) in
    let next = c.in_ok-restoring.end.greatest + 1 in
    let is : c.reading.inside.log.segments ≡ g.J.Journal.seen c.args.journal.now = ap (λ (h : HeadTaken). h.segments) c.reading.view_is ∙ c.requires.read in
    let taken : c.in_ok-restoring.restoring.taken ≡ read = c.in_ok-restoring.ensures.entries ∙ ap (entries_of page_size) is in
    let greatest : c.in_ok-restoring.end.greatest ≡ greatest_after 0 read = c.in_ok-restoring.ensures.end.greatest ∙ ap (λ (s : Segments). greatest_after 0 (entries_of page_size s)) is in
    let noted = noted_log read c.in-Some.parts.series.entries next (subst (λ (es : List Entry). AreNames es c.in-Some.parts.series.entries) taken c.in-Some.ensures.known)
    (ap (λ (n : ℕ). n + 1) greatest) in
    let same : entries_of page_size (g.J.Journal.seen c.close_torn.new.journal) ≡ read = search rules in
    subst (IsNoted (entries_of page_size (g.J.Journal.seen c.close_torn.new.journal))) (sym c.in-Ok.ensures)
    (subst (λ (es : List Entry). IsNoted es (noted_from (no_references next) c.in-Some.parts.series.entries)) (sym same) noted)

pub returns-clause-none_else : goal.returns-clause-none_else
returns-clause-none_else g c =
    ap (λ (n : ReferenceTable). n.fresh) c.in-Ok.ensures ∙ none_fresh (no_references (c.in_ok-restoring.end.greatest + 1)) c.in-Some.parts.series.entries refl

pub returns-clause-says : goal.returns-clause-says
returns-clause-says g c =
    let is : c.reading.inside.log.segments ≡ g.J.Journal.seen c.args.journal.now = ap (λ (h : HeadTaken). h.segments) c.reading.view_is ∙ c.requires.read in
    let taken : c.in_ok-restoring.restoring.taken ≡ entries_of page_size (g.J.Journal.seen c.args.journal.now) = c.in_ok-restoring.ensures.entries ∙ ap (entries_of page_size) is in
    λ l. c.in-Some.ensures.says l ∙ ap (λ (es : List Entry). samples_of_labels es l) taken

pub returns-clause-says_still : goal.returns-clause-says_still
returns-clause-says_still g c =
    let is : c.reading.inside.log.segments ≡ g.J.Journal.seen c.args.journal.now = ap (λ (h : HeadTaken). h.segments) c.reading.view_is ∙ c.requires.read in
    let taken : c.in_ok-restoring.restoring.taken ≡ entries_of page_size (g.J.Journal.seen c.args.journal.now) = c.in_ok-restoring.ensures.entries ∙ ap (entries_of page_size) is in
    let same : entries_of page_size (g.J.Journal.seen c.close_torn.new.journal) ≡ entries_of page_size (g.J.Journal.seen c.args.journal.now) = search rules in
    λ l. c.in-Some.ensures.says l ∙ ap (λ (es : List Entry). samples_of_labels es l) (taken ∙ sym same)

pub returns-in_err-restoring-clause-any_moment : goal.returns-in_err-restoring-clause-any_moment
returns-in_err-restoring-clause-any_moment g c =
    let journal = c.args.journal.now in
    started g.J.Journal.moment g.J.Journal.left_since journal (HasSameEntries (g.J.Journal.seen journal)) (λ x left. ap (entries_of page_size) (c.requires.synced x (g.met.J.Journal.only_now journal x left)))

pub returns-in_default-clause-any_moment : goal.returns-in_default-clause-any_moment
returns-in_default-clause-any_moment g c =
    let journal = c.args.journal.now in
    started g.J.Journal.moment g.J.Journal.left_since journal (HasSameEntries (g.J.Journal.seen journal)) (λ x left. ap (entries_of page_size) (c.requires.synced x (g.met.J.Journal.only_now journal x left)))

pub returns-then-end-ge-MAX_REFERENCE-clause-any_moment : goal.returns-then-end-ge-MAX_REFERENCE-clause-any_moment
returns-then-end-ge-MAX_REFERENCE-clause-any_moment g c =
    let journal = c.args.journal.now in
    started g.J.Journal.moment g.J.Journal.left_since journal (HasSameEntries (g.J.Journal.seen journal)) (λ x left. ap (entries_of page_size) (c.requires.synced x (g.met.J.Journal.only_now journal x left)))

pub returns-in_default-note_all-clause-any_moment : goal.returns-in_default-note_all-clause-any_moment
returns-in_default-note_all-clause-any_moment g c =
    let journal = c.args.journal.now in
    started g.J.Journal.moment g.J.Journal.left_since journal (HasSameEntries (g.J.Journal.seen journal)) (λ x left. ap (entries_of page_size) (c.requires.synced x (g.met.J.Journal.only_now journal x left)))

pub returns-in_default-clause-place : goal.returns-in_default-clause-place
returns-in_default-clause-place g c =
    let read = entries_of page_size (g.J.Journal.seen c.args.journal.now) in
    let is : c.reading.inside.log.segments ≡ g.J.Journal.seen c.args.journal.now = ap (λ (h : HeadTaken). h.segments) c.reading.view_is ∙ c.requires.read in
    let taken : c.in_ok-restoring.restoring.taken ≡ read = c.in_ok-restoring.ensures.entries ∙ ap (entries_of page_size) is in
    let none : c.into_parts.result ≡ None = search rules in
    let limits : c.in_ok-restoring.restoring.head.limits ≡ c.args.reading.setup.limits = search rules in
    let first : IsRefusedAt c.in_ok-restoring.restoring.head.limits c.in_ok-restoring.restoring.taken c.in_ok-restoring.restoring.accepted = c.into_parts.ensures.first none in
    subst (λ (n : ℕ). IsRefusedAt c.args.reading.setup.limits read n) (sym c.accepted-accepted.ensures)
    (subst (λ (m : LabelLimits). IsRefusedAt m read c.in_ok-restoring.restoring.accepted) limits
    (subst (λ (es : List Entry). IsRefusedAt c.in_ok-restoring.restoring.head.limits es c.in_ok-restoring.restoring.accepted) taken first))

pub returns-clause-ends : goal.returns-clause-ends
returns-clause-ends g c =
    let added = c.in_ok-close_torn.ensures.segments in
    subst (λ (ss : Segments). EndsAt ss 0) (sym added) (c.an_empty_segment_ends_at_0.ensures _ (subst (AllBefore (IsWholeText page_size)) added c.in_ok-close_torn.ensures.whole))

pub returns-in_err-close_torn-clause-refused : goal.returns-in_err-close_torn-clause-refused
returns-in_err-close_torn-clause-refused g c =
    refused_by_fault (g.J.Journal.seen c.args.journal.now) (g.J.Journal.seen c.close_torn.new.journal) c.from_residual-in_err-close_torn.result _ c.from_residual-in_err-close_torn.ensures.1
