use Rattle.std.proofs.Common.{◌≡◌, ◌++◌, refl, rules, map, List, ℕ, ap, sym, subst, ◌∙◌, arith, length, Some}
use Rattle.std.proofs.lemmas.Result.{err_from_is_err_and}
use Rattle.rw_types.specs.declared.entry.Entry.{Entry}
use Rattle.rw_kept_log.specs.Journal.{with_more, IsBegun}
use Rattle.rw_kept_log.specs.Torn.{IsTornLog}
use Rattle.rw_kept_log.proofs.shared.Moments.{started}
use Rattle.rw_wal_format.specs.Laws.{sample_entry}
use Rattle.rw_wal_format.specs.Pieces.{page_size}
use Rattle.rw_kept_log.specs.Additions.{definition_entry, samples_of_labels}
use Rattle.rw_kept_log.specs.Definitions.{IsDefinedOnce}
use Rattle.rw_kept_log.specs.References.{undefined}
use Rattle.rw_kept_log.specs.Logs.{entries_of}
use Rattle.rw_kept_head.specs.inner.Inner.{GoesOn, ended_if}
use Rattle.rw_kept_head.specs.Kept.{SaysWhat, IsLeft, StaysDefinedOnce, Became}
use Rattle.rw_kept_head.proofs.WrittenLemmas.{is_written, none_new, noted_written, nothing_new, once_written, still_noted}
use Rattle.rw_kept_head.proofs.KeptLemmas.{goes_nowhere, still_writable, then_runs, is_unharmed, is_begun, is_torn, offset_more, says_more}
use Rattle.rw_kept_head.proofs.log_writer.write_added.Goals as goal

pub returns-in_err-samples-clause-any_moment : goal.returns-in_err-samples-clause-any_moment
returns-in_err-samples-clause-any_moment g c =
    let new = c.args.staged.now.after.store in
    let seen = g.J.Journal.seen c.args.journal.now in
    started g.J.Journal.moment g.J.Journal.left_since c.args.journal.now (IsLeft g.J.Journal.tears _ new seen)
    (λ x left. is_unharmed g.J.Journal.tears _ new seen x (c.requires.writable.synced x (g.met.J.Journal.only_now c.args.journal.now x left)))

pub returns-in_err-definitions-clause-any_moment :
    goal.returns-in_err-definitions-clause-any_moment
returns-in_err-definitions-clause-any_moment g c =
    let new = c.args.staged.now.after.store in
    let seen = g.J.Journal.seen c.args.journal.now in
    started g.J.Journal.moment g.J.Journal.left_since c.args.journal.now (IsLeft g.J.Journal.tears _ new seen)
    (λ x left. is_unharmed g.J.Journal.tears _ new seen x (c.requires.writable.synced x (g.met.J.Journal.only_now c.args.journal.now x left)))

pub write_in_pages-requires-clause-fits : goal.write_in_pages-requires-clause-fits
write_in_pages-requires-clause-fits g c =
    let grown = offset_more (g.J.Journal.seen c.spell.new.journal) c.spell.new.end.offset c.in_ok-bytes.after.offset c.in_ok-bytes.bytes.items c.in_ok-bytes.ensures.ok.ends c.in_ok-bytes.ensures.end in
    omega (arith, grown, c.offset.ensures.offset, c.conforms.ensures.bound, ap length c.deref-3.ensures.value)

pub returns-in_err-write_in_pages-clause-any_moment :
    goal.returns-in_err-write_in_pages-clause-any_moment
returns-in_err-write_in_pages-clause-any_moment g c =
    let old = c.args.staged.now.before.store in
    let new = c.args.staged.now.after.store in
    let seen = g.J.Journal.seen c.args.journal.now in
    let base = g.J.Journal.seen c.spell.new.journal in
    let on : GoesOn seen base (g.J.Journal.may_leave c.spell.new.journal) c.spell.new.end.offset = c.in_ok-bytes.ensures.ok in
    let entries = c.in_ok-bytes.ensures.entries
    ∙ ap (λ ds. entries_of page_size base ++ map definition_entry ds ++ map sample_entry c.deref-2.result.now) (c.deref.ensures.value ∙ c.in_ok-definitions.ensures.definitions)
    ∙ ap (λ ss. entries_of page_size base ++ map definition_entry (undefined c.collect.new.references) ++ map sample_entry ss) c.deref-2.ensures.value in
    let says : SaysWhat base old = λ l. c.requires.says l ∙ ap (λ (es : List Entry). samples_of_labels es l) (sym on.entries) in
    let noted = still_noted (entries_of page_size seen) (entries_of page_size base) c.args.references.now c.collect.new.references on.entries c.collect.ensures.undone c.requires.writable.noted in
    let said = says_more c.new_samples_are_read.ensures.samples old new base c.in_ok-bytes.bytes.items c.collect.new.references c.in_ok-samples.samples.items c.args.staged.now.added says c.collect.ensures.adds noted
    c.undefined.ensures.table c.in_ok-samples.ensures.of c.in_ok-samples.ensures.points entries in
    let will : SaysWhat (with_more base c.deref-3.result.now) new = subst (λ (b : List ℕ). SaysWhat (with_more base b) new) (sym c.deref-3.ensures.value) said in
    let once : StaysDefinedOnce base (with_more base c.deref-3.result.now) =
    subst (λ (b : List ℕ). StaysDefinedOnce base (with_more base b)) (sym c.deref-3.ensures.value)
    (once_written (entries_of page_size base) (entries_of page_size base) (entries_of page_size (with_more base c.in_ok-bytes.bytes.items)) c.collect.new.references c.in_ok-samples.samples.items
    c.new_samples_are_read.ensures.once refl noted c.undefined.ensures.table entries) in
    let p = err_from_is_err_and c.from_residual-in_err-write_in_pages.result c.from_residual-in_err-write_in_pages.ensures.1 in
    let whole : Became (ended_if c.from_residual-in_err-write_in_pages.result (g.J.Journal.seen c.write_in_pages.new.journal)) (with_more base c.deref-3.result.now) =
    subst (λ r. Became (ended_if r (g.J.Journal.seen c.write_in_pages.new.journal)) (with_more base c.deref-3.result.now)) (sym p.1) tt in
    then_runs g.J.Journal.moment g.J.Journal.left_since c.args.journal.now c.spell.new.journal c.write_in_pages.new.journal (IsBegun seen) (IsTornLog g.J.Journal.tears page_size c.offset.result base c.deref-3.result.now)
    (IsLeft g.J.Journal.tears (ended_if c.from_residual-in_err-write_in_pages.result (g.J.Journal.seen c.write_in_pages.new.journal)) new seen) c.spell.ensures.any_moment c.write_in_pages.ensures.any_moment (λ x b. is_begun g.J.Journal.tears (ended_if c.from_residual-in_err-write_in_pages.result (g.J.Journal.seen c.write_in_pages.new.journal)) new seen x b)
    (λ x torn.
    is_torn g.J.Journal.tears (ended_if c.from_residual-in_err-write_in_pages.result (g.J.Journal.seen c.write_in_pages.new.journal)) new seen base c.spell.new.end.offset c.deref-3.result.now x on.begun on.ends will once whole
    (subst (λ (n : ℕ). IsTornLog g.J.Journal.tears page_size n base c.deref-3.result.now x) c.offset.ensures.offset torn))

pub returns-clause-any_moment : goal.returns-clause-any_moment
returns-clause-any_moment g c =
    let old = c.args.staged.now.before.store in
    let new = c.args.staged.now.after.store in
    let seen = g.J.Journal.seen c.args.journal.now in
    let base = g.J.Journal.seen c.spell.new.journal in
    let on : GoesOn seen base (g.J.Journal.may_leave c.spell.new.journal) c.spell.new.end.offset = c.in_ok-bytes.ensures.ok in
    let entries = c.in_ok-bytes.ensures.entries
    ∙ ap (λ ds. entries_of page_size base ++ map definition_entry ds ++ map sample_entry c.deref-2.result.now) (c.deref.ensures.value ∙ c.in_ok-definitions.ensures.definitions)
    ∙ ap (λ ss. entries_of page_size base ++ map definition_entry (undefined c.collect.new.references) ++ map sample_entry ss) c.deref-2.ensures.value in
    let says : SaysWhat base old = λ l. c.requires.says l ∙ ap (λ (es : List Entry). samples_of_labels es l) (sym on.entries) in
    let noted = still_noted (entries_of page_size seen) (entries_of page_size base) c.args.references.now c.collect.new.references on.entries c.collect.ensures.undone c.requires.writable.noted in
    let said = says_more c.new_samples_are_read.ensures.samples old new base c.in_ok-bytes.bytes.items c.collect.new.references c.in_ok-samples.samples.items c.args.staged.now.added says c.collect.ensures.adds noted
    c.undefined.ensures.table c.in_ok-samples.ensures.of c.in_ok-samples.ensures.points entries in
    let will : SaysWhat (with_more base c.deref-3.result.now) new = subst (λ (b : List ℕ). SaysWhat (with_more base b) new) (sym c.deref-3.ensures.value) said in
    let once : StaysDefinedOnce base (with_more base c.deref-3.result.now) =
    subst (λ (b : List ℕ). StaysDefinedOnce base (with_more base b)) (sym c.deref-3.ensures.value)
    (once_written (entries_of page_size base) (entries_of page_size base) (entries_of page_size (with_more base c.in_ok-bytes.bytes.items)) c.collect.new.references c.in_ok-samples.samples.items
    c.new_samples_are_read.ensures.once refl noted c.undefined.ensures.table entries) in
    let whole : g.J.Journal.seen c.write_in_pages.new.journal ≡ with_more base c.deref-3.result.now = search rules in
    then_runs g.J.Journal.moment g.J.Journal.left_since c.args.journal.now c.spell.new.journal c.write_in_pages.new.journal (IsBegun seen) (IsTornLog g.J.Journal.tears page_size c.offset.result base c.deref-3.result.now)
    (IsLeft g.J.Journal.tears (Some (g.J.Journal.seen c.write_in_pages.new.journal)) new seen) c.spell.ensures.any_moment c.write_in_pages.ensures.any_moment (λ x b. is_begun g.J.Journal.tears (Some (g.J.Journal.seen c.write_in_pages.new.journal)) new seen x b)
    (λ x torn.
    is_torn g.J.Journal.tears (Some (g.J.Journal.seen c.write_in_pages.new.journal)) new seen base c.spell.new.end.offset c.deref-3.result.now x on.begun on.ends will once whole
    (subst (λ (n : ℕ). IsTornLog g.J.Journal.tears page_size n base c.deref-3.result.now x) c.offset.ensures.offset torn))

pub returns-clause-ok : goal.returns-clause-ok
returns-clause-ok g c =
    let seen = g.J.Journal.seen c.args.journal.now in
    let base = g.J.Journal.seen c.spell.new.journal in
    let on : GoesOn seen base (g.J.Journal.may_leave c.spell.new.journal) c.spell.new.end.offset = c.in_ok-bytes.ensures.ok in
    let entries = c.in_ok-bytes.ensures.entries
    ∙ ap (λ ds. entries_of page_size base ++ map definition_entry ds ++ map sample_entry c.deref-2.result.now) (c.deref.ensures.value ∙ c.in_ok-definitions.ensures.definitions)
    ∙ ap (λ ss. entries_of page_size base ++ map definition_entry (undefined c.collect.new.references) ++ map sample_entry ss) c.deref-2.ensures.value in
    let there : g.J.Journal.seen c.write_in_pages.new.journal ≡ with_more base c.in_ok-bytes.bytes.items = search rules in
    let old = c.args.staged.now.before.store in
    let new = c.args.staged.now.after.store in
    let says : SaysWhat base old = λ l. c.requires.says l ∙ ap (λ (es : List Entry). samples_of_labels es l) (sym on.entries) in
    let was = still_noted (entries_of page_size seen) (entries_of page_size base) c.args.references.now c.collect.new.references on.entries c.collect.ensures.undone c.requires.writable.noted in
    let said = says_more c.new_samples_are_read.ensures.samples old new base c.in_ok-bytes.bytes.items c.collect.new.references c.in_ok-samples.samples.items c.args.staged.now.added says c.collect.ensures.adds was
    c.undefined.ensures.table c.in_ok-samples.ensures.of c.in_ok-samples.ensures.points entries in
    let noted = noted_written (entries_of page_size base) (entries_of page_size (g.J.Journal.seen c.write_in_pages.new.journal)) c.collect.new.references c.commit.new.self c.in_ok-samples.samples.items
    c.new_samples_are_read.ensures.defined
    (still_noted (entries_of page_size seen) (entries_of page_size base) c.args.references.now c.collect.new.references on.entries c.collect.ensures.undone c.requires.writable.noted)
    c.undefined.ensures.table c.commit.ensures (ap (entries_of page_size) there ∙ entries) in
    record {
      writable = record {
        ends = search rules;
        noted = noted;
        none_else = none_new c.collect.new.references c.commit.new.self c.commit.ensures;
        synced = search rules;
      };
      says = subst (λ ss. SaysWhat ss new) (sym there) said;
    }

pub returns-clause-once : goal.returns-clause-once
returns-clause-once g c =
    let seen = g.J.Journal.seen c.args.journal.now in
    let base = g.J.Journal.seen c.spell.new.journal in
    let on : GoesOn seen base (g.J.Journal.may_leave c.spell.new.journal) c.spell.new.end.offset = c.in_ok-bytes.ensures.ok in
    let entries = c.in_ok-bytes.ensures.entries
    ∙ ap (λ ds. entries_of page_size base ++ map definition_entry ds ++ map sample_entry c.deref-2.result.now) (c.deref.ensures.value ∙ c.in_ok-definitions.ensures.definitions)
    ∙ ap (λ ss. entries_of page_size base ++ map definition_entry (undefined c.collect.new.references) ++ map sample_entry ss) c.deref-2.ensures.value in
    let there : g.J.Journal.seen c.write_in_pages.new.journal ≡ with_more base c.in_ok-bytes.bytes.items = search rules in
    once_written (entries_of page_size seen) (entries_of page_size base) (entries_of page_size (g.J.Journal.seen c.write_in_pages.new.journal)) c.collect.new.references c.in_ok-samples.samples.items
    c.new_samples_are_read.ensures.once on.entries
    (still_noted (entries_of page_size seen) (entries_of page_size base) c.args.references.now c.collect.new.references on.entries c.collect.ensures.undone c.requires.writable.noted)
    c.undefined.ensures.table (ap (entries_of page_size) there ∙ entries)

pub returns-in_err-samples-clause-once_unspelled : goal.returns-in_err-samples-clause-once_unspelled
returns-in_err-samples-clause-once_unspelled g c = λ _ once. once

pub returns-in_err-definitions-clause-once_unspelled : goal.returns-in_err-definitions-clause-once_unspelled
returns-in_err-definitions-clause-once_unspelled g c = λ _ once. once

pub returns-in_err-bytes-clause-once_unspelled : goal.returns-in_err-bytes-clause-once_unspelled
returns-in_err-bytes-clause-once_unspelled g c = λ e once.
    let on : GoesOn (g.J.Journal.seen c.args.journal.now) (g.J.Journal.seen c.spell.new.journal) (g.J.Journal.may_leave c.spell.new.journal) c.spell.new.end.offset = search rules in
    subst IsDefinedOnce (sym on.entries) once

pub returns-clause-written : goal.returns-clause-written
returns-clause-written g c =
    let base = g.J.Journal.seen c.spell.new.journal in
    let on : GoesOn (g.J.Journal.seen c.args.journal.now) base (g.J.Journal.may_leave c.spell.new.journal) c.spell.new.end.offset = c.in_ok-bytes.ensures.ok in
    let entries = c.in_ok-bytes.ensures.entries
    ∙ ap (λ ds. entries_of page_size base ++ map definition_entry ds ++ map sample_entry c.deref-2.result.now) (c.deref.ensures.value ∙ c.in_ok-definitions.ensures.definitions)
    ∙ ap (λ ss. entries_of page_size base ++ map definition_entry (undefined c.collect.new.references) ++ map sample_entry ss) c.deref-2.ensures.value in
    let there : g.J.Journal.seen c.write_in_pages.new.journal ≡ with_more base c.in_ok-bytes.bytes.items = search rules in
    is_written (entries_of page_size (g.J.Journal.seen c.args.journal.now)) (entries_of page_size (g.J.Journal.seen c.write_in_pages.new.journal)) c.args.references.now c.collect.new.references c.commit.new.self
    c.in_ok-samples.samples.items c.collect.ensures.undone c.commit.ensures
    (ap (entries_of page_size) there ∙ entries ∙ ap (λ es. es ++ map definition_entry (undefined c.collect.new.references) ++ map sample_entry c.in_ok-samples.samples.items) on.entries)

pub returns-in_err-samples-clause-unspelled : goal.returns-in_err-samples-clause-unspelled
returns-in_err-samples-clause-unspelled g c = λ _.
    let seen = g.J.Journal.seen c.args.journal.now in
    let may = g.J.Journal.may_leave c.args.journal.now in
    record {
      writable = still_writable seen seen may may c.args.end.now.offset c.args.end.now.offset c.args.references.now c.collect.new.references c.requires.writable
          (goes_nowhere seen may c.args.references.now c.args.end.now.offset c.requires.writable) c.collect.ensures.undone;
      says = c.requires.says;
    }

pub returns-in_err-samples-clause-undone : goal.returns-in_err-samples-clause-undone
returns-in_err-samples-clause-undone g c = λ _. nothing_new c.args.references.now c.collect.new.references c.requires.writable.none_else c.collect.ensures.undone

pub returns-in_err-definitions-clause-unspelled : goal.returns-in_err-definitions-clause-unspelled
returns-in_err-definitions-clause-unspelled g c = λ _.
    let seen = g.J.Journal.seen c.args.journal.now in
    let may = g.J.Journal.may_leave c.args.journal.now in
    record {
      writable = still_writable seen seen may may c.args.end.now.offset c.args.end.now.offset c.args.references.now c.collect.new.references c.requires.writable
          (goes_nowhere seen may c.args.references.now c.args.end.now.offset c.requires.writable) c.collect.ensures.undone;
      says = c.requires.says;
    }

pub returns-in_err-definitions-clause-undone : goal.returns-in_err-definitions-clause-undone
returns-in_err-definitions-clause-undone g c = λ _. nothing_new c.args.references.now c.collect.new.references c.requires.writable.none_else c.collect.ensures.undone

pub returns-in_err-bytes-clause-unspelled : goal.returns-in_err-bytes-clause-unspelled
returns-in_err-bytes-clause-unspelled g c = λ e.
    let seen = g.J.Journal.seen c.args.journal.now in
    let on : GoesOn seen (g.J.Journal.seen c.spell.new.journal) (g.J.Journal.may_leave c.spell.new.journal) c.spell.new.end.offset = search rules in
    record {
      writable = still_writable seen (g.J.Journal.seen c.spell.new.journal) (g.J.Journal.may_leave c.args.journal.now) (g.J.Journal.may_leave c.spell.new.journal) c.args.end.now.offset c.spell.new.end.offset
          c.args.references.now c.collect.new.references c.requires.writable on c.collect.ensures.undone;
      says = λ l. c.requires.says l ∙ ap (λ (es : List Entry). samples_of_labels es l) (sym on.entries);
    }

pub returns-in_err-bytes-clause-undone : goal.returns-in_err-bytes-clause-undone
returns-in_err-bytes-clause-undone g c = λ _. nothing_new c.args.references.now c.collect.new.references c.requires.writable.none_else c.collect.ensures.undone
