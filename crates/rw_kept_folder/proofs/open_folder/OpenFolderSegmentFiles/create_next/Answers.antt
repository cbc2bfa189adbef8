use Rattle.std.proofs.Common.{ap, ℕ, ◌+◌, refl, ◌∙◌}
use Rattle.rw_kept_folder.specs.declared.file_call.FileCall.TheVariants.{CreateNext}
use Rattle.rw_kept_folder.proofs.NotedLemmas.{pushed_by, pushed_failed, elapses_pushed, create_seen, create_left, create_count, create_own}
use Rattle.rw_kept_folder.proofs.open_folder.OpenFolderSegmentFiles.create_next.Goals as goal

pub invariant_of-self-in-Ok : goal.invariant_of-self-in-Ok
invariant_of-self-in-Ok g c = (ap (λ (n : ℕ). n + 1) c.self.invariant.0 ∙ create_count c.self.inside.record c.note.new.self (pushed_by c.self.inside.record c.self.inside.record c.note.new.self CreateNext refl c.note.ensures), create_own c.self.inside.record c.note.new.self (pushed_by c.self.inside.record c.self.inside.record c.note.new.self CreateNext refl c.note.ensures))

pub invariant_of-self-in-Err : goal.invariant_of-self-in-Err
invariant_of-self-in-Err g c =
    (ap (λ (n : ℕ). n + 1) c.self.invariant.0 ∙ create_count c.self.inside.record c.fail-in-Err.new.noted (pushed_failed c.self.inside.record c.note.new.self c.fail-in-Err.new.noted CreateNext c.fail-in-Err.ensures (pushed_by c.self.inside.record c.self.inside.record c.note.new.self CreateNext refl c.note.ensures)), create_own c.self.inside.record c.fail-in-Err.new.noted (pushed_failed c.self.inside.record c.note.new.self c.fail-in-Err.new.noted CreateNext c.fail-in-Err.ensures (pushed_by c.self.inside.record c.self.inside.record c.note.new.self CreateNext refl c.note.ensures)))

pub returns-in-Ok-clause-begun : goal.returns-in-Ok-clause-begun
returns-in-Ok-clause-begun g c = create_seen c.args.self.now c.note.new.self (pushed_by c.self.inside.record c.args.self.now c.note.new.self CreateNext c.self.view_is c.note.ensures)

pub returns-in-Ok-clause-crash : goal.returns-in-Ok-clause-crash
returns-in-Ok-clause-crash g c = create_left c.args.self.now c.note.new.self (pushed_by c.self.inside.record c.args.self.now c.note.new.self CreateNext c.self.view_is c.note.ensures)

pub returns-in-Ok-clause-time : goal.returns-in-Ok-clause-time
returns-in-Ok-clause-time g c = elapses_pushed c.args.self.now c.note.new.self CreateNext (pushed_by c.self.inside.record c.args.self.now c.note.new.self CreateNext c.self.view_is c.note.ensures)

pub returns-in-Err-clause-crash : goal.returns-in-Err-clause-crash
returns-in-Err-clause-crash g c = create_left c.args.self.now c.fail-in-Err.new.noted (pushed_failed c.args.self.now c.note.new.self c.fail-in-Err.new.noted CreateNext c.fail-in-Err.ensures (pushed_by c.self.inside.record c.args.self.now c.note.new.self CreateNext c.self.view_is c.note.ensures))

pub returns-in-Err-clause-time : goal.returns-in-Err-clause-time
returns-in-Err-clause-time g c = elapses_pushed c.args.self.now c.fail-in-Err.new.noted CreateNext (pushed_failed c.args.self.now c.note.new.self c.fail-in-Err.new.noted CreateNext c.fail-in-Err.ensures (pushed_by c.self.inside.record c.args.self.now c.note.new.self CreateNext c.self.view_is c.note.ensures))
