use Rattle.std.proofs.Common.{ℕ, List, refl, ◌∙◌, subst}
use Rattle.rw_kept_folder.specs.declared.file_call.FileCall.TheVariants.{Append}
use Rattle.rw_kept_folder.proofs.NotedLemmas.{Pushed, pushed_by, pushed_failed, elapses_pushed, append_seen, append_left, append_count, append_own}
use Rattle.rw_kept_folder.proofs.open_folder.OpenFolderSegmentFiles.append.Goals as goal

pub invariant_of-self : goal.invariant_of-self
invariant_of-self g c = (c.self.invariant.0 ∙ append_count c.self.inside.record c.note.new.self c.of.result (pushed_by c.self.inside.record c.self.inside.record c.note.new.self (Append c.of.result) refl c.note.ensures), append_own c.self.inside.record c.note.new.self c.of.result (pushed_by c.self.inside.record c.self.inside.record c.note.new.self (Append c.of.result) refl c.note.ensures))

pub invariant_of-self-in-Err : goal.invariant_of-self-in-Err
invariant_of-self-in-Err g c =
    (c.self.invariant.0 ∙ append_count c.self.inside.record c.fail.new.noted c.of.result (pushed_failed c.self.inside.record c.note.new.self c.fail.new.noted (Append c.of.result) c.fail.ensures (pushed_by c.self.inside.record c.self.inside.record c.note.new.self (Append c.of.result) refl c.note.ensures)), append_own c.self.inside.record c.fail.new.noted c.of.result (pushed_failed c.self.inside.record c.note.new.self c.fail.new.noted (Append c.of.result) c.fail.ensures (pushed_by c.self.inside.record c.self.inside.record c.note.new.self (Append c.of.result) refl c.note.ensures)))

pub returns-in-Ok-clause-asked : goal.returns-in-Ok-clause-asked
returns-in-Ok-clause-asked g c = append_seen c.args.self.now c.note.new.self c.args.bytes.now (subst (λ (b : List ℕ). Pushed c.args.self.now c.note.new.self (Append b)) c.of.ensures (pushed_by c.self.inside.record c.args.self.now c.note.new.self (Append c.of.result) c.self.view_is c.note.ensures))

pub returns-in-Ok-clause-crash : goal.returns-in-Ok-clause-crash
returns-in-Ok-clause-crash g c = append_left c.args.self.now c.note.new.self c.args.bytes.now (subst (λ (b : List ℕ). Pushed c.args.self.now c.note.new.self (Append b)) c.of.ensures (pushed_by c.self.inside.record c.args.self.now c.note.new.self (Append c.of.result) c.self.view_is c.note.ensures))

pub returns-in-Ok-clause-time : goal.returns-in-Ok-clause-time
returns-in-Ok-clause-time g c = elapses_pushed c.args.self.now c.note.new.self (Append c.of.result) (pushed_by c.self.inside.record c.args.self.now c.note.new.self (Append c.of.result) c.self.view_is c.note.ensures)

pub returns-in-Err-clause-crash : goal.returns-in-Err-clause-crash
returns-in-Err-clause-crash g c = append_left c.args.self.now c.fail.new.noted c.args.bytes.now (subst (λ (b : List ℕ). Pushed c.args.self.now c.fail.new.noted (Append b)) c.of.ensures (pushed_failed c.args.self.now c.note.new.self c.fail.new.noted (Append c.of.result) c.fail.ensures (pushed_by c.self.inside.record c.args.self.now c.note.new.self (Append c.of.result) c.self.view_is c.note.ensures)))

pub returns-in-Err-clause-time : goal.returns-in-Err-clause-time
returns-in-Err-clause-time g c = elapses_pushed c.args.self.now c.fail.new.noted (Append c.of.result) (pushed_failed c.args.self.now c.note.new.self c.fail.new.noted (Append c.of.result) c.fail.ensures (pushed_by c.self.inside.record c.args.self.now c.note.new.self (Append c.of.result) c.self.view_is c.note.ensures))

pub returns-in-Err-clause-asked : goal.returns-in-Err-clause-asked
returns-in-Err-clause-asked g c = append_seen c.args.self.now c.fail.new.noted c.args.bytes.now (subst (λ (b : List ℕ). Pushed c.args.self.now c.fail.new.noted (Append b)) c.of.ensures (pushed_failed c.args.self.now c.note.new.self c.fail.new.noted (Append c.of.result) c.fail.ensures (pushed_by c.self.inside.record c.args.self.now c.note.new.self (Append c.of.result) c.self.view_is c.note.ensures)))
