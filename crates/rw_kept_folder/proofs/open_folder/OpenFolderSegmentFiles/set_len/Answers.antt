use Rattle.std.proofs.Common.{refl, ◌∙◌}
use Rattle.rw_kept_folder.specs.declared.file_call.FileCall.TheVariants.{SetLen}
use Rattle.rw_kept_folder.proofs.NotedLemmas.{pushed_by, pushed_failed, elapses_pushed, cut_seen, cut_left, cut_count, cut_own}
use Rattle.rw_kept_folder.proofs.open_folder.OpenFolderSegmentFiles.set_len.Goals as goal

pub invariant_of-self : goal.invariant_of-self
invariant_of-self g c = (c.self.invariant.0 ∙ cut_count c.self.inside.record c.note.new.self c.args.len (pushed_by c.self.inside.record c.self.inside.record c.note.new.self (SetLen c.args.len) refl c.note.ensures), cut_own c.self.inside.record c.note.new.self c.args.len (pushed_by c.self.inside.record c.self.inside.record c.note.new.self (SetLen c.args.len) refl c.note.ensures))

pub invariant_of-self-in-Err : goal.invariant_of-self-in-Err
invariant_of-self-in-Err g c =
    (c.self.invariant.0 ∙ cut_count c.self.inside.record c.fail.new.noted c.args.len (pushed_failed c.self.inside.record c.note.new.self c.fail.new.noted (SetLen c.args.len) c.fail.ensures (pushed_by c.self.inside.record c.self.inside.record c.note.new.self (SetLen c.args.len) refl c.note.ensures)), cut_own c.self.inside.record c.fail.new.noted c.args.len (pushed_failed c.self.inside.record c.note.new.self c.fail.new.noted (SetLen c.args.len) c.fail.ensures (pushed_by c.self.inside.record c.self.inside.record c.note.new.self (SetLen c.args.len) refl c.note.ensures)))

pub returns-in-Ok-clause-asked : goal.returns-in-Ok-clause-asked
returns-in-Ok-clause-asked g c = cut_seen c.args.self.now c.note.new.self c.args.len (pushed_by c.self.inside.record c.args.self.now c.note.new.self (SetLen c.args.len) c.self.view_is c.note.ensures)

pub returns-in-Ok-clause-crash : goal.returns-in-Ok-clause-crash
returns-in-Ok-clause-crash g c = cut_left c.args.self.now c.note.new.self c.args.len (pushed_by c.self.inside.record c.args.self.now c.note.new.self (SetLen c.args.len) c.self.view_is c.note.ensures)

pub returns-in-Ok-clause-time : goal.returns-in-Ok-clause-time
returns-in-Ok-clause-time g c = elapses_pushed c.args.self.now c.note.new.self (SetLen c.args.len) (pushed_by c.self.inside.record c.args.self.now c.note.new.self (SetLen c.args.len) c.self.view_is c.note.ensures)

pub returns-in-Err-clause-crash : goal.returns-in-Err-clause-crash
returns-in-Err-clause-crash g c = cut_left c.args.self.now c.fail.new.noted c.args.len (pushed_failed c.args.self.now c.note.new.self c.fail.new.noted (SetLen c.args.len) c.fail.ensures (pushed_by c.self.inside.record c.args.self.now c.note.new.self (SetLen c.args.len) c.self.view_is c.note.ensures))

pub returns-in-Err-clause-time : goal.returns-in-Err-clause-time
returns-in-Err-clause-time g c = elapses_pushed c.args.self.now c.fail.new.noted (SetLen c.args.len) (pushed_failed c.args.self.now c.note.new.self c.fail.new.noted (SetLen c.args.len) c.fail.ensures (pushed_by c.self.inside.record c.args.self.now c.note.new.self (SetLen c.args.len) c.self.view_is c.note.ensures))

pub returns-in-Err-clause-asked : goal.returns-in-Err-clause-asked
returns-in-Err-clause-asked g c = cut_seen c.args.self.now c.fail.new.noted c.args.len (pushed_failed c.args.self.now c.note.new.self c.fail.new.noted (SetLen c.args.len) c.fail.ensures (pushed_by c.self.inside.record c.args.self.now c.note.new.self (SetLen c.args.len) c.self.view_is c.note.ensures))
