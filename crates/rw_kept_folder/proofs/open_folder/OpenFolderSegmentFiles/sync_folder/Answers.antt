use Rattle.std.proofs.Common.{refl, ◌∙◌, sym, ap, subst, length}
use Rattle.rw_kept_folder.specs.inner.Noted.{HasOwn}
use Rattle.rw_kept_folder.specs.declared.file_call.FileCall.TheVariants.{SyncFolder}
use Rattle.rw_kept_folder.proofs.NotedLemmas.{pushed_by, elapses_pushed, folder_synced_seen, folder_synced_fewer, folder_synced_all, folder_synced_own}
use Rattle.rw_kept_folder.proofs.open_folder.OpenFolderSegmentFiles.sync_folder.Goals as goal

pub invariant_of-self : goal.invariant_of-self
invariant_of-self g c =
    let same = folder_synced_seen c.self.inside.record c.note.new.self (pushed_by c.self.inside.record c.self.inside.record c.note.new.self SyncFolder refl c.note.ensures) in
    (c.self.invariant.0 ∙ sym (ap length same), folder_synced_own c.self.inside.record c.note.new.self c.self.invariant.1 (pushed_by c.self.inside.record c.self.inside.record c.note.new.self SyncFolder refl c.note.ensures))

pub returns-in-Ok-clause-all : goal.returns-in-Ok-clause-all
returns-in-Ok-clause-all g c = folder_synced_all c.args.self.now c.note.new.self (subst HasOwn c.self.view_is c.self.invariant.1) (pushed_by c.self.inside.record c.args.self.now c.note.new.self SyncFolder c.self.view_is c.note.ensures)

pub returns-in-Ok-clause-seen : goal.returns-in-Ok-clause-seen
returns-in-Ok-clause-seen g c = folder_synced_seen c.args.self.now c.note.new.self (pushed_by c.self.inside.record c.args.self.now c.note.new.self SyncFolder c.self.view_is c.note.ensures)

pub returns-in-Ok-clause-crash : goal.returns-in-Ok-clause-crash
returns-in-Ok-clause-crash g c = folder_synced_fewer c.args.self.now c.note.new.self (pushed_by c.self.inside.record c.args.self.now c.note.new.self SyncFolder c.self.view_is c.note.ensures)

pub returns-in-Ok-clause-time : goal.returns-in-Ok-clause-time
returns-in-Ok-clause-time g c = elapses_pushed c.args.self.now c.note.new.self SyncFolder (pushed_by c.self.inside.record c.args.self.now c.note.new.self SyncFolder c.self.view_is c.note.ensures)
