use Rattle.std.proofs.Common.{refl, ◌∙◌, sym, ap, subst, length}
use Rattle.rw_kept_folder.specs.inner.Noted.{HasOwn}
use Rattle.rw_kept_folder.specs.declared.file_call.FileCall.TheVariants.{SyncData}
use Rattle.rw_kept_folder.proofs.NotedLemmas.{pushed_by, elapses_pushed, data_synced_seen, data_synced_fewer, data_synced_sure, data_synced_own}
use Rattle.rw_kept_folder.proofs.open_folder.OpenFolderSegmentFiles.sync_data.Goals as goal

pub invariant_of-self : goal.invariant_of-self
invariant_of-self g c =
    let same = data_synced_seen c.self.inside.record c.note.new.self (pushed_by c.self.inside.record c.self.inside.record c.note.new.self SyncData refl c.note.ensures) in
    (c.self.invariant.0 ∙ sym (ap length same), data_synced_own c.self.inside.record c.note.new.self c.self.invariant.1 (pushed_by c.self.inside.record c.self.inside.record c.note.new.self SyncData refl c.note.ensures))

pub returns-in-Ok-clause-durable : goal.returns-in-Ok-clause-durable
returns-in-Ok-clause-durable g c = data_synced_sure c.args.self.now c.note.new.self (subst HasOwn c.self.view_is c.self.invariant.1) (pushed_by c.self.inside.record c.args.self.now c.note.new.self SyncData c.self.view_is c.note.ensures)

pub returns-in-Ok-clause-seen : goal.returns-in-Ok-clause-seen
returns-in-Ok-clause-seen g c = data_synced_seen c.args.self.now c.note.new.self (pushed_by c.self.inside.record c.args.self.now c.note.new.self SyncData c.self.view_is c.note.ensures)

pub returns-in-Ok-clause-crash : goal.returns-in-Ok-clause-crash
returns-in-Ok-clause-crash g c = data_synced_fewer c.args.self.now c.note.new.self (pushed_by c.self.inside.record c.args.self.now c.note.new.self SyncData c.self.view_is c.note.ensures)

pub returns-in-Ok-clause-time : goal.returns-in-Ok-clause-time
returns-in-Ok-clause-time g c = elapses_pushed c.args.self.now c.note.new.self SyncData (pushed_by c.self.inside.record c.args.self.now c.note.new.self SyncData c.self.view_is c.note.ensures)
