use Rattle.std.proofs.Common.{◌≡◌, ℕ, Option, Vec, refl, subst, rules}
use Rattle.std.specs.declared.alloc.Global.{Global}
use Rattle.rw_kept_folder.specs.declared.file_call.FileCall.TheVariants.{WriteCopy, SyncCopy, RenameCopy, SyncFolder}
use Rattle.rw_kept_folder.specs.inner.Loaded.{IsLoaded}
use Rattle.rw_kept_folder.proofs.NotedLemmas.{pushed_by}
use Rattle.rw_kept_folder.proofs.AnewLemmas.{held_none, held_anew}
use Rattle.rw_kept_folder.proofs.opened_journal.write_last_anew.Goals as goal

pub returns-in_default : goal.returns-in_default
returns-in_default g c = record {
  anew = λ before after count loaded.
      held_none before after c.args.noted.now count (subst (λ (last : Option (Vec ℕ Global)). IsLoaded before after c.args.noted.now.calls last count) c.in_default.is loaded);
}

pub returns : goal.returns
returns g c =
    let same : c.of.result ≡ c.in-Some.text.items = search rules in
    record {
      anew = λ before after count loaded. held_anew before after c.args.noted.now c.note.new.self c.note-2.new.self c.note-3.new.self c.note-4.new.self c.in-Some.text c.of.result count same
          (pushed_by c.args.noted.now c.args.noted.now c.note.new.self (WriteCopy c.of.result) refl c.note.ensures)
          (pushed_by c.note.new.self c.note.new.self c.note-2.new.self SyncCopy refl c.note-2.ensures)
          (pushed_by c.note-2.new.self c.note-2.new.self c.note-3.new.self RenameCopy refl c.note-3.ensures)
          (pushed_by c.note-3.new.self c.note-3.new.self c.note-4.new.self SyncFolder refl c.note-4.ensures)
          (subst (λ (last : Option (Vec ℕ Global)). IsLoaded before after c.args.noted.now.calls last count) c.in-Some.is loaded);
    }
