use Rattle.std.proofs.Common.{◌≡◌, ◌++◌, refl, rules, arith}
use Rattle.rw_kept_log.proofs.ImageLemmas.{elapses_to}
use Rattle.rw_kept_log.proofs.LeftLemmas.{all_synced, appended_torn, last_changed, untouched_torn}
use Rattle.rw_kept_log.proofs.memory.MemoryJournalJournal.append.Goals as goal

pub returns-in_err-last-clause-crash : goal.returns-in_err-last-clause-crash
returns-in_err-last-clause-crash c = untouched_torn c.args.self.now.image _ c.requires

pub returns-in_err-extend_from_slice-clause-crash :
    goal.returns-in_err-extend_from_slice-clause-crash
returns-in_err-extend_from_slice-clause-crash c = untouched_torn c.args.self.now.image _ c.requires

pub returns-clause-written : goal.returns-clause-written
returns-clause-written c =
    let same : c.extend_from_slice.new.self.items ≡ c.args.self.now.image.last.items ++ c.args.bytes.now = search rules in
    last_changed (λ s. s ++ c.args.bytes.now) c.args.self.now.image.done.items c.args.self.now.image.last.items c.extend_from_slice.new.self.items same

pub returns-clause-crash : goal.returns-clause-crash
returns-clause-crash c =
    let same : c.extend_from_slice.new.self.items ≡ c.args.self.now.image.last.items ++ c.args.bytes.now = search rules in
    appended_torn c.args.self.now.image _ c.args.bytes.now (all_synced c.args.self.now.image c.requires) refl refl same (omega arith)

pub returns-clause-time : goal.returns-clause-time
returns-clause-time c = elapses_to _ _ _ _ c.push.ensures
