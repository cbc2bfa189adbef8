use Rattle.std.proofs.Common.{◌≡◌, rules, refl, inl}
use Rattle.rw_kept_log.proofs.ImageLemmas.{elapses_to}
use Rattle.rw_kept_log.proofs.LeftLemmas.{same_left}
use Rattle.rw_kept_log.proofs.memory.MemoryJournalJournal.begin.Goals as goal

pub returns-in_err-last-clause-crash : goal.returns-in_err-last-clause-crash
returns-in_err-last-clause-crash c = λ x left. inl (c.requires x left)

pub returns-in_err-push-clause-crash : goal.returns-in_err-push-clause-crash
returns-in_err-push-clause-crash c =
    let same : c.push-2.new.self.items ≡ c.args.self.now.image.done.items = search rules in
    λ x left. inl (c.requires x (same_left c.args.self.now.image _ same refl refl x left))

pub returns-in_err-push-clause-time : goal.returns-in_err-push-clause-time
returns-in_err-push-clause-time c = elapses_to _ _ _ _ c.push.ensures

pub returns-clause-time : goal.returns-clause-time
returns-clause-time c = elapses_to _ _ _ _ c.push.ensures
