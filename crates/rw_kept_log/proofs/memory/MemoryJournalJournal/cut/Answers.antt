use Rattle.std.proofs.Common.{◌≡◌, ◌≤◌, length, take, rules, refl, ap, arith, length-take}
use Rattle.rw_kept_log.proofs.ImageLemmas.{elapses_to}
use Rattle.rw_kept_log.proofs.LeftLemmas.{uncut, uncut_crash, untouched_cut, last_changed, cut_crash}
use Rattle.rw_kept_log.proofs.memory.MemoryJournalJournal.cut.Goals as goal

pub returns-then-len-clause-cut : goal.returns-then-len-clause-cut
returns-then-len-clause-cut c = uncut c.args.self.now.image c.args.len (omega arith)

pub returns-then-len-clause-crash : goal.returns-then-len-clause-crash
returns-then-len-clause-crash c = uncut_crash c.args.self.now.image c.args.len (omega arith) c.requires

pub returns-in_err-last-clause-crash : goal.returns-in_err-last-clause-crash
returns-in_err-last-clause-crash c = untouched_cut c.args.self.now.image c.args.len (omega arith) c.requires

pub returns-clause-cut : goal.returns-clause-cut
returns-clause-cut c =
    let same : c.in_ok-last.last.items ≡ take c.args.len c.args.self.now.image.last.items = search rules in
    last_changed (take c.args.len) c.args.self.now.image.done.items c.args.self.now.image.last.items c.in_ok-last.last.items same

pub returns-clause-crash : goal.returns-clause-crash
returns-clause-crash c =
    let same : c.in_ok-last.last.items ≡ take c.args.len c.args.self.now.image.last.items = search rules in
    let all : length c.in_ok-last.last.items ≤ c.args.len = omega (arith, ap length same, length-take c.args.len c.args.self.now.image.last.items) in
    cut_crash c.args.self.now.image _ c.args.len refl same all

pub invariant_of-self-3 : goal.invariant_of-self-3
invariant_of-self-3 c =
    let same : c.in_ok-last.last.items ≡ take c.args.len c.args.self.now.image.last.items = search rules in
    record { within = omega (arith, ap length same, length-take c.args.len c.args.self.now.image.last.items) }

pub returns-clause-time : goal.returns-clause-time
returns-clause-time c = elapses_to _ _ _ _ c.push.ensures
