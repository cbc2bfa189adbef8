use Rattle.std.proofs.Common.{refl, arith}
use Rattle.rw_kept_log.proofs.ImageLemmas.{elapses_to}
use Rattle.rw_kept_log.proofs.LeftLemmas.{synced_fewer}
use Rattle.rw_kept_log.proofs.memory.MemoryJournalJournal.sync.Goals as goal

pub returns-clause-crash : goal.returns-clause-crash
returns-clause-crash c = synced_fewer c.args.self.now.image _ refl refl (omega arith)

pub returns-clause-time : goal.returns-clause-time
returns-clause-time c = elapses_to _ _ _ _ c.push.ensures
