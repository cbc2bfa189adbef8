use Rattle.rw_restarts.proofs.RelayLemmas.{read-when-grown, read-after-crash}
use Rattle.rw_restarts.proofs.relay.what_was_read_stays_in_the_log.Goals as goal

pub returns-clause-grown : goal.returns-clause-grown
returns-clause-grown c = read-when-grown

pub returns-clause-crash : goal.returns-clause-crash
returns-clause-crash c = read-after-crash
