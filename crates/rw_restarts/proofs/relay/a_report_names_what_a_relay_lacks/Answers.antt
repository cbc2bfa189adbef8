use Rattle.rw_restarts.proofs.RelayLemmas.{relayed-less}
use Rattle.rw_restarts.proofs.relay.a_report_names_what_a_relay_lacks.Goals as goal

pub returns : goal.returns
returns c = relayed-less
