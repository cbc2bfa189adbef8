use Rattle.std.proofs.Common.{Some}
use Rattle.rw_receive.proofs.receive.serve_connections.Given as goal

abbrev pub ghosts-serve_head-L-Ledger : goal.ghosts-serve_head-L-Ledger
ghosts-serve_head-L-Ledger g a = record { name = a.blank.name; parts = a.blank.parts }

abbrev pub ghosts-serve_head-L-HeadNaming : goal.ghosts-serve_head-L-HeadNaming
ghosts-serve_head-L-HeadNaming g a = record { opening = g.H.Admit.state a.holder; table = a.blank.table }

abbrev pub ghosts-serve_head-L-Holding : goal.ghosts-serve_head-L-Holding
ghosts-serve_head-L-Holding g a = record { first = Some a.holder }
