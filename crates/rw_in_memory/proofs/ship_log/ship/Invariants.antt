use Rattle.std.proofs.Common.{Some}
use Rattle.rw_in_memory.proofs.ship_log.ship.Given as goal

abbrev pub ghosts-ship_shared-L-Ledger : goal.ghosts-ship_shared-L-Ledger
ghosts-ship_shared-L-Ledger g a = record { name = a.blank.name; parts = a.blank.parts }

abbrev pub ghosts-ship_shared-L-HeadNaming : goal.ghosts-ship_shared-L-HeadNaming
ghosts-ship_shared-L-HeadNaming g a = record { opening = a.head; table = a.blank.table }

abbrev pub ghosts-ship_shared-L-Endpoint : goal.ghosts-ship_shared-L-Endpoint
ghosts-ship_shared-L-Endpoint g a = record { path = a.limits.path; limit = a.limits.max_body_bytes }

abbrev pub ghosts-ship_shared-L-Holding : goal.ghosts-ship_shared-L-Holding
ghosts-ship_shared-L-Holding g a = record { first = Some a.head }
