use Rattle.std.proofs.Common.{Some}
use Rattle.test_shipper.proofs.heads.shipped_to_seats.Given as goal

abbrev pub ghosts-shipped-L-Ledger : goal.ghosts-shipped-L-Ledger
ghosts-shipped-L-Ledger g a = record { name = a.blank.name; parts = a.blank.parts }

abbrev pub ghosts-shipped-L-HeadNaming : goal.ghosts-shipped-L-HeadNaming
ghosts-shipped-L-HeadNaming g a = record { opening = a.head; table = a.blank.table }

abbrev pub ghosts-shipped-L-Endpoint : goal.ghosts-shipped-L-Endpoint
ghosts-shipped-L-Endpoint g a = record { path = a.limits.path; limit = a.limits.max_body_bytes }

abbrev pub ghosts-shipped-L-Holding : goal.ghosts-shipped-L-Holding
ghosts-shipped-L-Holding g a = record { first = Some a.head }
