use Rattle.std.proofs.Common.{Some}
use Rattle.test_receiver.proofs.seats.a_seat_finds_its_head_full.Given as goal

abbrev pub ghosts-finds_full-L-Ledger : goal.ghosts-finds_full-L-Ledger
ghosts-finds_full-L-Ledger g a = record { name = a.blank.name; parts = a.blank.parts }

abbrev pub ghosts-finds_full-L-HeadNaming : goal.ghosts-finds_full-L-HeadNaming
ghosts-finds_full-L-HeadNaming g a = record { opening = a.head; table = a.blank.table }

abbrev pub ghosts-finds_full-L-Holding : goal.ghosts-finds_full-L-Holding
ghosts-finds_full-L-Holding g a = record { first = Some a.head }
