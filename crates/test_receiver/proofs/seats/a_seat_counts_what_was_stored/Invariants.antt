use Rattle.std.proofs.Common.{Some}
use Rattle.test_receiver.proofs.seats.a_seat_counts_what_was_stored.Given as goal

abbrev pub ghosts-answered-L-Ledger : goal.ghosts-answered-L-Ledger
ghosts-answered-L-Ledger g a = record { name = a.blank.name; parts = a.blank.parts }

abbrev pub ghosts-answered-L-HeadNaming : goal.ghosts-answered-L-HeadNaming
ghosts-answered-L-HeadNaming g a = record { opening = a.head; table = a.blank.table }

abbrev pub ghosts-answered-L-Holding : goal.ghosts-answered-L-Holding
ghosts-answered-L-Holding g a = record { first = Some a.head }
