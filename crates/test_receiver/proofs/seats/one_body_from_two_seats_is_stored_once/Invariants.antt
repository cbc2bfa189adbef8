use Rattle.std.proofs.Common.{Some}
use Rattle.test_receiver.proofs.seats.one_body_from_two_seats_is_stored_once.Given as goal

abbrev pub ghosts-asked_at_once-L-Ledger : goal.ghosts-asked_at_once-L-Ledger
ghosts-asked_at_once-L-Ledger g a = record { name = a.blank.name; parts = a.blank.parts }

abbrev pub ghosts-asked_at_once-L-HeadNaming : goal.ghosts-asked_at_once-L-HeadNaming
ghosts-asked_at_once-L-HeadNaming g a = record { opening = a.head; table = a.blank.table }

abbrev pub ghosts-asked_at_once-L-Holding : goal.ghosts-asked_at_once-L-Holding
ghosts-asked_at_once-L-Holding g a = record { first = Some a.head }
