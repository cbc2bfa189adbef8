use Rattle.std.proofs.Common.{◌≡◌, ◌==◌, All, false, take}
use Rattle.rw_in_flight.proofs.sums.place_of.Given as goal

abbrev pub invariant-loop-i : goal.invariant-loop-i
invariant-loop-i l = All (λ b. (b.number == l.number) ≡ false) (take l.i l.bodies)
