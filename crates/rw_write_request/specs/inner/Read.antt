-- Inner definitions beside those of Read.antt: only invariants, private functions and
-- proofs use them.
use Rattle.std.specs.Prelude.{◌≡◌, Result, Ok, Err}
use Rattle.rw_write_request.specs.declared.fault.WireFault.{WireFault}

-- What a function returned, seen by view, is what reading gives.
abbrev pub Gives : {X Y : Type 0} → (X → Y) → Result X WireFault → Result Y WireFault → Type 0
Gives view (Ok x) read = read ≡ Ok (view x)
Gives view (Err e) read = read ≡ Err e

-- What a function that judges bytes says about reading them: they are read, or this is the fault.
abbrev pub Judges : {X : Type 0} → Result (Unit {0}) WireFault → Result X WireFault → Type 0
Judges {X} (Ok u) read = (x : X) × (read ≡ Ok x)
Judges {X} (Err e) read = read ≡ Err e
