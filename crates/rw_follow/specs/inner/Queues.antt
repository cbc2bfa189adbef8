-- Inner definitions beside those of Queues.antt: only models, invariants, private functions and
-- proofs use them.
use Rattle.std.specs.Prelude.{List, [], ◌∷◌, Option, None, Some}

-- the current reader, and then these; none comes after none
abbrev pub with_current : {S : Type 0} → Option S → List S → List S
with_current None later = []
with_current (Some current) later = current ∷ later
