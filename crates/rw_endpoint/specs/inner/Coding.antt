-- Inner definitions beside those of Coding.antt: only private functions and proofs use them.
use Rattle.std.specs.Global.{Global}
use Rattle.std.specs.Prelude.{◌≡◌, ℕ, List, Result, Ok, Err, Vec}

-- what a function returned of the text that a body holds
abbrev pub Holds : Result (Vec ℕ Global) ℕ → Result (List ℕ) ℕ → Type 0
Holds (Ok text) held = held ≡ Ok text.items
Holds (Err status) held = held ≡ Err status
