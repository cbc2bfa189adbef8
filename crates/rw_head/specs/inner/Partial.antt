-- Inner definitions beside those of Partial.antt: only private functions and proofs use them.
use Rattle.std.specs.Prelude.{◌≡◌, Bool, true, false, Option, Some, None, Result, Ok, Err}
use Rattle.rw_head.specs.declared.verdict.Verdict.{Verdict}
use Rattle.rw_head.specs.Store.{Store}

-- there is no refusal, or there is one
abbrev pub IsRefusedUnless : Bool → Option Verdict → Type 0
IsRefusedUnless true refused = refused ≡ None
IsRefusedUnless false refused = (v : Verdict) × (refused ≡ Some v)

-- it was taken, which leaves this store, or refused, which leaves what was there
abbrev pub IsJudged : Bool → Store → Result Store Verdict → Store → Type 0
IsJudged true store given next = given ≡ Ok next
IsJudged false store given next = (v : Verdict) × (given ≡ Err v) × (next ≡ store)
