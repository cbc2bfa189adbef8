-- Inner definitions beside those of Placed.antt: only invariants, private functions and
-- proofs use them.
use Rattle.std.specs.Prelude.{◌≡◌, ◌-◌, Result, Ok, Err}
use Rattle.rw_head.specs.declared.verdict.Verdict.{Verdict}
use Rattle.rw_head.specs.declared.verdict.Verdict.TheVariants.{Stored}
use Rattle.rw_head.specs.Store.{total}
use Rattle.rw_head.specs.inner.Lists.{Stores}

-- what was staged is kept, or was refused for that reason and is forgotten
abbrev pub SettlesTo : Result (Unit {0}) Verdict → Stores → Verdict → Stores → Type 0
SettlesTo (Ok u) staged v new = (v ≡ Stored (total staged.staged - total staged.kept)) × (new.kept ≡ staged.staged)
SettlesTo (Err e) staged v new = (v ≡ e) × (new.kept ≡ staged.kept)
