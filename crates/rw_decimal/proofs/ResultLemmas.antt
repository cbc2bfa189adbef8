-- What holds of a result that is Ok.
use Rattle.std.proofs.Common.{◌≡◌, ℕ, List, ◌++◌, Result, Ok, Err, OnOk, is_ok, if◌then◌else◌}

pub on_ok_then : {T E P Q : Type 0} (r : Result T E) → OnOk r P → (P → Q) → OnOk r Q
on_ok_then (Ok v) h f = f h
on_ok_then (Err e) h f = tt

-- what was appended
pub ok_appends : {T E : Type 0} (r : Result T E) (new old bytes : List ℕ) (P : List ℕ → Type 0) → new ≡ (if is_ok r then old ++ bytes else old) → P bytes
    → OnOk r ((x : List ℕ) × (new ≡ old ++ x) × P x)
ok_appends (Ok v) new old bytes P e h = (bytes, e, h)
ok_appends (Err f) new old bytes P e h = tt
