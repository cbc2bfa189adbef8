-- Inner definitions beside those of Answering.antt: only invariants, private functions and
-- proofs use them.
use Rattle.std.specs.Prelude.{◌≡◌, ℕ, ◌⊎◌, Result, Ok, Err}
use Rattle.std.specs.declared.alloc.AllocError.{AllocError}
use Rattle.http.specs.StatusCode.{IsStatusCode}
use Rattle.rw_head.specs.Head.{State, Answer}

-- the answer; or memory ran out, and the head stays as it was
abbrev pub IsReplied : Answer → State → Result ℕ AllocError → State → Type 0
IsReplied a old (Ok status) new = ((status ≡ a.status) × (new ≡ a.head) × IsStatusCode status) ⊎ ((status ≡ 503) × (new ≡ old))
IsReplied a old (Err e) new = new ≡ old
