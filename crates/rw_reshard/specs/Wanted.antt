-- How many shards a sender wants (the remote_write queues of Prometheus).
use Rattle.std.specs.Prelude.{ℕ, ◌+◌, ◌*◌, min, max, ◌==◌, nat_lt, if◌then◌else◌}
use Rattle.std.specs.Int.{div_ceil, abs_diff}

-- a number, limited to a range
abbrev pub within : ℕ → ℕ → ℕ → ℕ
within least most n = min (max least n) most

-- the shards that would have resolved what was placed, and the backlog with it
abbrev pub desired : ℕ → ℕ → ℕ → ℕ → ℕ → ℕ → ℕ
desired n placed resolved backlog least most = within least most (div_ceil (n * (placed + backlog)) resolved)

-- a new number is taken if it differs from the present one by more than three tenths of this
abbrev pub if_far : ℕ → ℕ → ℕ
if_far n new = if nat_lt (3 * n) (10 * abs_diff new n) then new else n

-- the shards that are wanted if there are n, after these numbers of samples were placed and
-- resolved; while none is resolved, as many as there are
abbrev pub wanted : ℕ → ℕ → ℕ → ℕ → ℕ → ℕ → ℕ
wanted n placed resolved backlog least most =
    let now = within least most n in
    if resolved == 0 then now else if_far now (desired now placed resolved backlog least most)
