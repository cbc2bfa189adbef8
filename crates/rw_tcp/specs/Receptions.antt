-- What a status shows of a receiver that has taken nothing yet.
use Rattle.std.specs.Prelude.{ℕ, Bool, ◌==◌, ◌||◌}

-- the request has a wrong path, form or password, as all others will have
abbrev pub refuses_all : ℕ → Bool
refuses_all status =
    status == 400 || status == 401 || status == 403 || status == 404 || status == 405
    || status == 415
