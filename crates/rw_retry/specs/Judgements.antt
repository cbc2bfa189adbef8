-- How a sender judges a reply (Remote-Write 1.0, "Retries & backoff").
use Rattle.std.specs.Prelude.{ℕ, ◌+◌, ◌||◌, Bool, ◌==◌, nat_le, nat_lt, ◌&&◌, if◌then◌else◌}
use Rattle.rw_retry.specs.declared.judgement.Judgement.{Judgement}
use Rattle.rw_retry.specs.declared.judgement.Judgement.TheVariants.{Done, Again, Refused}

-- the status lies in the hundred that begins at low
abbrev pub is_in_class : ℕ → ℕ → Bool
is_in_class low status = nat_le low status && nat_lt status (low + 100)

-- 2xx is done, 429 and 5xx are sent again, all others are refused
abbrev pub judgement_of : ℕ → Judgement
judgement_of status =
    if is_in_class 200 status then Done
    else if is_in_class 500 status || status == 429 then Again
    else Refused
