-- Exponential backoff (Remote-Write 1.0, "Retries & backoff").
use Rattle.std.specs.Prelude.{ℕ, ◌*◌, ◌^◌, min}

-- the milliseconds before a retry, counted from 0: twice as many each time, within the greatest
abbrev pub delay_of : ℕ → ℕ → ℕ → ℕ
delay_of least most retry = min (least * 2 ^ retry) most
