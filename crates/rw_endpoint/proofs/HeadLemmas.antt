-- Heads and the bytes that follow.
use Rattle.std.proofs.Common.{ℕ, ◌≤◌, List, length, drop, arith}
use Rattle.httparse.specs.Grammar.{HasNoRequest, print_request}
use Rattle.rw_endpoint.specs.Reading.{NeverHasHead}
use Rattle.rw_types.proofs.shared.AnswerLemmas.{front_within}

-- a full buffer without a head never gets one within the limit
pub never_past : (buf : List ℕ) → HasNoRequest buf → 8192 ≤ length buf → NeverHasHead buf
never_past buf none full more head rest begins =
    none head (drop (length (print_request head)) buf)
    (begins.0.0, front_within buf more (print_request head) rest begins.0.1 (omega (arith, begins.1)))
