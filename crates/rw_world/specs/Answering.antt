-- A request of a sender, and the answer of a receiver to it.
use Rattle.std.specs.Prelude.{◌≡◌, ℕ, List, map, length, nat_lt, if◌then◌else◌, Ok}
use Rattle.rw_batch.specs.Grouping.{message}
use Rattle.rw_plain_queue.specs.Items.{Placed}
use Rattle.rw_shard_core.specs.Shard.{labelled, body_of, IsReadAgain}
use Rattle.rw_shard_core.specs.SentRequest.{request_of}
use Rattle.rw_head.specs.Head.{State, Answer, answer_to}
use Rattle.rw_machine.specs.Worlds.{Request}

-- these bytes are the request of the batch, whose message a receiver reads
pub record IsSentTo (host path : List ℕ) (s : Request) : Type 0 where
  pub bytes : s.bytes ≡ request_of host path (body_of s.batch)
  pub read : IsReadAgain s.batch

-- a receiver's answer to the body of a batch: 413 Content Too Large over its limit, or what the
-- head answers to the message
abbrev pub answer_to_batch : ℕ → State → List Placed → Answer
answer_to_batch limit h batch =
    if nat_lt limit (length (body_of batch)) then record { status = 413; head = h }
    else answer_to h (Ok (message (map labelled batch)))
