-- Before the first request nothing is written.
use Rattle.std.proofs.Common.{◌≢◌, ℕ, List, [], inr, refl}
use Rattle.rw_shard_core.specs.SentRequest.{request_head, request_of}
use Rattle.rw_shard_core.specs.declared.config.Target.{Target}
use Rattle.rw_tcp.specs.Packing.{IsPacked}

-- a request has bytes
some-bytes : (host path body : List ℕ) → [] ≢ request_of host path body
unfolding request_head
some-bytes host path body e = absurd (cc e)

pub nothing-packed : (target : Target) → IsPacked target [] []
nothing-packed target = inr (refl, some-bytes target.host target.path)
