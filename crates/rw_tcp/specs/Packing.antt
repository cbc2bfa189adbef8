-- The bytes that are written for a request if bodies are sent as Snappy blocks.
use Rattle.std.specs.Prelude.{◌≡◌, ◌≢◌, ◌⊎◌, ℕ, List}
use Rattle.rw_shard_core.specs.SentRequest.{request_of, CarriesInBlock}
use Rattle.rw_shard_core.specs.declared.config.Target.{Target}

-- They are those of its body in a block that decodes to it. Bytes that are not a request to this
-- target are written as they are.
abbrev pub IsPacked : Target → List ℕ → List ℕ → Type 0
IsPacked target request bytes =
    CarriesInBlock target.host target.path request bytes
    ⊎ ((bytes ≡ request) × ((body : List ℕ) → request ≢ request_of target.host target.path body))

-- the target of requests, the last one of them, and the bytes that are written for it
pub record Packer : Type 0 where
  pub target : Target
  pub request : List ℕ
  pub bytes : List ℕ
