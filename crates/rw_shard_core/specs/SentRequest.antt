-- The request that carries a message (Remote-Write 1.0, "Protocol"; RFC 9112, sections 2 to 6).
use Rattle.std.specs.Prelude.{◌≡◌, ◌⊎◌, ℕ, ◌<◌, ◌^◌, List, [], ◌∷◌, ◌++◌, codes, decimal, length, Ok}
use Rattle.std.specs.List.{flat_map}
use Rattle.rw_types.specs.Requests.{line}
use Rattle.rw_snappy.specs.Snappy.{decoded}

-- the lines of a head, with these lines for the coding of the body and these digits as its length,
-- and the empty line that ends it
abbrev pub head_lines : List (List ℕ) → List ℕ → List ℕ → List ℕ → List (List ℕ)
head_lines coding host path digits =
    (codes "POST " ++ path ++ codes " HTTP/1.1")
    ∷ (codes "Host: " ++ host)
    ∷ codes "User-Agent: rwship/1.0"
    ∷ codes "Content-Type: application/x-protobuf"
    ∷ (coding
    ++ (codes "X-Prometheus-Remote-Write-Version: 0.1.0"
    ∷ codes "Connection: close"
    ∷ (codes "Content-Length: " ++ digits)
    ∷ []
    ∷ []))

unfoldable pub request_head : List ℕ → List ℕ → List ℕ → List ℕ
request_head host path digits = flat_map line (head_lines [] host path digits)

-- the head if the body is sent as a Snappy block (RFC 9110, section 8.4)
unfoldable pub snappy_request_head : List ℕ → List ℕ → List ℕ → List ℕ
snappy_request_head host path digits =
    flat_map line (head_lines (codes "Content-Encoding: snappy" ∷ []) host path digits)

-- the request that carries this body to this host and path
abbrev pub request_of : List ℕ → List ℕ → List ℕ → List ℕ
request_of host path body = request_head host path (decimal (length body)) ++ body

-- the request that carries this block to this host and path
abbrev pub snappy_request_of : List ℕ → List ℕ → List ℕ → List ℕ
snappy_request_of host path block = snappy_request_head host path (decimal (length block)) ++ block

-- The bytes are those of a request whose body is sent as a Snappy block, which decodes to the body
-- by the format's definition.
pub record CarriesInBlock (host path request bytes : List ℕ) : Type 0 where
  pub body : List ℕ
  pub block : List ℕ
  pub request_is : request ≡ request_of host path body
  pub bytes_are : bytes ≡ snappy_request_of host path block
  pub few : length block < 2 ^ 63
  pub holds : decoded block ≡ Ok body

-- The bytes carry the request: they are the request itself, or those of its body in a block.
abbrev pub Carries : List ℕ → List ℕ → List ℕ → List ℕ → Type 0
Carries host path request bytes = (bytes ≡ request) ⊎ CarriesInBlock host path request bytes
