-- What a request through a seat does that takes what it can: it asks for the body as a whole, and
-- if that is refused, for what the head can take of it.
use Rattle.std.specs.Prelude.{◌≡◌, ◌≢◌, ◌⊎◌, ℕ, List, [], ◌∷◌, ◌++◌, Ok, ◌==◌, if◌then◌else◌}
use Rattle.rw_write_request.specs.Message.{WriteRequest}
use Rattle.rw_write_request.specs.Read.{read}
use Rattle.rw_head.specs.Head.{State, SpellsMessage}
use Rattle.rw_head.specs.Partial.{takeable}
use Rattle.rw_recv_head.specs.Seats.{Seated, HasAsked, bodies_of, store_after}

-- The seat asked for what the head can take of the message of a body. Nobody asked between. If that
-- is taken, the answer is 400, since the body as a whole was refused.
pub record TakesPart (opening : State) (middle : Seated) (body : List ℕ) (status : ℕ) (new : Seated) : Type 0 where
  pub message : WriteRequest
  pub text : List ℕ
  pub second : ℕ
  pub spells : read body ≡ Ok message
  pub part : read text ≡ Ok (takeable opening.limits (store_after opening (bodies_of middle.asked)) message)
  pub asked : HasAsked opening middle text second new
  pub at_once : new.asked ≡ middle.asked ++ record { seat = middle.number; body = text; status = second } ∷ []
  pub status_is : status ≡ (if second == 204 then 400 else 503)

-- what becomes of a body that is refused as a whole: it is no message; or memory ran out; or what
-- can be taken of it was asked for
abbrev pub TakesRest : State → Seated → List ℕ → ℕ → Seated → Type 0
TakesRest opening middle body status new =
    ((status ≡ 400) × (new ≡ middle) × ((m : WriteRequest) → read body ≢ Ok m))
    ⊎ (((status ≡ 503) × (new ≡ middle) × SpellsMessage body)
    ⊎ TakesPart opening middle body status new)

-- a seat asked for a body, and if it was refused as a whole, for what can be taken of it
abbrev pub HasAskedPartly : State → Seated → List ℕ → ℕ → Seated → Type 0
HasAskedPartly opening old body status new =
    (HasAsked opening old body status new × (status ≢ 400))
    ⊎ ((middle : Seated) × HasAsked opening old body 400 middle × TakesRest opening middle body status new)
