-- A head whose label sets are seen at their places.
use Rattle.std.specs.Prelude.{◌≡◌, ℕ, ℤ, ◌<◌, List, [], ◌∷◌, length, slice_index_or}
use Rattle.rw_types.specs.Labels.{Labels}
use Rattle.rw_write_request.specs.Message.{WriteRequest}
use Rattle.rw_head.specs.Head.{State}

-- a head, and the label sets that have a place in it, by place
pub record Placing : Type 0 where
  pub head : State
  pub places : List Labels

-- the label set has this place
abbrev pub IsPlaced : ℕ → Labels → List Labels → Type 0
IsPlaced n l places = (n < length places) × (slice_index_or places n [] ≡ l)

-- the message of one series with one sample
abbrev pub one_sample : Labels → ℤ → ℕ → WriteRequest
one_sample l t word = record { labels = l; samples = (word, t) ∷ [] } ∷ []
