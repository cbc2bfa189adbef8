-- What a message adds to a head, label set by label set.
use Rattle.std.specs.Prelude.{◌≡◌, ◌≢◌, ℕ, ◌<◌, if◌then◌else◌, List, [], ◌∷◌, ◌++◌, length, All, AllPairs}
use Rattle.rw_types.specs.Labels.{Labels}
use Rattle.rw_types.specs.LabelOrder.{labels_eq}
use Rattle.rw_head.specs.Order.{Point}
use Rattle.rw_head.specs.Store.{Store, list_of}

-- the samples that are added to a label set, which the head holds at this place
pub record Added : Type 0 where
  pub place : ℕ
  pub labels : List (List ℕ × List ℕ)
  pub samples : List Point

-- the samples that are added to this label set, in order
abbrev pub samples_added : Labels → List Added → List Point
samples_added l [] = []
samples_added l (a ∷ rest) = (if labels_eq a.labels l then a.samples else []) ++ samples_added l rest

-- Each list of the second store is the list of the first, followed by what is added to it. Each
-- label set is there once, and gets samples.
pub record AddsUp (old new : Store) (added : List Added) : Type 0 where
  pub lists : (l : Labels) → list_of new l ≡ list_of old l ++ samples_added l added
  pub apart : AllPairs (λ a b. a.labels ≢ b.labels) added
  pub filled : All (λ a. 0 < length a.samples) added
