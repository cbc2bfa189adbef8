-- The lists of a head while it judges a message: how each was before, and how it would be.
use Rattle.std.specs.Prelude.{◌≡◌, ℕ, int_lt, Bool, true, false, if◌then◌else◌, List, [], ◌∷◌, length, map, drop, slice_index_or}
use Rattle.rw_types.specs.Labels.{Labels}
use Rattle.rw_head.specs.Added.{Added}
use Rattle.rw_head.specs.Order.{Point}

-- the first has the earlier timestamp
abbrev pub IsEarlier : Point → Point → Type 0
IsEarlier x y = int_lt x.0 y.0 ≡ true

-- the samples that are gone, these and those that are kept, and all these with those of the message
-- so far
pub record Lists : Type 0 where
  pub gone : List Point
  pub kept : List Point
  pub staged : List Point

abbrev pub no_lists : Lists
no_lists = record { gone = []; kept = []; staged = [] }

-- the samples of a list that are staged, and how many they are
abbrev pub more_of : Lists → List Point
more_of x = drop (length x.kept) x.staged

-- what is staged at a place, and at all places that are noted
abbrev pub added_at : List Labels → List Lists → ℕ → Added
added_at names lists n = record { place = n; labels = slice_index_or names n []; samples = more_of (slice_index_or lists n no_lists) }

unfoldable pub added_of : List Labels → List Lists → List ℕ → List Added
added_of names lists touched = map (added_at names lists) touched

abbrev pub has_samples : List Point → Bool
has_samples [] = false
has_samples (x ∷ xs) = true

-- the label sets that keep samples, each with these
abbrev pub with_samples : List Lists → List (Labels × ℕ) → List (Labels × List Point)
with_samples lists [] = []
with_samples lists (e ∷ es) =
    if has_samples (slice_index_or lists e.1 no_lists).kept then (e.0, (slice_index_or lists e.1 no_lists).kept) ∷ with_samples lists es
    else with_samples lists es
