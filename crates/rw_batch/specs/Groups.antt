-- The series of a message that grows, and the number by which each is found.
use Rattle.std.specs.Prelude.{◌≡◌, ◌↔◌, ℕ, List, [], ◌∷◌, ◌++◌, Some, slice_get, ◌==◌, if◌then◌else◌}
use Rattle.std.specs.List.{list_any}
use Rattle.rw_types.specs.Labels.{Labels}
use Rattle.rw_write_request.specs.Message.{WriteRequest}
use Rattle.rw_batch.specs.Grouping.{labels_of_series}

-- the series, and the number of each, in the same order
pub record Groups : Type 0 where
  pub numbers : List ℕ
  pub series : WriteRequest

-- a number stands for labels: each place has this number exactly if its series has these labels
abbrev pub StandsFor : ℕ → Labels → Groups → Type 0
StandsFor number l g = (i : ℕ) → (slice_get g.numbers i ≡ Some number) ↔ (slice_get (labels_of_series g.series) i ≡ Some l)

-- numbers, with one that goes to the end if it is new
abbrev pub with_number : ℕ → List ℕ → List ℕ
with_number n ns = if list_any (λ m. n == m) ns then ns else ns ++ n ∷ []

-- among these numbers no other one has the labels of n, if f gives the labels of each number
abbrev pub IsAlone : (ℕ → Labels) → ℕ → List ℕ → Type 0
IsAlone f n ns = (i m : ℕ) → slice_get ns i ≡ Some m → f m ≡ f n → m ≡ n
