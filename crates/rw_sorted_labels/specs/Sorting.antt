-- Labels in the order of a label set: "label names sorted in lexicographical order" (Remote-Write
-- 1.0, "Labels"), in the messages of requests.
use Rattle.std.specs.Prelude.{◌≡◌, ℕ, List, [], ◌∷◌, Ok, Err}
use Rattle.std.specs.List.Sorted.{IsPermutation, IsSorted}
use Rattle.rw_types.specs.Labels.{Labels}
use Rattle.rw_types.specs.LabelOrder.{label_cmp}
use Rattle.rw_write_request.specs.Message.{TimeSeries, WriteRequest}
use Rattle.rw_write_request.specs.Read.{read}
use Rattle.rw_write_request.specs.declared.fault.WireFault.{WireFault}

-- the same labels by name, and those of one name by value
pub record SortsLabels (before after : Labels) : Type 0 where
  pub same : IsPermutation before after
  pub sorted : IsSorted label_cmp after

-- a series with its labels sorted, and with the same samples
pub record SortsSeries (before after : TimeSeries) : Type 0 where
  pub labels : SortsLabels before.labels after.labels
  pub samples : after.samples ≡ before.samples

-- a message, series by series
abbrev pub SortsMessage : WriteRequest → WriteRequest → Type 0
SortsMessage [] [] = Unit {0}
SortsMessage (s ∷ ss) (t ∷ ts) = SortsSeries s t × SortsMessage ss ts
SortsMessage _ _ = ⊥

-- The text spells the message of the body with its labels sorted. A body that is no message stays
-- as it is.
pub record SortsBody (body text : List ℕ) : Type 0 where
  pub message : (m : WriteRequest) → read body ≡ Ok m → (n : WriteRequest) × SortsMessage m n × (read text ≡ Ok n)
  pub other : (e : WireFault) → read body ≡ Err e → text ≡ body
