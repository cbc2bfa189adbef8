-- The message of a batch (Remote-Write 1.0): one series for each label set, in the order of first
-- samples, each with its samples in order.
use Rattle.std.specs.Prelude.{ℕ, List, [], ◌∷◌, ◌++◌, map, filter, length, sum_by, not, if◌then◌else◌}
use Rattle.std.specs.List.{list_any}
use Rattle.rw_types.specs.Labels.{Labels}
use Rattle.rw_types.specs.LabelOrder.{labels_eq}
use Rattle.rw_write_request.specs.Message.{Sample, WriteRequest}

-- a sample and the labels of its series
pub record LabelledSample : Type 0 where
  pub labels : Labels
  pub sample : Sample

-- the samples with these labels, in order
unfoldable pub samples_of : Labels → List LabelledSample → List Sample
samples_of l xs = map (λ x. x.sample) (filter (λ x. labels_eq l x.labels) xs)

-- each labels once, in the order of their first places
unfoldable pub distinct : List Labels → List Labels
distinct [] = []
distinct (l ∷ ls) = l ∷ filter (λ m. not (labels_eq l m)) (distinct ls)

-- the message that holds these samples
unfoldable pub message : List LabelledSample → WriteRequest
message xs = map (λ l. record { labels = l; samples = samples_of l xs }) (distinct (map (λ x. x.labels) xs))

-- a message with one more sample: at the end of the series with its labels, or in a new series
-- after the others
unfoldable pub with_sample : Labels → Sample → WriteRequest → WriteRequest
with_sample l s [] = record { labels = l; samples = s ∷ [] } ∷ []
with_sample l s (g ∷ gs) =
    if labels_eq l g.labels then record { labels = g.labels; samples = g.samples ++ s ∷ [] } ∷ gs else g ∷ with_sample l s gs

-- the labels of each series
abbrev pub labels_of_series : WriteRequest → List Labels
labels_of_series gs = map (λ g. g.labels) gs

-- how many samples there are in all series together
abbrev pub sample_count : WriteRequest → ℕ
sample_count gs = sum_by (λ g. length g.samples) gs

-- labels, with one that goes to the end if it is new
abbrev pub with_labels : Labels → List Labels → List Labels
with_labels l ls = if list_any (labels_eq l) ls then ls else ls ++ l ∷ []
