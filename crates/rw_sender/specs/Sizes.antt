-- How many bytes samples may take in a body (Remote-Write 1.0: the body is a WriteRequest).
use Rattle.std.specs.Prelude.{ℕ, [], ◌∷◌, length}
use Rattle.rw_types.specs.Labels.{Labels}
use Rattle.rw_write_request.specs.Canon.{series_field}
use Rattle.rw_write_request.specs.Message.{Sample}
use Rattle.rw_batch.specs.Grouping.{LabelledSample}

-- a sample counts as many bytes as a message of it alone takes
unfoldable pub size_of_sample : Labels → Sample → ℕ
size_of_sample labels sample = length (series_field (record { labels = labels; samples = sample ∷ [] }))

abbrev pub bytes_alone : LabelledSample → ℕ
bytes_alone x = size_of_sample x.labels x.sample
