-- How a store grows with the messages that it takes.
use Rattle.std.specs.Prelude.{◌≡◌, ℕ, ◌+◌, ◌≤◌, List, length, sum_by, Ok}
use Rattle.rw_types.specs.Labels.{Labels}
use Rattle.rw_types.specs.Rising.{Rises}
use Rattle.rw_write_request.specs.Message.{WriteRequest}
use Rattle.rw_write_request.specs.Read.{read}
use Rattle.rw_head.specs.Lists.{IsEarlier}
use Rattle.rw_head.specs.Store.{Store, list_of, total}

-- the samples of all series of a message
abbrev pub sample_count : WriteRequest → ℕ
sample_count m = sum_by (λ s. length s.samples) m

-- in the list of each label set the timestamps rise
abbrev pub EachRises : Store → Type 0
EachRises store = (l : Labels) → Rises IsEarlier (list_of store l)

-- the body spells a message, and at most its samples were added
abbrev pub HasStoredBody : List ℕ → Store → Store → Type 0
HasStoredBody body old new = (m : WriteRequest) × (read body ≡ Ok m) × (total new ≤ total old + sample_count m)
