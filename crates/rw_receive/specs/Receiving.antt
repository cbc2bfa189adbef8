-- What a run of the command `receive` does to its writer.
use Rattle.std.specs.Prelude.{◌≡◌, ℕ, ◌≤◌, List, length, take, Option}
use Rattle.std.specs.FinMap.{empty}
use Rattle.std.specs.Io.KnownBytes.{Appends}
use Rattle.rw_head.specs.declared.capacity.Capacity.{Capacity}
use Rattle.rw_head.specs.declared.limits.Limits.{Limits}
use Rattle.rw_head.specs.Capacity.{StaysWithin}
use Rattle.rw_head.specs.Head.{State}
use Rattle.rw_head.specs.Store.{Store}
use Rattle.rw_head.specs.Growth.{EachRises}
use Rattle.rw_recv_head.specs.Seats.{Seated, HasAdmitted, HasGathered}
use Rattle.rw_report_text.specs.StateText.{store_text}

-- a prefix of the text was written
abbrev pub AppendsPart : Option (List ℕ) → Option (List ℕ) → List ℕ → Type 0
AppendsPart before after text = (n : ℕ) × (n ≤ length text) × Appends before after (take n text)

-- a head without samples, with these limits
pub record IsNew (limits : Limits) (opening : State) : Type 0 where
  pub store : opening.store ≡ empty
  pub names : opening.limits.names ≡ limits.names
  pub max_labels : opening.limits.max_labels ≡ limits.max_labels
  pub max_label_bytes : opening.limits.max_label_bytes ≡ limits.max_label_bytes
  pub busy : opening.busy ≡ limits.busy_first

-- The head that was `opening` was asked from that many seats. It holds what it takes of all that it
-- was asked, and nothing else. The timestamps of each of its lists rise.
pub record HasReceived (opening : State) (count : ℕ) (store : Store) : Type 0 where
  pub seats : List Seated
  pub all : length seats ≡ count
  pub gathered : HasGathered opening seats store
  pub rises : EachRises store

-- What had that head, `first`, was asked so from that many seats, one question after the other, and
-- came to `last`.
pub record HasServed {H : Type 0} (state : H → State) (admits : H → List ℕ → ℕ → H → Type 0) (opening : State) (first : Option H) (count : ℕ) (last : H) : Type 0 where
  pub received : HasReceived opening count (state last).store
  pub admitted : HasAdmitted admits first received.gathered.asked last

-- A new head with these limits has received these. Since it began without samples, it holds at most
-- the capacity.
abbrev pub IsReceived : Limits → Capacity → ℕ → Store → Type 0
IsReceived limits capacity count store =
    (opening : State) × IsNew limits opening × HasReceived opening count store × StaysWithin capacity opening.store store

-- what such a head holds was written
abbrev pub WritesHeld : Limits → Capacity → ℕ → Option (List ℕ) → Option (List ℕ) → Type 0
WritesHeld limits capacity count before after = (store : Store) × IsReceived limits capacity count store × Appends before after (store_text store)

-- a prefix of it was written
abbrev pub WritesHeldPart : Limits → Capacity → ℕ → Option (List ℕ) → Option (List ℕ) → Type 0
WritesHeldPart limits capacity count before after = (store : Store) × IsReceived limits capacity count store × AppendsPart before after (store_text store)
