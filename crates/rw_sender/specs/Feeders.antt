-- How far a log is sorted.
use Rattle.std.specs.Prelude.{◌≡◌, ℕ, ℤ, List, [], ◌∷◌, ◌++◌, Option, Some, None}
use Rattle.std.specs.Arc.{arc_value}
use Rattle.rw_types.specs.declared.entry.Entry.{Entry}
use Rattle.rw_types.specs.declared.entry.Entry.TheVariants.{Sample}
use Rattle.rw_types.specs.Labels.{Labels}
use Rattle.rw_external_labels.specs.External.{labelled, labelled_entry}
use Rattle.rw_wal_format.specs.Pieces.{Piece, entries, fault}
use Rattle.rw_wal_format.specs.declared.tail_fault.TailFault.{TailFault}
use Rattle.rw_ledger.specs.declared.ledger.Reason.{Reason}
use Rattle.rw_relabel.specs.declared.choice.Choice.{Choice}
use Rattle.rw_series_cache.specs.Fates.{Drops, fate}
use Rattle.rw_series_cache.specs.Routing.{IsSentNext}
use Rattle.rw_series_cache.specs.declared.sample.RoutedSample.{RoutedSample}
use Rattle.rw_sender.specs.Logs.{Sent, sent_of}
use Rattle.rw_sender.specs.declared.feeder.Next.{Next}
use Rattle.rw_sender.specs.declared.feeder.Next.TheVariants as next

-- the rules, the external labels, the pieces of the log so far, the entries that were placed, and
-- those that were read and are to be placed; these have the external labels
pub record Sorting : Type 0 where
  pub choice : Choice
  pub labels : List (List ℕ × List ℕ)
  pub pieces : List Piece
  pub placed : List Entry
  pub hand : List Entry

-- which series are sent, and with which external labels
abbrev pub setup_of : Sorting → Choice × Labels
setup_of s = (s.choice, s.labels)

-- the entries of the log so far, with the external labels
abbrev pub log_of : Sorting → List Entry
log_of s = labelled s.labels (entries s.pieces)

-- all of them were placed: there is this fault after them, or none
pub record HasReadAll (s : Sorting) (found : Option TailFault) : Type 0 where
  pub all : s.placed ≡ log_of s
  pub fault_is : fault s.pieces ≡ found

-- what was in hand is placed
abbrev pub HasPlaced : Sorting → Sorting → Type 0
HasPlaced old new = new ≡ record old { placed = old.placed ++ old.hand; hand = [] }

-- the next entry is a sample that is dropped for this reason
pub record IsDropped (s : Sorting) (reason : Reason) : Type 0 where
  pub reference : ℕ
  pub t : ℤ
  pub word : ℕ
  pub hand : s.hand ≡ Sample reference t word ∷ []
  pub fate_is : fate s.choice s.placed reference t ≡ Drops reason

-- the next entry is a sample that is dropped, for some reason
abbrev pub IsDroppedSample : Sorting → Type 0
IsDroppedSample s = (reason : Reason) × IsDropped s reason

-- the next entry is a sample that is sent, in the series of this number, at this time
pub record IsToBeSent (s : Sorting) (series : ℕ) (t : ℤ) : Type 0 where
  pub entry : Entry
  pub hand : s.hand ≡ entry ∷ []
  pub next : IsSentNext s.choice s.placed entry series t

abbrev pub sent_by : RoutedSample → Sent
sent_by l = record { pos = l.pos; series = l.series; t = l.t; word = l.word; labels = arc_value l.labels }

-- an entry is in hand, or the log has been read to its end, or to a fault
abbrev pub ReadsNext : Sorting → Sorting → Next → Type 0
ReadsNext old new (next.Entry e) = new ≡ record old { hand = labelled_entry old.labels e ∷ [] }
ReadsNext old new next.End = (new ≡ old) × HasReadAll old None
ReadsNext old new (next.Damaged f) = (new ≡ old) × HasReadAll old (Some f)

-- an entry was placed that is not to be sent, or gives a sample that is
abbrev pub Judges : Sorting → Sorting → Entry → Option RoutedSample → Type 0
Judges old new e None = HasPlaced old new × (sent_of old.choice old.placed e ≡ [])
Judges old new e (Some l) = (new ≡ old) × (sent_of old.choice old.placed e ≡ sent_by l ∷ []) × IsToBeSent old l.series l.t
