-- A small history of a receiver with a journal. It is opened over an empty log, and asked for the
-- body of the small history over the wire. A crash comes before it answers, and leaves a torn part
-- of what it was writing: the definition of the label set, and three bytes of the sample. A second
-- crash comes while it is opened again, after these three bytes were cut off. Then the request
-- comes again, and is answered 204, and the receiver is started once more. The journal is one of
-- the logic alone: it is no program.
use Rattle.std.specs.Prelude.{◌≡◌, ◌⊎◌, ℕ, zero, suc, List, [], ◌∷◌, ◌++◌, length, drop, None}
use Rattle.std.specs.FinMap.{empty}
use Rattle.rw_types.specs.Beginnings.{Begins}
use Rattle.rw_wal_format.specs.Pieces.{page_size}
use Rattle.rw_wal_format.specs.Records.{series_record, sample_record}
use Rattle.rw_wal_format.specs.Writing.{log_bytes}
use Rattle.rw_head.specs.Store.{Store}
use Rattle.rw_machine.specs.declared.event.How.TheVariants.{Plain}
use Rattle.rw_kept_log.specs.Journal.{Segments}
use Rattle.rw_kept_head.specs.Kept.{Kept}
use Rattle.rw_restarts.specs.WireReceivers.{WireEvent, Comes, Reopens, ReopensDuring}
use Rattle.rw_restarts.specs.KeptWireReceivers.{KeptState}
use Rattle.rw_restarts.specs.Examples.{example_series, first, with_first}
use Rattle.rw_restarts.specs.WireExamples.{the_place, state_with}

-- ---- the journal
-- its segments, all of which are synced, and what a crash at each moment before would have left
pub record ExampleJournal : Type 0 where
  pub segments : Segments
  pub past : List Segments

abbrev pub seen : ExampleJournal → Segments
seen j = j.segments

abbrev pub may_leave : ExampleJournal → Segments → Type 0
may_leave j left = left ≡ j.segments

abbrev pub moment : ExampleJournal → ℕ
moment j = length j.past

abbrev pub IsOneOf : List Segments → Segments → Type 0
IsOneOf [] left = ⊥
IsOneOf (c ∷ cs) left = (left ≡ c) ⊎ IsOneOf cs left

-- a crash since a moment might have left this
abbrev pub left_since : ExampleJournal → ℕ → Segments → Type 0
left_since j t left = (left ≡ j.segments) ⊎ IsOneOf (drop t j.past) left

-- a crash leaves any prefix of the bytes that are on their way
abbrev pub tears : List ℕ → List ℕ → Type 0
tears bytes torn = Begins torn bytes

-- ---- the log
-- what is written for the message: the definition of its label set, and its sample
abbrev pub definition_written : List ℕ
definition_written = log_bytes page_size 0 (series_record 1 example_series)

abbrev pub sample_written : List ℕ
sample_written =
    log_bytes page_size (length definition_written)
    (sample_record ((1, first.0, first.1) ∷ []))

abbrev pub written : List ℕ
written = definition_written ++ sample_written

-- Of this the crash leaves the definition, and of the sample three bytes of a header: the type and
-- the length of a fragment.
abbrev pub begun_header : List ℕ
begun_header = 1 ∷ 0 ∷ 27 ∷ []

abbrev pub torn : List ℕ
torn = definition_written ++ begun_header

-- ---- the journals
abbrev pub opened_over : List ℕ → ExampleJournal
opened_over text = record { segments = text ∷ []; past = [] }

-- the torn one after the begun header was cut off
abbrev pub cut_journal : ExampleJournal
cut_journal = record { segments = definition_written ∷ []; past = (torn ∷ []) ∷ [] }

-- one that had this text after all was written to it
abbrev pub written_over : List ℕ → ExampleJournal
written_over text = record { segments = written ∷ []; past = (text ∷ []) ∷ (torn ∷ []) ∷ [] }

-- ---- the receiver
abbrev pub kept_with : Store → ExampleJournal → Kept ExampleJournal
kept_with store journal =
    record { head = (state_with store).head; journal = journal; pages = 1; fault = None }

-- the head over a journal, if all that it holds was acknowledged
abbrev pub kept_state : Store → ExampleJournal → KeptState ExampleJournal
kept_state store journal = record { kept = kept_with store journal; acknowledged = store }

abbrev pub events : List WireEvent
events = ReopensDuring the_place ∷ Comes the_place Plain 204 ∷ Reopens ∷ []

-- its state before each event, and at the end
abbrev pub states : ℕ → KeptState ExampleJournal
states zero = kept_state empty (opened_over [])
states (suc zero) = kept_state empty (opened_over definition_written)
states (suc (suc zero)) = kept_state with_first (written_over definition_written)
states (suc (suc (suc n))) = kept_state with_first (opened_over written)
