-- A small history in which one label set is refused: it is above the receiver's limits. Another one
-- is held all the same.
use Rattle.std.specs.Prelude.{ℕ, zero, suc, codes, List, [], ◌∷◌, Some}
use Rattle.rw_types.specs.Labels.{Labels}
use Rattle.rw_types.specs.declared.names.Names.TheVariants.{Utf8}
use Rattle.rw_retry.specs.declared.judgement.Judgement.TheVariants.{Done, Refused}
use Rattle.rw_head.specs.Verdicts.{LabelLimits}
use Rattle.rw_restarts.specs.Runs.{SentMessage, SenderRun}
use Rattle.rw_restarts.specs.Receivers.{ReceiverEvent, Answers, ReceiverState, empty_receiver, state_of}
use Rattle.rw_restarts.specs.Stopped.{run_from_start}
use Rattle.rw_restarts.specs.Examples.{first, sent_with, with_first}

-- no label is taken
abbrev pub limits : LabelLimits
limits = record { names = Utf8; max_labels = 0; max_label_bytes = 16384 }

abbrev pub refused_series : Labels
refused_series = (codes "job", codes "api") ∷ []

abbrev pub refused_message : SentMessage
refused_message = record {
  message = record { labels = refused_series; samples = (first.1, first.0) ∷ [] } ∷ [];
  judgement = Some Refused;
}

-- of the label set without labels it sends one sample
abbrev pub run : SenderRun
run = run_from_start (refused_message ∷ sent_with first (Some Done) ∷ [])

abbrev pub runs : List SenderRun
runs = run ∷ []

abbrev pub events : List ReceiverEvent
events = Answers 0 0 Refused ∷ Answers 0 1 Done ∷ []

-- its state before each event, and at the end
abbrev pub states : ℕ → ReceiverState
states zero = empty_receiver
states (suc zero) = empty_receiver
states (suc (suc n)) = state_of with_first with_first
