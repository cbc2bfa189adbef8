-- A small history of two runs. The first one is acknowledged one of its two messages, and is killed
-- before it has an answer to the other one, while the receiver is started again: what came with it
-- is kept, but was not acknowledged. The second run sends both again, and has answers.
use Rattle.std.specs.Prelude.{ℕ, zero, suc, pos, List, [], ◌∷◌, if◌then◌else◌, Option, Some, None}
use Rattle.std.specs.FinMap.{empty}
use Rattle.rw_types.specs.Labels.{Labels}
use Rattle.rw_types.specs.LabelOrder.{labels_eq}
use Rattle.rw_types.specs.declared.names.Names.TheVariants.{Utf8}
use Rattle.rw_write_request.specs.Message.{WriteRequest}
use Rattle.rw_retry.specs.declared.judgement.Judgement.{Judgement}
use Rattle.rw_retry.specs.declared.judgement.Judgement.TheVariants.{Done}
use Rattle.rw_head.specs.Order.{Point}
use Rattle.rw_head.specs.Store.{Store, with_list}
use Rattle.rw_head.specs.Verdicts.{LabelLimits}
use Rattle.rw_restarts.specs.Runs.{SentMessage, SenderRun}
use Rattle.rw_restarts.specs.Receivers.{ReceiverEvent, Answers, RestartsDuring, ReceiverState, empty_receiver, state_of}

-- the label set without labels, and its samples in the log
abbrev pub example_series : Labels
example_series = []

abbrev pub first : Point
first = (pos 10, 1)

abbrev pub second : Point
second = (pos 20, 2)

abbrev pub whole : Labels → List Point
whole l = if labels_eq l example_series then first ∷ second ∷ [] else []

-- ---- the sender
-- the message of one sample
abbrev pub message_of : Point → WriteRequest
message_of p = record { labels = example_series; samples = (p.1, p.0) ∷ [] } ∷ []

abbrev pub sent_with : Point → Option Judgement → SentMessage
sent_with p judgement = record { message = message_of p; judgement = judgement }

abbrev pub killed_run : SenderRun
killed_run = record {
  earlier = λ l. [];
  sent = sent_with first (Some Done) ∷ sent_with second None ∷ [];
}

abbrev pub second_run : SenderRun
second_run = record {
  earlier = λ l. [];
  sent = sent_with first (Some Done) ∷ sent_with second (Some Done) ∷ [];
}

abbrev pub runs : List SenderRun
runs = killed_run ∷ second_run ∷ []

-- ---- the receiver
abbrev pub limits : LabelLimits
limits = record { names = Utf8; max_labels = 64; max_label_bytes = 16384 }

abbrev pub events : List ReceiverEvent
events = Answers 0 0 Done ∷ RestartsDuring 0 1 ∷ Answers 1 0 Done ∷ Answers 1 1 Done ∷ []

abbrev pub with_first : Store
with_first = with_list example_series (first ∷ []) empty

abbrev pub with_both : Store → Store
with_both store = with_list example_series (first ∷ second ∷ []) store

-- its state before each event, and at the end
abbrev pub states : ℕ → ReceiverState
states zero = empty_receiver
states (suc zero) = state_of with_first with_first
states (suc (suc zero)) = state_of (with_both with_first) with_first
states (suc (suc (suc zero))) =
    state_of (with_both (with_both with_first)) (with_both (with_both with_first))
states (suc (suc (suc (suc n)))) =
    state_of (with_both (with_both (with_both with_first))) (with_both (with_both (with_both with_first)))
