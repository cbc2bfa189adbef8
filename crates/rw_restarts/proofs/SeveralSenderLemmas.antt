-- One receiver of several senders.
use Rattle.std.proofs.Common.{◌≡◌, ◌≢◌, ◌⊎◌, inl, inr, ℕ, List, [], ◌∷◌, ◌++◌, length, Some, slice_get, refl, sym, ap, subst}
use Rattle.std.proofs.lemmas.Bool.{cases_eq}
use Rattle.rw_types.specs.Beginnings.{Begins}
use Rattle.rw_types.specs.Labels.{Labels}
use Rattle.rw_head.specs.Order.{Point}
use Rattle.rw_head.specs.Verdicts.{LabelLimits}
use Rattle.rw_restarts.specs.Parts.{points_in}
use Rattle.rw_restarts.specs.Runs.{SenderRun, SendsNext, acknowledged_before}
use Rattle.rw_restarts.specs.Receivers.{ReceiverEvent, ReceiverState, IsReceiverOf, HasNoGap}
use Rattle.rw_restarts.specs.Logs.{AreRunsOverLog, HoldsLog}
use Rattle.rw_restarts.specs.SeveralSenders.{LogSender, owed_by, AreRunsOfSenders, IsOfOneSender, AreSendersApart}
use Rattle.rw_restarts.proofs.LogLemmas.{HoldsOneLog}

-- what is a prefix of the empty list is one of each list
Begins-none : (xs whole : List Point) → Begins xs [] → Begins xs whole
Begins-none [] whole b = (whole, refl)
Begins-none (x ∷ xs) whole b = absurd (let e = b.1 in cc e)

-- a run that sends the empty list sends any list
sends-none : (l : Labels) (whole : List Point) (run : SenderRun) → SendsNext l [] run → SendsNext l whole run
sends-none l whole run none n x is fine = Begins-none (acknowledged_before run l n ++ points_in l x.message) whole (none n x is fine)

-- the runs of all senders are runs over the log of the only one that owes samples of the label set
pub over-one-log : (senders : ℕ → LogSender) (sender_of : ℕ → ℕ) (runs : List SenderRun) (s : ℕ) (l : Labels) → AreRunsOfSenders senders sender_of runs l → IsOfOneSender senders s l
    → AreRunsOverLog (senders s).choice (senders s).log runs l
over-one-log senders sender_of runs s l each own i run is = by_sender (cases_eq (sender_of i) s)
  where
    by_sender : ((sender_of i ≡ s) ⊎ (sender_of i ≢ s)) → SendsNext l (owed_by (senders s) l) run
    by_sender (inl same) = subst (λ (k : ℕ). SendsNext l (owed_by (senders k) l) run) same (each i run is)
    by_sender (inr other) = sends-none l (owed_by (senders s) l) run (subst (λ (ps : List Point). SendsNext l ps run) (own (sender_of i) other) (each i run is))

-- so the receiver holds of the label set what the law of one log says
pub holds-own : HoldsOneLog → (limits : LabelLimits) (senders : ℕ → LogSender) (sender_of : ℕ → ℕ) (runs : List SenderRun) (events : List ReceiverEvent) (states : ℕ → ReceiverState) (s : ℕ) (l : Labels) → AreRunsOfSenders senders sender_of runs l
    → IsOfOneSender senders s l → IsReceiverOf limits runs events states → HasNoGap runs events states l → HoldsLog (senders s).choice (senders s).log runs (states (length events)) l
holds-own held limits senders sender_of runs events states s l each own = held limits (senders s).choice (senders s).log runs events states l (over-one-log senders sender_of runs s l each own)

-- if no two senders have a label set in common, one that a sender owes samples of is its own
pub apart-own : (senders : ℕ → LogSender) (s : ℕ) (l : Labels) → AreSendersApart senders → owed_by (senders s) l ≢ [] → IsOfOneSender senders s l
apart-own senders s l apart some other differ = by_case (apart other s l differ)
  where
    by_case : ((owed_by (senders other) l ≡ []) ⊎ (owed_by (senders s) l ≡ [])) → owed_by (senders other) l ≡ []
    by_case (inl none) = none
    by_case (inr none) = absurd (some none)
