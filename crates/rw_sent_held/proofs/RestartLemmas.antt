-- A run of the command is a run of a sender, and adds what it was fed to a receiver.
use Rattle.std.proofs.Common.{◌≡◌, ℕ, ◌<◌, List, [], length, take, Option, Some, slice_get, refl, sym, ap, ◌∙◌, subst, arith}
use Rattle.std.specs.Prelude.{false}
use Rattle.std.proofs.lemmas.List.{take-append-le}
use Rattle.std.proofs.lemmas.Option.{slice_get_within}
use Rattle.rw_types.specs.Beginnings.{Begins}
use Rattle.rw_types.specs.Labels.{Labels}
use Rattle.rw_types.specs.declared.entry.Entry.{Entry}
use Rattle.rw_types.specs.declared.entry.Entry.TheVariants.{Sample}
use Rattle.rw_types.proofs.shared.AllLemmas.{AllByRecursion-from_get}
use Rattle.rw_types.proofs.shared.BeginningLemmas.{begins_twice}
use Rattle.rw_external_labels.specs.External.{labelled}
use Rattle.rw_wal_format.specs.Pieces.{Piece, entries}
use Rattle.rw_relabel.specs.declared.choice.Choice.{Choice}
use Rattle.rw_series_cache.specs.Known.{known}
use Rattle.rw_retry.specs.declared.judgement.Judgement.TheVariants.{Refused}
use Rattle.rw_shard_core.specs.Configs.{choice_of}
use Rattle.rw_shard_core.specs.declared.config.ConfigFields.{ConfigFields}
use Rattle.rw_shard_core.specs.declared.outcome.Outcome.{Outcome}
use Rattle.rw_shard_core.specs.declared.outcome.Outcome.TheVariants.{Complete, Abandoned, Damaged}
use Rattle.rw_head.specs.Order.{Point}
use Rattle.rw_head.specs.Store.{Store, list_of}
use Rattle.rw_head.specs.Verdicts.{LabelLimits}
use Rattle.rw_restarts.specs.Owed.{owed_of}
use Rattle.rw_worker.specs.Transcript.{Exchange}
use Rattle.rw_sender.specs.Reports.{IsAbandoned}
use Rattle.rw_sender.specs.Feeders.{log_of}
use Rattle.rw_sender.specs.Shipping.{Shipping, HasEndedAs}
use Rattle.rw_sender.specs.declared.report.Report.{Report}
use Rattle.rw_restarts.specs.Listed.{is_left}
use Rattle.rw_send.specs.Sending.{IsReportOf}
use Rattle.rw_restarts.proofs.shared.ListLemmas.{get-within}
use Rattle.rw_restarts.specs.Parts.{points_in}
use Rattle.rw_restarts.specs.Runs.{SenderRun, SentMessage, IsSentBy, acknowledged_in}
use Rattle.rw_restarts.specs.Receivers.{HasNoGap, IsReceiverOf, IsUnrefused, ReceiverEvent, ReceiverState}
use Rattle.rw_restarts.specs.Logs.{AreRunsOverLog, HoldsLog, IsRunOverPart}
use Rattle.rw_restarts.specs.Workers.{NeverRefused}
use Rattle.rw_restarts.specs.Stopped.{AbandonsAsSender, AddsOverWire, AddsToReceiver, HasAdded, IsStoppedRun, IsUnlisted, run_from_start}
use Rattle.rw_sent_held.specs.Held.{machine_of}
use Rattle.rw_sent_held.specs.Restarts.{AddsFed, HasAddedFed, IsFedUnlisted, IsRunOverFed, IsSettledBy}
use Rattle.rw_sent_held.proofs.HeldLemmas.{all_from, placed_from}

-- ---- a label set of which a receiver refuses nothing
none_refused : (limits : LabelLimits) (l : Labels) (runs : List SenderRun) (events : List ReceiverEvent) (states : ℕ → ReceiverState) (i : ℕ) (run : SenderRun) → slice_get runs i ≡ Some run → IsReceiverOf limits runs events states
    → IsUnrefused runs events l → NeverRefused l run.sent
none_refused limits l runs events states i run at receiver never =
    AllByRecursion-from_get (λ (x : SentMessage). x.judgement ≡ Some Refused → points_in l x.message ≡ []) run.sent
    (λ n x here refused.
    let sent : IsSentBy runs i n run x = record { exists = at; is = here } in
    let answer = receiver.answers.all i n run x Refused sent refused in never answer.at i n run x answer.is sent)

module _ {T : Type 0} (tells : T → Type 0) (seen : T → List Exchange) (is_for : ℕ → ℕ → T → Type 0)
    (c : ConfigFields) (limit : Option ℕ) (labels : Labels) (cause : Type 0) (ps : List Piece) (r : Report T)
    (report : IsReportOf tells seen is_for c limit labels cause ps r) where
  -- the entries that were fed, with the external labels
  abbrev fed : List Entry
  fed = labelled labels (entries ps)

  abbrev s : Shipping T
  s = report.shipping

  placed_begins : Begins s.log.placed fed
  placed_begins = subst (λ (x : Labels × List Piece). Begins s.log.placed (labelled x.0 (entries x.1))) (λ i. (report.labels_are i, report.pieces_are i)) report.stopped.read

  -- all that was fed was placed
  all_placed : s.log.placed ≡ log_of s.log → s.log.placed ≡ fed
  all_placed all = all ∙ (λ i. labelled (report.labels_are i) (entries (report.pieces_are i)))

  ends_as : (o : Outcome) → r.outcome ≡ o → HasEndedAs s report.stopped.joined o
  ends_as o is = subst (HasEndedAs s report.stopped.joined) is report.stopped.ends

  module _ (abandoned : (s : Shipping T) (r : Report T) → AbandonsAsSender tells seen is_for s r)
      (many : (limits : LabelLimits) (choice : Choice) (log : List Entry) (runs : List SenderRun) (events : List ReceiverEvent) (states : ℕ → ReceiverState) (l : Labels) → AreRunsOverLog choice log runs l → IsReceiverOf limits runs events states
      → HasNoGap runs events states l → HoldsLog choice log runs (states (length events)) l) where
    run : IsStoppedRun tells seen is_for s r report.stopped
    run = abandoned s r report.stopped report.last.before (placed_from s report.last.before report.last.is report.placed) (all_from s report.last.before report.stopped.joined report.last.is report.stopped.all) report.last.resolved

    complete : (end : ℕ) → r.outcome ≡ Complete end → (l : Labels) → NeverRefused l run.run.sent → acknowledged_in l run.run.sent ≡ owed_of (choice_of c) fed l
    complete end is l never =
        run.run.done (run.done (λ h. subst IsAbandoned is h)) l never
        ∙ ap (λ (choice : Choice). owed_of choice s.log.placed l) report.choice
        ∙ ap (λ es. owed_of (choice_of c) es l) (all_placed (ends_as (Complete end) is).1.all)

    held : (end : ℕ) → r.outcome ≡ Complete end → (limits : LabelLimits) (log : List Entry) (runs : List SenderRun) (i : ℕ) (events : List ReceiverEvent) (states : ℕ → ReceiverState) (l : Labels) → slice_get runs i ≡ Some (run_from_start run.run.sent)
        → AreRunsOverLog (choice_of c) log runs l → IsReceiverOf limits runs events states → HasNoGap runs events states l → Begins (owed_of (choice_of c) fed l) (list_of (states (length events)).store l)
    held end is limits log runs i events states l at over receiver no_gap =
        let holds = many limits (choice_of c) log runs events states l over receiver no_gap in
        let never : NeverRefused l run.run.sent = none_refused limits l runs events states i (run_from_start run.run.sent) at receiver no_gap.unrefused in
        holds.complete i (run_from_start run.run.sent) fed at (list_of (states (length events)).acknowledged l, refl) (complete end is l never)

    pub is_run : IsRunOverFed tells seen is_for c fed report.shipping r report.stopped
    is_run = record {
      run = run;
      over = λ log begins. subst (λ (choice : Choice). IsRunOverPart choice log (run_from_start run.run.sent)) report.choice (run.over log (begins_twice s.log.placed fed log placed_begins begins));
      complete = complete;
      held = held;
    }

  -- ---- what it adds
  -- a position that was placed, and is not left
  record IsSettled (p : ℕ) : Type 0 where
    below : p < length s.log.placed
    not_left : is_left r.outcome p ≡ false

  all_below : (p : ℕ) (e : Entry) → slice_get fed p ≡ Some e → s.log.placed ≡ log_of s.log → p < length s.log.placed
  all_below p e at all =
      let same : length s.log.placed ≡ length fed = ap length (all_placed all) in
      let within = slice_get_within fed p e at in omega (arith, same, within)

  settled : (p : ℕ) (e : Entry) (o : Outcome) → slice_get fed p ≡ Some e → r.outcome ≡ o → IsSettledBy o p → IsSettled p
  settled p e (Complete end) at is by = record { below = all_below p e at (ends_as (Complete end) is).1.all; not_left = ap (λ o. is_left o p) is }
  settled p e (Abandoned placed samples) at is by = record {
    below = let same = (ends_as (Abandoned placed samples) is).0 in let lt = by.0 in omega (arith, same, lt);
    not_left = ap (λ o. is_left o p) is ∙ by.1;
  }
  settled p e (Damaged f) at is by = record { below = all_below p e at (ends_as (Damaged f) is).0.all; not_left = ap (λ o. is_left o p) is }

  -- the entries before such a position are those that were fed before it
  same_before : (p : ℕ) → p < length s.log.placed → take p s.log.placed ≡ take p fed
  same_before p lt = sym (ap (take p) placed_begins.1 ∙ take-append-le p s.log.placed placed_begins.0 (omega (arith, lt)))

  unlisted : (p : ℕ) (x : Point) (l : Labels) → IsFedUnlisted c fed r p x l → IsUnlisted s r p x l
  unlisted p x l u =
      let settled_is = settled p (Sample u.reference x.0 x.1) r.outcome u.at refl u.settled in
      let placed : slice_get s.log.placed p ≡ Some (Sample u.reference x.0 x.1) = get-within s.log.placed placed_begins.0 p (Sample u.reference x.0 x.1) (sym (ap (λ es. slice_get es p) placed_begins.1) ∙ u.at) settled_is.below in
      record {
        reference = u.reference;
        placed = placed;
        kept = ap (λ (choice : Choice). known choice (take p s.log.placed) u.reference) report.choice ∙ ap (λ es. known (choice_of c) es u.reference) (same_before p settled_is.below) ∙ u.kept;
        not_left = settled_is.not_left;
        not_dropped = u.not_dropped;
      }

  added_fed : (old new : Store) → HasAdded s r old new → HasAddedFed c fed r old new
  added_fed old new h = record {
    grown = record { rises = h.in_order; begins = h.stays };
    added = λ p x l u. h.added p x l (unlisted p x l u);
  }

  pub adds : ((s : Shipping T) (r : Report T) → AddsToReceiver tells seen is_for s r) → ((s : Shipping T) (r : Report T) → AddsOverWire tells seen is_for s r) → AddsFed tells seen is_for c fed report.shipping r report.stopped
  adds by_events over_wire = record {
    events = λ run limits runs i own happened states at same receiver.
        added_fed (states 0).acknowledged (states (length happened)).store (by_events s r report.stopped run limits runs i own happened states at same receiver);
    received = λ limits max_body busy exchanges arrivals heads answered of receiver.
        added_fed (heads 0).store (heads (length arrivals)).store
        (over_wire s r report.stopped (machine_of c limits max_body busy) exchanges arrivals heads answered (sym (ap (λ (f : ConfigFields). f.target) report.config)) of receiver);
  }
