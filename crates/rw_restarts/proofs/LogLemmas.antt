-- Runs over one log.
use Rattle.std.proofs.Common.{◌≡◌, ◌≢◌, ℕ, ℤ, nat_le, Bool, true, cond, List, [], ◌∷◌, ◌++◌, length, take, append_assoc, Some, slice_get, refl, sym, ap, ◌∙◌, subst, arith}
use Rattle.std.proofs.lemmas.Bool.{cond-true, cond-false, le-leb, lt-leb}
use Rattle.std.proofs.lemmas.List.{length-append}
use Rattle.rw_types.specs.Beginnings.{Begins}
use Rattle.rw_types.specs.Labels.{Labels}
use Rattle.rw_types.specs.Rising.{Rises}
use Rattle.rw_types.specs.declared.entry.Entry.{Entry}
use Rattle.rw_types.proofs.shared.BeginningLemmas.{begins_twice}
use Rattle.rw_types.proofs.shared.RisingLemmas.{Rises-left}
use Rattle.rw_relabel.specs.declared.choice.Choice.{Choice}
use Rattle.rw_head.specs.Lists.{IsEarlier}
use Rattle.rw_head.specs.Order.{Point}
use Rattle.rw_head.specs.Store.{list_of}
use Rattle.rw_head.specs.Verdicts.{LabelLimits}
use Rattle.rw_restarts.specs.Checkpoints.{IsCheckpointFor, IsInTime}
use Rattle.rw_restarts.specs.Owed.{owed_of, EndsWith}
use Rattle.rw_restarts.specs.Parts.{points_in}
use Rattle.rw_restarts.specs.Stopped.{run_from_start}
use Rattle.rw_restarts.specs.Runs.{SenderRun, SentMessage, acknowledged_in, acknowledged_before, IsRunOver}
use Rattle.rw_restarts.specs.Receivers.{ReceiverEvent, ReceiverState, IsReceiverOf, HasNoGap, CanBeTaken, IsRefusedForCause, AreNeverRefused}
use Rattle.rw_restarts.specs.Logs.{IsRunOverPart, IsRunFromCheckpoint, AreRunsOverLog, HoldsLog}
use Rattle.rw_restarts.proofs.NeverRefusedLemmas.{never-refused}
use Rattle.rw_restarts.proofs.RunLemmas.{many-runs}

-- after the same samples a prefix is a prefix
pub Begins-after : (first xs ys whole : List Point) → Begins (xs ++ ys) whole → Begins ((first ++ xs) ++ ys) (first ++ whole)
Begins-after first xs ys whole b = (b.0, ap (λ zs. first ++ zs) b.1 ∙ sym (append_assoc first (xs ++ ys) b.0) ∙ ap (λ zs. zs ++ b.0) (sym (append_assoc first xs ys)))

pub part-is-run : (choice : Choice) (log : List Entry) (run : SenderRun) → IsRunOverPart choice log run → IsRunOver (owed_of choice log) run
part-is-run choice log run s l n x is fine =
    begins_twice (acknowledged_before run l n ++ points_in l x.message) (run.earlier l ++ owed_of choice s.read l) (owed_of choice log l)
    (Begins-after (run.earlier l) (acknowledged_in l (take n run.sent)) (points_in l x.message) (owed_of choice s.read l) (s.sends n x l is fine)) (s.part l)

-- the samples of a list that come before its end, if it ends with that
abbrev front_of : List Point → List Point → List Point
front_of [] end = []
front_of (x ∷ xs) end = cond (nat_le (length (x ∷ xs)) (length end)) [] (x ∷ front_of xs end)

front_of-whole : (end : List Point) → front_of end end ≡ []
front_of-whole [] = refl
front_of-whole (x ∷ xs) = cond-true (nat_le (length (x ∷ xs)) (length (x ∷ xs))) [] (x ∷ front_of xs (x ∷ xs)) (le-leb (length (x ∷ xs)) (length (x ∷ xs)) (omega arith))

front_of-append : (before end : List Point) → front_of (before ++ end) end ≡ before
front_of-append [] end = front_of-whole end
front_of-append (x ∷ xs) end =
    cond-false (nat_le (length (x ∷ (xs ++ end))) (length end)) [] (x ∷ front_of (xs ++ end) end) (lt-leb (length (x ∷ (xs ++ end))) (length end) (let sum = length-append xs end in omega (arith, sum)))
    ∙ ap (λ ys. x ∷ ys) (front_of-append xs end)

-- what was fed is a log from a checkpoint on
pub run-from-checkpoint : ((choice : Choice) (floor : ℤ) (full cp later : List Entry) (l : Labels) → IsCheckpointFor floor l full cp later → IsInTime floor l full later → EndsWith (owed_of choice (full ++ later) l) (owed_of choice (cp ++ later) l))
    → ((choice : Choice) (log more : List Entry) (l : Labels) → Begins (owed_of choice log l) (owed_of choice (log ++ more) l))
    → (choice : Choice) (full cp later more : List Entry) (sent : List SentMessage) → IsRunOverPart choice (cp ++ later) (run_from_start sent) → IsRunFromCheckpoint choice full cp later more sent
run-from-checkpoint ends longer choice full cp later more sent r = record {
  earlier = λ l. front_of (owed_of choice (full ++ later) l) (owed_of choice (cp ++ later) l);
  whole = all_of;
  sends = λ floor l kept in_time n x is fine.
      begins_twice ((front_of (owed_of choice (full ++ later) l) (owed_of choice (cp ++ later) l) ++ acknowledged_in l (take n sent)) ++ points_in l x.message) (owed_of choice (full ++ later) l) (owed_of choice ((full ++ later) ++ more) l)
      (subst (Begins ((front_of (owed_of choice (full ++ later) l) (owed_of choice (cp ++ later) l) ++ acknowledged_in l (take n sent)) ++ points_in l x.message)) (all_of floor l kept in_time)
      (Begins-after (front_of (owed_of choice (full ++ later) l) (owed_of choice (cp ++ later) l)) (acknowledged_in l (take n sent)) (points_in l x.message) (owed_of choice (cp ++ later) l) (part-is-run choice (cp ++ later) (run_from_start sent) r l n x is fine)))
      (longer choice (full ++ later) more l);
}
  where
    all_of : (floor : ℤ) (l : Labels) → IsCheckpointFor floor l full cp later → IsInTime floor l full later
        → front_of (owed_of choice (full ++ later) l) (owed_of choice (cp ++ later) l) ++ owed_of choice (cp ++ later) l ≡ owed_of choice (full ++ later) l
    all_of floor l kept in_time =
        let e = ends choice floor full cp later l kept in_time in
        ap (λ ys. ys ++ owed_of choice (cp ++ later) l) (ap (λ ys. front_of ys (owed_of choice (cp ++ later) l)) e.1 ∙ front_of-append e.0 (owed_of choice (cp ++ later) l)) ∙ sym e.1

pub holds-log : ((choice : Choice) (log : List Entry) (l : Labels) → Rises IsEarlier (owed_of choice log l))
    → (limits : LabelLimits) (choice : Choice) (log : List Entry) (runs : List SenderRun) (events : List ReceiverEvent) (states : ℕ → ReceiverState) (l : Labels) → AreRunsOverLog choice log runs l
    → IsReceiverOf limits runs events states → HasNoGap runs events states l → HoldsLog choice log runs (states (length events)) l
holds-log owed-rises limits choice log runs events states l ship r no_gap =
    let prefix = many-runs limits (owed_of choice log l) runs events states l (owed-rises choice log l) ship r no_gap in record {
      rises = let b = prefix.in_order in Rises-left IsEarlier (list_of (states (length events)).store l) b.0 (subst (Rises IsEarlier) b.1 (owed-rises choice log l));
      prefix = prefix;
      complete = λ i run entries is base all. subst (λ ys. Begins (run.earlier l ++ ys) (list_of (states (length events)).store l)) all (prefix.complete i run is base);
    }

pub log-refuses-none : ((choice : Choice) (log : List Entry) (l : Labels) → Rises IsEarlier (owed_of choice log l))
    → (limits : LabelLimits) (choice : Choice) (log : List Entry) (runs : List SenderRun) (events : List ReceiverEvent) (states : ℕ → ReceiverState) (among : Labels → Bool) → ((l : Labels) → among l ≡ true → AreRunsOverLog choice log runs l)
    → IsReceiverOf limits runs events states → CanBeTaken limits runs events states among → IsRefusedForCause limits runs events states among → AreNeverRefused runs events states among
log-refuses-none owed-rises limits choice log runs events states among over r can cause = never-refused limits (owed_of choice log) runs events states among (λ l own. owed-rises choice log l) over r can cause

-- ---- one label set
abbrev pub HoldsOneLog : Type 0
HoldsOneLog = (limits : LabelLimits) (choice : Choice) (log : List Entry) (runs : List SenderRun) (events : List ReceiverEvent) (states : ℕ → ReceiverState) (l : Labels)
    → AreRunsOverLog choice log runs l → IsReceiverOf limits runs events states → HasNoGap runs events states l → HoldsLog choice log runs (states (length events)) l

pub held-in-order : HoldsOneLog → (limits : LabelLimits) (choice : Choice) (log : List Entry) (runs : List SenderRun) (events : List ReceiverEvent) (states : ℕ → ReceiverState) (l : Labels)
    → AreRunsOverLog choice log runs l → IsReceiverOf limits runs events states → HasNoGap runs events states l → Begins (list_of (states (length events)).store l) (owed_of choice log l)
held-in-order held limits choice log runs events states l over r no_gap = (held limits choice log runs events states l over r no_gap).prefix.in_order

pub held-when-complete : HoldsOneLog → (limits : LabelLimits) (choice : Choice) (log : List Entry) (runs : List SenderRun) (events : List ReceiverEvent) (states : ℕ → ReceiverState) (l : Labels) (i : ℕ) (run : SenderRun) (fed : List Entry)
    → AreRunsOverLog choice log runs l → IsReceiverOf limits runs events states → HasNoGap runs events states l → slice_get runs i ≡ Some run → acknowledged_in l run.sent ≡ owed_of choice fed l → owed_of choice fed l ≢ []
    → Begins (run.earlier l ++ owed_of choice fed l) (list_of (states (length events)).store l)
held-when-complete held limits choice log runs events states l i run fed over r no_gap exists all some =
    let holds = held limits choice log runs events states l over r no_gap in
    holds.complete i run fed exists (holds.prefix.based i run exists (λ none. some (sym all ∙ none))) all
