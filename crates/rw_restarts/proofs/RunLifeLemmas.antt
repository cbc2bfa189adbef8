-- Runs of a sender, and a receiver of their messages, as lives of one label set.
use Rattle.std.proofs.Common.{◌≡◌, ◌≢◌, ℕ, ℤ, zero, suc, List, [], ◌∷◌, ◌++◌, length, map, take, slice_get, Option, Some, None, refl, sym, ap, ◌∙◌, subst}
use Rattle.std.proofs.lemmas.Option.{none-some, same_Some, slice_get_within}
use Rattle.rw_types.specs.Beginnings.{Begins}
use Rattle.rw_types.specs.Labels.{Labels}
use Rattle.rw_types.specs.declared.entry.Entry.{Entry}
use Rattle.rw_types.proofs.shared.AllLemmas.{AllByRecursion-from_get}
use Rattle.rw_relabel.specs.declared.choice.Choice.{Choice}
use Rattle.rw_write_request.specs.Message.{WriteRequest}
use Rattle.rw_retry.specs.declared.judgement.Judgement.{Judgement}
use Rattle.rw_retry.specs.declared.judgement.Judgement.TheVariants.{Done, Again, Refused}
use Rattle.rw_shard_core.specs.declared.outcome.Outcome.{Outcome}
use Rattle.rw_shard_core.specs.declared.outcome.Outcome.TheVariants.{Complete}
use Rattle.rw_worker.specs.Steps.{Step}
use Rattle.rw_fleet.specs.ShardHistories.{ShardHistory}
use Rattle.rw_head.specs.Store.{Store, list_of}
use Rattle.rw_head.specs.Verdicts.{LabelLimits}
use Rattle.rw_restarts.specs.Checkpoints.{IsCheckpointFor, IsInTime}
use Rattle.rw_restarts.specs.Lives.{LifeMessage, SenderLife, if_done, all_done, NoneIsRefused, IsLifeOver, IsMessageOf, LivesAgain, Follows, IsHistoryOf}
use Rattle.rw_restarts.specs.Logs.{IsRunFromCheckpoint, SendsOwed}
use Rattle.rw_restarts.specs.Owed.{owed_of}
use Rattle.rw_restarts.specs.Parts.{points_in}
use Rattle.rw_restarts.specs.Runs.{SenderRun, SentMessage, acknowledged_by, acknowledged_in, NoneRefused, SendsNext, IsSentBy}
use Rattle.rw_restarts.specs.Receivers.{ReceiverEvent, Answers, Restarts, RestartsDuring, ReceiverState, IsRestarted, IsReceiverOf, HasNoGap}
use Rattle.rw_restarts.specs.RunLives.{ReportedRun, sender_run, life_message, life_of, holding_of, IsReportedOver, AreReportedOver, AreLivesOf, reported, reported_from_start}
use Rattle.rw_restarts.specs.Shards.{IsRunOfEpochs}
use Rattle.rw_restarts.specs.Stopped.{run_from_start}
use Rattle.rw_restarts.specs.Workers.{NeverRefused}
use Rattle.rw_restarts.proofs.LogLemmas.{part-is-run}
use Rattle.rw_restarts.proofs.TakenLemmas.{taken_all-lists, answers-done, answers-again, answers-refused-same}
use Rattle.rw_restarts.proofs.shared.ListLemmas.{get_map, map_get}

-- ---- what was acknowledged
done_by : (l : Labels) (m : WriteRequest) (o : Option Judgement) → if_done o (points_in l m) ≡ acknowledged_by l m o
done_by l m None = refl
done_by l m (Some Done) = refl
done_by l m (Some Again) = refl
done_by l m (Some Refused) = refl

pub done_of : (l : Labels) (xs : List SentMessage) → all_done (map (life_message l) xs) ≡ acknowledged_in l xs
done_of l [] = refl
done_of l (x ∷ xs) =
    ap (λ ys. ys ++ all_done (map (life_message l) xs)) (done_by l x.message x.judgement) ∙ ap (λ ys. acknowledged_by l x.message x.judgement ++ ys) (done_of l xs)

pub done_first : (l : Labels) (n : ℕ) (xs : List SentMessage) → all_done (take n (map (life_message l) xs)) ≡ acknowledged_in l (take n xs)
done_first l zero xs = refl
done_first l (suc n) [] = refl
done_first l (suc n) (x ∷ xs) =
    ap (λ ys. ys ++ all_done (take n (map (life_message l) xs))) (done_by l x.message x.judgement) ∙ ap (λ ys. acknowledged_by l x.message x.judgement ++ ys) (done_first l n xs)

-- ---- what was refused
pub not_refused : (l : Labels) (n : ℕ) (xs : List SentMessage) → NoneIsRefused n (map (life_message l) xs) → NoneRefused l n xs
not_refused l n xs fine k y lt is refused = fine k (life_message l y) lt (get_map (life_message l) xs k y is) refused

pub never_refused : (l : Labels) (xs : List SentMessage) → NoneIsRefused (length (map (life_message l) xs)) (map (life_message l) xs) → NeverRefused l xs
never_refused l xs fine =
    AllByRecursion-from_get (λ (x : SentMessage). x.judgement ≡ Some Refused → points_in l x.message ≡ []) xs
    (λ n x here refused.
    let at : slice_get (map (life_message l) xs) n ≡ Some (life_message l x) = get_map (life_message l) xs n x here in
    fine n (life_message l x) (slice_get_within (map (life_message l) xs) n (life_message l x) at) at refused)

module _ (l : Labels) (runs : List ReportedRun) where
  abbrev lives : List SenderLife
  lives = map (life_of l) runs

  -- the message of a life, of a message of its run
  record IsLived (i n : ℕ) (x : SentMessage) : Type 0 where
    r : ReportedRun
    message : IsMessageOf lives i n (life_of l r) (life_message l x)

  lived-of : (i n : ℕ) (run : SenderRun) (x : SentMessage) → IsSentBy (map sender_run runs) i n run x → IsLived i n x
  lived-of i n run x s =
      let found = map_get sender_run runs i run s.exists in record {
        r = found.0;
        message = record {
          lived = get_map (life_of l) runs i found.0 found.1;
          is = get_map (life_message l) found.0.run.sent n x (subst (λ (f : SenderRun). slice_get f.sent n ≡ Some x) (sym found.2) s.is);
        };
      }

  -- and the message of a run, of a message of its life
  record IsOfRun (i n : ℕ) (life : SenderLife) (x : LifeMessage) : Type 0 where
    run : SenderRun
    m : SentMessage
    sent : IsSentBy (map sender_run runs) i n run m
    earlier : run.earlier l ≡ life.earlier
    same : life_message l m ≡ x

  run-of : (i n : ℕ) (life : SenderLife) (x : LifeMessage) → IsMessageOf lives i n life x → IsOfRun i n life x
  run-of i n life x s =
      let found = map_get (life_of l) runs i life s.lived in
      let its = map_get (life_message l) found.0.run.sent n x (subst (λ (f : SenderLife). slice_get f.sent n ≡ Some x) (sym found.2) s.is) in record {
        run = found.0.run;
        m = its.0;
        sent = record { exists = get_map sender_run runs i found.0 found.1; is = its.1 };
        earlier = ap (λ (f : SenderLife). f.earlier) found.2;
        same = its.2;
      }

  some_of : (i n : ℕ) (life : SenderLife) (x : LifeMessage) (o : IsOfRun i n life x) → x.samples ≢ [] → points_in l o.m.message ≢ []
  some_of i n life x o some none = some (sym (ap (λ (y : LifeMessage). y.samples) o.same) ∙ none)

  judged_of : (i n : ℕ) (life : SenderLife) (x : LifeMessage) (o : IsOfRun i n life x) (judgement : Judgement) → x.judgement ≡ Some judgement → o.m.judgement ≡ Some judgement
  judged_of i n life x o judgement is = ap (λ (y : LifeMessage). y.judgement) o.same ∙ is

  module _ (limits : LabelLimits) (choice : Choice) (log : List Entry) (events : List ReceiverEvent) (states : ℕ → ReceiverState) (over : AreReportedOver choice log l runs)
      (receiver : IsReceiverOf limits (map sender_run runs) events states) (no_gap : HasNoGap (map sender_run runs) events states l) where
    own-life : (i : ℕ) (r : ReportedRun) → slice_get runs i ≡ Some r → IsLifeOver choice log l (life_of l r)
    own-life i r at = record {
      sends = λ n x is fine.
          let its = map_get (life_message l) r.run.sent n x is in
          let b : Begins ((r.run.earlier l ++ acknowledged_in l (take n r.run.sent)) ++ points_in l its.0.message) (owed_of choice log l) = (over i r at).sends n its.0 its.1 (not_refused l n r.run.sent fine) in
          subst (λ (y : LifeMessage). Begins ((r.run.earlier l ++ all_done (take n (map (life_message l) r.run.sent))) ++ y.samples) (owed_of choice log l)) its.2
          (subst (λ ys. Begins ((r.run.earlier l ++ ys) ++ points_in l its.0.message) (owed_of choice log l)) (sym (done_first l n r.run.sent)) b);
      complete = λ end is fine. done_of l r.run.sent ∙ (over i r at).complete end is (never_refused l r.run.sent fine);
    }

    life-over : (i : ℕ) (life : SenderLife) → slice_get lives i ≡ Some life → IsLifeOver choice log l life
    life-over i life lived =
        let found = map_get (life_of l) runs i life lived in
        subst (IsLifeOver choice log l) found.2 (own-life i found.0 found.1)

    lives-again : (old new : ReceiverState) (most : Store) → IsRestarted old most new → LivesAgain (holding_of l old) (list_of most l) (holding_of l new)
    lives-again old new most again = record { same = ap (λ (s : Store). list_of s l) again.same; least = again.least l; at_most = again.at_most l }

    follows : (at : ℕ) (event : ReceiverEvent) → slice_get events at ≡ Some event → Follows lives event (holding_of l (states at)) (holding_of l (states (suc at)))
    follows at (Answers i n Done) e =
        let h = receiver.happens at (Answers i n Done) e in
        let done = answers-done limits h.x.message (states at) (states (suc at)) h.judged in
        let its = lived-of i n h.run h.x h.is in
        (life_of l its.r, life_message l h.x, its.message, taken_all-lists limits h.x.message (states at).store (states (suc at)).store l done.0, ap (λ (s : Store). list_of s l) done.1)
    follows at (Answers i n Again) e = let h = receiver.happens at (Answers i n Again) e in ap (holding_of l) (answers-again limits h.x.message (states at) (states (suc at)) h.judged)
    follows at (Answers i n Refused) e = let h = receiver.happens at (Answers i n Refused) e in ap (holding_of l) (answers-refused-same limits h.x.message (states at) (states (suc at)) h.judged)
    follows at Restarts e = lives-again (states at) (states (suc at)) (states at).store (receiver.happens at Restarts e)
    follows at (RestartsDuring i n) e =
        let h = receiver.happens at (RestartsDuring i n) e in
        let its = lived-of i n h.run h.x h.is in
        (life_of l its.r, life_message l h.x, list_of h.most l, its.message, taken_all-lists limits h.x.message (states at).store h.most l h.judged, lives-again (states at) (states (suc at)) h.most h.restarted)

    pub history : IsHistoryOf choice log l lives events (λ (at : ℕ). holding_of l (states at))
    history = record {
      over = life-over;
      begins = receiver.begins l;
      happens = follows;
      given = λ i n life x judgement s is some. let o = run-of i n life x s in receiver.answers.all i n o.run o.m judgement o.sent (judged_of i n life x o judgement is);
      before = λ at event i k n life y x judgement here brings s t lt is has some.
          let o = run-of i n life x s in
          let p = run-of i k life y t in
          let one : o.run ≡ p.run = same_Some o.run p.run (sym o.sent.exists ∙ p.sent.exists) in
          let was : IsSentBy (map sender_run runs) i k o.run p.m = record { exists = o.sent.exists; is = subst (λ (f : SenderRun). slice_get f.sent k ≡ Some p.m) (sym one) p.sent.is } in
          receiver.answers.before at event i k n o.run p.m o.m judgement l here brings o.sent was lt (judged_of i k life y p judgement is) (some_of i k life y p has) (some_of i n life x o some);
      unrefused = λ at i n life x e s. let o = run-of i n life x s in sym (ap (λ (y : LifeMessage). y.samples) o.same) ∙ no_gap.unrefused at i n o.run o.m e o.sent;
      covered = λ at event i n life x here brings s some.
          let o = run-of i n life x s in
          subst (λ ys. Begins ys (list_of (states at).acknowledged l)) o.earlier (no_gap.covered at event i n o.run o.m here brings o.sent (some_of i n life x o some));
    }

pub are-lives : (limits : LabelLimits) (choice : Choice) (log : List Entry) (l : Labels) (runs : List ReportedRun) (events : List ReceiverEvent) (states : ℕ → ReceiverState) → IsReceiverOf limits (map sender_run runs) events states → AreLivesOf choice log l runs events states
are-lives limits choice log l runs events states receiver over no_gap = history l runs limits choice log events states over receiver no_gap

-- ---- how a run ends
-- a run over the first entries of a log is a run over the log
pub from-start : ((choice : Choice) (log more : List Entry) (l : Labels) → Begins (owed_of choice log l) (owed_of choice (log ++ more) l))
    → (choice : Choice) (fed log : List Entry) (sent : List SentMessage) → SendsOwed choice fed sent → Begins fed log → (l : Labels) → SendsNext l (owed_of choice log l) (run_from_start sent)
from-start longer choice fed log sent sends begins =
    part-is-run choice log (run_from_start sent) (record { read = fed; part = λ l. subst (λ es. Begins (owed_of choice fed l) (owed_of choice es l)) (sym begins.1) (longer choice fed begins.0 l); sends = sends })

pub not_reported : (o : Outcome) → (let none : Option Outcome = None in none ≡ Some o) → ⊥
not_reported o e = none-some o e

pub killed : ((choice : Choice) (log more : List Entry) (l : Labels) → Begins (owed_of choice log l) (owed_of choice (log ++ more) l))
    → (choice : Choice) (fed log : List Entry) (epochs : List (List ShardHistory)) (steps : ℕ → ℕ → List Step) (l : Labels) (run : IsRunOfEpochs choice fed epochs steps) → Begins fed log
    → IsReportedOver choice log l (reported_from_start run.sent fed None)
killed longer choice fed log epochs steps l run begins = record {
  sends = from-start longer choice fed log run.sent run.sends begins l;
  complete = λ end is. absurd (not_reported (Complete end) is);
}

pub from-checkpoint : (choice : Choice) (full cp later more : List Entry) (sent : List SentMessage) (outcome : Option Outcome) (floor : ℤ) (l : Labels) (run : IsRunFromCheckpoint choice full cp later more sent)
    → IsReportedOver choice (cp ++ later) l (reported_from_start sent (cp ++ later) outcome) → IsCheckpointFor floor l full cp later → IsInTime floor l full later
    → IsReportedOver choice ((full ++ later) ++ more) l (reported run.earlier sent (cp ++ later) outcome)
from-checkpoint choice full cp later more sent outcome floor l run own kept in_time = record {
  sends = run.sends floor l kept in_time;
  complete = own.complete;
}
