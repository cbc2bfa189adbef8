-- All steps of a worker, one after the other.
use Rattle.std.proofs.Common.{◌≡◌, ℕ, List, [], ◌∷◌, ◌++◌, map, None, Some, slice_get, refl, sym, ap, ◌∙◌, subst, append-nil, append_assoc, ◌⊎◌, inl, inr}
use Rattle.std.specs.List.{AllByRecursion}
use Rattle.std.proofs.lemmas.List.{map-append}
use Rattle.rw_types.proofs.shared.AllLemmas.{AllByRecursion-append}
use Rattle.rw_ledger.specs.Names.{Named}
use Rattle.rw_shard_core.specs.Shard.{Core}
use Rattle.rw_worker.specs.Steps.{Working, working, Step, Takes, Freezes, Sends, Waits, MayStep, after, after_step, items_of, exchanges_of}
use Rattle.rw_worker.proofs.shared.StepLemmas.{exchanges-append}
use Rattle.rw_machine.specs.Shards.{Shard, Queued}
use Rattle.rw_machine.specs.Worlds.{Setup, World}
use Rattle.rw_machine.specs.Steps.{change}
use Rattle.rw_simulation.specs.Freely.{run_freely}
use Rattle.rw_simulation.specs.WorkerRuns.{queued, step_happenings, happenings, IsAfter, IsIdOf, IsShardNumbered, CanEnd, IsWorkerRun, step_names, steps_names, sent_bytes, request_in}
use Rattle.rw_simulation.proofs.Changes.{change-get, change-same, change-twice, Goes, run-append}
use Rattle.rw_simulation.proofs.WorkerSteps.{moved, take-step, freeze-step, send-step}
use Rattle.rw_simulation.proofs.WorkerLists.{core_after, after-is, numbered-after, epoch-step, goes-on, can-end-after}

-- no step, or one that is not an event
none : (c : Setup) (w : World) (i : ℕ) (s : Shard) (l : Named) (rest : List Queued) → slice_get w.shards i ≡ Some s → s.queue ≡ rest → IsAfter w i s l [] rest w
none c w i s l rest e q = record {
  requests = [];
  replies = [];
  is = ap (λ ss. record w { shards = ss }) (sym (change-same i w.shards s e) ∙ ap (λ (xs : List Queued). change i (λ _. record s { queue = xs }) w.shards) q)
      ∙ ap (λ rs. moved w i (record s { queue = rest }) w.names rs w.replies) (sym (append-nil w.requests)) ∙ ap (λ rs. moved w i (record s { queue = rest }) w.names (w.requests ++ []) rs) (sym (append-nil w.replies));
  ledger_is = refl;
  sent = refl;
  ids = tt;
}

one : (c : Setup) (w : World) (i : ℕ) (s : Shard) (l : Named) (st : Step) (ss : List Step) (rest : List Queued) → slice_get w.shards i ≡ Some s → ((st ≡ Waits → ⊥) → Goes w s) → IsShardNumbered i s.core → s.queue ≡ map queued (items_of (st ∷ ss)) ++ rest → MayStep st s.core
    → IsAfter w i s l (st ∷ []) (map queued (items_of ss) ++ rest) (run_freely c (step_happenings w i st) w)
one c w i s l (Takes x) ss rest e goes numbered q may = take-step c w i s l x (map queued (items_of ss) ++ rest) e (goes (λ h. cc)) q may
one c w i s l Freezes ss rest e goes numbered q may = freeze-step c w i s l (map queued (items_of ss) ++ rest) e (goes (λ h. cc)) q may
one c w i s l (Sends x) ss rest e goes numbered q may = send-step c w i s e (goes (λ h. cc)) numbered may.0 l (map queued (items_of ss) ++ rest) x.request x.answer q may
one c w i s l Waits ss rest e goes numbered q may = let h = none c w i s l (map queued (items_of ss) ++ rest) e q in record { requests = h.requests; replies = h.replies; is = h.is; ledger_is = refl; sent = h.sent; ids = h.ids }

abbrev next_of : Step → Shard → Named → Working
next_of st s l = after_step st (working s.core l)

abbrev middle_of : Step → Shard → Named → List Queued → Shard
middle_of st s l mid = record s { queue = mid; core = (next_of st s l).core }

abbrev end_of : Step → List Step → Shard → Named → List Queued → Shard
end_of st ss s l rest = record s { queue = rest; core = (after (next_of st s l) ss).core }

abbrev mid_of : List Step → List Queued → List Queued
mid_of ss rest = map queued (items_of ss) ++ rest

-- steps after a step
behind : (w : World) (i : ℕ) (s : Shard) (l : Named) (st : Step) (ss : List Step) (mid rest : List Queued) (u v : World) → (first : IsAfter w i s l (st ∷ []) mid u)
    → IsAfter u i (record s { queue = mid; core = (after_step st (working s.core l)).core }) (after_step st (working s.core l)).ledger ss rest v
    → (after_step st (working s.core l)).core.epoch ≡ s.core.epoch
    → IsAfter w i s l (st ∷ ss) rest v
behind w i s l st ss mid rest u v first later epoch = record {
  requests = first.requests ++ later.requests;
  replies = first.replies ++ later.replies;
  is = later.is
      ∙ ap (λ (x : World). moved x i (end_of st ss s l rest) (steps_names ss (next_of st s l) x.names) (x.requests ++ later.requests) (x.replies ++ later.replies)) first.is
      ∙ ap (λ zs. record w { shards = zs; names = steps_names (st ∷ ss) (working s.core l) w.names; requests = (w.requests ++ first.requests) ++ later.requests; replies = (w.replies ++ first.replies) ++ later.replies }) (change-twice (middle_of st s l mid) (end_of st ss s l rest) i w.shards)
      ∙ ap (λ rs. moved w i (end_of st ss s l rest) (steps_names (st ∷ ss) (working s.core l) w.names) rs ((w.replies ++ first.replies) ++ later.replies)) (append_assoc w.requests first.requests later.requests)
      ∙ ap (λ rs. moved w i (end_of st ss s l rest) (steps_names (st ∷ ss) (working s.core l) w.names) (w.requests ++ (first.requests ++ later.requests)) rs) (append_assoc w.replies first.replies later.replies);
  ledger_is = later.ledger_is ∙ ap (steps_names ss (next_of st s l)) first.ledger_is;
  sent = map-append sent_bytes first.requests later.requests
      ∙ ap (λ xs. xs ++ map sent_bytes later.requests) first.sent
      ∙ ap (λ xs. map request_in (exchanges_of (st ∷ [])) ++ xs) later.sent
      ∙ sym (ap (map request_in) (exchanges-append (st ∷ []) ss) ∙ map-append request_in (exchanges_of (st ∷ [])) (exchanges_of ss));
  ids = AllByRecursion-append (IsIdOf s.core.epoch i) first.requests later.requests first.ids (subst (λ (e : ℕ). AllByRecursion (IsIdOf e i) later.requests) epoch later.ids);
}

pub worker-run : (c : Setup) (w : World) (i : ℕ) → IsWorkerRun c w i
worker-run c w i s l [] rest k closes e numbered q allowed = none c w i s l rest e q
worker-run c w i s l (st ∷ ss) rest k closes e numbered q allowed =
    subst (λ v. IsAfter w i s l (st ∷ ss) rest v) (sym (run-append c (step_happenings w i st) (happenings c (run_freely c (step_happenings w i st) w) i ss) w))
    (behind w i s l st ss (mid_of ss rest) rest (run_freely c (step_happenings w i st) w) (run_freely c (happenings c (run_freely c (step_happenings w i st) w) i ss) (run_freely c (step_happenings w i st) w)) first
    (subst (λ (x : World). IsAfter x i (middle_of st s l (mid_of ss rest)) (next_of st s l).ledger ss rest (run_freely c (happenings c x i ss) x)) (sym first.is)
    (worker-run c (moved w i (middle_of st s l (mid_of ss rest)) (step_names st s.core w.names) (w.requests ++ first.requests) (w.replies ++ first.replies)) i (middle_of st s l (mid_of ss rest)) (next_of st s l).ledger ss rest k (by_close closes) (change-get (middle_of st s l (mid_of ss rest)) i w.shards s e)
    (subst (IsShardNumbered i) (sym core_is) (numbered-after i st s.core allowed.0 numbered)) refl allowed.1))
    (epoch-step st (working s.core l) allowed.0))
  where
    core_is : (next_of st s l).core ≡ core_after st s.core
    core_is = after-is st s.core l allowed.0

    goes : (w.closed ≡ None) ⊎ CanEnd s (st ∷ ss) → (st ≡ Waits → ⊥) → Goes w s
    goes (inl n) acts = (k, inl n)
    goes (inr h) acts = (k, inr (goes-on s st ss acts allowed.0 h))

    first : IsAfter w i s l (st ∷ []) (mid_of ss rest) (run_freely c (step_happenings w i st) w)
    first = one c w i s l st ss rest e (goes closes) numbered q allowed.0

    by_close : (w.closed ≡ None) ⊎ CanEnd s (st ∷ ss) → ((moved w i (middle_of st s l (mid_of ss rest)) (step_names st s.core w.names) (w.requests ++ first.requests) (w.replies ++ first.replies)).closed ≡ None) ⊎ CanEnd (middle_of st s l (mid_of ss rest)) ss
    by_close (inl n) = inl n
    by_close (inr h) = inr (subst (λ (x : Core). CanEnd (record s { queue = (mid_of ss rest); core = x }) ss) (sym core_is) (can-end-after s st ss rest q allowed.0 h))
