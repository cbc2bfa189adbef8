-- A shipper that was stopped is a run of a sender.
use Rattle.std.proofs.Common.{◌≡◌, ℕ, zero, suc, ◌+◌, ◌<◌, ◌≤◌, ◌==◌, true, List, [], ◌∷◌, ◌++◌, length, map, append-nil, length-append, Some, slice_get, refl, sym, ap, ◌∙◌, subst, arith}
use Rattle.std.proofs.lemmas.List.{nil_from_length}
use Rattle.std.proofs.lemmas.Bool.{and_parts}
use Rattle.std.proofs.lemmas.Option.{none-some, same_Some}
use Rattle.rw_types.specs.Beginnings.{Begins}
use Rattle.rw_types.specs.Labels.{Labels}
use Rattle.rw_types.specs.declared.entry.Entry.{Entry}
use Rattle.rw_relabel.specs.declared.choice.Choice.{Choice}
use Rattle.rw_plain_queue.specs.Items.{Placed, samples_in}
use Rattle.rw_plain_queue.specs.declared.item.Item.{Item}
use Rattle.rw_shard_core.specs.Shard.{pending}
use Rattle.rw_shard_core.specs.declared.outcome.Outcome.{Outcome}
use Rattle.rw_shard_core.specs.declared.outcome.Outcome.TheVariants as outcome
use Rattle.rw_worker.specs.Setups.{start_of}
use Rattle.rw_worker.specs.Steps.{Step, after, items_of}
use Rattle.rw_worker.specs.Transcript.{Exchange}
use Rattle.rw_fleet.specs.ShardHistories.{ShardHistory}
use Rattle.rw_fleet.specs.Work.{AreResolved, AreWorked, IsWorked, is_compared, is_resolved, lane_of, put_of}
use Rattle.rw_fleet.specs.declared.joined.StoppedShard.{StoppedShard}
use Rattle.rw_sender.specs.Logs.{sent}
use Rattle.rw_sender.specs.Placement.{Places, joined_epochs}
use Rattle.rw_sender.specs.Reports.{IsAbandoned}
use Rattle.rw_sender.specs.Shipping.{Shipping, HasStopped, HasEndedAs}
use Rattle.rw_sender.specs.declared.report.Report.{Report}
use Rattle.rw_sender.proofs.shared.PlacementLemmas.{get_some, whole_is, whole_placed}
use Rattle.rw_sender.proofs.shared.ShippingLemmas.{all_is}
use Rattle.rw_restarts.proofs.shared.EndLemmas.{resolves-all, same_items}
use Rattle.rw_restarts.proofs.shared.ListLemmas.{get-first, map_get}
use Rattle.rw_restarts.specs.Owed.{owed_of}
use Rattle.rw_restarts.specs.Workers.{HasResolvedAll}
use Rattle.rw_restarts.specs.Shards.{AreAllDone, AreDone, HasMadeSteps, HaveMadeSteps, HaveRun, IsRunOfEpochs}
use Rattle.rw_restarts.specs.Stopped.{AbandonsAsSender, IsStoppedRun, StopsAsSender, first_of_epoch, steps_at, steps_reported}
use Rattle.rw_restarts.proofs.TurnLemmas.{resolved-first}
use Rattle.rw_restarts.proofs.ListedLemmas.{joined_at, unlisted-acknowledged}

-- ---- epochs one after the other
first_in_front : (xs ys : List (List ShardHistory)) (e : ℕ) → e < length xs → first_of_epoch (xs ++ ys) e ≡ first_of_epoch xs e
first_in_front [] ys e lt = absurd (omega (arith, lt))
first_in_front (x ∷ xs) ys zero lt = refl
first_in_front (x ∷ xs) ys (suc e) lt = ap (λ n. length x + n) (first_in_front xs ys e (omega (arith, lt)))

run_from : (e : ℕ) (epochs : List (List ShardHistory)) (steps : ℕ → ℕ → List Step) → ((i : ℕ) (lanes : List ShardHistory) → slice_get epochs i ≡ Some lanes → HaveMadeSteps lanes (steps (e + i)))
    → ((i : ℕ) (lanes : List ShardHistory) → slice_get epochs i ≡ Some lanes → suc i < length epochs → AreDone lanes (steps (e + i))) → HaveRun e epochs steps
run_from e [] steps made done = tt
run_from e (x ∷ []) steps made done = subst (λ i. HaveMadeSteps x (steps i)) (omega arith) (made 0 x refl)
run_from e (x ∷ y ∷ ys) steps made done = (
  subst (λ i. HaveMadeSteps x (steps i)) (omega arith) (made 0 x refl),
  subst (λ i. AreDone x (steps i)) (omega arith) (done 0 x refl (omega arith)),
  run_from (suc e) (y ∷ ys) steps (λ i lanes at. subst (λ n. HaveMadeSteps lanes (steps n)) (omega arith) (made (suc i) lanes at))
      (λ i lanes at lt. subst (λ n. AreDone lanes (steps n)) (omega arith) (done (suc i) lanes at (omega (arith, lt)))),
)

all_done_from : (e : ℕ) (epochs : List (List ShardHistory)) (steps : ℕ → ℕ → List Step) → ((i : ℕ) (lanes : List ShardHistory) → slice_get epochs i ≡ Some lanes → AreDone lanes (steps (e + i))) → AreAllDone e epochs steps
all_done_from e [] steps done = tt
all_done_from e (x ∷ xs) steps done = (
  subst (λ i. AreDone x (steps i)) (omega arith) (done 0 x refl),
  all_done_from (suc e) xs steps (λ i lanes at. subst (λ n. AreDone lanes (steps n)) (omega arith) (done (suc i) lanes at)),
)

-- ---- what a shard that has stopped says
-- all is resolved if as many are
all_resolved : (all resolved more : List Placed) → all ≡ resolved ++ more → length all ≤ length resolved → resolved ≡ all
all_resolved all resolved more is few =
    let none : more ≡ [] = nil_from_length more (let sum : length all ≡ length resolved + length more = ap length is ∙ length-append resolved more in omega (arith, sum, few)) in
    sym (is ∙ ap (λ ys. resolved ++ ys) none ∙ append-nil resolved)

module _ {T : Type 0} (tells : T → Type 0) (seen : T → List Exchange) (is_for : ℕ → ℕ → T → Type 0) where
  made_one : (j : StoppedShard T) (w : IsWorked tells seen is_for j) → HasMadeSteps (lane_of j) w.report.steps
  made_one j w = record { allowed = w.report.made.allowed; taken = subst (λ (items : List Item). Begins items (put_of j.finished.ends)) (w.taken ∙ sym w.report.made.items) w.begins }

  abbrev IsDone : ShardHistory → List Step → Type 0
  IsDone lane steps = (items_of steps ≡ lane.put) × HasResolvedAll lane.setup steps

  done_one : (j : StoppedShard T) (w : IsWorked tells seen is_for j) → is_resolved j ≡ true → IsDone (lane_of j) w.report.steps
  done_one j w h = (
    items,
    all_resolved (samples_in (items_of w.report.steps)) (after (start_of j.worker.value) w.report.steps).core.resolved (pending (after (start_of j.worker.value) w.report.steps).core)
        (resolved-first j.worker.value w.report.steps w.report.made.allowed)
        (subst (λ (xs : List Item). length (samples_in xs) ≤ length (after (start_of j.worker.value) w.report.steps).core.resolved) (sym items) (resolves-all tells seen is_for j w h)),
  )
    where
      items : items_of w.report.steps ≡ put_of j.finished.ends
      items = w.report.made.items ∙ sym w.taken ∙ sym (same_items j.finished.ends (and_parts (is_compared j.finished.ends) (length j.abandoned.items == 0) h).0)

  made_at : (js : List (StoppedShard T)) (worked : AreWorked tells seen is_for js) (n : ℕ) (lane : ShardHistory) → slice_get (map lane_of js) n ≡ Some lane → HasMadeSteps lane (steps_at tells seen is_for js worked n)
  made_at [] worked n lane at = absurd (none-some lane at)
  made_at (j ∷ js) worked zero lane at = subst (λ (x : ShardHistory). HasMadeSteps x worked.0.report.steps) (same_Some (lane_of j) lane at) (made_one j worked.0)
  made_at (j ∷ js) worked (suc n) lane at = made_at js worked.1 n lane at

  done_at : (js : List (StoppedShard T)) (worked : AreWorked tells seen is_for js) (n : ℕ) (lane : ShardHistory) → slice_get (map lane_of js) n ≡ Some lane → ((j : StoppedShard T) → slice_get js n ≡ Some j → is_resolved j ≡ true)
      → IsDone lane (steps_at tells seen is_for js worked n)
  done_at [] worked n lane at resolved = absurd (none-some lane at)
  done_at (j ∷ js) worked zero lane at resolved = subst (λ (x : ShardHistory). IsDone x worked.0.report.steps) (same_Some (lane_of j) lane at) (done_one j worked.0 (resolved j refl))
  done_at (j ∷ js) worked (suc n) lane at resolved = done_at js worked.1 n lane at resolved

  resolved_of : (s : Shipping T) (js : List (StoppedShard T)) (o : Outcome) → HasEndedAs s js o → (IsAbandoned o → ⊥) → AreResolved js
  resolved_of s js (outcome.Complete end) h whole = h.2
  resolved_of s js (outcome.Abandoned placed samples) h whole = absurd (whole tt)
  resolved_of s js (outcome.Damaged f) h whole = h.1

  -- ---- all shards of all epochs
  module _ (s : Shipping T) (r : Report T) (h : HasStopped tells seen is_for s r) (epochs : List (List ShardHistory)) (shards : map lane_of h.joined ≡ joined_epochs epochs) where
    abbrev steps : ℕ → ℕ → List Step
    steps = steps_reported tells seen is_for epochs h.joined h.worked

    lane_at : (i k : ℕ) (lanes : List ShardHistory) (lane : ShardHistory) → slice_get epochs i ≡ Some lanes → slice_get lanes k ≡ Some lane → slice_get (map lane_of h.joined) (first_of_epoch epochs i + k) ≡ Some lane
    lane_at i k lanes lane at here = ap (λ ls. slice_get ls (first_of_epoch epochs i + k)) shards ∙ joined_at epochs i k lanes lane at here

    made_in : (i : ℕ) (lanes : List ShardHistory) → slice_get epochs i ≡ Some lanes → HaveMadeSteps lanes (steps (0 + i))
    made_in i lanes at k lane here =
        subst (λ e. HasMadeSteps lane (steps e k)) (omega arith) (made_at h.joined h.worked (first_of_epoch epochs i + k) lane (lane_at i k lanes lane at here))

    -- the shards of this epoch had resolved all
    abbrev IsResolvedEpoch : ℕ → List ShardHistory → Type 0
    IsResolvedEpoch i lanes = (k : ℕ) (lane : ShardHistory) → slice_get lanes k ≡ Some lane → (j : StoppedShard T) → slice_get h.joined (first_of_epoch epochs i + k) ≡ Some j → is_resolved j ≡ true

    done_in : (i : ℕ) (lanes : List ShardHistory) → slice_get epochs i ≡ Some lanes → IsResolvedEpoch i lanes → AreDone lanes (steps (0 + i))
    done_in i lanes at resolved k lane here =
        subst (λ e. IsDone lane (steps e k)) (omega arith) (done_at h.joined h.worked (first_of_epoch epochs i + k) lane (lane_at i k lanes lane at here) (resolved k lane here))

    module _ (sender : (choice : Choice) (log : List Entry) (es : List (List ShardHistory)) (ss : ℕ → ℕ → List Step) → Places 0 es (sent choice log) → HaveRun 0 es ss → IsRunOfEpochs choice log es ss)
        (longer : (choice : Choice) (log more : List Entry) (l : Labels) → Begins (owed_of choice log l) (owed_of choice (log ++ more) l)) (places : Places 0 epochs (sent s.log.choice s.log.placed))
        (earlier : (i : ℕ) (lanes : List ShardHistory) → slice_get epochs i ≡ Some lanes → suc i < length epochs → IsResolvedEpoch i lanes) where
      run_is : IsRunOfEpochs s.log.choice s.log.placed epochs steps
      run_is = sender s.log.choice s.log.placed epochs steps places (run_from 0 epochs steps made_in (λ i lanes at lt. done_in i lanes at (earlier i lanes at lt)))

      is-stopped-run : IsStoppedRun tells seen is_for s r h
      is-stopped-run = record {
        epochs = epochs;
        shards = shards;
        run = run_is;
        done = λ whole. all_done_from 0 epochs steps (λ i lanes at. done_in i lanes at (λ k lane here j is. resolved_of s h.joined r.outcome h.ends whole (first_of_epoch epochs i + k) j is));
        over = λ log begins. record {
          read = s.log.placed;
          part = λ l. subst (λ es. Begins (owed_of s.log.choice s.log.placed l) (owed_of s.log.choice es l)) (sym begins.1) (longer s.log.choice s.log.placed begins.0 l);
          sends = run_is.sends;
        };
        acknowledged = λ p x l unlisted. unlisted-acknowledged tells seen is_for s r h epochs shards run_is.sent run_is.messages p x l unlisted;
      }

  module _ (sender : (choice : Choice) (log : List Entry) (es : List (List ShardHistory)) (ss : ℕ → ℕ → List Step) → Places 0 es (sent choice log) → HaveRun 0 es ss → IsRunOfEpochs choice log es ss)
      (longer : (choice : Choice) (log more : List Entry) (l : Labels) → Begins (owed_of choice log l) (owed_of choice (log ++ more) l)) where
    pub stops-as-sender : (s : Shipping T) (r : Report T) → StopsAsSender tells seen is_for s r
    stops-as-sender s r h whole =
        is-stopped-run s r h h.samples.0 h.samples.1 sender longer h.samples.2
        (λ i lanes at lt k lane here j is. resolved_of s h.joined r.outcome h.ends whole (first_of_epoch h.samples.0 i + k) j is)

    pub abandons-as-sender : (s : Shipping T) (r : Report T) → AbandonsAsSender tells seen is_for s r
    abandons-as-sender s r h before p all resolved =
        is-stopped-run s r h (p.epochs ++ last ∷ []) shards sender longer (whole_placed before.epoch (map lane_of before.ended) before.current last (sent s.log.choice s.log.placed) p all.2) earlier
      where
        last : List ShardHistory
        last = map lane_of all.0

        shards : map lane_of h.joined ≡ joined_epochs (p.epochs ++ last ∷ [])
        shards = whole_is before.epoch (map lane_of before.ended) before.current last (map lane_of h.joined) (sent s.log.choice s.log.placed) p (all_is before h.joined all)

        -- a shard of an earlier epoch is among those that had ended
        ended_at : (i k : ℕ) (lane : ShardHistory) (lanes found : List ShardHistory) → i < length p.epochs → slice_get (p.epochs ++ last ∷ []) i ≡ Some lanes → slice_get p.epochs i ≡ Some found → slice_get lanes k ≡ Some lane
            → (j : StoppedShard T) → slice_get h.joined (first_of_epoch (p.epochs ++ last ∷ []) i + k) ≡ Some j → is_resolved j ≡ true
        ended_at i k lane lanes found lt at was here j is =
            let n : ℕ = first_of_epoch p.epochs i + k in
            let same_lanes : lanes ≡ found = same_Some lanes found (sym at ∙ get-first p.epochs (last ∷ []) i found was) in
            let among : slice_get (map lane_of before.ended) n ≡ Some lane = ap (λ ls. slice_get ls n) p.ended_is ∙ joined_at p.epochs i k found lane was (subst (λ ls. slice_get ls k ≡ Some lane) same_lanes here) in
            let old = map_get lane_of before.ended n lane among in
            let now : slice_get h.joined n ≡ Some old.0 = ap (λ (js : List (StoppedShard T)). slice_get js n) all.1 ∙ get-first before.ended all.0 n old.0 old.1 in
            let same : old.0 ≡ j = same_Some old.0 j (sym now ∙ ap (λ m. slice_get h.joined (m + k)) (sym (first_in_front p.epochs (last ∷ []) i lt)) ∙ is) in
            subst (λ (x : StoppedShard T). is_resolved x ≡ true) same (resolved n old.0 old.1)

        earlier : (i : ℕ) (lanes : List ShardHistory) → slice_get (p.epochs ++ last ∷ []) i ≡ Some lanes → suc i < length (p.epochs ++ last ∷ []) → (k : ℕ) (lane : ShardHistory) → slice_get lanes k ≡ Some lane
            → (j : StoppedShard T) → slice_get h.joined (first_of_epoch (p.epochs ++ last ∷ []) i + k) ≡ Some j → is_resolved j ≡ true
        earlier i lanes at lt k lane here j is =
            let within : i < length p.epochs = let sum = length-append p.epochs (last ∷ []) in omega (arith, sum, lt) in
            let found = get_some p.epochs i within in
            ended_at i k lane lanes found.0 within at found.1 here j is
