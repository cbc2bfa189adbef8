-- A worker that made one step more, and what it reports.
use Rattle.std.proofs.Common.{◌≡◌, ◌⊎◌, ℕ, ◌+◌, ◌<◌, ◌≤◌, ◌^◌, Bool, true, false, true≢false, not, ◌||◌, nat_le, List, [], ◌∷◌, ◌++◌, length, Option, None, Some, IsSome, inl, refl, sym, ap, ◌∙◌, subst, append-nil, length-append, arith, cond}
use Rattle.std.proofs.lemmas.List.{length-map}
use Rattle.std.specs.Ordering.{nat_cmp}
use Rattle.std.specs.FinMap.{FinMap, get, empty, get-empty}
use Rattle.rw_ledger.specs.declared.ledger.Reason.{Reason}
use Rattle.rw_ledger.specs.Names.{Named}
use Rattle.rw_plain_queue.specs.Items.{Placed, samples_in}
use Rattle.rw_plain_queue.specs.History.{IsHistory}
use Rattle.rw_plain_queue.specs.declared.item.Item.{Item}
use Rattle.rw_plain_queue.specs.declared.item.Item.TheVariants as item
use Rattle.rw_plain_queue.specs.declared.item.Kind.{Kind}
use Rattle.rw_plain_queue.specs.declared.item.Kind.TheVariants.{Orderly, Reshard, Hard}
use Rattle.rw_plain_queue.proofs.shared.Histories.{history-nil}
use Rattle.rw_shard_queue.specs.Ends.{QueueId, Draining}
use Rattle.rw_shard_core.specs.Shard.{Core, IsCore, AreInRow, HasRoomFor, is_empty, is_due, can_take, can_freeze, can_send, freeze, freeze_room, take_item, pending, places_of, request_for, MayTake}
use Rattle.rw_worker.specs.declared.report.TakingEnd.{TakingEnd}
use Rattle.rw_worker.specs.declared.report.TakingEnd.TheVariants as end
use Rattle.rw_worker.specs.declared.report.WorkerReport.{WorkerReport}
use Rattle.rw_worker.specs.declared.tally.Tally.{Tally}
use Rattle.rw_worker.specs.declared.state.Intake.{Intake}
use Rattle.rw_worker.specs.declared.state.Intake.TheVariants as intake
use Rattle.rw_worker.specs.declared.state.Sending.{Sending}
use Rattle.rw_worker.specs.declared.state.Progress.TheVariants.{Stops}
use Rattle.rw_worker.specs.Stops.{StopRead, IsStill, HasReason}
use Rattle.rw_worker.specs.Transcript.{Exchange, exchange_of, Adds}
use Rattle.rw_worker.specs.Steps.{Working, working, Step, Takes, Freezes, Sends, Waits, MayStep, after, after_step, items_of, exchanges_of}
use Rattle.rw_worker.specs.inner.Steps.{WasSent}
use Rattle.rw_worker.specs.Pauses.{pause_after, retries_after, retries_of}
use Rattle.rw_retry.specs.Backoff.{delay_of}
use Rattle.rw_worker.specs.Setups.{WorkerSetup, start_of}
use Rattle.rw_worker.specs.Report.{is_hard, drain_of, IsOrderly, StopsAtHard, IsLast, intake_drain, given_back, report_of, IsClosed, counted_to, HasMade, HasStepped, HasPaused, IsSending, IsState, HasRun}
use Rattle.rw_worker.specs.inner.Report.{IsStoppedAt}
use Rattle.rw_worker.proofs.shared.StepLemmas.{steps-push, after-push, items-append, exchanges-append}
use Rattle.rw_worker.proofs.PauseLemmas.{pauses-push, retries-push, same-pause, counted-after, counted-same}
use Rattle.rw_worker.proofs.TranscriptLemmas.{adds-append}
use Rattle.rw_worker.proofs.KeepsLemmas.{Keeps, keeps-steps, keeps-start, answered-builder, frozen-builder}
use Rattle.rw_worker.proofs.NameLemmas.{unnamed, names_before, AreBelow}
use Rattle.rw_worker.proofs.TakeLemmas.{may-take, few}
use Rattle.rw_shard_core.proofs.shared.EmptyLemmas.{nil_from_empty}
use Rattle.rw_shard_core.proofs.shared.StepGuards.{take_parts, due_if_full}

-- nothing was added
pub adds-none : {X : Type 0} (a : Type 0) (old : List X) → Adds a a old old []
adds-none a old told = (told, sym (append-nil old))

-- what was added is as long as it had to be
pub adds-due : (a b : Type 0) (old new : List ℕ) (ms due : ℕ) → Adds a b old new (ms ∷ []) → ms ≡ due → Adds a b old new (due ∷ [])
adds-due a b old new ms due h is = subst (λ n. Adds a b old new (n ∷ [])) is h

-- an End that was taken has closed an empty builder
closed_none : (i : Intake) (old new : Core) → IsClosed i old → new.builder ≡ [] → IsClosed i new
closed_none (intake.Open d) old new h none = tt
closed_none (intake.Ended Hard d) old new h none = h
closed_none (intake.Ended Orderly d) old new h none = λ _. none
closed_none (intake.Ended Reshard d) old new h none = λ _. none

-- no more than a batch waits
few_left : (n resolved : ℕ) (c : Core) (items : List Item) → c.taken ≡ samples_in items → c.taken ≡ c.resolved ++ (c.batch ++ c.builder) → length c.batch + length c.builder ≤ n → resolved ≡ length c.resolved → length (samples_in items) ≤ resolved + n
few_left n resolved c items taken whole fits counted =
    let same = ap length taken in
    let all = ap length whole in
    let parts = length-append c.resolved (c.batch ++ c.builder) in
    let waits = length-append c.batch c.builder in
    omega arith

module _ {T P : Type 0} (tells : T → Type 0) (seen : T → List Exchange) (waits : P → Type 0) (paused : P → List ℕ) (setup : WorkerSetup) (begun : T) (first : P) where
  abbrev Going : Draining → Sending T → P → Type 0
  Going drain s p = IsSending tells seen waits paused setup begun first drain s p

  abbrev At : Intake → Sending T → P → Type 0
  At i s p = IsState tells seen waits paused setup begun first i s p

  abbrev Ran : WorkerReport T → P → Type 0
  Ran r p = HasRun tells seen waits paused setup begun first r p

  abbrev Paused : P → List Step → Type 0
  Paused p ss = HasPaused tells seen waits paused setup begun first p ss

  abbrev Stepped : Sending T → Sending T → P → P → Type 0
  Stepped s v p q = HasStepped tells seen waits paused s v p q

  abbrev KeepsAt : Draining → List Step → Working → Type 0
  KeepsAt drain ss w = Keeps setup.target setup.queue.epoch setup.queue.shard setup.batch drain.taken (exchanges_of ss) w

  pub keeps-made : (drain : Draining) (t : T) (ss : List Step) → 0 < setup.batch → HasMade tells seen setup begun drain t ss → KeepsAt drain ss (after (start_of setup) ss)
  keeps-made drain t ss some made =
      let target = setup.target in
      let epoch = setup.queue.epoch in
      let shard = setup.queue.shard in
      let n = setup.batch in
      subst (λ (xs : List Item). Keeps target epoch shard n xs (exchanges_of ss) (after (start_of setup) ss)) made.items
      (keeps-steps target epoch shard n [] [] (start_of setup) ss (keeps-start target epoch shard n some) made.allowed)

  pub keeps-of : (drain : Draining) (s : Sending T) (p : P) (h : Going drain s p) → KeepsAt drain h.steps (working s.core s.ledger)
  keeps-of drain s p h = subst (λ (w : Working). KeepsAt drain h.steps w) h.now (keeps-made drain s.transport h.steps h.some h.made)

  -- no step was made
  pub state-begun : (drain : Draining) (core : Core) (ledger : Named) (backoff : ℕ × ℕ) (tally : Tally) → 0 < setup.batch → setup.max_backoff < 2 ^ 64 → backoff ≡ (setup.min_backoff, setup.max_backoff) → drain.queue ≡ setup.queue → drain.taken ≡ [] → working core ledger ≡ start_of setup
      → At (intake.Open drain) (record { core = core; ledger = ledger; backoff = backoff; resolved = 0; tally = tally; retries = 0; transport = begun }) first
  state-begun drain core ledger backoff tally some fits pair queue none fresh = record {
    sending = record {
      some = some;
      fits = fits;
      steps = [];
      made = record {
        queue_is = queue;
        history = subst (λ (xs : List Item). IsHistory setup.queue.epoch setup.queue.shard xs) (sym none) (history-nil setup.queue.epoch setup.queue.shard);
        allowed = tt;
        items = sym none;
        adds = adds-none (tells begun) (seen begun);
      };
      waited = adds-none (waits first) (paused first);
      now = sym fresh;
      counted = ap (λ (w : Working). length w.core.resolved) (sym fresh);
      backoff = pair;
      retries = refl;
    };
    closed = tt;
    last = tt;
  }

  -- one step more
  pub made-more : (drain later : Draining) (t u : T) (ss : List Step) (step : Step) → HasMade tells seen setup begun drain t ss → MayStep step (after (start_of setup) ss).core → later.queue ≡ drain.queue
      → IsHistory setup.queue.epoch setup.queue.shard later.taken → later.taken ≡ drain.taken ++ items_of (step ∷ []) → Adds (tells t) (tells u) (seen t) (seen u) (exchanges_of (step ∷ []))
      → HasMade tells seen setup begun later u (ss ++ step ∷ [])
  made-more drain later t u ss step made may queue history taken adds = record {
    queue_is = queue ∙ made.queue_is;
    history = history;
    allowed = steps-push (start_of setup) ss step made.allowed may;
    items = items-append ss (step ∷ []) ∙ ap (λ xs. xs ++ items_of (step ∷ [])) made.items ∙ sym taken;
    adds = subst (λ (es : List Exchange). Adds (tells begun) (tells u) (seen begun) (seen u) es) (sym (exchanges-append ss (step ∷ []))) (adds-append _ _ _ _ _ _ _ _ made.adds adds);
  }

  same_pause : (drain : Draining) (s : Sending T) (p : P) (step : Step) (h : Going drain s p) → pause_after s.backoff.0 s.backoff.1 s.retries step ≡ pause_after setup.min_backoff setup.max_backoff (retries_of 0 h.steps) step
  same_pause drain s p step h =
      ap (λ (b : ℕ × ℕ). pause_after b.0 b.1 s.retries step) h.backoff
      ∙ ap (λ n. pause_after setup.min_backoff setup.max_backoff n step) h.retries
      ∙ same-pause setup.min_backoff setup.max_backoff (retries_of 0 h.steps) step h.fits

  pub sending-more : (drain later : Draining) (s v : Sending T) (p q : P) → Going drain s p → (h : Stepped s v p q) → later.queue ≡ drain.queue
      → IsHistory setup.queue.epoch setup.queue.shard later.taken → later.taken ≡ drain.taken ++ items_of (h.step ∷ []) → v.resolved ≡ length v.core.resolved
      → Going later v q
  sending-more drain later s v p q h more queue history taken counted = record {
    some = h.some;
    fits = h.fits;
    steps = h.steps ++ more.step ∷ [];
    made = made-more drain later s.transport v.transport h.steps more.step h.made (subst (λ (w : Working). MayStep more.step w.core) (sym h.now) more.allowed) queue history taken more.told;
    waited = subst (λ (ps : List ℕ). Adds (waits first) (waits q) (paused first) (paused q) ps) (sym (pauses-push setup.min_backoff setup.max_backoff 0 h.steps more.step))
        (adds-append _ _ _ _ _ _ _ _ h.waited (subst (λ (ps : List ℕ). Adds (waits p) (waits q) (paused p) (paused q) ps) (same_pause drain s p more.step h) more.waited));
    now = after-push (start_of setup) h.steps more.step ∙ ap (after_step more.step) h.now ∙ sym more.becomes;
    counted = counted;
    backoff = more.backoff ∙ h.backoff;
    retries = more.retries ∙ ap (λ n. counted_to (retries_after n more.step)) h.retries ∙ counted-after (retries_of 0 h.steps) more.step ∙ ap counted_to (sym (retries-push 0 h.steps more.step));
  }

  -- memory ran out, and it waited
  pub steps-waited : (drain : Draining) (s v : Sending T) (p q : P) → Going drain s p → can_take s.core ≡ false → v.core ≡ s.core → v.ledger ≡ s.ledger → v.transport ≡ s.transport → v.retries ≡ s.retries → v.backoff ≡ s.backoff
      → Adds (waits p) (waits q) (paused p) (paused q) (s.backoff.0 ∷ []) → Stepped s v p q
  steps-waited drain s v p q h full core ledger transport retries backoff waited = record {
    step = Waits;
    allowed = full;
    becomes = λ j. working (core j) (ledger j);
    told = subst (λ (t : T). Adds (tells s.transport) (tells t) (seen s.transport) (seen t) []) (sym transport) (adds-none (tells s.transport) (seen s.transport));
    waited = waited;
    retries = retries ∙ counted-same s.retries (retries_of 0 h.steps) h.retries;
    backoff = backoff;
  }

  pub state-waited : (i : Intake) (s v : Sending T) (p q : P) → At i s p → can_take s.core ≡ false → v.core ≡ s.core → v.ledger ≡ s.ledger → v.transport ≡ s.transport → v.retries ≡ s.retries → v.backoff ≡ s.backoff
      → v.resolved ≡ s.resolved → Adds (waits p) (waits q) (paused p) (paused q) (s.backoff.0 ∷ []) → At i v q
  unfolding steps-waited
  state-waited i s v p q h full core ledger transport retries backoff resolved waited = record {
    sending = sending-more (intake_drain i) (intake_drain i) s v p q h.sending (steps-waited (intake_drain i) s v p q h.sending full core ledger transport retries backoff waited) refl h.sending.made.history (sym (append-nil (intake_drain i).taken))
        (resolved ∙ h.sending.counted ∙ ap (λ (c : Core). length c.resolved) (sym core));
    closed = subst (λ (c : Core). IsClosed i c) (sym core) h.closed;
    last = h.last;
  }

  -- a builder that is not to be taken into is to be frozen
  due_at : (i : Intake) (s : Sending T) (p : P) → At i s p → can_take s.core ≡ false → is_empty s.core.batch ≡ true → (is_due s.core ≡ true) × (can_freeze s.core ≡ true)
  due_at i s p h full none =
      let k = keeps-of (intake_drain i) s p h.sending in
      let due = due_if_full s.core k.untouched.alive none full in
      (due, may k.untouched.alive none (k.due_some due))
    where
      may : s.core.killed ≡ false → is_empty s.core.batch ≡ true → is_empty s.core.builder ≡ false → can_freeze s.core ≡ true
      may a b c = rw (a, b, c) refl

  -- a builder that is due was frozen
  pub steps-frozen : (i : Intake) (s : Sending T) (p : P) (core : Core) (ledger : Named) → At i s p → can_take s.core ≡ false → is_empty s.core.batch ≡ true
      → core ≡ freeze s.core → ledger ≡ freeze_room s.core s.ledger → Stepped s (record s { core = core; ledger = ledger }) p p
  steps-frozen i s p core ledger h full none ok room = record {
    step = Freezes;
    allowed = due_at i s p h full none;
    becomes = λ x. working (ok x) (room x);
    told = adds-none (tells s.transport) (seen s.transport);
    waited = adds-none (waits p) (paused p);
    retries = counted-same s.retries (retries_of 0 h.sending.steps) h.sending.retries;
    backoff = refl;
  }

  pub state-frozen : (i : Intake) (s : Sending T) (p : P) (core : Core) (ledger : Named) → At i s p → can_take s.core ≡ false → is_empty s.core.batch ≡ true
      → core ≡ freeze s.core → ledger ≡ freeze_room s.core s.ledger → At i (record s { core = core; ledger = ledger }) p
  unfolding steps-frozen
  state-frozen i s p core ledger h full none ok room =
      let can = (due_at i s p h full none).1 in record {
        sending = sending-more (intake_drain i) (intake_drain i) s (record s { core = core; ledger = ledger }) p p h.sending (steps-frozen i s p core ledger h full none ok room) refl h.sending.made.history (sym (append-nil (intake_drain i).taken))
            (h.sending.counted ∙ ap length (sym (same_resolved can) ∙ ap (λ (c : Core). c.resolved) (sym ok)));
        closed = closed_none i s.core core h.closed (ap (λ (c : Core). c.builder) ok ∙ frozen-builder s.core can);
        last = h.last;
      }
    where
      same_resolved : can_freeze s.core ≡ true → (freeze s.core).resolved ≡ s.core.resolved
      same_resolved can = rw can refl

  pub state-can_send : (drain : Draining) (s : Sending T) (p : P) → Going drain s p → is_empty s.core.batch ≡ false → can_send s.core ≡ true
  state-can_send drain s p h some = let k = keeps-of drain s p h in rw (k.untouched.alive, some, k.idle) refl

  pub state-room : (drain : Draining) (s : Sending T) (p : P) → Going drain s p → IsCore s.core → HasRoomFor s.core s.ledger
  state-room drain s p h core =
      let k = keeps-of drain s p h in record {
        room = let r = k.room in omega arith;
        unnamed = unnamed s.core.resolved s.core.batch s.core.builder s.ledger.names
            (λ at below. ap (λ (m : FinMap nat_cmp Reason). get m at) k.worked.names_are
            ∙ names_before at k.worked.settled empty (subst (λ (xs : List Placed). AreBelow at xs) k.worked.resolved_are below) (get-empty nat_cmp at))
            (subst AreInRow core.whole core.in_row);
      }

  -- the samples that wait, and those that are resolved, are few
  pub pending-few : (drain : Draining) (s : Sending T) (p : P) → Going drain s p → s.resolved + length (places_of (pending s.core)) ≤ 2 ^ 60
  pending-few drain s p h =
      let k = keeps-of drain s p h in
      let counted = h.counted in
      let most = few setup.queue.epoch setup.queue.shard drain.taken h.made.history in
      let same = ap length k.taken_is in
      let whole = ap length k.whole in
      let parts = length-append s.core.resolved (s.core.batch ++ s.core.builder) in
      let places = length-map (s.core.batch ++ s.core.builder) (λ (x : Placed). x.place) in
      omega arith

  abbrev Sent : Sending T → Sending T → Bool → Type 0
  Sent s v settled = WasSent (tells s.transport) (tells v.transport) (seen s.transport) (seen v.transport) (working s.core s.ledger) (working v.core v.ledger) settled

  sent-settled : (s v : Sending T) (b : Bool) → b ≡ true → Sent s v b → Sent s v true
  sent-settled s v b is given = subst (λ (x : Bool). Sent s v x) is given

  sent-again : (s v : Sending T) (b : Bool) → b ≡ false → Sent s v b → Sent s v false
  sent-again s v b is given = subst (λ (x : Bool). Sent s v x) is given

  -- the open batch was sent: the count and the pause that are due
  abbrev CountsOn : Sending T → Sending T → Bool → Type 0
  CountsOn s v settled = v.retries ≡ counted_to (cond (not settled) (s.retries + 1) 0)

  abbrev WaitsOn : Sending T → P → P → Bool → Type 0
  WaitsOn s p q settled = Adds (waits p) (waits q) (paused p) (paused q) (cond (not settled) (delay_of s.backoff.0 s.backoff.1 s.retries ∷ []) [])

  steps-sent : (i : Intake) (s v : Sending T) (p q : P) (settled : Bool) → At i s p → is_empty s.core.batch ≡ false → Sent s v settled → CountsOn s v settled → v.backoff ≡ s.backoff → WaitsOn s p q settled
      → Stepped s v p q
  steps-sent i s v p q settled h some sent counts backoff waited = record {
    step = Sends (exchange_of (request_for s.core) sent.answer);
    allowed = (state-can_send (intake_drain i) s p h.sending some, refl, sent.read);
    becomes = sent.becomes;
    told = sent.told;
    waited = subst (λ (again : Bool). Adds (waits p) (waits q) (paused p) (paused q) (cond again (delay_of s.backoff.0 s.backoff.1 s.retries ∷ []) [])) (sym sent.again) waited;
    retries = counts ∙ ap (λ (again : Bool). counted_to (cond again (s.retries + 1) 0)) (sym sent.again);
    backoff = backoff;
  }

  state-sent : (i : Intake) (s v : Sending T) (p q : P) (settled : Bool) → At i s p → is_empty s.core.batch ≡ false → Sent s v settled → CountsOn s v settled → v.backoff ≡ s.backoff → WaitsOn s p q settled
      → v.resolved ≡ length v.core.resolved → At i v q
  unfolding steps-sent
  state-sent i s v p q settled h some sent counts backoff waited counted =
      let k = keeps-of (intake_drain i) s p h.sending in
      let builder : v.core.builder ≡ [] = ap (λ (w : Working). w.core.builder) sent.becomes ∙ answered-builder sent.answer (working s.core s.ledger) ∙ k.one some in record {
        sending = sending-more (intake_drain i) (intake_drain i) s v p q h.sending (steps-sent i s v p q settled h some sent counts backoff waited) refl h.sending.made.history (sym (append-nil (intake_drain i).taken)) counted;
        closed = closed_none i s.core v.core h.closed builder;
        last = h.last;
      }

  -- the batch was settled
  pub steps-settled : (i : Intake) (s v : Sending T) (p q : P) (b : Bool) → b ≡ true → At i s p → is_empty s.core.batch ≡ false → Sent s v b → CountsOn s v true → v.backoff ≡ s.backoff → WaitsOn s p q true
      → Stepped s v p q
  steps-settled i s v p q b is h some given counts backoff waited = steps-sent i s v p q true h some (sent-settled s v b is given) counts backoff waited

  pub state-settled : (i : Intake) (s v : Sending T) (p q : P) (b : Bool) → b ≡ true → At i s p → is_empty s.core.batch ≡ false → Sent s v b → CountsOn s v true → v.backoff ≡ s.backoff → WaitsOn s p q true
      → v.resolved ≡ s.resolved + length (places_of (pending s.core)) → At i v q
  state-settled i s v p q b is h some given counts backoff waited sum =
      let sent = sent-settled s v b is given in
      let k = keeps-of (intake_drain i) s p h.sending in
      let before = h.sending.counted in
      let after' = ap length sent.resolved in
      let parts = length-append s.core.resolved s.core.batch in
      let places = length-map (s.core.batch ++ s.core.builder) (λ (x : Placed). x.place) in
      let all = length-append s.core.batch s.core.builder in
      let none = ap length (k.one some) in
      state-sent i s v p q true h some sent counts backoff waited (omega arith)

  -- the batch was sent in vain
  pub steps-again : (i : Intake) (s v : Sending T) (p q : P) (b : Bool) → b ≡ false → At i s p → is_empty s.core.batch ≡ false → Sent s v b → CountsOn s v false → v.backoff ≡ s.backoff → WaitsOn s p q false
      → Stepped s v p q
  steps-again i s v p q b is h some given counts backoff waited = steps-sent i s v p q false h some (sent-again s v b is given) counts backoff waited

  pub state-again : (i : Intake) (s v : Sending T) (p q : P) (b : Bool) → b ≡ false → At i s p → is_empty s.core.batch ≡ false → Sent s v b → CountsOn s v false → v.backoff ≡ s.backoff → WaitsOn s p q false
      → v.resolved ≡ s.resolved → At i v q
  state-again i s v p q b is h some given counts backoff waited same =
      let sent = sent-again s v b is given in
      state-sent i s v p q false h some sent counts backoff waited (same ∙ h.sending.counted ∙ ap length (sym sent.resolved))

  pub may-take-of : (drain later : Draining) (s : Sending T) (p : P) (x : Item) → Going drain s p → IsHistory drain.queue.epoch drain.queue.shard later.taken → later.taken ≡ drain.taken ++ x ∷ [] → MayTake x s.core
  may-take-of drain later s p x h history taken =
      let k = keeps-of drain s p h in
      let q = h.made.queue_is in
      may-take drain.queue.epoch drain.queue.shard drain.taken x s.core k.taken_is (k.untouched.epoch_is ∙ ap (λ (d : QueueId). d.epoch) (sym q)) (k.untouched.shard_is ∙ ap (λ (d : QueueId). d.shard) (sym q))
      (subst (λ (xs : List Item). IsHistory drain.queue.epoch drain.queue.shard xs) taken history)

  history_of : (drain : Draining) (items : List Item) → drain.queue ≡ setup.queue → IsHistory drain.queue.epoch drain.queue.shard items → IsHistory setup.queue.epoch setup.queue.shard items
  history_of drain items same h = subst (λ (q : QueueId). IsHistory q.epoch q.shard items) same h

  take_resolved : (x : Item) (c : Core) → (take_item x c).resolved ≡ c.resolved
  take_resolved (item.Sample p t w l) c = refl
  take_resolved item.Flush c = refl
  take_resolved (item.End k) c = refl

  -- an item was taken
  pub steps-taken : (drain later : Draining) (s : Sending T) (p : P) (x : Item) (core : Core) → Going drain s p → can_take s.core ≡ true → later.taken ≡ drain.taken ++ x ∷ []
      → IsHistory drain.queue.epoch drain.queue.shard later.taken → core ≡ take_item x s.core → Stepped s (record s { core = core }) p p
  steps-taken drain later s p x core h can taken history is = record {
    step = Takes x;
    allowed = (can, may-take-of drain later s p x h history taken);
    becomes = ap (λ (c : Core). working c s.ledger) is;
    told = adds-none (tells s.transport) (seen s.transport);
    waited = adds-none (waits p) (paused p);
    retries = counted-same s.retries (retries_of 0 h.steps) h.retries;
    backoff = refl;
  }

  sending-taken : (drain later : Draining) (s : Sending T) (p : P) (x : Item) (core : Core) → Going drain s p → can_take s.core ≡ true → later.queue ≡ drain.queue → later.taken ≡ drain.taken ++ x ∷ []
      → IsHistory drain.queue.epoch drain.queue.shard later.taken → core ≡ take_item x s.core → Going later (record s { core = core }) p
  unfolding steps-taken
  sending-taken drain later s p x core h can queue taken history is =
      sending-more drain later s (record s { core = core }) p p h (steps-taken drain later s p x core h can taken history is) queue (history_of drain later.taken h.made.queue_is history) taken
      (h.counted ∙ ap length (sym (take_resolved x s.core) ∙ ap (λ (c : Core). c.resolved) (sym is)))

  pub state-taken : (drain later : Draining) (s : Sending T) (p : P) (x : Item) (core : Core) → Going drain s p → can_take s.core ≡ true → later.queue ≡ drain.queue → later.taken ≡ drain.taken ++ x ∷ []
      → IsHistory drain.queue.epoch drain.queue.shard later.taken → core ≡ take_item x s.core → At (intake.Open later) (record s { core = core }) p
  state-taken drain later s p x core h can queue taken history is = record { sending = sending-taken drain later s p x core h can queue taken history is; closed = tt; last = tt }

  -- an End was taken, which closes the builder
  pub state-ended : (drain later : Draining) (s : Sending T) (p : P) (kind : Kind) (core : Core) → is_hard kind ≡ false → Going drain s p → can_take s.core ≡ true → later.queue ≡ drain.queue → later.taken ≡ drain.taken ++ item.End kind ∷ []
      → IsHistory drain.queue.epoch drain.queue.shard later.taken → core ≡ take_item (item.End kind) s.core → At (intake.Ended kind later) (record s { core = core }) p
  state-ended drain later s p kind core soft h can queue taken history is = record {
    sending = sending-taken drain later s p (item.End kind) core h can queue taken history is;
    closed = closed_at kind soft (λ d. ap (λ (c : Core). c.builder) is ∙ nothing (sym (ap is_due is) ∙ d));
    last = (drain.taken, taken);
  }
    where
      rest_of : (b : Bool) (xs : List Placed) → (b || not (is_empty xs)) ≡ false → xs ≡ []
      rest_of true xs e = absurd (true≢false e)
      rest_of false [] e = refl
      rest_of false (x ∷ xs) e = absurd (true≢false e)

      nothing : is_due (take_item (item.End kind) s.core) ≡ false → s.core.builder ≡ []
      nothing d = rest_of (nat_le s.core.full (length s.core.builder)) s.core.builder d

      closed_at : (k : Kind) → is_hard k ≡ false → (is_due core ≡ false → core.builder ≡ []) → IsClosed (intake.Ended k later) core
      closed_at Orderly no' c = c
      closed_at Reshard no' c = c
      closed_at Hard no' c = absurd (true≢false no')

  -- a report of these steps
  reports : (r : WorkerReport T) (p : P) (ss : List Step) → 0 < setup.batch → HasMade tells seen setup begun (drain_of r.end) r.transport ss → r.resolved ≡ length (after (start_of setup) ss).core.resolved → r.ledger.names ≡ (after (start_of setup) ss).ledger.names
      → (r.stopped ≡ None → IsOrderly r.end → (after (start_of setup) ss).core.resolved ≡ samples_in (drain_of r.end).taken) → StopsAtHard r.end ss → IsStill r.stopped r.gone r.resolved → HasReason r.end r.stopped r.gone → IsLast r.end → Paused p ss → Ran r p
  reports r p ss some made counted names whole hard still reason last waited = let k = keeps-made (drain_of r.end) r.transport ss some made in record {
    report = record {
      steps = ss;
      made = made;
      worked = k.worked;
      target = k.untouched.target_is;
      counted = counted;
      few = few_left setup.batch r.resolved (after (start_of setup) ss).core (drain_of r.end).taken k.taken_is k.whole k.fits counted;
      names = names;
      last = last;
      whole = whole;
      hard = hard;
      still = still;
      reason = reason;
    };
    waited = waited;
  }

  stops : (e : TakingEnd) (stopped : Option StopRead) (gone : Option ℕ) (s : Sending T) (p : P) (h : Going (drain_of e) s p) → (stopped ≡ None → IsOrderly e → s.core.resolved ≡ samples_in (drain_of e).taken) → StopsAtHard e h.steps → IsStill stopped gone s.resolved → HasReason e stopped gone → IsLast e
      → Ran (report_of e stopped gone s) p
  stops e stopped gone s p h whole hard still reason last =
      reports (report_of e stopped gone s) p h.steps h.some h.made (h.counted ∙ ap (λ (w : Working). length w.core.resolved) (sym h.now)) (ap (λ (w : Working). w.ledger.names) (sym h.now))
      (λ going orderly. ap (λ (w : Working). w.core.resolved) h.now ∙ whole going orderly) hard still reason last h.waited

  -- the state if the end is open
  pub opened : (i : Intake) (d : Draining) (s : Sending T) (p : P) → At i s p → i ≡ intake.Open d → Going d s p
  opened i d s p h is = subst (λ (x : Draining). Going x s p) (ap intake_drain is) h.sending

  -- the end was given up
  pub report-killed : (drain killed : Draining) (stopped : Option StopRead) (gone : Option ℕ) (s : Sending T) (p : P) → Going drain s p → killed ≡ drain → IsStill stopped gone s.resolved → IsSome stopped ⊎ IsSome gone
      → Ran (report_of (end.Killed killed) stopped gone s) p
  report-killed drain killed stopped gone s p h same still reason =
      subst (λ (d : Draining). Ran (report_of (end.Killed d) stopped gone s) p) (sym same) (stops (end.Killed drain) stopped gone s p h (λ going orderly. absurd orderly) tt still reason tt)

  -- the stop flag was set
  pub report-stopped : (i : Intake) (e : TakingEnd) (flag : StopRead) (s : Sending T) (p : P) → At i s p → e ≡ given_back i → flag.resolved ≡ s.resolved → Ran (report_of e (Some flag) None s) p
  report-stopped i e flag s p h same still = subst (λ (x : TakingEnd). Ran (report_of x (Some flag) None s) p) (sym same) (at i h)
    where
      at : (j : Intake) → At j s p → Ran (report_of (given_back j) (Some flag) None s) p
      at (intake.Open d) k = stops (end.Killed d) (Some flag) None s p k.sending (λ going orderly. absurd orderly) tt (still, tt) (inl refl) tt
      at (intake.Ended Hard d) k = absurd k.closed
      at (intake.Ended Orderly d) k = stops (end.Ended Orderly d) (Some flag) None s p k.sending (λ going. absurd (cc)) tt (still, tt) tt k.last
      at (intake.Ended Reshard d) k = stops (end.Ended Reshard d) (Some flag) None s p k.sending (λ going. absurd (cc)) tt (still, tt) tt k.last

  -- everything was sent
  pub report-whole : (i : Intake) (kind : Kind) (d : Draining) (s : Sending T) (p : P) → At i s p → i ≡ intake.Ended kind d → can_take s.core ≡ true → Ran (report_of (end.Ended kind d) None None s) p
  report-whole i kind d s p h ended can = at kind (subst (λ (j : Intake). At j s p) ended h)
    where
      all : Going d s p → s.core.builder ≡ [] → s.core.resolved ≡ samples_in d.taken
      all k none =
          let kept = keeps-of d s p k in
          let batch = nil_from_empty s.core.batch (take_parts s.core can).none in
          sym (append-nil s.core.resolved) ∙ ap (λ xs. s.core.resolved ++ xs) (sym none) ∙ ap (λ xs. s.core.resolved ++ (xs ++ s.core.builder)) (sym batch) ∙ sym kept.whole ∙ kept.taken_is

      at : (j : Kind) → At (intake.Ended j d) s p → Ran (report_of (end.Ended j d) None None s) p
      at Hard k = absurd k.closed
      at Orderly k = stops (end.Ended Orderly d) None None s p k.sending (λ going orderly. all k.sending (k.closed (take_parts s.core can).not_due)) tt (tt, tt) tt k.last
      at Reshard k = stops (end.Ended Reshard d) None None s p k.sending (λ going orderly. all k.sending (k.closed (take_parts s.core can).not_due)) tt (tt, tt) tt k.last

  -- a hard End was taken
  pub report-hard : (kind : Kind) (drain later : Draining) (s : Sending T) (p : P) → is_hard kind ≡ true → Going drain s p → can_take s.core ≡ true → later.queue ≡ drain.queue → later.taken ≡ drain.taken ++ item.End kind ∷ []
      → IsHistory drain.queue.epoch drain.queue.shard later.taken → Ran (report_of (end.Ended kind later) None None s) p
  unfolding sending-taken sending-more steps-taken
  report-hard Orderly drain later s p hard h can queue taken history = absurd (true≢false (sym hard))
  report-hard Reshard drain later s p hard h can queue taken history = absurd (true≢false (sym hard))
  report-hard Hard drain later s p hard h can queue taken history =
      let more = sending-taken drain later s p (item.End Hard) (take_item (item.End Hard) s.core) h can queue taken history refl in
      stops (end.Ended Hard later) None None (record s { core = take_item (item.End Hard) s.core }) p more (λ going orderly. absurd orderly) (h.steps, refl) (tt, tt) tt (drain.taken, taken)

-- a stop flag that was read
module _ {T : Type 0} where
  pub stopped-at : (flag : ℕ) (i : Intake) (s : Sending T) (e : TakingEnd) (f : StopRead) → e ≡ given_back i → f ≡ record { flag = flag; resolved = s.resolved } → IsStoppedAt flag i s (Stops e (Some f) None) s
  stopped-at flag i s e f same one = (one, same, refl)
