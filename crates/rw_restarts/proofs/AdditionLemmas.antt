-- What a shipper that was stopped adds to a receiver.
use Rattle.std.proofs.Common.{◌≡◌, ◌≢◌, ◌⊎◌, inl, inr, ℕ, zero, suc, ◌+◌, ◌-◌, ◌≤◌, ◌==◌, ◌||◌, ◌&&◌, int_eq, Bool, true, false, true≢false, List, [], ◌∷◌, ◌++◌, length, map, Option, Some, None, Result, Ok, Err, slice_get, refl, sym, ap, ◌∙◌, subst, arith}
use Rattle.std.specs.List.{AllByRecursion}
use Rattle.std.proofs.lemmas.Bool.{and_parts, cases_eq, eqb-true}
use Rattle.std.proofs.lemmas.Bool.Decides.{Decides-int_eq}
use Rattle.std.proofs.lemmas.Option.{none-some, same_Some}
use Rattle.rw_types.specs.Labels.{Labels}
use Rattle.rw_types.proofs.shared.BeginningLemmas.{begins_itself, begins_twice}
use Rattle.rw_write_request.specs.Message.{WriteRequest}
use Rattle.rw_retry.specs.Judgements.{judgement_of}
use Rattle.rw_retry.specs.declared.judgement.Judgement.{Judgement}
use Rattle.rw_retry.specs.declared.judgement.Judgement.TheVariants.{Done, Again, Refused}
use Rattle.rw_shard_core.specs.declared.config.ConfigFields.{ConfigFields}
use Rattle.rw_shard_core.specs.declared.config.Target.{Target}
use Rattle.rw_worker.specs.declared.transport.Reply.{Reply}
use Rattle.rw_worker.specs.declared.transport.Lost.{Lost}
use Rattle.rw_worker.specs.Setups.{WorkerSetup, start_of}
use Rattle.rw_worker.specs.Steps.{Step, AreSteps, exchanges_of}
use Rattle.rw_worker.specs.Transcript.{Exchange}
use Rattle.rw_fleet.specs.ShardHistories.{ShardHistory, AreSetUp}
use Rattle.rw_fleet.specs.Work.{AreWorked, lane_of}
use Rattle.rw_fleet.specs.declared.joined.StoppedShard.{StoppedShard}
use Rattle.rw_sender.specs.Shipping.{Shipping, HasStopped}
use Rattle.rw_sender.specs.declared.report.Report.{Report}
use Rattle.rw_sender.proofs.shared.PlacementLemmas.{get_some}
use Rattle.rw_head.specs.Growth.{EachRises}
use Rattle.rw_head.specs.Head.{State}
use Rattle.rw_head.specs.Order.{Point, holds}
use Rattle.rw_head.specs.Store.{Store, list_of}
use Rattle.rw_head.specs.Verdicts.{LabelLimits}
use Rattle.rw_machine.specs.Worlds.{Setup}
use Rattle.rw_machine.specs.declared.event.How.{How}
use Rattle.rw_restarts.specs.Arrivals.{Arrival, Receives, AreExchangesOf, AreOfSteps}
use Rattle.rw_restarts.proofs.shared.ListLemmas.{get_map}
use Rattle.rw_restarts.specs.Parts.{points_in}
use Rattle.rw_restarts.specs.Runs.{SenderRun, SentMessage, acknowledged_by, acknowledged_in}
use Rattle.rw_restarts.specs.Receivers.{AnswersAs, ReceiverEvent, ReceiverState, state_of}
use Rattle.rw_restarts.specs.KeptReceivers.{acknowledged_after}
use Rattle.rw_restarts.specs.Refusals.{IsAnyReceiver, HoldsAcknowledged}
use Rattle.rw_restarts.specs.Stopped.{AddsOverWire, AddsToReceiver, HasAdded, IsGrown, IsOpenReceiver, steps_at}
use Rattle.rw_restarts.specs.Workers.{AreExchangesOfMessages, IsExchangeOfMessage, WorkerSendsSamples, judgement_by}
use Rattle.rw_restarts.proofs.ListedLemmas.{IsAcknowledgedBy, unlisted-worker, worked_at}
use Rattle.rw_restarts.proofs.ReceivedLemmas.{too-long-keeps}
use Rattle.rw_restarts.proofs.RefusalLemmas.{held_further, message_took}

holds_either : (x : Point) (xs ys : List Point) → holds x (xs ++ ys) ≡ true → (holds x xs ≡ true) ⊎ (holds x ys ≡ true)
holds_either x [] ys h = inr h
holds_either x (z ∷ zs) ys h = by_test (int_eq z.0 x.0 && (z.1 == x.1)) h (holds_either x zs ys)
  where
    by_test : (b : Bool) → (b || holds x (zs ++ ys)) ≡ true → (holds x (zs ++ ys) ≡ true → (holds x zs ≡ true) ⊎ (holds x ys ≡ true)) → ((b || holds x zs) ≡ true) ⊎ (holds x ys ≡ true)
    by_test true h rest = inl refl
    by_test false h rest = rest h

-- what is held of a list each of whose samples is held elsewhere is held there
held_there : (x : Point) (xs held : List Point) → AllByRecursion (λ (p : Point). holds p held ≡ true) xs → holds x xs ≡ true → holds x held ≡ true
held_there x [] held all h = absurd (true≢false (sym h))
held_there x (z ∷ zs) held all h = by_test (int_eq z.0 x.0 && (z.1 == x.1)) refl h (held_there x zs held all.1)
  where
    same : (int_eq z.0 x.0 && (z.1 == x.1)) ≡ true → z ≡ x
    same e =
        let parts = and_parts (int_eq z.0 x.0) (z.1 == x.1) e in
        ap (λ t. (t, z.1)) ((Decides-int_eq z.0 x.0).0 parts.0) ∙ ap (λ w. (x.0, w)) (eqb-true z.1 x.1 parts.1)

    by_test : (b : Bool) → (int_eq z.0 x.0 && (z.1 == x.1)) ≡ b → (b || holds x zs) ≡ true → (holds x zs ≡ true → holds x held ≡ true) → holds x held ≡ true
    by_test true e h rest = subst (λ p. holds p held ≡ true) (same e) all.0
    by_test false e h rest = rest h

-- a message that brought an acknowledged sample
record BroughtBy (l : Labels) (x : Point) (sent : List SentMessage) : Type 0 where
  n : ℕ
  m : SentMessage
  at : slice_get sent n ≡ Some m
  judgement : m.judgement ≡ Some Done
  has : holds x (points_in l m.message) ≡ true

acknowledged_own : (l : Labels) (x : Point) (m : SentMessage) (j : Option Judgement) → m.judgement ≡ j → holds x (acknowledged_by l m.message j) ≡ true → (m.judgement ≡ Some Done) × (holds x (points_in l m.message) ≡ true)
acknowledged_own l x m None e h = absurd (true≢false (sym h))
acknowledged_own l x m (Some Done) e h = (e, h)
acknowledged_own l x m (Some Again) e h = absurd (true≢false (sym h))
acknowledged_own l x m (Some Refused) e h = absurd (true≢false (sym h))

brought : (l : Labels) (x : Point) (sent : List SentMessage) → holds x (acknowledged_in l sent) ≡ true → BroughtBy l x sent
brought l x [] h = absurd (true≢false (sym h))
brought l x (m ∷ ms) h = elim (holds_either x (acknowledged_by l m.message m.judgement) (acknowledged_in l ms) h) [
  | inl own ↦ (let is = acknowledged_own l x m m.judgement refl own in record { n = 0; m = m; at = refl; judgement = is.0; has = is.1 })
  | inr rest ↦ (let further = brought l x ms rest in record { n = suc further.n; m = further.m; at = further.at; judgement = further.judgement; has = further.has })
]

pub adds-to-receiver : {T : Type 0} (tells : T → Type 0) (seen : T → List Exchange) (is_for : ℕ → ℕ → T → Type 0)
    → ((limits : LabelLimits) (runs : List SenderRun) (events : List ReceiverEvent) (states : ℕ → ReceiverState) → IsAnyReceiver limits runs events states → HoldsAcknowledged runs (states 0) (states (length events)))
    → (s : Shipping T) (r : Report T) → AddsToReceiver tells seen is_for s r
adds-to-receiver tells seen is_for stay s r h run limits runs i own events states at same receiver =
    let held = stay limits runs events states receiver in record {
      stays = held.stays;
      in_order = held.in_order;
      added = λ p x l u.
          let b = brought l x own.sent (subst (λ ms. holds x (acknowledged_in l ms) ≡ true) (sym same) (run.acknowledged p x l u)) in
          held_there x (points_in l b.m.message) (list_of (states (length events)).store l) (held.taken i b.n own b.m l (record { exists = at; is = b.at }) b.judgement) b.has;
    }

-- ---- over the wire
-- the exchange of a message
pub exchange_of_message : (target : Target) (es : List Exchange) (ms : List SentMessage) → AreExchangesOfMessages target es ms → (n : ℕ) (m : SentMessage) → slice_get ms n ≡ Some m
    → (e : Exchange) × (slice_get es n ≡ Some e) × IsExchangeOfMessage target e m
exchange_of_message target [] [] of n m at = absurd (none-some m at)
exchange_of_message target [] (y ∷ ys) of n m at = absurd of
exchange_of_message target (e ∷ es) [] of n m at = absurd of
exchange_of_message target (e ∷ es) (y ∷ ys) of zero m at = (e, refl, subst (IsExchangeOfMessage target e) (same_Some y m at) of.0)
exchange_of_message target (e ∷ es) (y ∷ ys) of (suc n) m at = exchange_of_message target es ys of.1 n m at

replied : (answer : Result Reply Lost) (m : SentMessage) → m.judgement ≡ judgement_by answer → m.judgement ≡ Some Done → (r : Reply) × (answer ≡ Ok r) × (judgement_of r.status ≡ Done)
replied (Ok r) m is done = (r, refl, same_Some (judgement_of r.status) Done (sym is ∙ done))
replied (Err lost) m is done = absurd (none-some Done (sym is ∙ done))

pub set_up_at : (config : ConfigFields) (ls : List ShardHistory) (n : ℕ) (lane : ShardHistory) → AreSetUp config ls → slice_get ls n ≡ Some lane → lane.setup.target ≡ config.target
set_up_at config [] n lane up at = absurd (none-some lane at)
set_up_at config (x ∷ xs) zero lane up at = ap (λ (y : ShardHistory). y.setup.target) (sym (same_Some x lane at)) ∙ up.0.0
set_up_at config (x ∷ xs) (suc n) lane up at = set_up_at config xs n lane up.1 at

-- a status that does not ask for the request again and is not refused is not 413
not_413 : (status : ℕ) → judgement_of status ≡ Done → status ≢ 413
not_413 status done e = no_done (sym (ap judgement_of e) ∙ done)
  where
    no_done : Refused ≡ Done → ⊥
    no_done e = cc (e)

module _ (c : Setup) (exchanges : ℕ → ℕ → List Exchange) (arrivals : List Arrival) (heads answered : ℕ → State) (r : IsOpenReceiver c exchanges arrivals heads answered)
    (requests : (e k i : ℕ) (x : Exchange) → slice_get (exchanges e k) i ≡ Some x → (m : SentMessage) × IsExchangeOfMessage c.target x m)
    (answers : (how : How) (e : Exchange) (x : SentMessage) (old : State) (status : ℕ) (new : State) (acknowledged : Store) → IsExchangeOfMessage c.target e x → Receives c how e.request old status new → status ≢ 413
    → AnswersAs old.limits x.message (judgement_of status) (state_of old.store acknowledged) (state_of new.store (acknowledged_after (judgement_of status) acknowledged new.store))) where
  grown_twice : (one two three : Store) → IsGrown one two → IsGrown two three → IsGrown one three
  grown_twice one two three a b = record { rises = b.rises; begins = λ l. begins_twice (list_of one l) (list_of two l) (list_of three l) (a.begins l) (b.begins l) }

  same_store : (old new : Store) → EachRises old → new ≡ old → IsGrown old new
  same_store old new up e = subst (IsGrown old) (sym e) (record { rises = up; begins = λ l. begins_itself (list_of old l) })

  answered_store : (limits : LabelLimits) (m : WriteRequest) (j : Judgement) (old new acknowledged : Store) → EachRises old
      → AnswersAs limits m j (state_of old acknowledged) (state_of new (acknowledged_after j acknowledged new)) → IsGrown old new
  answered_store limits m Done old new acknowledged up h =
      let took = message_took limits m old new up h.0 in record { rises = λ l. (took l).rises; begins = λ l. (took l).begins }
  answered_store limits m Again old new acknowledged up h = same_store old new up (ap (λ (s : ReceiverState). s.store) h)
  answered_store limits m Refused old new acknowledged up h = same_store old new up (ap (λ (s : ReceiverState). s.store) h.0)

  step : (n : ℕ) (a : Arrival) → slice_get arrivals n ≡ Some a → EachRises (heads n).store → IsGrown (heads n).store (answered n).store
  step n a at up =
      let got = r.receives n a at in
      let message_of = requests a.epoch a.shard a.number got.0 got.1 in
      elim (cases_eq a.status 413) [
        | inl e ↦ same_store (heads n).store (answered n).store up (too-long-keeps c got.0 message_of.0 (heads n) a.status (answered n) message_of.1 a.how got.2 e)
        | inr other ↦ answered_store (heads n).limits message_of.0.message (judgement_of a.status) (heads n).store (answered n).store (heads n).store up
            (answers a.how got.0 message_of.0 (heads n) a.status (answered n) (heads n).store message_of.1 got.2 other)
      ]

  -- from one moment on to a later one
  grown : (from n : ℕ) → EachRises (heads from).store → from + n ≤ length arrivals → IsGrown (heads from).store (heads (from + n)).store
  grown from zero up le = same_store (heads from).store (heads (from + 0)).store up (ap (λ i. (heads i).store) (omega arith))
  grown from (suc n) up le =
      let first = grown from n up (omega (arith, le)) in
      let found = get_some arrivals (from + n) (omega (arith, le)) in
      let next = grown_twice (heads (from + n)).store (answered (from + n)).store (heads (suc (from + n))).store (step (from + n) found.0 found.1 first.rises) (r.between (from + n) (omega (arith, le))) in
      subst (λ i. IsGrown (heads from).store (heads i).store) (omega arith) (grown_twice (heads from).store (heads (from + n)).store (heads (suc (from + n))).store first next)

  until : (n : ℕ) → n ≤ length arrivals → IsGrown (heads 0).store (heads n).store
  until n le = subst (λ i. IsGrown (heads 0).store (heads i).store) (omega arith) (grown 0 n r.rises (omega (arith, le)))

  to_end : (n : ℕ) → n ≤ length arrivals → IsGrown (heads n).store (heads (length arrivals)).store
  to_end n le =
      let rest : n + (length arrivals - n) ≡ length arrivals = omega (arith, le) in
      subst (λ i. IsGrown (heads n).store (heads i).store) rest (grown n (length arrivals - n) (until n le).rises (omega (arith, le)))

  -- what a message brought that was answered so is held in the end
  held_in_end : (e k i : ℕ) (x : Exchange) (m : SentMessage) (reply : Reply) (p : Point) (l : Labels) → slice_get (exchanges e k) i ≡ Some x → x.answer ≡ Ok reply → judgement_of reply.status ≡ Done
      → IsExchangeOfMessage c.target x m → holds p (points_in l m.message) ≡ true → holds p (list_of (heads (length arrivals)).store l) ≡ true
  held_in_end e k i x m reply p l at reply_is done of has =
      let was = r.statuses_given e k i x reply at reply_is in
      let got = r.receives was.at was.a was.is in
      let same : got.0 ≡ x = same_Some got.0 x (sym got.1 ∙ ap (λ j. slice_get (exchanges j was.a.shard) was.a.number) was.epoch_is ∙ ap (λ j. slice_get (exchanges e j) was.a.number) was.shard_is ∙ ap (λ j. slice_get (exchanges e k) j) was.number_is ∙ at) in
      let judged : judgement_of was.a.status ≡ Done = ap judgement_of was.status_is ∙ done in
      let early = was.early in
      let received : Receives c was.a.how x.request (heads was.at) was.a.status (answered was.at) = subst (λ (y : Exchange). Receives c was.a.how y.request (heads was.at) was.a.status (answered was.at)) same got.2 in
      let answer : AnswersAs (heads was.at).limits m.message Done (state_of (heads was.at).store (heads was.at).store) (state_of (answered was.at).store (acknowledged_after Done (heads was.at).store (answered was.at).store)) =
      subst (λ j. AnswersAs (heads was.at).limits m.message j (state_of (heads was.at).store (heads was.at).store) (state_of (answered was.at).store (acknowledged_after j (heads was.at).store (answered was.at).store))) judged
      (answers was.a.how x m (heads was.at) was.a.status (answered was.at) (heads was.at).store of received (not_413 was.a.status judged)) in
      let took = message_took (heads was.at).limits m.message (heads was.at).store (answered was.at).store (until was.at (omega (arith, early))).rises answer.0 in
      let later = grown_twice (answered was.at).store (heads (suc was.at)).store (heads (length arrivals)).store (r.between was.at (omega (arith, early))) (to_end (suc was.at) (omega (arith, early))) in
      held_there p (points_in l m.message) (list_of (heads (length arrivals)).store l)
      (held_further (points_in l m.message) (list_of (answered was.at).store l) (list_of (heads (length arrivals)).store l) (later.begins l) (took l).held) has

-- the message of an exchange
pub message_of_exchange : (target : Target) (es : List Exchange) (ms : List SentMessage) → AreExchangesOfMessages target es ms → (n : ℕ) (e : Exchange) → slice_get es n ≡ Some e
    → (m : SentMessage) × (slice_get ms n ≡ Some m) × IsExchangeOfMessage target e m
message_of_exchange target [] ms of n e at = absurd (none-some e at)
message_of_exchange target (x ∷ xs) [] of n e at = absurd of
message_of_exchange target (x ∷ xs) (m ∷ ms) of zero e at = (m, refl, subst (λ (y : Exchange). IsExchangeOfMessage target y m) (same_Some x e at) of.0)
message_of_exchange target (x ∷ xs) (m ∷ ms) of (suc n) e at = message_of_exchange target xs ms of.1 n e at

module _ {T : Type 0} (tells : T → Type 0) (seen : T → List Exchange) (is_for : ℕ → ℕ → T → Type 0) where
  exchanges_at : (exchanges : ℕ → ℕ → List Exchange) (js : List (StoppedShard T)) (worked : AreWorked tells seen is_for js) → AreOfSteps tells seen is_for exchanges js worked → (n : ℕ) (j : StoppedShard T) → slice_get js n ≡ Some j
      → exchanges j.worker.value.queue.epoch j.worker.value.queue.shard ≡ exchanges_of (steps_at tells seen is_for js worked n)
  exchanges_at exchanges [] worked of n j at = absurd (none-some j at)
  exchanges_at exchanges (x ∷ xs) worked of zero j at =
      subst (λ (y : StoppedShard T). exchanges y.worker.value.queue.epoch y.worker.value.queue.shard ≡ exchanges_of worked.0.report.steps) (same_Some x j at) of.0
  exchanges_at exchanges (x ∷ xs) worked of (suc n) j at = exchanges_at exchanges xs worked.1 of.1 n j at

  module _ (sends : (setup : WorkerSetup) (steps : List Step) → AreSteps (start_of setup) steps → WorkerSendsSamples setup steps) (s : Shipping T) (r : Report T) (h : HasStopped tells seen is_for s r) (c : Setup)
      (exchanges : ℕ → ℕ → List Exchange) (target : c.target ≡ s.fleet.config.target) (of : AreExchangesOf tells seen is_for h.joined h.worked exchanges) where
    -- a request goes to the target of all workers
    for_target : (n : ℕ) (j : StoppedShard T) → slice_get h.joined n ≡ Some j → j.worker.value.target ≡ c.target
    for_target n j at = set_up_at s.fleet.config (map lane_of h.joined) n (lane_of j) h.setup (get_map lane_of h.joined n j at) ∙ sym target

    carries_message : (e k i : ℕ) (x : Exchange) → slice_get (exchanges e k) i ≡ Some x → (m : SentMessage) × IsExchangeOfMessage c.target x m
    carries_message e k i x at =
        let owner = of.owned e k i x at in
        let w = worked_at tells seen is_for h.joined h.worked owner.0 owner.1 owner.2 in
        let sent = sends owner.1.worker.value w.is.report.steps w.is.report.made.allowed in
        let are : exchanges e k ≡ exchanges_of w.is.report.steps =
        ap (λ n. exchanges n k) (sym owner.3) ∙ ap (exchanges owner.1.worker.value.queue.epoch) (sym owner.4) ∙ exchanges_at exchanges h.joined h.worked of.each owner.0 owner.1 owner.2 ∙ ap exchanges_of w.steps_are in
        let found = message_of_exchange owner.1.worker.value.target (exchanges_of w.is.report.steps) sent.sent sent.messages.exchanges i x (sym (ap (λ es. slice_get es i) are) ∙ at) in
        (found.0, subst (λ t. IsExchangeOfMessage t x found.0) (for_target owner.0 owner.1 owner.2) found.2)

    module _ (arrivals : List Arrival) (heads answered : ℕ → State) (receiver : IsOpenReceiver c exchanges arrivals heads answered)
        (answers : (how : How) (e : Exchange) (x : SentMessage) (old : State) (status : ℕ) (new : State) (acknowledged : Store) → IsExchangeOfMessage c.target e x → Receives c how e.request old status new → status ≢ 413
        → AnswersAs old.limits x.message (judgement_of status) (state_of old.store acknowledged) (state_of new.store (acknowledged_after (judgement_of status) acknowledged new.store))) where
      unlisted_held : (x : Point) (l : Labels) → IsAcknowledgedBy tells seen is_for s r h x l → holds x (list_of (heads (length arrivals)).store l) ≡ true
      unlisted_held x l b =
          let m = brought l x b.own b.has in
          let e = exchange_of_message b.j.worker.value.target (exchanges_of b.is.report.steps) b.own b.by.exchanges m.n m.m m.at in
          let reply = replied e.0.answer m.m e.2.judgement_is m.judgement in
          let are : exchanges b.j.worker.value.queue.epoch b.j.worker.value.queue.shard ≡ exchanges_of b.is.report.steps = exchanges_at exchanges h.joined h.worked of.each b.n b.j b.at ∙ ap exchanges_of b.steps_are in
          held_in_end c exchanges arrivals heads answered receiver carries_message answers b.j.worker.value.queue.epoch b.j.worker.value.queue.shard m.n e.0 m.m reply.0 x l
          (ap (λ es. slice_get es m.n) are ∙ e.1) reply.1 reply.2 (subst (λ t. IsExchangeOfMessage t e.0 m.m) (for_target b.n b.j b.at) e.2) m.has

      has_added : HasAdded s r (heads 0).store (heads (length arrivals)).store
      has_added =
          let all = until c exchanges arrivals heads answered receiver carries_message answers (length arrivals) (omega arith) in record {
            stays = all.begins;
            in_order = all.rises;
            added = λ p x l u. unlisted_held x l (unlisted-worker tells seen is_for s r h sends p x l u);
          }

  pub adds-over-wire : ((setup : WorkerSetup) (steps : List Step) → AreSteps (start_of setup) steps → WorkerSendsSamples setup steps)
      → ((c : Setup) (how : How) (e : Exchange) (x : SentMessage) (old : State) (status : ℕ) (new : State) (acknowledged : Store) → IsExchangeOfMessage c.target e x → Receives c how e.request old status new → status ≢ 413
      → AnswersAs old.limits x.message (judgement_of status) (state_of old.store acknowledged) (state_of new.store (acknowledged_after (judgement_of status) acknowledged new.store)))
      → (s : Shipping T) (r : Report T) → AddsOverWire tells seen is_for s r
  adds-over-wire sends answers s r h c exchanges arrivals heads answered target of receiver = has_added sends s r h c exchanges target of arrivals heads answered receiver (answers c)
