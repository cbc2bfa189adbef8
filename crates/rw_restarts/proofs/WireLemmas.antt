-- What comes over the wire to a receiver is what happens to such a receiver.
use Rattle.std.proofs.Common.{◌≡◌, ◌≢◌, inl, inr, ℕ, suc, ◌+◌, ◌<◌, ◌≤◌, Bool, true, List, [], map, length, Option, Some, Result, Ok, Err, slice_get, refl, sym, ap, ◌∙◌, subst, arith}
use Rattle.std.proofs.lemmas.List.{length-map}
use Rattle.std.proofs.lemmas.Bool.{cases_lt}
use Rattle.std.proofs.lemmas.Bool.Decides.{eqb_tells}
use Rattle.std.proofs.lemmas.Option.{none-some, same_Some, slice_get_within}
use Rattle.rw_types.specs.Labels.{Labels}
use Rattle.rw_types.specs.declared.entry.Entry.{Entry}
use Rattle.rw_relabel.specs.declared.choice.Choice.{Choice}
use Rattle.rw_write_request.specs.Message.{WriteRequest}
use Rattle.rw_retry.specs.Judgements.{judgement_of}
use Rattle.rw_retry.specs.declared.judgement.Judgement.{Judgement}
use Rattle.rw_retry.specs.declared.judgement.Judgement.TheVariants.{Refused}
use Rattle.rw_worker.specs.declared.transport.Reply.{Reply}
use Rattle.rw_worker.specs.declared.transport.Lost.{Lost}
use Rattle.rw_worker.specs.Steps.{exchanges_of}
use Rattle.rw_worker.specs.Transcript.{Exchange}
use Rattle.rw_fleet.specs.ShardHistories.{ShardHistory}
use Rattle.rw_fleet.specs.Work.{lane_of}
use Rattle.rw_sender.specs.Shipping.{Shipping}
use Rattle.rw_sender.specs.declared.report.Report.{Report}
use Rattle.rw_head.specs.declared.verdict.Verdict.{Verdict}
use Rattle.rw_head.specs.Head.{State}
use Rattle.rw_head.specs.Store.{Store}
use Rattle.rw_head.specs.Verdicts.{LabelLimits, taken_all}
use Rattle.rw_machine.specs.Worlds.{Setup}
use Rattle.rw_machine.specs.declared.event.How.{How}
use Rattle.rw_restarts.specs.Arrivals.{Receives}
use Rattle.rw_restarts.proofs.shared.ListLemmas.{get_map, map_get}
use Rattle.rw_restarts.specs.Parts.{points_in}
use Rattle.rw_restarts.specs.Runs.{SentMessage, SenderRun, IsSentBy}
use Rattle.rw_restarts.specs.Receivers.{ReceiverEvent, Answers, ReceiverState, AnswersAs, Brings, Happens, IsAnsweredAmong, IsReceiverOf, HasOnly, CanBeTaken, IsRefusedForCause, AreNeverRefused, state_of}
use Rattle.rw_restarts.specs.KeptReceivers.{acknowledged_after}
use Rattle.rw_restarts.specs.Logs.{AreRunsOverLog, HoldsLog}
use Rattle.rw_restarts.specs.Workers.{IsExchangeOfMessage, judgement_by}
use Rattle.rw_restarts.specs.WireReceivers.{RunOfWorkers, run_of, ExchangePlace, IsExchangeAt, IsEarlierExchange, exchanges_before, exchanges_before_epoch, number_by, message_number, WireEvent, Comes, Reopens, ReopensDuring, WireState, receiver_state, HappensOnWire, BringsExchange, IsAnsweredOnWire, IsWireReceiver, receiver_event, receiver_events, IsReceiverByWire, HoldsLogByWire, AreShort, RefusesNone, StopsAsWorkers}
use Rattle.rw_restarts.specs.Stopped.{first_of_epoch}
use Rattle.rw_restarts.proofs.AdditionLemmas.{set_up_at}
use Rattle.rw_restarts.proofs.ListedLemmas.{joined_at}
use Rattle.rw_restarts.proofs.ReceivedLemmas.{never-too-long, too-long-keeps}
use Rattle.rw_restarts.proofs.LogLemmas.{HoldsOneLog}
use Rattle.rw_restarts.proofs.RunLemmas.{same_request}
use Rattle.rw_restarts.proofs.PlaceLemmas.{IsMessageAt, in_shards, part_of_epoch, of_epochs, length_of_shards, apart_in_shards, within_epoch, grows_by_epoch, order_in_epoch}

replied_as : (answer : Result Reply Lost) (j : Judgement) → judgement_by answer ≡ Some j → (r : Reply) × (answer ≡ Ok r) × (judgement_of r.status ≡ j)
replied_as (Ok r) j is = (r, refl, same_Some (judgement_of r.status) j is)
replied_as (Err lost) j is = absurd (none-some j is)

module _ (c : Setup) (runs : List RunOfWorkers) (events : List WireEvent) (states : ℕ → WireState) (r : IsWireReceiver c runs events states)
    (answers : (c : Setup) (how : How) (e : Exchange) (x : SentMessage) (old : State) (status : ℕ) (new : State) (acknowledged : Store) → IsExchangeOfMessage c.target e x → Receives c how e.request old status new → status ≢ 413
    → AnswersAs old.limits x.message (judgement_of status) (state_of old.store acknowledged) (state_of new.store (acknowledged_after (judgement_of status) acknowledged new.store))) where
  -- ---- the message of an exchange
  sent_at : (p : ExchangePlace) (w : RunOfWorkers) (x : Exchange) → IsExchangeAt runs p w x → IsMessageAt c.target x w.run.sent (number_by (Some w) p)
  sent_at p w x is =
      let of = r.runs_are p.run w is.exists in
      let part = part_of_epoch 0 w.epochs w.steps w.run.sent of.messages p.epoch p.epoch is.shards (omega arith) is.epoch in
      let own = in_shards 0 is.shards (w.steps p.epoch) part.part part.messages p.shard p.number p.shard is.shard x (omega arith) is.at is.is in
      record {
        x = own.x;
        at = part.there (exchanges_before 0 (w.steps p.epoch) p.shard + p.number) own.x own.at;
        carries = subst (λ t. IsExchangeOfMessage t x own.x) (of.target p.epoch p.shard is.shards is.shard is.epoch is.at) own.carries;
      }

  number_is : (p : ExchangePlace) (w : RunOfWorkers) → slice_get runs p.run ≡ Some w → number_by (Some w) p ≡ message_number runs p
  number_is p w exists = ap (λ (o : Option RunOfWorkers). number_by o p) (sym exists)

  is_sent : (p : ExchangePlace) (w : RunOfWorkers) (x : Exchange) (is : IsExchangeAt runs p w x) → IsSentBy (map run_of runs) p.run (message_number runs p) w.run (sent_at p w x is).x
  is_sent p w x is = record {
    exists = get_map run_of runs p.run w is.exists;
    is = subst (λ n. slice_get w.run.sent n ≡ Some (sent_at p w x is).x) (number_is p w is.exists) (sent_at p w x is).at;
  }

  -- ---- the exchange of a message
  record HasPlace (i n : ℕ) (run : SenderRun) (x : SentMessage) : Type 0 where
    p : ExchangePlace
    w : RunOfWorkers
    e : Exchange
    is : IsExchangeAt runs p w e
    same_run : p.run ≡ i
    number : number_by (Some w) p ≡ n
    message : slice_get w.run.sent n ≡ Some x
    carries : IsExchangeOfMessage c.target e x

  place_of : (i n : ℕ) (run : SenderRun) (x : SentMessage) → IsSentBy (map run_of runs) i n run x → HasPlace i n run x
  place_of i n run x s =
      let found = map_get run_of runs i run s.exists in
      let of = r.runs_are i found.0 found.1 in
      let at : slice_get found.0.run.sent n ≡ Some x = ap (λ (y : SenderRun). slice_get y.sent n) found.2 ∙ s.is in
      let m = of_epochs 0 found.0.epochs found.0.steps found.0.run.sent of.messages n x at in
      let same : m.i ≡ m.e = (let was : 0 + m.e ≡ m.i = m.i_is in omega (arith, was)) in
      record {
        p = record { run = i; epoch = m.e; shard = m.k; number = m.q };
        w = found.0;
        e = m.exchange;
        is = record { exists = found.1; shards = m.shards; shard = m.shard; epoch = m.epoch; at = m.here; is = subst (λ j. slice_get (exchanges_of (found.0.steps j m.k)) m.q ≡ Some m.exchange) same m.at };
        same_run = refl;
        number = subst (λ j. exchanges_before_epoch 0 found.0.epochs found.0.steps m.e + (exchanges_before 0 (found.0.steps j) m.k + m.q) ≡ n) same m.number;
        message = at;
        carries = subst (λ t. IsExchangeOfMessage t m.exchange x) (of.target m.e m.k m.shards m.shard m.epoch m.here) m.carries;
      }

  -- ---- what happens
  came : (at : ℕ) (e : WireEvent) → at ≤ length events → HappensOnWire c runs e (states at) (states (suc at)) → Happens c.limits (map run_of runs) (receiver_event runs e) (receiver_state (states at)) (receiver_state (states (suc at)))
  came at (Comes p how status) le h =
      let m = sent_at p h.w h.x h.is in
      let old = states at in
      let new = states (suc at) in
      record {
        run = h.w.run;
        x = m.x;
        is = is_sent p h.w h.x h.is;
        judged = elim (eqb_tells status 413) [
          | inl is ↦ inr (
            ap judgement_of is.1,
            (let store = too-long-keeps c h.x m.x old.head status new.head m.carries how h.received is.1 in
                let had = h.acknowledged ∙ ap (λ (s : ℕ). acknowledged_after (judgement_of s) old.acknowledged new.head.store) is.1 in
                λ i. state_of (store i) (had i)),
          )
          | inr other ↦ inl (subst (λ (limits : LabelLimits). AnswersAs limits m.x.message (judgement_of status) (receiver_state old) (receiver_state new)) (r.limits at le)
              (subst (λ (a : Store). AnswersAs old.head.limits m.x.message (judgement_of status) (receiver_state old) (state_of new.head.store a)) (sym h.acknowledged)
              (answers c how h.x m.x old.head status new.head old.acknowledged m.carries h.received other.1)))
        ];
      }
  came at Reopens le h = h
  came at (ReopensDuring p) le h =
      let m = sent_at p h.w h.x h.is in
      record {
        run = h.w.run;
        x = m.x;
        is = is_sent p h.w h.x h.is;
        most = h.most;
        judged = subst (λ (message : WriteRequest). taken_all c.limits (Ok (states at).head.store) message ≡ Ok h.most) (sym m.carries.message_is) (h.judged m.carries.batch m.carries.reads m.carries.request);
        restarted = h.restarted;
      }

  happens_so : (at : ℕ) (event : ReceiverEvent) → slice_get (receiver_events runs events) at ≡ Some event → Happens c.limits (map run_of runs) event (receiver_state (states at)) (receiver_state (states (suc at)))
  happens_so at event is =
      let found = map_get (receiver_event runs) events at event is in
      subst (λ (e : ReceiverEvent). Happens c.limits (map run_of runs) e (receiver_state (states at)) (receiver_state (states (suc at)))) found.2 (let within = slice_get_within events at found.0 found.1 in came at found.0 (omega (arith, within)) (r.happens at found.0 found.1))

  -- ---- what comes
  record HasBrought (e : WireEvent) (i n : ℕ) : Type 0 where
    q : ExchangePlace
    w : RunOfWorkers
    x : Exchange
    is : IsExchangeAt runs q w x
    brings : BringsExchange e q
    same_run : q.run ≡ i
    number : message_number runs q ≡ n

  brought_by : (at : ℕ) (e : WireEvent) (i n : ℕ) → HappensOnWire c runs e (states at) (states (suc at)) → Brings (receiver_event runs e) i n → HasBrought e i n
  brought_by at (Comes q how status) i n h b = record { q = q; w = h.w; x = h.x; is = h.is; brings = refl; same_run = b.0; number = b.1 }
  brought_by at Reopens i n h b = absurd b
  brought_by at (ReopensDuring q) i n h b = record { q = q; w = h.w; x = h.x; is = h.is; brings = refl; same_run = b.0; number = b.1 }

  -- ---- what was answered
  answered_as : (first : ℕ) (p : ExchangePlace) (status i n : ℕ) (j : Judgement) → p.run ≡ i → message_number runs p ≡ n → judgement_of status ≡ j → IsAnsweredOnWire events first p status → IsAnsweredAmong (receiver_events runs events) first i n j
  answered_as first p status i n j same_run number judged was = record {
    at = was.at;
    early = was.early;
    is = get_map (receiver_event runs) events was.at (Comes p was.how status) was.is
        ∙ ap (λ (k : ℕ). Some (Answers k (message_number runs p) (judgement_of status))) same_run
        ∙ ap (λ (k : ℕ). Some (Answers i k (judgement_of status))) number
        ∙ ap (λ (k : Judgement). Some (Answers i n k)) judged;
  }

  all_answered : (i n : ℕ) (run : SenderRun) (x : SentMessage) (j : Judgement) → IsSentBy (map run_of runs) i n run x → x.judgement ≡ Some j → IsAnsweredAmong (receiver_events runs events) (length (receiver_events runs events)) i n j
  all_answered i n run x j s judged =
      let p = place_of i n run x s in
      let reply = replied_as p.e.answer j (sym p.carries.judgement_is ∙ judged) in
      subst (λ k. IsAnsweredAmong (receiver_events runs events) k i n j) (sym (length-map events (receiver_event runs)))
      (answered_as (length events) p.p reply.0.status i n j p.same_run (sym (number_is p.p p.w p.is.exists) ∙ p.number) reply.2 (r.answers.all p.p p.w p.e reply.0 p.is reply.1))

  -- ---- what was over before
  module _ (p q : ExchangePlace) (w : RunOfWorkers) (a b : Exchange) (pa : IsExchangeAt runs p w a) (qb : IsExchangeAt runs q w b) (y x : SentMessage) (l : Labels) (y_is : slice_get w.run.sent (number_by (Some w) p) ≡ Some y) (x_is : slice_get w.run.sent (number_by (Some w) q) ≡ Some x)
      (ys : points_in l y.message ≢ []) (xs : points_in l x.message ≢ []) where
    q_shard : q.shard < length qb.shards
    q_shard = slice_get_within qb.shards q.shard qb.shard qb.at

    q_number : q.number < length (exchanges_of (w.steps q.epoch q.shard))
    q_number = slice_get_within (exchanges_of (w.steps q.epoch q.shard)) q.number b qb.is

    -- two shards of one epoch share no label set
    one_shard : p.epoch ≡ q.epoch → p.shard < q.shard → ⊥
    one_shard same lt =
        let of = r.runs_are q.run w qb.exists in
        let part = part_of_epoch 0 w.epochs w.steps w.run.sent of.messages q.epoch q.epoch qb.shards (omega arith) qb.epoch in
        let size : length part.part ≡ exchanges_before 0 (w.steps q.epoch) (length qb.shards) = length_of_shards 0 qb.shards (w.steps q.epoch) part.part part.messages in
        let shards : pa.shards ≡ qb.shards = same_Some pa.shards qb.shards (sym pa.epoch ∙ ap (λ e. slice_get w.epochs e) same ∙ qb.epoch) in
        let here : slice_get qb.shards p.shard ≡ Some pa.shard = subst (λ (ss : List ShardHistory). slice_get ss p.shard ≡ Some pa.shard) shards pa.at in
        let p_number : p.number < length (exchanges_of (w.steps q.epoch p.shard)) =
        subst (λ e. p.number < length (exchanges_of (w.steps e p.shard))) same (slice_get_within (exchanges_of (w.steps p.epoch p.shard)) p.number a pa.is) in
        let in_range : q.shard < length qb.shards = q_shard in
        let p_in = within_epoch (w.steps q.epoch) p.shard p.number (length qb.shards) (omega (arith, lt, in_range)) p_number in
        let q_in = within_epoch (w.steps q.epoch) q.shard q.number (length qb.shards) q_shard q_number in
        let y_there : slice_get w.run.sent (exchanges_before_epoch 0 w.epochs w.steps q.epoch + (exchanges_before 0 (w.steps q.epoch) p.shard + p.number)) ≡ Some y =
        subst (λ e. slice_get w.run.sent (exchanges_before_epoch 0 w.epochs w.steps e + (exchanges_before 0 (w.steps e) p.shard + p.number)) ≡ Some y) same y_is in
        apart_in_shards 0 qb.shards (w.steps q.epoch) part.part part.messages p.shard p.number p.shard q.shard q.number pa.shard y x l (omega arith) lt here p_number
        (part.back (exchanges_before 0 (w.steps q.epoch) p.shard + p.number) y (omega (arith, p_in, size)) y_there)
        (part.back (exchanges_before 0 (w.steps q.epoch) q.shard + q.number) x (omega (arith, q_in, size)) x_is) ys xs

    in_one_epoch : p.epoch ≡ q.epoch → number_by (Some w) p < number_by (Some w) q → (p.shard ≡ q.shard) × (p.number < q.number)
    in_one_epoch same lt =
        let lt_there : exchanges_before_epoch 0 w.epochs w.steps q.epoch + (exchanges_before 0 (w.steps q.epoch) p.shard + p.number) < number_by (Some w) q =
        subst (λ e. exchanges_before_epoch 0 w.epochs w.steps e + (exchanges_before 0 (w.steps e) p.shard + p.number) < number_by (Some w) q) same lt in
        elim (order_in_epoch (w.steps q.epoch) p.shard p.number q.shard q.number q_number (omega (arith, lt_there))) [
          | inl less ↦ absurd (one_shard same less)
          | inr equal ↦ equal
        ]

    not_after : q.epoch < p.epoch → number_by (Some w) p < number_by (Some w) q → ⊥
    not_after less lt =
        let grows = grows_by_epoch 0 w.epochs w.steps q.epoch p.epoch q.epoch qb.shards (omega arith) qb.epoch less in
        let q_in = within_epoch (w.steps q.epoch) q.shard q.number (length qb.shards) q_shard q_number in
        omega (arith, grows, q_in, lt)

    is_earlier : p.run ≡ q.run → number_by (Some w) p < number_by (Some w) q → IsEarlierExchange p q
    is_earlier same_run lt = (
      same_run,
      elim (cases_lt p.epoch q.epoch) [
        | inl less ↦ inl less
        | inr le ↦ elim (cases_lt q.epoch p.epoch) [
          | inl more ↦ absurd (not_after more lt)
          | inr ge ↦ (let same : p.epoch ≡ q.epoch = omega (arith, le, ge) in let own = in_one_epoch same lt in inr (same, own.0, own.1))
        ]
      ],
    )

  before_later : (at i k n : ℕ) (event : WireEvent) (run : SenderRun) (y x : SentMessage) (j : Judgement) (l : Labels) → slice_get events at ≡ Some event → HasBrought event i n → HasPlace i k run y → IsSentBy (map run_of runs) i n run x → k < n → y.judgement ≡ Some j
      → points_in l y.message ≢ [] → points_in l x.message ≢ [] → IsAnsweredAmong (receiver_events runs events) at i k j
  before_later at i k n event run y x j l is b p sx lt judged ys xs =
      let reply = replied_as p.e.answer j (sym p.carries.judgement_is ∙ judged) in
      let one_run : b.w ≡ p.w = same_Some b.w p.w (sym b.is.exists ∙ ap (λ m. slice_get runs m) (b.same_run ∙ sym p.same_run) ∙ p.is.exists) in
      let q_is : IsExchangeAt runs b.q p.w b.x = subst (λ (w : RunOfWorkers). IsExchangeAt runs b.q w b.x) one_run b.is in
      let q_number : number_by (Some p.w) b.q ≡ n = number_is b.q p.w q_is.exists ∙ b.number in
      let the_run : p.w.run ≡ run = same_Some p.w.run run (sym (get_map run_of runs p.p.run p.w p.is.exists) ∙ ap (λ m. slice_get (map run_of runs) m) p.same_run ∙ sx.exists) in
      let y_is : slice_get p.w.run.sent (number_by (Some p.w) p.p) ≡ Some y = subst (λ m. slice_get p.w.run.sent m ≡ Some y) (sym p.number) p.message in
      let x_is : slice_get p.w.run.sent (number_by (Some p.w) b.q) ≡ Some x = subst (λ m. slice_get p.w.run.sent m ≡ Some x) (sym q_number) (ap (λ (z : SenderRun). slice_get z.sent n) the_run ∙ sx.is) in
      let p_number = p.number in
      let earlier = is_earlier p.p b.q p.w p.e b.x p.is q_is y x l y_is x_is ys xs (p.same_run ∙ sym b.same_run) (omega (arith, lt, p_number, q_number)) in
      answered_as at p.p reply.0.status i k j p.same_run (sym (number_is p.p p.w p.is.exists) ∙ p.number) reply.2 (r.answers.later at event p.p b.q p.w p.e reply.0 is b.brings earlier p.is reply.1)

  -- ---- the receiver
  found_event : (at i n : ℕ) (event : ReceiverEvent) → slice_get (receiver_events runs events) at ≡ Some event → Brings event i n → (e : WireEvent) × (slice_get events at ≡ Some e) × HasBrought e i n
  found_event at i n event is b =
      let found = map_get (receiver_event runs) events at event is in
      (found.0, found.1, brought_by at found.0 i n (r.happens at found.0 found.1) (subst (λ (e : ReceiverEvent). Brings e i n) (sym found.2) b))

  pub receiver_of : IsReceiverOf c.limits (map run_of runs) (receiver_events runs events) (λ (at : ℕ). receiver_state (states at))
  receiver_of = record {
    begins = r.begins;
    happens = happens_so;
    answers = record {
      all = all_answered;
      before = λ at event i k n run y x j l is b sx sy lt judged ys xs.
          let found = found_event at i n event is b in
          before_later at i k n found.0 run y x j l found.1 found.2 (place_of i k run y sy) sx lt judged ys xs;
    };
  }

  -- ---- what is refused
  module _ (among : Labels → Bool) (short : AreShort c runs among) where
    cause_of : (at : ℕ) (event : WireEvent) (i n : ℕ) (run : SenderRun) (x : SentMessage) → at ≤ length events → HappensOnWire c runs event (states at) (states (suc at)) → receiver_event runs event ≡ Answers i n Refused
        → IsSentBy (map run_of runs) i n run x → HasOnly among x → (v : Verdict) × (taken_all c.limits (Ok (states at).head.store) x.message ≡ Err v)
    cause_of at (Comes p how status) i n run x le h same sent only =
        let old = states at in
        let new = states (suc at) in
        let m = sent_at p h.w h.x h.is in
        let run_is : p.run ≡ i = cc in
        let number : message_number runs p ≡ n = cc in
        let judged : judgement_of status ≡ Refused = cc in
        let own = is_sent p h.w h.x h.is in
        let here : IsSentBy (map run_of runs) i n h.w.run m.x = subst (λ k. IsSentBy (map run_of runs) k n h.w.run m.x) run_is (subst (λ k. IsSentBy (map run_of runs) p.run k h.w.run m.x) number own) in
        let one = (same_request (map run_of runs) i n h.w.run run m.x x here sent).1 in
        let fits = never-too-long c h.x m.x old.head status new.head m.carries how h.received (short p h.w h.x m.x h.is own.is (subst (HasOnly among) (sym one) only)) in
        let refused = subst (λ (j : Judgement). AnswersAs old.head.limits m.x.message j (state_of old.head.store old.acknowledged) (state_of new.head.store (acknowledged_after j old.acknowledged new.head.store))) judged
        (answers c how h.x m.x old.head status new.head old.acknowledged m.carries h.received fits) in (
          refused.1.0,
          ap (λ (limits : LabelLimits). taken_all limits (Ok old.head.store) x.message) (sym (r.limits at le)) ∙ ap (λ (y : SentMessage). taken_all old.head.limits (Ok old.head.store) y.message) (sym one) ∙ refused.1.1,
        )
    cause_of at Reopens i n run x le h same sent only = absurd cc
    cause_of at (ReopensDuring p) i n run x le h same sent only = absurd cc

    pub refused_for_cause : IsRefusedForCause c.limits (map run_of runs) (receiver_events runs events) (λ (at : ℕ). receiver_state (states at)) among
    refused_for_cause at i n run x is sent only =
        let found = map_get (receiver_event runs) events at (Answers i n Refused) is in
        let within = slice_get_within events at found.0 found.1 in
        cause_of at found.0 i n run x (omega (arith, within)) (r.happens at found.0 found.1) found.2 sent only

-- ---- a shipper that was stopped
module _ {T : Type 0} (tells : T → Type 0) (seen : T → List Exchange) (is_for : ℕ → ℕ → T → Type 0) where
  pub stops-as-workers : (s : Shipping T) (r : Report T) → StopsAsWorkers tells seen is_for s r
  stops-as-workers s r h run = record {
    messages = run.run.messages;
    target = λ e k shards shard at here.
        set_up_at s.fleet.config (map lane_of h.joined) (first_of_epoch run.epochs e + k) shard h.setup (ap (λ ls. slice_get ls (first_of_epoch run.epochs e + k)) run.shards ∙ joined_at run.epochs e k shards shard at here);
  }

pub wire-receiver : ((c : Setup) (how : How) (e : Exchange) (x : SentMessage) (old : State) (status : ℕ) (new : State) (acknowledged : Store) → IsExchangeOfMessage c.target e x → Receives c how e.request old status new → status ≢ 413
    → AnswersAs old.limits x.message (judgement_of status) (state_of old.store acknowledged) (state_of new.store (acknowledged_after (judgement_of status) acknowledged new.store)))
    → (c : Setup) (runs : List RunOfWorkers) (events : List WireEvent) (states : ℕ → WireState) → IsReceiverByWire c runs events states
wire-receiver answers c runs events states r = receiver_of c runs events states r answers

-- what `many_runs_hold_one_log` says of label sets that are not refused
abbrev pub RefusesNoneOfLog : Type 0
RefusesNoneOfLog = (limits : LabelLimits) (choice : Choice) (log : List Entry) (runs : List SenderRun) (events : List ReceiverEvent) (states : ℕ → ReceiverState) (among : Labels → Bool)
    → ((l : Labels) → among l ≡ true → AreRunsOverLog choice log runs l) → IsReceiverOf limits runs events states → CanBeTaken limits runs events states among → IsRefusedForCause limits runs events states among
    → AreNeverRefused runs events states among

pub wire-holds : ((c : Setup) (how : How) (e : Exchange) (x : SentMessage) (old : State) (status : ℕ) (new : State) (acknowledged : Store) → IsExchangeOfMessage c.target e x → Receives c how e.request old status new → status ≢ 413
    → AnswersAs old.limits x.message (judgement_of status) (state_of old.store acknowledged) (state_of new.store (acknowledged_after (judgement_of status) acknowledged new.store)))
    → HoldsOneLog → (c : Setup) (runs : List RunOfWorkers) (events : List WireEvent) (states : ℕ → WireState) (choice : Choice) (log : List Entry) (l : Labels) → HoldsLogByWire c runs events states choice log l
wire-holds answers held c runs events states choice log l r over no_gap =
    subst (λ n. HoldsLog choice log (map run_of runs) (receiver_state (states n)) l) (length-map events (receiver_event runs))
    (held c.limits choice log (map run_of runs) (receiver_events runs events) (λ (at : ℕ). receiver_state (states at)) l over (receiver_of c runs events states r answers) no_gap)

pub wire-refuses-none : ((c : Setup) (how : How) (e : Exchange) (x : SentMessage) (old : State) (status : ℕ) (new : State) (acknowledged : Store) → IsExchangeOfMessage c.target e x → Receives c how e.request old status new → status ≢ 413
    → AnswersAs old.limits x.message (judgement_of status) (state_of old.store acknowledged) (state_of new.store (acknowledged_after (judgement_of status) acknowledged new.store)))
    → RefusesNoneOfLog → (c : Setup) (runs : List RunOfWorkers) (events : List WireEvent) (states : ℕ → WireState) (choice : Choice) (log : List Entry) (among : Labels → Bool) → RefusesNone c runs events states choice log among
wire-refuses-none answers none c runs events states choice log among r over can short =
    none c.limits choice log (map run_of runs) (receiver_events runs events) (λ (at : ℕ). receiver_state (states at)) among over (receiver_of c runs events states r answers) can (refused_for_cause c runs events states r answers among short)
