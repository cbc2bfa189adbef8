-- The small history over the wire is one of those that the laws speak of.
use Rattle.std.proofs.Common.{◌≡◌, inl, inr, ℕ, zero, suc, ◌+◌, ◌<◌, ◌≤◌, ◌^◌, nat_lt, true, cond, codes, decimal, List, [], ◌∷◌, ◌++◌, length, map, append_assoc, slice_get, Some, Result, Ok, refl, sym, ap, ◌∙◌, subst, arith}
use Rattle.std.specs.FinMap.{empty}
use Rattle.std.specs.List.{AllByRecursion, flat_map}
use Rattle.std.specs.Char.{is_ascii_digit, digit_value}
use Rattle.std.specs.declared.alloc.Global.{Global}
use Rattle.std.specs.declared.sync.Arc.{Arc}
use Rattle.std.proofs.lemmas.Bool.{cond-false, le-ltb}
use Rattle.std.proofs.lemmas.Fmt.{decimal_is_IsNumeral, length-decimal-le}
use Rattle.std.proofs.lemmas.Grind.{common_steps}
use Rattle.std.proofs.lemmas.List.{length-append, append_cancel_left}
use Rattle.std.proofs.lemmas.Option.{same_Some, none-some}
use Rattle.rw_types.specs.Beginnings.{Begins}
use Rattle.rw_types.proofs.shared.BeginningLemmas.{begins_itself}
use Rattle.rw_types.specs.Labels.{Labels}
use Rattle.rw_types.specs.Requests.{line}
use Rattle.rw_codes.specs.Varint.{groups}
use Rattle.rw_write_request.specs.Message.{WriteRequest}
use Rattle.rw_write_request.specs.Canon.{canon, fixed64_field, int64_field, sample, sample_field, series, series_field}
use Rattle.rw_write_request.specs.Read.{read}
use Rattle.rw_write_request.specs.Valid.{IsMessage}
use Rattle.rw_write_request.specs.declared.fault.WireFault.{WireFault}
use Rattle.rw_retry.specs.declared.judgement.Judgement.TheVariants.{Done}
use Rattle.rw_plain_queue.specs.Items.{Placed}
use Rattle.rw_batch.specs.Grouping.{LabelledSample, message, distinct, samples_of}
use Rattle.rw_shard_core.specs.Shard.{IsReadAgain, body_of, labelled}
use Rattle.rw_shard_core.specs.SentRequest.{request_head}
use Rattle.rw_worker.specs.declared.transport.Reply.{Reply}
use Rattle.rw_worker.specs.declared.transport.Lost.{Lost}
use Rattle.rw_worker.specs.Setups.{WorkerSetup, start_of}
use Rattle.rw_worker.specs.Steps.{Working, Takes, Freezes, AreSteps, after, exchanges_of}
use Rattle.rw_worker.specs.Transcript.{Exchange, batch_request, reply_of_status}
use Rattle.rw_fleet.specs.ShardHistories.{ShardHistory}
use Rattle.rw_head.specs.Head.{answer_to, answered}
use Rattle.rw_head.specs.Order.{Point, holds}
use Rattle.rw_head.specs.Store.{list_of}
use Rattle.rw_head.specs.Verdicts.{judged}
use Rattle.rw_head.proofs.shared.StoreLemmas.{list_of-empty}
use Rattle.rw_machine.specs.declared.event.How.TheVariants.{Plain}
use Rattle.rw_restarts.specs.Arrivals.{Receives}
use Rattle.rw_restarts.specs.Runs.{SentMessage, SenderRun, IsSentBy}
use Rattle.rw_restarts.specs.Parts.{AreWithinLimits}
use Rattle.rw_restarts.specs.Receivers.{ReceiverEvent, ReceiverState, CanBeTaken}
use Rattle.rw_restarts.specs.Workers.{AreMessagesOfWorker, IsSettledSample}
use Rattle.rw_restarts.specs.WireReceivers.{RunOfWorkers, run_of, IsRunOfWorkers, ExchangePlace, IsExchangeAt, IsEarlierExchange, WireEvent, Comes, Reopens, HasShortBody, HappensOnWire, BringsExchange, IsAnsweredOnWire, AreRunsTo, IsWireReceiver}
use Rattle.rw_restarts.specs.Examples.{example_series, first, message_of, sent_with, limits, with_first}
use Rattle.rw_restarts.specs.WireExamples as wire
use Rattle.rw_restarts.proofs.ExampleLemmas.{itself, taken_series, takes, points-of-first}
use Rattle.rw_restarts.proofs.TurnLemmas.{answers}

-- ---- a request has one body
digit_of : (b : ℕ) → digit_value b < 10 → is_ascii_digit b ≡ true
digit_of b h = grind (arith, common_steps)

not_return : (b : ℕ) → digit_value b < 10 → b ≡ 13 → ⊥
not_return b h e = let wrong : is_ascii_digit 13 ≡ true = ap is_ascii_digit (sym e) ∙ digit_of b h in cc (wrong)

abbrev AreDigits : List ℕ → Type 0
AreDigits ds = AllByRecursion (λ b. digit_value b < 10) ds

after-digits : (ds es xs ys : List ℕ) → AreDigits ds → AreDigits es → ds ++ 13 ∷ xs ≡ es ++ 13 ∷ ys → xs ≡ ys
after-digits [] [] xs ys d e same = let h : 13 ∷ xs ≡ 13 ∷ ys = same in cc (h)
after-digits [] (b ∷ es) xs ys d e same = absurd (not_return b e.0 (let h : 13 ∷ xs ≡ b ∷ (es ++ 13 ∷ ys) = same in let is : 13 ≡ b = cc (h) in sym is))
after-digits (b ∷ ds) [] xs ys d e same = absurd (not_return b d.0 (let h : b ∷ (ds ++ 13 ∷ xs) ≡ 13 ∷ ys = same in cc (h)))
after-digits (b ∷ ds) (c ∷ es) xs ys d e same =
    after-digits ds es xs ys d.1 e.1 (let h : b ∷ (ds ++ 13 ∷ xs) ≡ c ∷ (es ++ 13 ∷ ys) = same in cc (h))

-- a head up to the digits
abbrev front : List ℕ
front =
    flat_map line (codes "POST /api/v1/write HTTP/1.1" ∷ codes "Host: localhost:9090" ∷ codes "User-Agent: rwship/1.0" ∷ codes "Content-Type: application/x-protobuf" ∷ codes "X-Prometheus-Remote-Write-Version: 0.1.0" ∷ codes "Connection: close" ∷ [])
    ++ codes "Content-Length: "

request_is : (digits body : List ℕ) → request_head wire.target.host wire.target.path digits ++ body ≡ front ++ (digits ++ 13 ∷ 10 ∷ 13 ∷ 10 ∷ body)
unfolding request_head
request_is digits body = ap (λ t. front ++ t) (append_assoc (digits ++ 13 ∷ 10 ∷ []) (13 ∷ 10 ∷ []) body ∙ append_assoc digits (13 ∷ 10 ∷ []) (13 ∷ 10 ∷ body))

one_body : (ds es xs ys : List ℕ) → AreDigits ds → AreDigits es → request_head wire.target.host wire.target.path ds ++ xs ≡ request_head wire.target.host wire.target.path es ++ ys → xs ≡ ys
one_body ds es xs ys d e same =
    let rest : 10 ∷ 13 ∷ 10 ∷ xs ≡ 10 ∷ 13 ∷ 10 ∷ ys = after-digits ds es (10 ∷ 13 ∷ 10 ∷ xs) (10 ∷ 13 ∷ 10 ∷ ys) d e
    (append_cancel_left front (ds ++ 13 ∷ 10 ∷ 13 ∷ 10 ∷ xs) (es ++ 13 ∷ 10 ∷ 13 ∷ 10 ∷ ys) (sym (request_is ds xs) ∙ same ∙ request_is es ys)) in
    cc (rest)

digits-of : (n : ℕ) → n < 2 ^ 64 → AreDigits (decimal n)
digits-of n lt = (decimal_is_IsNumeral n lt).0.1

-- ---- the message
pub short_message : length (canon (message_of first)) ≡ 15
unfolding series_field series sample_field sample fixed64_field int64_field groups
short_message = refl

front_length : length front ≡ 190
front_length = refl

pub is_message : IsMessage (message_of first)
is_message = record {
  series = (record { labels = tt; samples = ((omega arith, record { sfits = let small : 10 < 2 ^ 63 = omega arith in small }), tt) }, tt);
  short = let few = short_message in omega (arith, few);
}

pub only-one : {X : Type 0} (y x : X) (n : ℕ) → slice_get (y ∷ []) n ≡ Some x → (n ≡ 0) × (y ≡ x)
only-one y x zero e = (refl, same_Some y x e)
only-one y x (suc n) e = absurd (none-some x e)

pub same_reply : (a b : Reply) → (let no : Result Reply Lost = Ok a in no ≡ Ok b) → a ≡ b
same_reply a b e = cc e

same_message : (a b : WriteRequest) → (let no : Result WriteRequest WireFault = Ok a in no ≡ Ok b) → a ≡ b
same_message a b e = cc e

-- no exchange was over before the only one began
pub none-earlier : (p q : ExchangePlace) → wire.the_place ≡ q → IsEarlierExchange p q → ⊥
none-earlier p q is earlier =
    let epoch : 0 ≡ q.epoch = ap (λ (v : ExchangePlace). v.epoch) is in
    let number : 0 ≡ q.number = ap (λ (v : ExchangePlace). v.number) is in
    elim earlier.1 [
      | inl less ↦ omega (arith, epoch, less)
      | inr later ↦ (let less = later.2 in omega (arith, number, less))
    ]

module _ (reads : (m : WriteRequest) → IsMessage m → read (canon m) ≡ Ok m) (worker : WorkerSetup) (shared : Arc Labels Global) where
  abbrev pub batch : List Placed
  batch = wire.sample worker shared ∷ []

  abbrev pub runs : List RunOfWorkers
  runs = wire.run worker shared ∷ []

  message_is : message (map labelled batch) ≡ message_of first
  unfolding message distinct samples_of
  message_is = ap (λ b. record { labels = example_series; samples = map (λ (x : LabelledSample). x.sample) (cond b (labelled (wire.sample worker shared) ∷ []) []) } ∷ []) itself

  pub body_is : body_of batch ≡ canon (message_of first)
  unfolding body_of
  body_is = ap canon message_is

  read_again : IsReadAgain batch
  read_again = ap read body_is ∙ reads (message_of first) is_message ∙ ap Ok (sym message_is)

  -- a batch with the same request has the same body
  own_length : length (body_of batch) ≡ 15
  own_length = ap length body_is ∙ short_message

  request_short : length (batch_request wire.target batch) ≤ 2000
  request_short =
      let own = own_length in
      let lead = front_length in
      let few : length (decimal (length (body_of batch))) ≤ 2 = length-decimal-le 2 (length (body_of batch)) (omega arith) (omega (arith, own)) (omega (arith, own)) in
      let whole : length (batch_request wire.target batch) ≡ length front + (length (decimal (length (body_of batch))) + suc (suc (suc (suc (length (body_of batch)))))) =
      ap length (request_is (decimal (length (body_of batch))) (body_of batch)) ∙ length-append front (decimal (length (body_of batch)) ++ 13 ∷ 10 ∷ 13 ∷ 10 ∷ body_of batch)
      ∙ ap (λ n. length front + n) (length-append (decimal (length (body_of batch))) (13 ∷ 10 ∷ 13 ∷ 10 ∷ body_of batch)) in
      omega (arith, own, lead, few, whole)

  same_body : (other : List Placed) → batch_request wire.target batch ≡ batch_request wire.target other → body_of other ≡ canon (message_of first)
  same_body other same =
      let few : length (request_head wire.target.host wire.target.path (decimal (length (body_of other)))) + length (body_of other) ≡ length (batch_request wire.target batch) =
      sym (length-append (request_head wire.target.host wire.target.path (decimal (length (body_of other)))) (body_of other)) ∙ ap length (sym same) in
      let most = request_short in
      let own = own_length in
      sym (one_body (decimal (length (body_of batch))) (decimal (length (body_of other))) (body_of batch) (body_of other)
      (digits-of (length (body_of batch)) (omega (arith, own))) (digits-of (length (body_of other)) (omega (arith, few, most))) same) ∙ body_is

  short : HasShortBody wire.receiver (wire.exchange worker shared).request
  short other again same = let few : length (body_of other) ≡ 15 = ap length (same_body other same) ∙ short_message in omega (arith, few)

  -- ---- the sender
  pub steps-allowed : AreSteps (start_of (wire.setup worker shared)) (wire.steps worker shared)
  steps-allowed = ((refl, (refl, refl, tt)), ((refl, refl), ((refl, refl, read_again), tt)))

  abbrev before_reply : Working
  before_reply = after (start_of (wire.setup worker shared)) (Takes (wire.item worker shared) ∷ Freezes ∷ [])

  resolved_is : (after (start_of (wire.setup worker shared)) (wire.steps worker shared)).core.resolved ≡ batch
  resolved_is = ap (λ c. c.resolved) (answers (reply_of_status 204) before_reply refl)

  of_worker : AreMessagesOfWorker (wire.setup worker shared) (wire.steps worker shared) (sent_with first (Some Done) ∷ [])
  of_worker = record {
    exchanges = (record { batch = batch; request = refl; reads = read_again; message_is = sym message_is; judgement_is = refl }, tt);
    resolved = subst (AllByRecursion (IsSettledSample (sent_with first (Some Done) ∷ []) (after (start_of (wire.setup worker shared)) (wire.steps worker shared)).ledger.names)) (sym resolved_is)
        (inl (ap (λ ys. holds first (ys ++ [])) points-of-first), tt);
  }

  of_run : IsRunOfWorkers wire.target (wire.run worker shared)
  of_run = record {
    messages = (sent_with first (Some Done) ∷ [], [], refl, (sent_with first (Some Done) ∷ [], [], refl, of_worker, refl, λ l. inr tt), refl);
    target = λ e k shards shard at here.
        let one = (only-one (wire.shard worker shared ∷ []) shards e at).1 in
        ap (λ (s : ShardHistory). s.setup.target) (sym (only-one (wire.shard worker shared) shard k (subst (λ (ss : List ShardHistory). slice_get ss k ≡ Some shard) (sym one) here)).1);
  }

  -- ---- the exchange
  record IsTheOne (p : ExchangePlace) (x : Exchange) : Type 0 where
    run : p.run ≡ 0
    epoch : p.epoch ≡ 0
    shard : p.shard ≡ 0
    number : p.number ≡ 0
    exchange : wire.exchange worker shared ≡ x

  the_one : (p : ExchangePlace) (w : RunOfWorkers) (x : Exchange) → IsExchangeAt runs p w x → IsTheOne p x
  the_one p w x is =
      let run = only-one (wire.run worker shared) w p.run is.exists in
      let epoch = only-one (wire.shard worker shared ∷ []) is.shards p.epoch (subst (λ (v : RunOfWorkers). slice_get v.epochs p.epoch ≡ Some is.shards) (sym run.1) is.epoch) in
      let shard = only-one (wire.shard worker shared) is.shard p.shard (subst (λ (ss : List ShardHistory). slice_get ss p.shard ≡ Some is.shard) (sym epoch.1) is.at) in
      let number = only-one (wire.exchange worker shared) x p.number (subst (λ (v : RunOfWorkers). slice_get (exchanges_of (v.steps p.epoch p.shard)) p.number ≡ Some x) (sym run.1) is.is) in
      record { run = run.0; epoch = epoch.0; shard = shard.0; number = number.0; exchange = number.1 }

  place_is : (p : ExchangePlace) (x : Exchange) → IsTheOne p x → wire.the_place ≡ p
  place_is p x one = let run = sym one.run in let epoch = sym one.epoch in let shard = sym one.shard in let number = sym one.number in
      λ i. record { run = run i; epoch = epoch i; shard = shard i; number = number i }

  pub here : IsExchangeAt runs wire.the_place (wire.run worker shared) (wire.exchange worker shared)
  here = record { exists = refl; shards = wire.shard worker shared ∷ []; shard = wire.shard worker shared; epoch = refl; at = refl; is = refl }

  -- ---- the receiver
  pub taken : answer_to (wire.states 0).head (Ok (message_of first)) ≡ record { status = 204; head = (wire.states 1).head }
  taken = ap (λ r. answered (wire.states 0).head (judged empty r)) (takes first empty [] (first ∷ []) (list_of-empty example_series) refl)

  pub received : Receives wire.receiver Plain (wire.exchange worker shared).request (wire.states 0).head 204 (wire.states 1).head
  received other again same =
      let few : length (body_of other) ≡ 15 = ap length (same_body other same) ∙ short_message in
      let own : message (map labelled other) ≡ message_of first = same_message (message (map labelled other)) (message_of first) (sym again ∙ ap read (same_body other same) ∙ reads (message_of first) is_message) in
      cond-false (nat_lt 1024 (length (body_of other))) (record { status = 413; head = (wire.states 0).head }) (answer_to (wire.states 0).head (Ok (message (map labelled other)))) (le-ltb 1024 (length (body_of other)) (omega (arith, few)))
      ∙ ap (λ m. answer_to (wire.states 0).head (Ok m)) own ∙ taken

  happens : (at : ℕ) (event : WireEvent) → slice_get wire.events at ≡ Some event → HappensOnWire wire.receiver runs event (wire.states at) (wire.states (suc at))
  happens zero event e =
      subst (λ (v : WireEvent). HappensOnWire wire.receiver runs v (wire.states 0) (wire.states 1)) (same_Some (Comes wire.the_place Plain 204) event e)
      (record { w = wire.run worker shared; x = wire.exchange worker shared; is = here; received = received; acknowledged = refl })
  happens (suc zero) event e =
      subst (λ (v : WireEvent). HappensOnWire wire.receiver runs v (wire.states 1) (wire.states 2)) (same_Some Reopens event e)
      (record { same = refl; least = λ l. begins_itself (list_of with_first l); at_most = λ l. begins_itself (list_of with_first l) })
  happens (suc (suc n)) event e = absurd (none-some event e)

  -- ---- the network
  -- if a request comes among the first n events, the status that was read is given there
  pub comes-among : (events : List WireEvent) (n at : ℕ) → at < n → slice_get events at ≡ Some (Comes wire.the_place Plain 204)
      → (p : ExchangePlace) (w : RunOfWorkers) (x : Exchange) (r : Reply) → IsExchangeAt runs p w x → x.answer ≡ Ok r → IsAnsweredOnWire events n p r.status
  comes-among events n at early is-at p w x r is answer =
      let one = the_one p w x is in
      let status : 204 ≡ r.status = ap (λ (y : Reply). y.status) (same_reply (record { status = 204 }) r (ap (λ (y : Exchange). y.answer) one.exchange ∙ answer)) in
      record { at = at; early = early; how = Plain; is = is-at ∙ ap (λ (q : ExchangePlace). Some (Comes q Plain 204)) (place_is p x one) ∙ ap (λ (s : ℕ). Some (Comes p Plain s)) status }

  none_before : (at : ℕ) (event : WireEvent) (p q : ExchangePlace) → slice_get wire.events at ≡ Some event → BringsExchange event q → IsEarlierExchange p q → ⊥
  none_before zero event p q e b earlier = none-earlier p q (subst (λ (v : WireEvent). BringsExchange v q) (sym (same_Some (Comes wire.the_place Plain 204) event e)) b) earlier
  none_before (suc zero) event p q e b earlier = subst (λ (v : WireEvent). BringsExchange v q) (sym (same_Some Reopens event e)) b
  none_before (suc (suc n)) event p q e b earlier = absurd (none-some event e)

  -- ---- the history
  within : (i n : ℕ) (run : SenderRun) (x : SentMessage) → IsSentBy (map run_of runs) i n run x → AreWithinLimits limits x.message
  within i n run x sent =
      let one = only-one (wire.run worker shared).run run i sent.exists in
      subst (λ (y : SentMessage). AreWithinLimits limits y.message) (only-one (sent_with first (Some Done)) x n (subst (λ (r : SenderRun). slice_get r.sent n ≡ Some x) (sym one.1) sent.is)).1 (taken_series, tt)

  limits-stay : (at : ℕ) → (wire.states at).head.limits ≡ limits
  limits-stay zero = refl
  limits-stay (suc n) = refl

  pub runs-are : AreRunsTo wire.receiver runs
  runs-are i w at = subst (IsRunOfWorkers wire.target) (only-one (wire.run worker shared) w i at).1 of_run

  pub all-short : (p : ExchangePlace) (w : RunOfWorkers) (x : Exchange) → IsExchangeAt runs p w x → HasShortBody wire.receiver x.request
  all-short p w x is = subst (λ (y : Exchange). HasShortBody wire.receiver y.request) (the_one p w x is).exchange short

  -- the log of the run has nothing before its first entry
  nothing-before : (i : ℕ) (run : SenderRun) (l : Labels) (ys : List Point) → slice_get (map run_of runs) i ≡ Some run → Begins (run.earlier l) ys
  nothing-before i run l ys exists = subst (λ (r : SenderRun). Begins (r.earlier l) ys) (only-one (wire.run worker shared).run run i exists).1 (ys, refl)

  -- the label sets of the run, with any events and states of a receiver
  pub taken-by : (events : List ReceiverEvent) (states : ℕ → ReceiverState) → CanBeTaken limits (map run_of runs) events states (λ l. true)
  taken-by events states = record {
    alone = λ i n run x l sent own some k has. refl;
    within = λ i n run x sent only. within i n run x sent;
    covered = λ l own at event i n run x e b sent some. nothing-before i run l (list_of (states at).acknowledged l) sent.exists;
  }

  pub wire-receiver-is : IsWireReceiver wire.receiver runs wire.events wire.states
  wire-receiver-is = record {
    runs_are = runs-are;
    begins = λ l. (list_of-empty l, list_of-empty l);
    limits = λ at le. limits-stay at;
    happens = happens;
    answers = record {
      all = comes-among wire.events 2 0 (omega arith) refl;
      later = λ at event p q w x r e b earlier is answer. absurd (none_before at event p q e b earlier);
    };
  }
