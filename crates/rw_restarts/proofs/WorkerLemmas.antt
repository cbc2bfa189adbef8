-- A worker sends its samples, label set by label set.
use Rattle.std.proofs.Common.{◌≡◌, inl, inr, ℕ, zero, suc, ◌+◌, ◌==◌, Bool, true, false, not, ◌&&◌, cond, List, [], ◌∷◌, ◌++◌, length, map, filter, take, append-nil, append_assoc, Some, Result, Ok, Err, slice_get, refl, sym, ap, ◌∙◌, subst, arith}
use Rattle.std.specs.List.{AllByRecursion}
use Rattle.std.specs.Ordering.{nat_cmp}
use Rattle.std.specs.Cmp.{unsigned_tied}
use Rattle.std.specs.FinMap.{FinMap, get, insert, get-insert}
use Rattle.std.proofs.lemmas.Cmp.{nat_cmp_total}
use Rattle.std.proofs.lemmas.Bool.Decides.{Decides-eqb}
use Rattle.std.proofs.lemmas.Bool.{and_from, and_parts, cond-true}
use Rattle.std.proofs.lemmas.List.{map-append}
use Rattle.std.proofs.lemmas.List.Elements.{filter-append}
use Rattle.std.proofs.lemmas.Option.{same_Some}
use Rattle.rw_types.specs.Beginnings.{Begins}
use Rattle.rw_types.proofs.shared.AllLemmas.{AllByRecursion-append, AllByRecursion-weaker}
use Rattle.rw_types.proofs.shared.BeginningLemmas.{begins_twice}
use Rattle.rw_types.proofs.shared.OrderLemmas.{equal_if_same}
use Rattle.rw_types.specs.Labels.{Labels}
use Rattle.rw_types.specs.LabelOrder.{labels_eq}
use Rattle.rw_write_request.specs.Message.{WriteRequest}
use Rattle.rw_retry.specs.Judgements.{judgement_of}
use Rattle.rw_retry.specs.declared.judgement.Judgement.{Judgement}
use Rattle.rw_retry.specs.declared.judgement.Judgement.TheVariants.{Done, Again, Refused}
use Rattle.rw_ledger.specs.Names.{Named}
use Rattle.rw_ledger.specs.declared.ledger.Reason.{Reason}
use Rattle.rw_ledger.specs.declared.ledger.Reason.TheVariants.{Status}
use Rattle.rw_plain_queue.specs.Items.{Placed, samples_in}
use Rattle.rw_plain_queue.specs.declared.item.Item.TheVariants.{Sample, Flush, End}
use Rattle.rw_batch.specs.Grouping.{message}
use Rattle.rw_shard_core.specs.Shard.{Core, IsReadAgain, awaits, batch_id, can_freeze, can_send, freeze, is_answer, is_empty, labelled, name_all, pending, placed, positions, reply_names, same_id, send, settle_names}
use Rattle.rw_shard_core.proofs.shared.EmptyLemmas.{nil_from_empty}
use Rattle.rw_shard_core.specs.declared.config.Target.{Target}
use Rattle.rw_worker.specs.declared.transport.Reply.{Reply}
use Rattle.rw_worker.specs.declared.transport.Lost.{Lost}
use Rattle.rw_worker.specs.Setups.{WorkerSetup, start_of}
use Rattle.rw_worker.specs.Steps.{Working, Step, Takes, Freezes, Sends, Waits, AreSteps, after, after_step, after_attempt, items_of, exchanges_of}
use Rattle.rw_worker.specs.Transcript.{Exchange, batch_request, is_again, is_again_by, names_after}
use Rattle.rw_head.specs.Order.{Point, holds}
use Rattle.rw_head.proofs.shared.OrderRule.{holds_append, holds_own, holds_right}
use Rattle.rw_restarts.specs.Parts.{points_in}
use Rattle.rw_restarts.specs.Runs.{SentMessage, acknowledged_by, acknowledged_in}
use Rattle.rw_restarts.specs.Workers.{samples_in_batch, judgement_by, AreExchangesOfMessages, HasName, IsSettledSample, SendsSamples, NeverRefused, WorkerSendsSamples}
use Rattle.rw_restarts.proofs.TurnLemmas.{to_come, after_answer, frozen, waits, answers, same_id_own, nothing-pending}
use Rattle.rw_restarts.proofs.TurnLemmas as turn
use Rattle.rw_restarts.proofs.LogLemmas.{Begins-after}
use Rattle.rw_restarts.proofs.BatchLemmas.{batch-samples}

samples-append : (l : Labels) (xs ys : List Placed) → samples_in_batch l (xs ++ ys) ≡ samples_in_batch l xs ++ samples_in_batch l ys
samples-append l xs ys =
    ap (map (λ (x : Placed). (x.t, x.word))) (filter-append (λ (x : Placed). labels_eq l x.labels) xs ys)
    ∙ map-append (λ (x : Placed). (x.t, x.word)) (filter (λ (x : Placed). labels_eq l x.labels) xs) (filter (λ (x : Placed). labels_eq l x.labels) ys)

-- ---- one request, and those after it
module _ (l : Labels) (batch more rest : List Placed) (is : rest ≡ batch ++ more) where
  abbrev now : WriteRequest
  now = message (map labelled batch)

  whole : samples_in_batch l rest ≡ points_in l now ++ samples_in_batch l more
  whole = ap (samples_in_batch l) is ∙ samples-append l batch more ∙ ap (λ ys. ys ++ samples_in_batch l more) (sym (batch-samples batch l))

  by_judgement : (j : Judgement) (a p : List Point) → (Some j ≡ Some Refused → points_in l now ≡ []) → Begins (a ++ p) (samples_in_batch l (cond (is_again_by j) rest more))
      → Begins ((acknowledged_by l now (Some j) ++ a) ++ p) (samples_in_batch l rest)
  by_judgement Done a p none b = subst (Begins ((points_in l now ++ a) ++ p)) (sym whole) (Begins-after (points_in l now) a p (samples_in_batch l more) b)
  by_judgement Again a p none b = b
  by_judgement Refused a p none b = subst (Begins (a ++ p)) (sym (whole ∙ ap (λ ys. ys ++ samples_in_batch l more) (none refl))) b

  by_answer : (answer : Result Reply Lost) (a p : List Point) → (judgement_by answer ≡ Some Refused → points_in l now ≡ []) → Begins (a ++ p) (samples_in_batch l (cond (is_again answer) rest more))
      → Begins ((acknowledged_by l now (judgement_by answer) ++ a) ++ p) (samples_in_batch l rest)
  by_answer (Ok r) a p none b = by_judgement (judgement_of r.status) a p none b
  by_answer (Err lost) a p none b = b

  -- what is acknowledged of them, if all further ones are
  all_by_judgement : (j : Judgement) (a : List Point) → (Some j ≡ Some Refused → points_in l now ≡ []) → a ≡ samples_in_batch l (cond (is_again_by j) rest more)
      → acknowledged_by l now (Some j) ++ a ≡ samples_in_batch l rest
  all_by_judgement Done a none e = ap (λ ys. points_in l now ++ ys) e ∙ sym whole
  all_by_judgement Again a none e = e
  all_by_judgement Refused a none e = e ∙ sym (whole ∙ ap (λ ys. ys ++ samples_in_batch l more) (none refl))

  all_by_answer : (answer : Result Reply Lost) (a : List Point) → (judgement_by answer ≡ Some Refused → points_in l now ≡ []) → a ≡ samples_in_batch l (cond (is_again answer) rest more)
      → acknowledged_by l now (judgement_by answer) ++ a ≡ samples_in_batch l rest
  all_by_answer (Ok r) a none e = all_by_judgement (judgement_of r.status) a none e
  all_by_answer (Err lost) a none e = e

  first : Begins (points_in l now) (samples_in_batch l rest)
  first = (samples_in_batch l more, whole)

-- ---- names
abbrev Names : Type 0
Names = FinMap nat_cmp Reason

name-insert : (names : Names) (q : ℕ) (reason : Reason) (p : ℕ)
    → get (insert names q reason) p ≡ cond (p == q) (Some reason) (get names p)
name-insert names q reason p = get-insert nat_cmp_total names q reason p
    ∙ ap (λ (b : Bool). cond b (Some reason) (get names p)) (unsigned_tied p q)

pub name_stays : (names : Names) (q : ℕ) (reason : Reason) (p : ℕ) → HasName names p
    → HasName (insert names q reason) p
name_stays names q reason p h = by_place (p == q) (name-insert names q reason p)
  where
    by_place : (b : Bool) → get (insert names q reason) p ≡ cond b (Some reason) (get names p)
        → HasName (insert names q reason) p
    by_place true e = (reason, e)
    by_place false e = (h.0, e ∙ h.1)

pub name_own : (names : Names) (p : ℕ) (reason : Reason) → HasName (insert names p reason) p
name_own names p reason = (
  reason,
  name-insert names p reason p
      ∙ ap (λ (b : Bool). cond b (Some reason) (get names p)) ((Decides-eqb p p).1 refl),
)

all_stay : (status : ℕ) (qs : List ℕ) (names : Names) (p : ℕ) → HasName names p → HasName (name_all status qs names) p
all_stay status [] names p h = h
all_stay status (q ∷ qs) names p h = all_stay status qs (insert names q (Status status)) p (name_stays names q (Status status) p h)

all_named : (status : ℕ) (xs : List Placed) (names : Names) → AllByRecursion (λ (x : Placed). HasName (name_all status (positions xs) names) x.place.pos) xs
all_named status [] names = tt
all_named status (x ∷ xs) names = (
  all_stay status (positions xs) (insert names x.place.pos (Status status)) x.place.pos (name_own names x.place.pos (Status status)),
  all_named status xs (insert names x.place.pos (Status status)),
)

-- the names after an answer to this batch
abbrev names_by : Result Reply Lost → List Placed → Names → Names
names_by (Ok r) batch names = names_after (judgement_of r.status) (record { samples = batch; status = r.status }) names
names_by (Err lost) batch names = names

settled_names : (j : Judgement) (status : ℕ) (batch : List Placed) (ledger : Named) → (settle_names j status batch ledger).names ≡ names_after j (record { samples = batch; status = status }) ledger.names
settled_names Done status batch ledger = refl
settled_names Again status batch ledger = refl
settled_names Refused status batch ledger = refl

answered_names : (answer : Result Reply Lost) (w : Working) → can_send w.core ≡ true → (after_attempt answer (record w { core = send w.core })).ledger.names ≡ names_by answer w.core.batch w.ledger.names
answered_names (Ok r) w h =
    ap (λ (k : Core). (reply_names (batch_id k.batch) r.status k w.ledger).names) (turn.sends w.core h)
    ∙ ap (λ (n : Named). n.names)
    (cond-true (is_answer (batch_id w.core.batch) (turn.sent w.core)) (settle_names (judgement_of r.status) r.status w.core.batch w.ledger) w.ledger
    (and_from (awaits (turn.sent w.core)) (same_id (batch_id w.core.batch) (batch_id w.core.batch)) (waits w.core h) (same_id_own (batch_id w.core.batch))))
    ∙ settled_names (judgement_of r.status) r.status w.core.batch w.ledger
answered_names (Err lost) w h = refl

-- ---- all steps
-- Messages of these exchanges send the samples that are to come. What they resolve is settled, and
-- what had a name still has one.
record Goes (target : Target) (coming resolved : List Placed) (names : Names) (es : List Exchange) (end : Working) : Type 0 where
  sent : List SentMessage
  exchanges : AreExchangesOfMessages target es sent
  sends : SendsSamples coming sent
  done : pending end.core ≡ [] → (l : Labels) → NeverRefused l sent → acknowledged_in l sent ≡ samples_in_batch l coming
  more : List Placed
  more_is : end.core.resolved ≡ resolved ++ more
  settled : AllByRecursion (IsSettledSample sent end.ledger.names) more
  named : (p : ℕ) → HasName names p → HasName end.ledger.names p

sends-next : (batch more rest : List Placed) (answer : Result Reply Lost) (later : List SentMessage) → rest ≡ batch ++ more → SendsSamples (cond (is_again answer) rest more) later
    → SendsSamples rest (record { message = message (map labelled batch); judgement = judgement_by answer } ∷ later)
sends-next batch more rest answer later is sends zero x l at fine =
    let same = same_Some _ x at in
    subst (λ (y : SentMessage). Begins (points_in l y.message) (samples_in_batch l rest)) same (first l batch more rest is)
sends-next batch more rest answer later is sends (suc k) x l at fine =
    by_answer l batch more rest is answer (acknowledged_in l (take k later)) (points_in l x.message) (fine 0 (record { message = message (map labelled batch); judgement = judgement_by answer }) (omega arith) refl)
    (sends k x l at (λ j y lt. fine (suc j) y (omega (arith, lt))))

-- a message before the others
later_settled : (first : SentMessage) (sent : List SentMessage) (names : Names) (xs : List Placed) → AllByRecursion (IsSettledSample sent names) xs → AllByRecursion (IsSettledSample (first ∷ sent) names) xs
later_settled first sent names xs all = AllByRecursion-weaker (IsSettledSample sent names) (IsSettledSample (first ∷ sent) names) further xs all
  where
    further : (x : Placed) → IsSettledSample sent names x → IsSettledSample (first ∷ sent) names x
    further x (inl h) = inl (holds_right (x.t, x.word) (acknowledged_by x.labels first.message first.judgement) (acknowledged_in x.labels sent) h)
    further x (inr h) = inr h

-- each sample of a batch is among those of its label set
own_sample : (l : Labels) (x : Placed) (xs : List Placed) → labels_eq l x.labels ≡ true → holds (x.t, x.word) (samples_in_batch l (x ∷ xs)) ≡ true
own_sample l x xs e =
    ap (λ b. holds (x.t, x.word) (map (λ (y : Placed). (y.t, y.word)) (cond b (x ∷ filter (λ (y : Placed). labels_eq l y.labels) xs) (filter (λ (y : Placed). labels_eq l y.labels) xs)))) e
    ∙ holds_own (x.t, x.word) (samples_in_batch l xs)

later_sample : (l : Labels) (s : Point) (x : Placed) (xs : List Placed) → holds s (samples_in_batch l xs) ≡ true → holds s (samples_in_batch l (x ∷ xs)) ≡ true
later_sample l s x xs h = by_label (labels_eq l x.labels)
  where
    by_label : (b : Bool) → holds s (map (λ (y : Placed). (y.t, y.word)) (cond b (x ∷ filter (λ (y : Placed). labels_eq l y.labels) xs) (filter (λ (y : Placed). labels_eq l y.labels) xs))) ≡ true
    by_label true = holds_right s ((x.t, x.word) ∷ []) (samples_in_batch l xs) h
    by_label false = h

each_sample : (xs : List Placed) → AllByRecursion (λ (x : Placed). holds (x.t, x.word) (samples_in_batch x.labels xs) ≡ true) xs
each_sample [] = tt
each_sample (x ∷ xs) = (
  own_sample x.labels x xs (equal_if_same x.labels x.labels refl),
  AllByRecursion-weaker (λ (y : Placed). holds (y.t, y.word) (samples_in_batch y.labels xs) ≡ true) (λ (y : Placed). holds (y.t, y.word) (samples_in_batch y.labels (x ∷ xs)) ≡ true)
      (λ y h. later_sample y.labels (y.t, y.word) x xs h) xs (each_sample xs),
)

-- ---- an attempt, and the steps after it
module _ (c : Core) (names : Names) (ss : List Step) (es : List Exchange) (end : Working) where
  abbrev unsent : List Placed
  unsent = c.builder ++ samples_in (items_of ss)

  abbrev own_message : Result Reply Lost → SentMessage
  own_message answer = record { message = message (map labelled c.batch); judgement = judgement_by answer }

  -- after an answer that asks for the request again, or not
  abbrev Further : Bool → Names → Type 0
  Further b ns = Goes (after_answer b c).target (to_come (after_answer b c) ss) (after_answer b c).resolved ns es end

  exchanges_by : (b : Bool) (ns : Names) (f : Further b ns) → AreExchangesOfMessages c.target es f.sent
  exchanges_by true ns f = f.exchanges
  exchanges_by false ns f = f.exchanges

  sends_by : (b : Bool) (ns : Names) (f : Further b ns) → SendsSamples (cond b (to_come c ss) unsent) f.sent
  sends_by true ns f = f.sends
  sends_by false ns f = f.sends

  done_by : (b : Bool) (ns : Names) (f : Further b ns) → pending end.core ≡ [] → (l : Labels) → NeverRefused l f.sent → acknowledged_in l f.sent ≡ samples_in_batch l (cond b (to_come c ss) unsent)
  done_by true ns f = f.done
  done_by false ns f = f.done

  -- what the attempt resolves
  abbrev resolved_by : Bool → List Placed
  resolved_by true = []
  resolved_by false = c.batch

  more_by : (b : Bool) (ns : Names) (f : Further b ns) → end.core.resolved ≡ c.resolved ++ (resolved_by b ++ f.more)
  more_by true ns f = f.more_is
  more_by false ns f = f.more_is ∙ append_assoc c.resolved c.batch f.more

  kept_by : (j : Judgement) (status : ℕ) (f : Further (is_again_by j) (names_after j (record { samples = c.batch; status = status }) names)) (p : ℕ) → HasName names p → HasName end.ledger.names p
  kept_by Done status f p h = f.named p h
  kept_by Again status f p h = f.named p h
  kept_by Refused status f p h = f.named p (all_stay status (positions c.batch) names p h)

  -- these are acknowledged, or named
  settled_by : (j : Judgement) (status : ℕ) (f : Further (is_again_by j) (names_after j (record { samples = c.batch; status = status }) names))
      → AllByRecursion (IsSettledSample (record { message = message (map labelled c.batch); judgement = Some j } ∷ f.sent) end.ledger.names) (resolved_by (is_again_by j))
  settled_by Done status f =
      AllByRecursion-weaker (λ (x : Placed). holds (x.t, x.word) (samples_in_batch x.labels c.batch) ≡ true) (IsSettledSample (record { message = message (map labelled c.batch); judgement = Some Done } ∷ f.sent) end.ledger.names)
      (λ x h. inl (holds_append (x.t, x.word) (points_in x.labels (message (map labelled c.batch))) (acknowledged_in x.labels f.sent) (ap (holds (x.t, x.word)) (batch-samples c.batch x.labels) ∙ h))) c.batch (each_sample c.batch)
  settled_by Again status f = tt
  settled_by Refused status f =
      AllByRecursion-weaker (λ (x : Placed). HasName (name_all status (positions c.batch) names) x.place.pos) (IsSettledSample (record { message = message (map labelled c.batch); judgement = Some Refused } ∷ f.sent) end.ledger.names)
      (λ x h. inr (f.named x.place.pos h)) c.batch (all_named status c.batch names)

  -- the exchange and those after it
  module _ (e : Exchange) (request : e.request ≡ batch_request c.target c.batch) (reads : IsReadAgain c.batch) (b : Bool) (ns : Names) (again : b ≡ is_again e.answer) (f : Further b ns)
      (settled_now : AllByRecursion (IsSettledSample (own_message e.answer ∷ f.sent) end.ledger.names) (resolved_by b)) (kept : (p : ℕ) → HasName names p → HasName end.ledger.names p) where
    joined : Goes c.target (to_come c ss) c.resolved names (e ∷ es) end
    joined = record {
      sent = own_message e.answer ∷ f.sent;
      exchanges = (record { batch = c.batch; request = request; reads = reads; message_is = refl; judgement_is = refl }, exchanges_by b ns f);
      sends = sends-next c.batch unsent (to_come c ss) e.answer f.sent refl (subst (λ q. SendsSamples (cond q (to_come c ss) unsent) f.sent) again (sends_by b ns f));
      done = λ none l fine.
          all_by_answer l c.batch unsent (to_come c ss) refl e.answer (acknowledged_in l f.sent) fine.0
          (done_by b ns f none l fine.1 ∙ ap (λ q. samples_in_batch l (cond q (to_come c ss) unsent)) again);
      more = resolved_by b ++ f.more;
      more_is = more_by b ns f;
      settled = AllByRecursion-append (IsSettledSample (own_message e.answer ∷ f.sent) end.ledger.names) (resolved_by b) f.more settled_now (later_settled (own_message e.answer) f.sent end.ledger.names f.more f.settled);
      named = kept;
    }

  attempted : (e : Exchange) → e.request ≡ batch_request c.target c.batch → IsReadAgain c.batch → (answer : Result Reply Lost) → e.answer ≡ answer → Further (is_again answer) (names_by answer c.batch names) → Goes c.target (to_come c ss) c.resolved names (e ∷ es) end
  attempted e request reads (Ok r) is f =
      joined e request reads (is_again_by (judgement_of r.status)) (names_after (judgement_of r.status) (record { samples = c.batch; status = r.status }) names) (ap is_again (sym is)) f
      (subst (λ a. AllByRecursion (IsSettledSample (own_message a ∷ f.sent) end.ledger.names) (resolved_by (is_again_by (judgement_of r.status)))) (sym is) (settled_by (judgement_of r.status) r.status f))
      (kept_by (judgement_of r.status) r.status f)
  attempted e request reads (Err lost) is f = joined e request reads true names (ap is_again (sym is)) f tt f.named

goes : (w : Working) (ss : List Step) → AreSteps w ss → Goes w.core.target (to_come w.core ss) w.core.resolved w.ledger.names (exchanges_of ss) (after w ss)
goes w [] h = record {
  sent = [];
  exchanges = tt;
  sends = λ n x l at fine. absurd (nothing n x at);
  done = λ none l fine. sym (ap (samples_in_batch l) (ap (λ ys. w.core.batch ++ ys) (append-nil w.core.builder) ∙ none));
  more = [];
  more_is = sym (append-nil w.core.resolved);
  settled = tt;
  named = λ p has. has;
}
  where
    nothing : (n : ℕ) (x : SentMessage) → (let none : List SentMessage = [] in slice_get none n ≡ Some x) → ⊥
    nothing n x e = cc (e)
goes w (Takes (Sample place t word labels) ∷ ss) h =
    subst (λ ys. Goes w.core.target (w.core.batch ++ ys) w.core.resolved w.ledger.names (exchanges_of ss) (after w (Takes (Sample place t word labels) ∷ ss)))
    (append_assoc w.core.builder (placed place t word labels.value ∷ []) (samples_in (items_of ss)))
    (goes (after_step (Takes (Sample place t word labels)) w) ss h.1)
goes w (Takes Flush ∷ ss) h = goes (after_step (Takes Flush) w) ss h.1
goes w (Takes (End kind) ∷ ss) h = goes (after_step (Takes (End kind)) w) ss h.1
goes w (Freezes ∷ ss) h =
    let c : Core = w.core in
    let none : c.batch ≡ [] = nil_from_empty c.batch (and_parts (is_empty c.batch) (not (is_empty c.builder)) (and_parts (not c.killed) (is_empty c.batch && not (is_empty c.builder)) h.0.1).1).0 in
    subst (λ ys. Goes c.target (ys ++ (c.builder ++ samples_in (items_of ss))) c.resolved w.ledger.names (exchanges_of ss) (after w (Freezes ∷ ss))) (sym none)
    (subst (λ (k : Core). Goes k.target (to_come k ss) k.resolved w.ledger.names (exchanges_of ss) (after w (Freezes ∷ ss))) (cond-true (can_freeze c) (frozen c) c h.0.1)
    (subst (λ (ns : Names). Goes (freeze c).target (to_come (freeze c) ss) (freeze c).resolved ns (exchanges_of ss) (after w (Freezes ∷ ss))) (same_names (can_freeze c))
    (goes (after_step Freezes w) ss h.1)))
  where
    same_names : (b : Bool) → (cond b (record w.ledger { room = w.ledger.room + length w.core.builder }) w.ledger).names ≡ w.ledger.names
    same_names true = refl
    same_names false = refl
goes w (Sends e ∷ ss) h =
    attempted w.core w.ledger.names ss (exchanges_of ss) (after w (Sends e ∷ ss)) e h.0.1 h.0.2 e.answer refl
    (subst (λ (k : Core). Goes k.target (to_come k ss) k.resolved (names_by e.answer w.core.batch w.ledger.names) (exchanges_of ss) (after w (Sends e ∷ ss))) (answers e.answer w h.0.0)
    (subst (λ (ns : Names). Goes (after_step (Sends e) w).core.target (to_come (after_step (Sends e) w).core ss) (after_step (Sends e) w).core.resolved ns (exchanges_of ss) (after w (Sends e ∷ ss))) (answered_names e.answer w h.0.0)
    (goes (after_step (Sends e) w) ss h.1)))
goes w (Waits ∷ ss) h = goes w ss h.1

pub sends-its-samples : (setup : WorkerSetup) (steps : List Step) → AreSteps (start_of setup) steps → WorkerSendsSamples setup steps
sends-its-samples setup steps h =
    let all = goes (start_of setup) steps h in
    record {
      sent = all.sent;
      messages = record { exchanges = all.exchanges; resolved = subst (AllByRecursion (IsSettledSample all.sent (after (start_of setup) steps).ledger.names)) (sym all.more_is) all.settled };
      sends = all.sends;
      done = λ resolved. all.done (nothing-pending setup steps h resolved);
    }

pub sends-more : (taken more : List Placed) (sent : List SentMessage) → SendsSamples taken sent → SendsSamples (taken ++ more) sent
sends-more taken more sent sends n x l at fine =
    begins_twice (acknowledged_in l (take n sent) ++ points_in l x.message) (samples_in_batch l taken) (samples_in_batch l (taken ++ more)) (sends n x l at fine)
    (samples_in_batch l more, samples-append l taken more)
