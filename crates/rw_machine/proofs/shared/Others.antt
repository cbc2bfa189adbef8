-- Label sets without logged samples hold nothing.
use Rattle.std.proofs.Common.{◌≡◌, ℕ, suc, Bool, true, false, cond, List, [], ◌∷◌, ◌++◌, length, map, take, drop, Option, Some, None, slice_get, refl, sym, ap, ◌∙◌, subst, ℤ, is_some, ◌&&◌, not, nat_le, nat_lt, if◌then◌else◌, append-nil, append_assoc, arith, Result, Ok, Err, ◌-◌}
use Rattle.std.proofs.lemmas.List.{take-append-drop}
use Rattle.std.proofs.lemmas.Bool.{and_parts}
use Rattle.rw_types.specs.Labels.{Labels, label_fault}
use Rattle.rw_types.specs.LabelOrder.{labels_eq}
use Rattle.rw_types.specs.declared.entry.Entry.{Entry}
use Rattle.rw_types.specs.declared.entry.Entry.TheVariants.{Def, Sample}
use Rattle.rw_types.specs.declared.label_fault.LabelFault.{LabelFault}
use Rattle.rw_wal_format.specs.Pieces.{entries, page_size}
use Rattle.rw_wal_format.specs.Pieces as pieces
use Rattle.rw_wal_format.specs.Series.{labels_of}
use Rattle.rw_wal_format.proofs.shared.Growing.{reading-append}
use Rattle.rw_relabel.specs.Rules.{keeps}
use Rattle.rw_series_cache.specs.Known.{Standing, Unknown, Bad, Filtered, Kept, known, standing_of, standing_by}
use Rattle.rw_series_cache.specs.Rising.{rises}
use Rattle.rw_series_cache.proofs.shared.PointLemmas.{sample_is_kept}
use Rattle.rw_wal_tail.specs.Fed.{piece_of}
use Rattle.rw_retry.specs.Judgements.{judgement_of}
use Rattle.rw_retry.specs.declared.judgement.Judgement.{Judgement}
use Rattle.rw_retry.specs.declared.judgement.Judgement.TheVariants.{Again, Done, Refused}
use Rattle.rw_plain_queue.specs.Items.{Placed}
use Rattle.rw_plain_queue.specs.declared.item.Kind.{Kind}
use Rattle.rw_plain_queue.specs.declared.item.Kind.TheVariants as kind
use Rattle.rw_batch.specs.Grouping.{distinct}
use Rattle.rw_batch.specs.Grouping as grouping
use Rattle.rw_write_request.specs.Message.{TimeSeries, WriteRequest}
use Rattle.rw_shard_core.specs.Shard.{Core, body_of, labelled, can_freeze, can_send, can_take, awaits, is_empty, settle}
use Rattle.rw_shard_core.specs.Shard as core
use Rattle.rw_head.specs.Head.{Answer, State, answer_to, answered, judged_body}
use Rattle.rw_head.specs.Store.{Store, list_of}
use Rattle.rw_head.specs.Verdicts.{LabelLimits, accepted, judged, refusal, taken, taken_all, taken_unless}
use Rattle.rw_head.specs.declared.verdict.Verdict.{Verdict}
use Rattle.rw_head.proofs.shared.StoreLemmas.{list_of-empty, list_of-with_list}
use Rattle.std.specs.List.{AllByRecursion}
use Rattle.rw_types.proofs.shared.AllLemmas.{AllByRecursion-append, AllByRecursion-filter, AllByRecursion-get, AllByRecursion-left, AllByRecursion-map, AllByRecursion-right, AllByRecursion-weaker}
use Rattle.rw_types.proofs.shared.Booleans.{either}
use Rattle.rw_machine.specs.declared.event.Event.{Event}
use Rattle.rw_machine.specs.declared.event.Event.TheVariants as event
use Rattle.rw_machine.specs.declared.event.How.{How}
use Rattle.rw_machine.specs.declared.event.How.TheVariants.{Busy, Plain, OutOfMemory}
use Rattle.rw_machine.specs.Shards.{EndMark, FlushMark, One, Queued, Shard, has_room, pending_in_shard, samples_waiting, shard_end, shard_flush, shard_freeze, shard_lost, shard_put, shard_send, shard_take, take_front, with_core}
use Rattle.rw_machine.specs.Steps.{act, arrive, changed, endpoint_answer, flush_shard, shard_mark, next_sample, place, place_entry, place_kept, place_sample, put_if_room, reply_to, request_by, restart_as, run, send_batch, shard_of_labels, take_reply}
use Rattle.rw_machine.specs.Worlds.{Reply, Request, Setup, World, is_finished, log, start}
use Rattle.rw_machine.specs.Promises.{HoldsNothingElse, LoggedPoint}
use Rattle.rw_machine.proofs.shared.Views.{IsKept, logged_points, logged_from, shard_resolve}
use Rattle.rw_machine.proofs.shared.Steps.{always, Each, each_change, each_new, same_is}
use Rattle.rw_machine.proofs.shared.Places.{logged_append, take_next}

-- what `known` keeps is a kept label set
pub look_kept : (c : Setup) (o : Option Labels) (l : Labels) → standing_of c.choice o ≡ Kept l → IsKept c l
look_kept c None l e = let no : Unknown ≡ Kept l → ⊥ = λ h. cc in absurd (no e)
look_kept c (Some m) l e = by_check (label_fault c.choice.names m) refl e
  where
    by_keeps : (b : Bool) → keeps c.choice.rules m ≡ b → label_fault c.choice.names m ≡ None → cond b (Kept m) Filtered ≡ Kept l → IsKept c l
    by_keeps true k n e = let same : m ≡ l = cc in subst (IsKept c) same (n, k)
    by_keeps false k n e = let no : Filtered ≡ Kept l → ⊥ = λ h. cc in absurd (no e)

    by_check : (o : Option LabelFault) → label_fault c.choice.names m ≡ o → standing_by c.choice m o ≡ Kept l → IsKept c l
    by_check None n e = by_keeps (keeps c.choice.rules m) refl n e
    by_check (Some f) n e = let no : Bad f ≡ Kept l → ⊥ = λ h. cc in absurd (no e)

pub known_kept : (c : Setup) (es : List Entry) (r : ℕ) (l : Labels) → known c.choice es r ≡ Kept l → IsKept c l
unfolding known
known_kept c es r l e = look_kept c (labels_of es r (length es)) l e

-- the pending samples after each step of a shard
pub pending_parts : (s : Shard) → pending_in_shard s ≡ s.core.batch ++ (s.core.builder ++ samples_waiting s.queue)
pending_parts s = append_assoc s.core.batch s.core.builder (samples_waiting s.queue)

pub samples_append : (xs : List Queued) (i : Queued) → samples_waiting (xs ++ i ∷ []) ≡ samples_waiting xs ++ samples_waiting (i ∷ [])
samples_append [] i = refl
samples_append (One x ∷ xs) i = ap (λ l. x ∷ l) (samples_append xs i)
samples_append (FlushMark ∷ xs) i = samples_append xs i
samples_append (EndMark k ∷ xs) i = samples_append xs i

pub pending_put : (x : Placed) (s : Shard) → pending_in_shard (shard_put x s) ≡ pending_in_shard s ++ x ∷ []
pending_put x s = ap (λ q. core.pending s.core ++ q) (samples_append s.queue (One x)) ∙ sym (append_assoc (core.pending s.core) (samples_waiting s.queue) (x ∷ []))

pub pending_flush : (s : Shard) → pending_in_shard (shard_flush s) ≡ pending_in_shard s
pending_flush s = ap (λ q. core.pending s.core ++ q) (samples_append s.queue FlushMark ∙ append-nil (samples_waiting s.queue))

pub pending_end : (k : Kind) (s : Shard) → pending_in_shard (shard_end k s) ≡ pending_in_shard s
pending_end k s = ap (λ q. core.pending s.core ++ q) (samples_append s.queue (EndMark k) ∙ append-nil (samples_waiting s.queue))

pub pending_take : (s : Shard) → pending_in_shard (shard_take s) ≡ pending_in_shard s
pending_take s = either (λ t. pending_in_shard t ≡ pending_in_shard s) (can_take s.core) (take_front s.queue s) s (λ _. by_queue s.queue refl) (λ _. refl)
  where
    by_queue : (q : List Queued) → s.queue ≡ q → pending_in_shard (take_front q s) ≡ pending_in_shard s
    by_queue [] e = refl
    by_queue (One x ∷ is) e =
        ap (λ b. b ++ samples_waiting is) (sym (append_assoc s.core.batch s.core.builder (x ∷ [])))
        ∙ append_assoc (core.pending s.core) (x ∷ []) (samples_waiting is)
        ∙ ap (λ q. core.pending s.core ++ samples_waiting q) (sym e)
    by_queue (FlushMark ∷ is) e = ap (λ q. core.pending s.core ++ samples_waiting q) (sym e)
    by_queue (EndMark k ∷ is) e = ap (λ q. core.pending s.core ++ samples_waiting q) (sym e)

pub nil_of : {X : Type 0} (xs : List X) → is_empty xs ≡ true → xs ≡ []
nil_of [] h = refl
nil_of (x ∷ xs) h = let never : false ≡ true → ⊥ = λ e. cc in absurd (never h)

-- if a freeze may be, no batch is open
pub no_batch : (k : Core) → can_freeze k ≡ true → k.batch ≡ []
no_batch k h = nil_of k.batch (and_parts (is_empty k.batch) (not (is_empty k.builder)) (and_parts (not k.killed) (is_empty k.batch && not (is_empty k.builder)) h).1).0

pub pending_freeze : (s : Shard) → pending_in_shard (shard_freeze s) ≡ pending_in_shard s
pending_freeze s = either (λ (k : Core). core.pending k ++ samples_waiting s.queue ≡ pending_in_shard s) (can_freeze s.core) (record s.core { builder = []; marked = false; batch = s.core.builder; waiting = false }) s.core
    (λ h. ap (λ b. b ++ samples_waiting s.queue) (append-nil s.core.builder ∙ ap (λ b. b ++ s.core.builder) (sym (no_batch s.core h)))) (λ _. refl)

pub pending_lost : (s : Shard) → pending_in_shard (shard_lost s) ≡ pending_in_shard s
pending_lost s = either (λ (k : Core). core.pending k ++ samples_waiting s.queue ≡ pending_in_shard s) (awaits s.core) (core.again s.core) s.core (λ _. refl) (λ _. refl)

pub pending_resolve : (s : Shard) → s.core.batch ++ pending_in_shard (shard_resolve s) ≡ pending_in_shard s
pending_resolve s = sym (pending_parts s)

pub others_flush : (c : Setup) (w : World) (s : Shard) → pending_in_shard (flush_shard c w s) ≡ pending_in_shard s
others_flush c w s =
    let P : Shard → Type 0 = λ t. pending_in_shard t ≡ pending_in_shard s in
    either P (not s.end_put && has_room c.capacity s) (shard_mark w s) s
    (λ _. either P (is_finished w) (shard_end kind.Orderly s) (if is_some w.draining then shard_end kind.Reshard s else shard_flush s) (λ _. pending_end kind.Orderly s)
    (λ _. either P (is_some w.draining) (shard_end kind.Reshard s) (shard_flush s) (λ _. pending_end kind.Reshard s) (λ _. pending_flush s)))
    (λ _. refl)

-- a further piece only adds entries
pub entries_grow : (ps more : List pieces.Piece) → (es : List Entry) × (entries (ps ++ more) ≡ entries ps ++ es)
entries_grow ps more = let grown = reading-append page_size ps more (omega arith) in (grown.more, grown.entries)

-- a label set with samples in these entries, and a sample of such a one
abbrev pub HasPoints : Setup → List Entry → Labels → Type 0
HasPoints c es l = logged_points c l es ≡ [] → ⊥

abbrev pub IsLogged : Setup → List Entry → Placed → Type 0
IsLogged c es x = HasPoints c es x.labels

left_nil : {X : Type 0} (xs ys : List X) → xs ++ ys ≡ [] → xs ≡ []
left_nil [] ys h = refl
left_nil (x ∷ xs) ys h = let never : x ∷ (xs ++ ys) ≡ [] → ⊥ = λ e. cc in absurd (never h)

-- they stay as more entries come
pub logged_less : (c : Setup) (l : Labels) (xs ys : List Entry) → logged_points c l (xs ++ ys) ≡ [] → logged_points c l xs ≡ []
logged_less c l xs ys h = left_nil (logged_points c l xs) (logged_from c l xs ys) (sym (logged_append c l xs ys) ∙ h)

-- a sample of a kept series is one of its samples
next_logged : (c : Setup) (es : List Entry) (n : ℕ) (l : Labels) (r : ℕ) (t : ℤ) (word : ℕ) → slice_get es n ≡ Some (Sample r t word) → known c.choice (take n es) r ≡ Kept l → HasPoints c es l
next_logged c es n l r t word e kept h = never (logged_points c l (take n es)) (sym (sample_is_kept c.choice (take n es) l r t word kept) ∙ ap (logged_points c l) (sym (take_next es n (Sample r t word) e)) ∙ before)
  where
    before : logged_points c l (take (suc n) es) ≡ []
    before = logged_less c l (take (suc n) es) (drop (suc n) es) (ap (logged_points c l) (take-append-drop (suc n) es) ∙ h)

    never : (ps : List LoggedPoint) → ps ++ (length (take n es), t, word) ∷ [] ≡ [] → ⊥
    never [] z = cc
    never (p ∷ ps) z = cc

pub all_distinct : (P : Labels → Type 0) (ls : List Labels) → AllByRecursion P ls → AllByRecursion P (distinct ls)
unfolding distinct
all_distinct P [] all = tt
all_distinct P (l ∷ ls) all = (all.0, AllByRecursion-filter P (λ m. not (labels_eq l m)) (distinct ls) (all_distinct P ls all.1))

-- a fact of a batch's labels is one of its message's
pub all_message : (P : Labels → Type 0) (batch : List Placed) → AllByRecursion (λ (x : Placed). P x.labels) batch → AllByRecursion (λ (s : TimeSeries). P s.labels) (grouping.message (map labelled batch))
unfolding grouping.message
all_message P batch all = AllByRecursion-map (λ (s : TimeSeries). P s.labels) (λ l. record { labels = l; samples = grouping.samples_of l (map labelled batch) }) (distinct (map (λ x. x.labels) (map labelled batch)))
    (all_distinct P (map (λ x. x.labels) (map labelled batch)) (AllByRecursion-map P (λ x. x.labels) (map labelled batch) (AllByRecursion-map (λ x. P x.labels) labelled batch all)))

abbrev SameList : Labels → Store → Result Store Verdict → Type 0
SameList l store (Ok next) = list_of next l ≡ list_of store l
SameList l store (Err v) = Unit {0}

same_taken : (limits : LabelLimits) (l : Labels) (store next : Store) (s : TimeSeries) → labels_eq l s.labels ≡ false → list_of next l ≡ list_of store l → SameList l store (taken limits next s)
same_taken limits l store next s apart same = by_refusal (refusal limits s.labels)
  where
    by_accepted : (o : Option (List (ℤ × ℕ))) → SameList l store (accepted s.labels next o)
    by_accepted None = tt
    by_accepted (Some xs) = list_of-with_list s.labels xs next l ∙ ap (λ b. cond b xs (list_of next l)) apart ∙ same

    by_refusal : (o : Option Verdict) → SameList l store (taken_unless o next s)
    by_refusal None = by_accepted _
    by_refusal (Some v) = tt

same_taken_all : (limits : LabelLimits) (l : Labels) (store : Store) (ms : WriteRequest) → AllByRecursion (λ (s : TimeSeries). labels_eq l s.labels ≡ false) ms → (r : Result Store Verdict) → SameList l store r → SameList l store (taken_all limits r ms)
same_taken_all limits l store [] apart r at = at
same_taken_all limits l store (s ∷ ms) apart (Err v) at = same_taken_all limits l store ms apart.1 (Err v) tt
same_taken_all limits l store (s ∷ ms) apart (Ok next) at = same_taken_all limits l store ms apart.1 (taken limits next s) (same_taken limits l store next s apart.0 at)

-- the answer to a batch without samples of a label set leaves its list
pub answer_other : (c : Setup) (h : State) (batch : List Placed) (l : Labels) → AllByRecursion (λ (x : Placed). labels_eq l x.labels ≡ false) batch → list_of (endpoint_answer c h batch).head.store l ≡ list_of h.store l
answer_other c h batch l apart =
    let P : Answer → Type 0 = λ a. list_of a.head.store l ≡ list_of h.store l in
    either P (nat_lt c.max_body (length (body_of batch))) (record { status = 413; head = h }) (answer_to h (Ok m)) (λ _. refl)
    (λ _. either P (nat_lt 0 h.busy) (record { status = 429; head = record h { busy = h.busy - 1 } }) (answered h (judged_body h (Ok m))) (λ _. refl)
    (λ _. by_result (taken_all h.limits (Ok h.store) m) (same_taken_all h.limits l h.store m (all_message (λ k. labels_eq l k ≡ false) batch apart) (Ok h.store) refl)))
  where
    m : WriteRequest
    m = grouping.message (map labelled batch)

    by_result : (r : Result Store Verdict) → SameList l h.store r → list_of (judged h.store r).store l ≡ list_of h.store l
    by_result (Ok next) at = at
    by_result (Err v) at = refl

pub record OnlyLogged (c : Setup) (w : World) : Type 0 where
  pub pending_logged : Each (λ i s. AllByRecursion (IsLogged c (log w)) (pending_in_shard s)) w.shards
  pub requests_logged : AllByRecursion (λ (r : Request). AllByRecursion (IsLogged c (log w)) r.batch) w.requests
  pub nothing_else : (l : Labels) → logged_points c l (log w) ≡ [] → list_of w.head.store l ≡ []

-- one step of each kind
others_change : (c : Setup) (w : World) (j : ℕ) (f : Shard → Shard) → ((s : Shard) → slice_get w.shards j ≡ Some s → AllByRecursion (IsLogged c (log w)) (pending_in_shard s) → AllByRecursion (IsLogged c (log w)) (pending_in_shard (f s))) → OnlyLogged c w → OnlyLogged c (changed w j f)
others_change c w j f step at = record { pending_logged = each_change (λ i s. AllByRecursion (IsLogged c (log w)) (pending_in_shard s)) f j w.shards at.pending_logged step; requests_logged = at.requests_logged; nothing_else = at.nothing_else }

same_pending : (c : Setup) (w : World) (j : ℕ) (f : Shard → Shard) → ((s : Shard) → pending_in_shard (f s) ≡ pending_in_shard s) → OnlyLogged c w → OnlyLogged c (changed w j f)
same_pending c w j f same at = others_change c w j f (λ s _ all. subst (AllByRecursion (IsLogged c (log w))) (sym (same s)) all) at

-- more entries
others_grow : (c : Setup) (w : World) (more : List pieces.Piece) → OnlyLogged c w → OnlyLogged c (record w { pieces = w.pieces ++ more })
others_grow c w more at = record {
  pending_logged = λ i s e. AllByRecursion-weaker (IsLogged c (log w)) (IsLogged c later) logged (pending_in_shard s) (at.pending_logged i s e);
  requests_logged = AllByRecursion-weaker (λ (r : Request). AllByRecursion (IsLogged c (log w)) r.batch) (λ (r : Request). AllByRecursion (IsLogged c later) r.batch) (λ r h. AllByRecursion-weaker (IsLogged c (log w)) (IsLogged c later) logged r.batch h) w.requests at.requests_logged;
  nothing_else = λ l h. at.nothing_else l (fewer l h);
}
  where
    later : List Entry
    later = entries (w.pieces ++ more)

    fewer : (l : Labels) → logged_points c l later ≡ [] → logged_points c l (log w) ≡ []
    fewer l h = let grown = entries_grow w.pieces more in logged_less c l (log w) grown.0 (ap (logged_points c l) (sym grown.1) ∙ h)

    logged : (x : Placed) → IsLogged c (log w) x → IsLogged c later x
    logged x h none = h (fewer x.labels none)

others_place : (c : Setup) (w : World) → OnlyLogged c w → OnlyLogged c (place c w)
others_place c w at = either (OnlyLogged c) (is_some w.draining) w (place_entry c w (slice_get (log w) w.placed)) (λ _. at) (λ _. by_entry (slice_get (log w) w.placed) refl)
  where
    by_shard : (l : Labels) (t : ℤ) (word : ℕ) → HasPoints c (log w) l → (i : ℕ) (o : Option Shard) → OnlyLogged c (put_if_room c w i l t word o)
    by_shard l t word logged i None = at
    by_shard l t word logged i (Some s) = either (OnlyLogged c) (has_room c.capacity s) _ w
        (λ _. record {
          pending_logged = each_change (λ i s. AllByRecursion (IsLogged c (log w)) (pending_in_shard s)) (shard_put (next_sample w i l t word s)) i w.shards at.pending_logged
              (λ u _ all. subst (AllByRecursion (IsLogged c (log w))) (sym (pending_put (next_sample w i l t word s) u)) (AllByRecursion-append (IsLogged c (log w)) (pending_in_shard u) (next_sample w i l t word s ∷ []) all (logged, tt)));
          requests_logged = at.requests_logged;
          nothing_else = at.nothing_else;
        })
        (λ _. at)

    by_rising : (l : Labels) (t : ℤ) (word : ℕ) → HasPoints c (log w) l → (b : Bool) → OnlyLogged c (place_kept c w l t word b)
    by_rising l t word logged true = by_shard l t word logged (shard_of_labels w l) (slice_get w.shards (shard_of_labels w l))
    by_rising l t word logged false = record { pending_logged = at.pending_logged; requests_logged = at.requests_logged; nothing_else = at.nothing_else }

    by_known : (t : ℤ) (word : ℕ) (r : ℕ) (k : Standing) → slice_get (log w) w.placed ≡ Some (Sample r t word) → known c.choice (take w.placed (log w)) r ≡ k → OnlyLogged c (place_sample c w t word k)
    by_known t word r Unknown h e = record { pending_logged = at.pending_logged; requests_logged = at.requests_logged; nothing_else = at.nothing_else }
    by_known t word r (Bad f) h e = record { pending_logged = at.pending_logged; requests_logged = at.requests_logged; nothing_else = at.nothing_else }
    by_known t word r Filtered h e = record { pending_logged = at.pending_logged; requests_logged = at.requests_logged; nothing_else = at.nothing_else }
    by_known t word r (Kept l) h e = by_rising l t word (next_logged c (log w) w.placed l r t word h e) (rises c.choice (take w.placed (log w)) l t)

    by_entry : (o : Option Entry) → slice_get (log w) w.placed ≡ o → OnlyLogged c (place_entry c w o)
    by_entry None h = at
    by_entry (Some (Def r l)) h = record { pending_logged = at.pending_logged; requests_logged = at.requests_logged; nothing_else = at.nothing_else }
    by_entry (Some (Sample r t word)) h = by_known t word r (known c.choice (take w.placed (log w)) r) h refl

apart_from : (c : Setup) (es : List Entry) (l m : Labels) → logged_points c l es ≡ [] → HasPoints c es m → labels_eq l m ≡ false
apart_from c es l m none logged = by_test (labels_eq l m) refl
  where
    by_test : (b : Bool) → labels_eq l m ≡ b → labels_eq l m ≡ false
    by_test true e = absurd (logged (ap (λ k. logged_points c k es) (sym (same_is l m e)) ∙ none))
    by_test false e = e

others_arrive : (c : Setup) (w : World) (how : How) (o : Option Request) → ((r : Request) → o ≡ Some r → AllByRecursion (IsLogged c (log w)) r.batch) → OnlyLogged c w → OnlyLogged c (arrive c w how o)
others_arrive c w how None logged at = at
others_arrive c w Plain (Some r) logged at = record {
  pending_logged = at.pending_logged;
  requests_logged = at.requests_logged;
  nothing_else = λ l none. answer_other c w.head r.batch l (AllByRecursion-weaker (IsLogged c (log w)) (λ (x : Placed). labels_eq l x.labels ≡ false) (λ x h. apart_from c (log w) l x.labels none h) r.batch (logged r refl)) ∙ at.nothing_else l none;
}
others_arrive c w Busy (Some r) logged at = record { pending_logged = at.pending_logged; requests_logged = at.requests_logged; nothing_else = at.nothing_else }
others_arrive c w OutOfMemory (Some r) logged at = record { pending_logged = at.pending_logged; requests_logged = at.requests_logged; nothing_else = at.nothing_else }

-- the open batch's part, and what is left without it
pub batch_part : (P : Placed → Type 0) (s : Shard) → AllByRecursion P (pending_in_shard s) → AllByRecursion P s.core.batch
batch_part P s all = AllByRecursion-left P s.core.batch (s.core.builder ++ samples_waiting s.queue) (subst (AllByRecursion P) (pending_parts s) all)

pub rest_part : (P : Placed → Type 0) (s : Shard) → AllByRecursion P (pending_in_shard s) → AllByRecursion P (pending_in_shard (shard_resolve s))
rest_part P s all = AllByRecursion-right P s.core.batch (s.core.builder ++ samples_waiting s.queue) (subst (AllByRecursion P) (pending_parts s) all)

-- an answer to the open batch leaves what is pending, or what is pending after it
pub settled_part : (P : Placed → Type 0) (j : Judgement) (s : Shard) → AllByRecursion P (pending_in_shard s) → AllByRecursion P (pending_in_shard (with_core (settle j) s))
settled_part P Done s all = rest_part P s all
settled_part P Refused s all = rest_part P s all
settled_part P Again s all = all

pub pending_send : (s : Shard) → pending_in_shard (shard_send s) ≡ pending_in_shard s
pending_send s = either (λ (k : Core). core.pending k ++ samples_waiting s.queue ≡ pending_in_shard s) (can_send s.core) (record s.core { waiting = true }) s.core (λ _. refl) (λ _. refl)

others_send : (c : Setup) (w : World) (i : ℕ) (o : Option Shard) → slice_get w.shards i ≡ o → OnlyLogged c w → OnlyLogged c (send_batch w i o)
others_send c w i None e at = at
others_send c w i (Some s) e at = either (OnlyLogged c) (can_send s.core) _ w
    (λ _. record {
      pending_logged = each_change (λ i s. AllByRecursion (IsLogged c (log w)) (pending_in_shard s)) shard_send i w.shards at.pending_logged (λ u _ all. subst (AllByRecursion (IsLogged c (log w))) (sym (pending_send u)) all);
      requests_logged = AllByRecursion-append (λ (r : Request). AllByRecursion (IsLogged c (log w)) r.batch) w.requests (request_by s ∷ []) at.requests_logged (batch_part (IsLogged c (log w)) s (at.pending_logged i s e), tt);
      nothing_else = at.nothing_else;
    })
    (λ _. at)

others_reply : (c : Setup) (w : World) (o : Option Reply) → OnlyLogged c w → OnlyLogged c (take_reply w o)
others_reply c w None at = at
others_reply c w (Some a) at = by_shard (slice_get w.shards a.id.shard)
  where
    by_shard : (o : Option Shard) → OnlyLogged c (reply_to w a o)
    by_shard None = at
    by_shard (Some s) = either (OnlyLogged c) _ _ w
        (λ _. record {
          pending_logged = each_change (λ i s. AllByRecursion (IsLogged c (log w)) (pending_in_shard s)) (with_core (settle (judgement_of a.status))) a.id.shard w.shards at.pending_logged (λ u _ all. settled_part (IsLogged c (log w)) (judgement_of a.status) u all);
          requests_logged = at.requests_logged;
          nothing_else = at.nothing_else;
        })
        (λ _. at)

others_restart : (c : Setup) (w : World) (o : Option ℕ) → OnlyLogged c w → OnlyLogged c (restart_as c w o)
others_restart c w None at = at
others_restart c w (Some n) at = either (OnlyLogged c) _ _ w
    (λ _. record { pending_logged = each_new (λ i s. AllByRecursion (IsLogged c (log w)) (pending_in_shard s)) c (suc w.epoch) 0 (λ _. tt) n; requests_logged = at.requests_logged; nothing_else = at.nothing_else })
    (λ _. at)

others_act : (c : Setup) (w : World) (e : Event) → OnlyLogged c w → OnlyLogged c (act c w e)
others_act c w (event.Feed piece) at = either (OnlyLogged c) (is_some w.closed) w _ (λ _. at) (λ _. others_grow c w (piece_of piece ∷ []) at)
others_act c w event.Place at = others_place c w at
others_act c w (event.Flush i) at = same_pending c w i (flush_shard c w) (others_flush c w) at
others_act c w (event.Take i) at = same_pending c w i shard_take pending_take at
others_act c w (event.Freeze i) at = same_pending c w i shard_freeze pending_freeze at
others_act c w (event.Send i) at = others_send c w i (slice_get w.shards i) refl at
others_act c w (event.Arrive k how) at = others_arrive c w how (slice_get w.requests k) (λ r e. AllByRecursion-get (λ (r : Request). AllByRecursion (IsLogged c (log w)) r.batch) w.requests k r at.requests_logged e) at
others_act c w (event.Reply k) at = others_reply c w (slice_get w.replies k) at
others_act c w (event.Lost i) at = same_pending c w i shard_lost pending_lost at
others_act c w (event.Reshard n) at = either (OnlyLogged c) (not (is_some w.draining) && (not (is_finished w) && (nat_le 1 n && nat_le n 1000))) _ w (λ _. record { pending_logged = at.pending_logged; requests_logged = at.requests_logged; nothing_else = at.nothing_else }) (λ _. at)
others_act c w event.Restart at = others_restart c w w.draining at
others_act c w event.Close at = either (OnlyLogged c) (is_some w.closed) w _ (λ _. at) (λ _. record { pending_logged = at.pending_logged; requests_logged = at.requests_logged; nothing_else = at.nothing_else })
others_act c w event.Kill at = record { pending_logged = at.pending_logged; requests_logged = at.requests_logged; nothing_else = at.nothing_else }

only_logged : (c : Setup) (events : List Event) → OnlyLogged c (run c events (start c))
only_logged c events = always (OnlyLogged c) c (others_act c) events (start c) (record { pending_logged = each_new (λ i s. AllByRecursion (IsLogged c (log (start c))) (pending_in_shard s)) c 0 0 (λ _. tt) c.shards; requests_logged = tt; nothing_else = λ l _. list_of-empty l })

pub others : (c : Setup) (events : List Event) → HoldsNothingElse c (run c events (start c))
others c events l none = (only_logged c events).nothing_else l none
