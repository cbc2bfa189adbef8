-- The head's store as a function, and the endpoint's answer to a batch of label sets in those
-- words.
use Rattle.std.proofs.Common.{◌≡◌, ℕ, ◌-◌, Bool, true, false, cond, not, List, [], ◌∷◌, map, length, Option, Some, None, is_some, Result, Ok, Err, refl, sym, ap, ◌∙◌, subst, ◌&&◌, nat_lt, nat_le, arith}
use Rattle.std.specs.List.{filter}
use Rattle.std.proofs.lemmas.Bool.Decides.{nat_tests}
use Rattle.std.proofs.lemmas.Bool.{not-true, and_parts, and_right, and_from}
use Rattle.rw_types.specs.Labels.{Labels, label_fault}
use Rattle.rw_types.specs.LabelOrder.{labels_eq}
use Rattle.rw_types.proofs.shared.Booleans.{either}
use Rattle.rw_batch.specs.Grouping.{LabelledSample, distinct, samples_of}
use Rattle.rw_batch.specs.Grouping as grouping
use Rattle.rw_write_request.specs.Message.{TimeSeries, WriteRequest}
use Rattle.rw_head.specs.declared.verdict.Verdict.{Verdict}
use Rattle.rw_head.specs.declared.verdict.Verdict.TheVariants.{BadLabels, OverLimit}
use Rattle.rw_head.specs.Order.{accept}
use Rattle.rw_head.specs.Order as order
use Rattle.rw_head.specs.Store.{list_of, with_list}
use Rattle.rw_head.specs.Store as head
use Rattle.rw_head.specs.Verdicts.{LabelLimits, is_over_limits, refusal, accepted, taken, taken_unless, taken_next, taken_all}
use Rattle.rw_head.specs.Verdicts as verdicts
use Rattle.rw_head.specs.Head.{State, Answer, status_of, answer_to, answered}
use Rattle.rw_head.proofs.shared.StoreLemmas.{list_of-with_list}
use Rattle.rw_shard_core.specs.Shard.{body_of, labelled}
use Rattle.rw_plain_queue.specs.Items.{Placed}
use Rattle.rw_machine.specs.Steps.{endpoint_answer}
use Rattle.rw_machine.specs.Worlds.{Setup}
use Rattle.rw_machine.proofs.shared.Names.{one_answer}
use Rattle.rw_machine.proofs.shared.Steps.{is_same, same_is}
use Rattle.rw_machine.proofs.shared.Views.{Pairs, Store, Series, of, pairs, series_of, message, is_refused, is_fit, is_let_in}

abbrev pub store_at : Labels → Pairs → Store → Store
store_at l xs store m = cond (labels_eq l m) xs (store m)

abbrev pub put_series : Labels → Option Pairs → Store → Option Store
put_series l None store = None
put_series l (Some xs) store = Some (store_at l xs store)

abbrev pub accept_series : Option Store → Series → Option Store
accept_series None s = None
accept_series (Some store) s = put_series s.labels (accept (Some (store s.labels)) s.samples) store

-- a message is taken whole or not at all
abbrev pub accept_all : Option Store → List Series → Option Store
accept_all store [] = store
accept_all store (s ∷ ss) = accept_all (accept_series store s) ss

pub labels_turned : (l m : Labels) → labels_eq m l ≡ labels_eq l m
labels_turned l m = one_answer (labels_eq m l) (labels_eq l m) (λ e. is_same l m (sym (same_is m l e))) (λ e. is_same m l (sym (same_is l m e)))

-- to set a label set's samples is to put their list
pub store_with_list : (l : Labels) (xs : Pairs) (s : head.Store) → list_of (with_list l xs s) ≡ store_at l xs (list_of s)
store_with_list l xs s i q = (list_of-with_list l xs s q ∙ ap (λ b. cond b xs (list_of s q)) (labels_turned l q)) i

-- ---- the message of a batch
abbrev time_series : List Placed → Labels → TimeSeries
time_series batch l = record { labels = l; samples = samples_of l (map labelled batch) }

same_labels : (batch : List Placed) → map (λ (x : LabelledSample). x.labels) (map labelled batch) ≡ map (λ (x : Placed). x.labels) batch
same_labels [] = refl
same_labels (x ∷ xs) = ap (λ ls. x.labels ∷ ls) (same_labels xs)

message_is : (batch : List Placed) → grouping.message (map labelled batch) ≡ map (time_series batch) (distinct (map (λ (x : Placed). x.labels) batch))
unfolding grouping.message
message_is batch = ap (λ ls. map (time_series batch) (distinct ls)) (same_labels batch)

points_are : (l : Labels) (batch : List Placed) → order.points (samples_of l (map labelled batch)) ≡ pairs (of l batch)
unfolding samples_of
points_are l [] = refl
points_are l (x ∷ xs) = by_test (labels_eq l x.labels) (points_are l xs)
  where
    rest : List LabelledSample
    rest = filter (λ (y : LabelledSample). labels_eq l y.labels) (map labelled xs)

    by_test : (b : Bool) → order.points (map (λ (y : LabelledSample). y.sample) rest) ≡ pairs (of l xs) → order.points (map (λ (y : LabelledSample). y.sample) (cond b (labelled x ∷ rest) rest)) ≡ pairs (cond b (x ∷ of l xs) (of l xs))
    by_test true h = ap (λ ps. (x.t, x.word) ∷ ps) h
    by_test false h = h

-- ---- one series, and a whole message
-- a verdict's store and a store as a function say the same, or both refuse
abbrev Gives : Result head.Store Verdict → Option Store → Type 0
Gives (Ok s) (Some f) = list_of s ≡ f
Gives (Ok s) None = ⊥
Gives (Err v) (Some f) = ⊥
Gives (Err v) None = status_of v ≡ 400

not_some : (o : Option Verdict) → is_some o ≡ false → o ≡ None
not_some None e = refl
not_some (Some v) e = absurd cc

-- the labels of a series are refused permanently, or not at all
abbrev pub RefusedForGood : Option Verdict → Type 0
RefusedForGood None = Unit {0}
RefusedForGood (Some v) = status_of v ≡ 400

pub refused_for_good : (limits : LabelLimits) (l : Labels) → RefusedForGood (refusal limits l)
refused_for_good limits l =
    either RefusedForGood (is_some (label_fault limits.names l)) (Some BadLabels) _ (λ _. refl)
    (λ _. either RefusedForGood (is_over_limits limits l) (Some OverLimit) None (λ _. refl) (λ _. tt))

series_gives : (limits : LabelLimits) (batch : List Placed) (l : Labels) (s : head.Store) (f : Store) → is_refused limits l ≡ false → list_of s ≡ f → Gives (taken limits s (time_series batch l)) (accept_series (Some f) (series_of batch l))
series_gives limits batch l s f fine same =
    subst (λ o. Gives (taken_unless o s (time_series batch l)) (accept_series (Some f) (series_of batch l))) (sym (not_some (refusal limits l) fine))
    (subst (λ ps. Gives (accepted l s (accept (Some (list_of s l)) ps)) (accept_series (Some f) (series_of batch l))) (sym (points_are l batch))
    (subst (λ (g : Store). Gives (accepted l s (accept (Some (list_of s l)) (pairs (of l batch)))) (accept_series (Some g) (series_of batch l))) same
    (by_list (accept (Some (list_of s l)) (pairs (of l batch))))))
  where
    by_list : (o : Option Pairs) → Gives (accepted l s o) (put_series l o (list_of s))
    by_list None = refl
    by_list (Some xs) = store_with_list l xs s

next_gives : (limits : LabelLimits) (batch : List Placed) (l : Labels) (r : Result head.Store Verdict) (o : Option Store) → is_refused limits l ≡ false → Gives r o → Gives (taken_next limits r (time_series batch l)) (accept_series o (series_of batch l))
next_gives limits batch l (Ok s) (Some f) fine same = series_gives limits batch l s f fine same
next_gives limits batch l (Ok s) None fine h = absurd h
next_gives limits batch l (Err v) (Some f) fine h = absurd h
next_gives limits batch l (Err v) None fine is = is

not_refused : (limits : LabelLimits) (l : Labels) (rest : Bool) → (not (is_refused limits l) && rest) ≡ true → is_refused limits l ≡ false
not_refused limits l rest h = not-true (is_refused limits l) (and_parts (not (is_refused limits l)) rest h).0

-- a message none of whose label sets is refused
fit_gives : (limits : LabelLimits) (batch : List Placed) (ls : List Labels) (r : Result head.Store Verdict) (o : Option Store) → is_fit limits (map (series_of batch) ls) ≡ true → Gives r o → Gives (taken_all limits r (map (time_series batch) ls)) (accept_all o (map (series_of batch) ls))
fit_gives limits batch [] r o fit same = same
fit_gives limits batch (l ∷ ls) r o fit same =
    fit_gives limits batch ls (taken_next limits r (time_series batch l)) (accept_series o (series_of batch l))
    (and_parts (not (is_refused limits l)) (is_fit limits (map (series_of batch) ls)) fit).1
    (next_gives limits batch l r o (not_refused limits l (is_fit limits (map (series_of batch) ls)) fit) same)

-- refused with this status
abbrev Refuses : Result head.Store Verdict → Type 0
Refuses (Ok s) = ⊥
Refuses (Err v) = status_of v ≡ 400

-- refused with this status, or not at all
abbrev Bad : Result head.Store Verdict → Type 0
Bad (Ok s) = Unit {0}
Bad (Err v) = status_of v ≡ 400

next_bad : (limits : LabelLimits) (batch : List Placed) (l : Labels) (r : Result head.Store Verdict) → Bad r → Bad (taken_next limits r (time_series batch l))
next_bad limits batch l (Err v) is = is
next_bad limits batch l (Ok s) is = by_refusal (refusal limits l) (refused_for_good limits l)
  where
    by_list : (o : Option Pairs) → Bad (accepted l s o)
    by_list None = refl
    by_list (Some xs) = tt

    by_refusal : (o : Option Verdict) → RefusedForGood o → Bad (taken_unless o s (time_series batch l))
    by_refusal None h = by_list (accept (Some (list_of s l)) (order.points (samples_of l (map labelled batch))))
    by_refusal (Some v) h = h

refuses_on : (limits : LabelLimits) (ss : WriteRequest) (r : Result head.Store Verdict) → Refuses r → Refuses (taken_all limits r ss)
refuses_on limits [] r h = h
refuses_on limits (s ∷ ss) (Ok store) h = absurd h
refuses_on limits (s ∷ ss) (Err v) h = refuses_on limits ss (Err v) h

next_refuses : (limits : LabelLimits) (batch : List Placed) (l : Labels) (r : Result head.Store Verdict) → is_refused limits l ≡ true → Bad r → Refuses (taken_next limits r (time_series batch l))
next_refuses limits batch l (Err v) refused is = is
next_refuses limits batch l (Ok s) refused is = by_refusal (refusal limits l) refused (refused_for_good limits l)
  where
    by_refusal : (o : Option Verdict) → is_some o ≡ true → RefusedForGood o → Refuses (taken_unless o s (time_series batch l))
    by_refusal None some h = absurd cc
    by_refusal (Some v) some h = h

-- a message with a label set that is refused
unfit_refuses : (limits : LabelLimits) (batch : List Placed) (ls : List Labels) (r : Result head.Store Verdict) → is_fit limits (map (series_of batch) ls) ≡ false → Bad r → Refuses (taken_all limits r (map (time_series batch) ls))
unfit_refuses limits batch [] r unfit bad = let never : true ≡ false → ⊥ = λ h. cc in absurd (never unfit)
unfit_refuses limits batch (l ∷ ls) r unfit bad = by_refused (is_refused limits l) refl (unfit_refuses limits batch ls (taken_next limits r (time_series batch l)))
  where
    by_refused : (b : Bool) → is_refused limits l ≡ b → (is_fit limits (map (series_of batch) ls) ≡ false → Bad (taken_next limits r (time_series batch l)) → Refuses (taken_all limits (taken_next limits r (time_series batch l)) (map (time_series batch) ls))) → Refuses (taken_all limits (taken_next limits r (time_series batch l)) (map (time_series batch) ls))
    by_refused true h rest = refuses_on limits (map (time_series batch) ls) (taken_next limits r (time_series batch l)) (next_refuses limits batch l r h bad)
    by_refused false h rest = rest (sym (ap (λ b. not b && is_fit limits (map (series_of batch) ls)) h) ∙ unfit) (next_bad limits batch l r bad)

-- ---- the endpoint
-- the order rule takes a batch, and this is the store after it
pub record Takes (h : State) (batch : List Placed) (next : head.Store) : Type 0 where
  pub after : Store
  pub taken : accept_all (Some (list_of h.store)) (message batch) ≡ Some after
  pub same : list_of next ≡ after

abbrev judged : State → Result head.Store Verdict → Answer
judged h r = answered h (verdicts.judged h.store r)

-- a batch that the limits let in
let_in : (P : Answer → Type 0) (h : State) (batch : List Placed) → (accept_all (Some (list_of h.store)) (message batch) ≡ None → P (record { status = 400; head = h })) → ((next : head.Store) → Takes h batch next → P (record { status = 204; head = record h { store = next } })) → (r : Result head.Store Verdict) (o : Option Store) → accept_all (Some (list_of h.store)) (message batch) ≡ o → Gives r o → P (judged h r)
let_in P h batch refused taken (Ok s) (Some f) e same = taken s (record { after = f; taken = e; same = same })
let_in P h batch refused taken (Ok s) None e same = absurd same
let_in P h batch refused taken (Err v) (Some f) e same = absurd same
let_in P h batch refused taken (Err v) None e same = subst (λ n. P (record { status = n; head = h })) (sym same) (refused e)

-- one that they do not
kept_out : (P : Answer → Type 0) (h : State) → P (record { status = 400; head = h }) → (r : Result head.Store Verdict) → Refuses r → P (judged h r)
kept_out P h refused (Ok s) e = absurd e
kept_out P h refused (Err v) e = subst (λ n. P (record { status = n; head = h })) (sym e) refused

large_is : (a b : ℕ) → nat_lt b a ≡ true → nat_le a b ≡ false
large_is a b h = grind (arith, nat_tests)

small_is : (a b : ℕ) → nat_lt b a ≡ false → nat_le a b ≡ true
small_is a b h = grind (arith, nat_tests)

-- What the endpoint answers to a batch of label sets: 413 or 400 if its limits do not let it in,
-- 429 while it is busy, else 400 or 204 as the order rule says.
pub by_answer : (P : Answer → Type 0) (c : Setup) (h : State) (batch : List Placed) → h.limits ≡ c.limits
    → (is_let_in c batch ≡ false → P (record { status = 413; head = h }))
    → P (record { status = 429; head = record h { busy = h.busy - 1 } })
    → (is_let_in c batch ≡ false → P (record { status = 400; head = h }))
    → (is_let_in c batch ≡ true → accept_all (Some (list_of h.store)) (message batch) ≡ None → P (record { status = 400; head = h }))
    → (is_let_in c batch ≡ true → (next : head.Store) → Takes h batch next → P (record { status = 204; head = record h { store = next } }))
    → P (endpoint_answer c h batch)
by_answer P c h batch limited large busy unfit refused taken =
    either P (nat_lt c.max_body (length (body_of batch))) (record { status = 413; head = h }) (answer_to h (Ok (grouping.message (map labelled batch))))
    (λ e. large (ap (λ b. b && is_fit c.limits (message batch)) (large_is (length (body_of batch)) c.max_body e)))
    (λ small. either P (nat_lt 0 h.busy) (record { status = 429; head = record h { busy = h.busy - 1 } }) (answered h (verdicts.apply h.limits h.store (grouping.message (map labelled batch))))
    (λ _. busy)
    (λ _. subst (λ m. P (answered h (verdicts.apply h.limits h.store m))) (sym (message_is batch)) (subst (λ (limits : LabelLimits). P (answered h (verdicts.apply limits h.store (map (time_series batch) ls)))) (sym limited) (by_fit (is_fit c.limits (message batch)) refl (small_is (length (body_of batch)) c.max_body small)))))
  where
    ls : List Labels
    ls = distinct (map (λ (x : Placed). x.labels) batch)

    by_fit : (b : Bool) → is_fit c.limits (message batch) ≡ b → nat_le (length (body_of batch)) c.max_body ≡ true → P (judged h (taken_all c.limits (Ok h.store) (map (time_series batch) ls)))
    by_fit true fit small =
        let fits : is_let_in c batch ≡ true = and_from (nat_le (length (body_of batch)) c.max_body) (is_fit c.limits (message batch)) small fit in
        let_in P h batch (refused fits) (taken fits) (taken_all c.limits (Ok h.store) (map (time_series batch) ls)) (accept_all (Some (list_of h.store)) (message batch)) refl (fit_gives c.limits batch ls (Ok h.store) (Some (list_of h.store)) fit refl)
    by_fit false fit small = kept_out P h (unfit (and_right (nat_le (length (body_of batch)) c.max_body) (is_fit c.limits (message batch)) fit)) (taken_all c.limits (Ok h.store) (map (time_series batch) ls)) (unfit_refuses c.limits batch ls (Ok h.store) fit tt)
