-- Each position below `placed` is in one class, and no other is named.
use Rattle.std.proofs.Common.{◌≡◌, ℕ, zero, suc, ◌+◌, ◌<◌, ◌≤◌, ◌==◌, Bool, true, false, ap, List, [], ◌∷◌, ◌++◌, length, take, Option, Some, None, is_some, slice_get, refl, sym, ◌∙◌, subst, ℤ, ◌&&◌, not, nat_le, length-append, arith, inl, inr, ◌⊎◌}
use Rattle.std.proofs.lemmas.Bool.{cases_eq, cond-false, cond-true}
use Rattle.std.proofs.lemmas.Bool.Decides.{Decides-eqb}
use Rattle.std.proofs.lemmas.List.{take-append-le}
use Rattle.std.specs.List.{AllByRecursion}
use Rattle.rw_types.proofs.shared.AllLemmas.{AllByRecursion-append, AllByRecursion-weaker}
use Rattle.rw_machine.proofs.shared.Steps.{always, Each, each_change, each_new}
use Rattle.rw_machine.proofs.shared.Others.{pending_put, pending_take, pending_freeze, pending_lost, pending_send, others_flush, entries_grow, batch_part, settled_part}
use Rattle.rw_machine.proofs.shared.Places.{get_below}
use Rattle.rw_machine.proofs.shared.Names.{ledger_insert}
use Rattle.rw_machine.specs.declared.event.Event.TheVariants as event
use Rattle.std.specs.FinMap.{FinMap, get, get-empty, insert}
use Rattle.std.specs.Ordering.{nat_cmp}
use Rattle.rw_ledger.specs.declared.ledger.Reason.{Reason}
use Rattle.rw_ledger.specs.declared.ledger.Reason.TheVariants.{BadLabels, NoSeries, NotRising, Status}
use Rattle.rw_retry.specs.Judgements.{judgement_of}
use Rattle.rw_retry.specs.declared.judgement.Judgement.{Judgement}
use Rattle.rw_retry.specs.declared.judgement.Judgement.TheVariants.{Again, Done, Refused}
use Rattle.rw_machine.proofs.shared.Views.{Ledger}
use Rattle.rw_machine.specs.Promises.{Accounted, AccountedKept, AccountedEntry, HasOneClassEach}
use Rattle.rw_machine.specs.Shards.{Shard, has_room, pending_in_shard, shard_freeze, shard_lost, shard_put, shard_send, shard_take, with_core}
use Rattle.rw_machine.specs.Steps.{act, arrive, change, changed, flush_shard, names_after_reply, next_sample, place, place_entry, place_kept, place_sample, put_if_room, reply_to, restart_as, settled, run, send_batch, shard_of_labels, take_reply}
use Rattle.rw_machine.specs.Worlds.{Reply, Request, Setup, World, is_finished, log, start}
use Rattle.rw_wal_format.specs.Pieces as pieces
use Rattle.rw_wal_tail.specs.Fed.{piece_of}
use Rattle.rw_machine.specs.declared.event.Event.{Event}
use Rattle.rw_machine.specs.declared.event.How.{How}
use Rattle.rw_machine.specs.declared.event.How.TheVariants.{Busy, Plain, OutOfMemory}
use Rattle.rw_shard_core.specs.Shard.{can_send, name_all, positions, settle, settle_names}
use Rattle.rw_series_cache.specs.Known.{Bad, Filtered, Kept, Standing, Unknown, known, standing_of}
use Rattle.rw_series_cache.specs.Rising.{rises}
use Rattle.rw_series_cache.specs.Numbers.{with_series}
use Rattle.rw_plain_queue.specs.Items.{Placed}
use Rattle.rw_types.specs.Labels.{Labels, label_fault_number}
use Rattle.rw_types.specs.declared.entry.Entry.{Entry}
use Rattle.rw_types.specs.declared.entry.Entry.TheVariants.{Def, Sample}
use Rattle.rw_types.proofs.shared.Booleans.{either}

-- at the position is a sample of a kept series that rises
abbrev pub KeptKnown : (Labels → Bool) → Standing → Type 0
KeptKnown rising Unknown = ⊥
KeptKnown rising (Bad f) = ⊥
KeptKnown rising Filtered = ⊥
KeptKnown rising (Kept l) = rising l ≡ true

abbrev pub KeptEntry : Setup → List Entry → ℕ → Option Entry → Type 0
KeptEntry c log p None = ⊥
KeptEntry c log p (Some (Def r l)) = ⊥
KeptEntry c log p (Some (Sample r t word)) = KeptKnown (λ l. rises c.choice (take p log) l t) (known c.choice (take p log) r)

abbrev pub KeptAt : Setup → ℕ → List Entry → Placed → Type 0
KeptAt c placed log x = (x.place.pos < placed) × KeptEntry c log x.place.pos (slice_get log x.place.pos)

-- what is said of a position
abbrev pub Says : Setup → List Entry → ℕ → Option Reason → Option Entry → Type 0
Says c log p named None = named ≡ None
Says c log p named (Some (Def r l)) = named ≡ None
Says c log p named (Some (Sample r t word)) = Accounted named (λ l. rises c.choice (take p log) l t) (known c.choice (take p log) r)

pub record Classes (c : Setup) (w : World) : Type 0 where
  pub placed_in : w.placed ≤ length (log w)
  pub below : (p : ℕ) → p < w.placed → Says c (log w) p (get w.names p) (slice_get (log w) p)
  pub above : (p : ℕ) → w.placed ≤ p → get w.names p ≡ None
  pub kept : Each (λ i s. AllByRecursion (KeptAt c w.placed (log w)) (pending_in_shard s)) w.shards

pub get_left : (xs ys : List Entry) (p : ℕ) → p < length xs → slice_get (xs ++ ys) p ≡ slice_get xs p
get_left [] ys p lt = absurd (omega arith)
get_left (x ∷ xs) ys zero lt = refl
get_left (x ∷ xs) ys (suc p) lt = get_left xs ys p (omega arith)

-- a longer log says the same of its front
longer_says : (c : Setup) (xs ys : List Entry) (p : ℕ) (named : Option Reason) (o : Option Entry) → p ≤ length xs → Says c xs p named o → Says c (xs ++ ys) p named o
longer_says c xs ys p named None le h = h
longer_says c xs ys p named (Some (Def r l)) le h = h
longer_says c xs ys p named (Some (Sample r t word)) le h = subst (λ es. Accounted named (λ l. rises c.choice es l t) (known c.choice es r)) (sym (take-append-le p xs ys le)) h

longer_kept : (c : Setup) (xs ys : List Entry) (p : ℕ) (o : Option Entry) → p ≤ length xs → KeptEntry c xs p o → KeptEntry c (xs ++ ys) p o
longer_kept c xs ys p None le h = h
longer_kept c xs ys p (Some (Def r l)) le h = h
longer_kept c xs ys p (Some (Sample r t word)) le h = subst (λ es. KeptKnown (λ l. rises c.choice es l t) (known c.choice es r)) (sym (take-append-le p xs ys le)) h

classes_grow : (c : Setup) (w : World) (more : List pieces.Piece) → Classes c w → Classes c (record w { pieces = w.pieces ++ more })
classes_grow c w more at = let grown = entries_grow w.pieces more in record {
  placed_in = (let le : w.placed ≤ length (log w) = at.placed_in in subst (λ es. w.placed ≤ length es) (sym grown.1) (long grown.0));
  below = λ p lt. subst (λ es. Says c es p (get w.names p) (slice_get es p)) (sym grown.1) (let le : w.placed ≤ length (log w) = at.placed_in in subst (Says c (log w ++ grown.0) p (get w.names p)) (sym (get_left (log w) grown.0 p (omega arith))) (longer_says c (log w) grown.0 p (get w.names p) (slice_get (log w) p) (omega arith) (at.below p lt)));
  above = at.above;
  kept = λ i s e. subst (λ es. AllByRecursion (KeptAt c w.placed es) (pending_in_shard s)) (sym grown.1) (AllByRecursion-weaker (KeptAt c w.placed (log w)) (KeptAt c w.placed (log w ++ grown.0)) (λ x h. let le : w.placed ≤ length (log w) = at.placed_in in let lt : x.place.pos < w.placed = h.0 in (h.0, subst (KeptEntry c (log w ++ grown.0) x.place.pos) (sym (get_left (log w) grown.0 x.place.pos (omega arith))) (longer_kept c (log w) grown.0 x.place.pos (slice_get (log w) x.place.pos) (omega arith) h.1))) (pending_in_shard s) (at.kept i s e));
}
  where
    long : (es : List Entry) → w.placed ≤ length (log w ++ es)
    long es = let le : w.placed ≤ length (log w) = at.placed_in in let e : length (log w ++ es) ≡ length (log w) + length es = length-append (log w) es in omega arith

-- one more position: what is said of it, and of no other
classes_next : (c : Setup) (w : World) (e : Entry) (names : FinMap nat_cmp Reason) (series : List Labels) (filtered : ℕ) (shards : List Shard) → slice_get (log w) w.placed ≡ Some e → ((p : ℕ) → (w.placed ≡ p → ⊥) → get names p ≡ get w.names p) → Says c (log w) w.placed (get names w.placed) (Some e) → Each (λ i s. AllByRecursion (KeptAt c (suc w.placed) (log w)) (pending_in_shard s)) shards → Classes c w → Classes c (record w { names = names; series = series; filtered = filtered; shards = shards; placed = suc w.placed })
classes_next c w e names series filtered shards next same here kept at = record {
  placed_in = get_below (log w) w.placed e next;
  below = λ p lt. by_case p lt (cases_eq w.placed p);
  above = λ p le. same p (λ z. omega arith) ∙ at.above p (omega arith);
  kept = kept;
}
  where
    below_it : (p : ℕ) → p < suc w.placed → (w.placed ≡ p → ⊥) → p < w.placed
    below_it p lt z = omega arith

    by_case : (p : ℕ) → p < suc w.placed → (w.placed ≡ p) ⊎ (w.placed ≡ p → ⊥) → Says c (log w) p (get names p) (slice_get (log w) p)
    by_case p lt (inl z) = subst (λ (q : ℕ). Says c (log w) q (get names q) (slice_get (log w) q)) z (subst (Says c (log w) w.placed (get names w.placed)) (sym next) here)
    by_case p lt (inr z) = subst (λ n. Says c (log w) p n (slice_get (log w) p)) (sym (same p z)) (at.below p (below_it p lt z))

not_equal : (p q : ℕ) (b : Bool) → (p == q) ≡ b → (p ≡ q → ⊥) → (p == q) ≡ false
not_equal p q true e h = absurd (h ((Decides-eqb p q).0 e))
not_equal p q false e h = e

pub named_own : (p : ℕ) (reason : Reason) (names : FinMap nat_cmp Reason) → get (insert names p reason) p ≡ Some reason
named_own p reason names = ap (λ (f : Ledger). f p) (ledger_insert names p reason) ∙ cond-true (p == p) (Some reason) (get names p) ((Decides-eqb p p).1 refl)

pub named_other : (p q : ℕ) (reason : Reason) (names : FinMap nat_cmp Reason) → (p ≡ q → ⊥) → get (insert names p reason) q ≡ get names q
named_other p q reason names h = ap (λ (f : Ledger). f q) (ledger_insert names p reason) ∙ cond-false (p == q) (Some reason) (get names q) (not_equal p q (p == q) refl h)

classes_place : (c : Setup) (w : World) → Classes c w → Classes c (place c w)
classes_place c w at = either (Classes c) (is_some w.draining) w (place_entry c w (slice_get (log w) w.placed)) (λ _. at) (λ _. by_entry (slice_get (log w) w.placed) refl)
  where
    later : Each (λ i s. AllByRecursion (KeptAt c (suc w.placed) (log w)) (pending_in_shard s)) w.shards
    later i s e = AllByRecursion-weaker (KeptAt c w.placed (log w)) (KeptAt c (suc w.placed) (log w)) (λ x h. (let lt : x.place.pos < w.placed = h.0 in omega arith, h.1)) (pending_in_shard s) (at.kept i s e)

    rising : ℤ → Labels → Bool
    rising t l = rises c.choice (take w.placed (log w)) l t

    unnamed : get w.names w.placed ≡ None
    unnamed = at.above w.placed (omega arith)

    by_shard : (r : ℕ) (t : ℤ) (word : ℕ) (l : Labels) → slice_get (log w) w.placed ≡ Some (Sample r t word) → known c.choice (take w.placed (log w)) r ≡ Kept l → rising t l ≡ true → (i : ℕ) (o : Option Shard) → Classes c (put_if_room c w i l t word o)
    by_shard r t word l e stands up i None = at
    by_shard r t word l e stands up i (Some s) = either (Classes c) (has_room c.capacity s) _ w
        (λ _. classes_next c w (Sample r t word) w.names w.series w.filtered (change i (shard_put (next_sample w i l t word s)) w.shards) e (λ p _. refl) (subst (Accounted (get w.names w.placed) (rising t)) (sym stands) (subst (AccountedKept (get w.names w.placed)) (sym up) (inl unnamed)))
        (each_change (λ i s. AllByRecursion (KeptAt c (suc w.placed) (log w)) (pending_in_shard s)) (shard_put (next_sample w i l t word s)) i w.shards later (λ u _ h. subst (AllByRecursion (KeptAt c (suc w.placed) (log w))) (sym (pending_put (next_sample w i l t word s) u)) (AllByRecursion-append (KeptAt c (suc w.placed) (log w)) (pending_in_shard u) (next_sample w i l t word s ∷ []) h ((lt_own, subst (KeptEntry c (log w) w.placed) (sym e) (subst (KeptKnown (rising t)) (sym stands) up)), tt)))) at)
        (λ _. at)
      where
        lt_own : w.placed < suc w.placed
        lt_own = omega arith

    by_rising : (r : ℕ) (t : ℤ) (word : ℕ) (l : Labels) → slice_get (log w) w.placed ≡ Some (Sample r t word) → known c.choice (take w.placed (log w)) r ≡ Kept l → (b : Bool) → rising t l ≡ b → Classes c (place_kept c w l t word b)
    by_rising r t word l e stands true up = by_shard r t word l e stands up (shard_of_labels w l) (slice_get w.shards (shard_of_labels w l))
    by_rising r t word l e stands false up = classes_next c w (Sample r t word) (insert w.names w.placed NotRising) w.series w.filtered w.shards e (λ p z. named_other w.placed p NotRising w.names z) (subst (Accounted (get (insert w.names w.placed NotRising) w.placed) (rising t)) (sym stands) (subst (AccountedKept (get (insert w.names w.placed NotRising) w.placed)) (sym up) (named_own w.placed NotRising w.names))) later at

    by_known : (r : ℕ) (t : ℤ) (word : ℕ) (k : Standing) → slice_get (log w) w.placed ≡ Some (Sample r t word) → known c.choice (take w.placed (log w)) r ≡ k → Classes c (place_sample c w t word k)
    by_known r t word Unknown e stands = classes_next c w (Sample r t word) (insert w.names w.placed NoSeries) w.series w.filtered w.shards e (λ p z. named_other w.placed p NoSeries w.names z) (subst (Accounted (get (insert w.names w.placed NoSeries) w.placed) (rising t)) (sym stands) (named_own w.placed NoSeries w.names)) later at
    by_known r t word (Bad f) e stands = classes_next c w (Sample r t word) (insert w.names w.placed (BadLabels (label_fault_number f))) w.series w.filtered w.shards e (λ p z. named_other w.placed p (BadLabels (label_fault_number f)) w.names z) (subst (Accounted (get (insert w.names w.placed (BadLabels (label_fault_number f))) w.placed) (rising t)) (sym stands) (named_own w.placed (BadLabels (label_fault_number f)) w.names)) later at
    by_known r t word Filtered e stands = classes_next c w (Sample r t word) w.names w.series (suc w.filtered) w.shards e (λ p z. refl) (subst (Accounted (get w.names w.placed) (rising t)) (sym stands) unnamed) later at
    by_known r t word (Kept l) e stands = by_rising r t word l e stands (rises c.choice (take w.placed (log w)) l t) refl

    by_entry : (o : Option Entry) → slice_get (log w) w.placed ≡ o → Classes c (place_entry c w o)
    by_entry None e = at
    by_entry (Some (Def r m)) e = classes_next c w (Def r m) w.names (with_series w.series (standing_of c.choice (Some m))) w.filtered w.shards e (λ p z. refl) unnamed later at
    by_entry (Some (Sample r t word)) e = by_known r t word (known c.choice (take w.placed (log w)) r) e refl

-- a name changes only at the batch's samples
pub named_or_not : (status : ℕ) (P : ℕ → Type 0) (xs : List Placed) (names : FinMap nat_cmp Reason) (p : ℕ) → AllByRecursion (λ (x : Placed). P x.place.pos) xs → (get (name_all status (positions xs) names) p ≡ get names p) ⊎ ((get (name_all status (positions xs) names) p ≡ Some (Status status)) × P p)
named_or_not status P [] names p h = inl refl
named_or_not status P (x ∷ xs) names p h = by_rest (named_or_not status P xs (insert names x.place.pos (Status status)) p h.1) (cases_eq x.place.pos p)
  where
    after : Option Reason
    after = get (name_all status (positions xs) (insert names x.place.pos (Status status))) p

    by_rest : (after ≡ get (insert names x.place.pos (Status status)) p) ⊎ ((after ≡ Some (Status status)) × P p) → (x.place.pos ≡ p) ⊎ (x.place.pos ≡ p → ⊥) → (after ≡ get names p) ⊎ ((after ≡ Some (Status status)) × P p)
    by_rest (inr r) z = inr r
    by_rest (inl r) (inl z) = inr (r ∙ ap (get (insert names x.place.pos (Status status))) (sym z) ∙ named_own x.place.pos (Status status) names, subst P z h.0)
    by_rest (inl r) (inr z) = inl (r ∙ named_other x.place.pos p (Status status) names z)

abbrev pub names_by : Judgement → ℕ → List Placed → FinMap nat_cmp Reason → FinMap nat_cmp Reason
names_by j status batch names = (settle_names j status batch (record { names = names; room = 0 })).names

-- so it does by an answer to the batch
pub settled_or_not : (j : Judgement) (status : ℕ) (P : ℕ → Type 0) (xs : List Placed) (names : FinMap nat_cmp Reason) (p : ℕ) → AllByRecursion (λ (x : Placed). P x.place.pos) xs → (get (names_by j status xs names) p ≡ get names p) ⊎ ((get (names_by j status xs names) p ≡ Some (Status status)) × P p)
settled_or_not Done status P xs names p h = inl refl
settled_or_not Again status P xs names p h = inl refl
settled_or_not Refused status P xs names p h = named_or_not status P xs names p h

status_known : (named : Option Reason) (status : ℕ) (rising : Labels → Bool) (k : Standing) → KeptKnown rising k → named ≡ Some (Status status) → Accounted named rising k
status_known named status rising Unknown h e = absurd h
status_known named status rising (Bad f) h e = absurd h
status_known named status rising Filtered h e = absurd h
status_known named status rising (Kept l) h e = subst (AccountedKept named) (sym h) (inr (status, e))

status_entry : (c : Setup) (log : List Entry) (p : ℕ) (named : Option Reason) (status : ℕ) (o : Option Entry) → KeptEntry c log p o → named ≡ Some (Status status) → Says c log p named o
status_entry c log p named status None h e = absurd h
status_entry c log p named status (Some (Def r l)) h e = absurd h
status_entry c log p named status (Some (Sample r t word)) h e = status_known named status (λ l. rises c.choice (take p log) l t) (known c.choice (take p log) r) h e

classes_change : (c : Setup) (w : World) (j : ℕ) (f : Shard → Shard) → ((s : Shard) → AllByRecursion (KeptAt c w.placed (log w)) (pending_in_shard s) → AllByRecursion (KeptAt c w.placed (log w)) (pending_in_shard (f s))) → Classes c w → Classes c (changed w j f)
classes_change c w j f step at = record { placed_in = at.placed_in; below = at.below; above = at.above; kept = each_change (λ i s. AllByRecursion (KeptAt c w.placed (log w)) (pending_in_shard s)) f j w.shards at.kept (λ s _ h. step s h) }

classes_same : (c : Setup) (w : World) (j : ℕ) (f : Shard → Shard) → ((s : Shard) → pending_in_shard (f s) ≡ pending_in_shard s) → Classes c w → Classes c (changed w j f)
classes_same c w j f same at = classes_change c w j f (λ s h. subst (AllByRecursion (KeptAt c w.placed (log w))) (sym (same s)) h) at

classes_reply : (c : Setup) (w : World) (o : Option Reply) → Classes c w → Classes c (take_reply w o)
classes_reply c w None at = at
classes_reply c w (Some a) at = by_shard (slice_get w.shards a.id.shard) refl
  where
    answered : (s : Shard) → slice_get w.shards a.id.shard ≡ Some s → Classes c (settled w a.id.shard s a.status)
    answered s e = record {
      placed_in = at.placed_in;
      below = λ p lt. by_name p (at.below p lt) (change_of p);
      above = λ p le. by_far p le (change_of p);
      kept = each_change (λ i s. AllByRecursion (KeptAt c w.placed (log w)) (pending_in_shard s)) (with_core (settle (judgement_of a.status))) a.id.shard w.shards at.kept (λ u _ h. settled_part (KeptAt c w.placed (log w)) (judgement_of a.status) u h);
    }
      where
        change_of : (p : ℕ) → (get (names_after_reply a.status s.core.batch w.names) p ≡ get w.names p) ⊎ ((get (names_after_reply a.status s.core.batch w.names) p ≡ Some (Status a.status)) × ((p < w.placed) × KeptEntry c (log w) p (slice_get (log w) p)))
        change_of p = settled_or_not (judgement_of a.status) a.status (λ (q : ℕ). (q < w.placed) × KeptEntry c (log w) q (slice_get (log w) q)) s.core.batch w.names p (batch_part (KeptAt c w.placed (log w)) s (at.kept a.id.shard s e))

        by_name : (p : ℕ) → Says c (log w) p (get w.names p) (slice_get (log w) p) → (get (names_after_reply a.status s.core.batch w.names) p ≡ get w.names p) ⊎ ((get (names_after_reply a.status s.core.batch w.names) p ≡ Some (Status a.status)) × ((p < w.placed) × KeptEntry c (log w) p (slice_get (log w) p))) → Says c (log w) p (get (names_after_reply a.status s.core.batch w.names) p) (slice_get (log w) p)
        by_name p h (inl same) = subst (λ n. Says c (log w) p n (slice_get (log w) p)) (sym same) h
        by_name p h (inr new) = status_entry c (log w) p (get (names_after_reply a.status s.core.batch w.names) p) a.status (slice_get (log w) p) new.1.1 new.0

        by_far : (p : ℕ) → w.placed ≤ p → (get (names_after_reply a.status s.core.batch w.names) p ≡ get w.names p) ⊎ ((get (names_after_reply a.status s.core.batch w.names) p ≡ Some (Status a.status)) × ((p < w.placed) × KeptEntry c (log w) p (slice_get (log w) p))) → get (names_after_reply a.status s.core.batch w.names) p ≡ None
        by_far p le (inl same) = same ∙ at.above p le
        by_far p le (inr new) = let lt : p < w.placed = new.1.0 in absurd (omega arith)

    by_shard : (o : Option Shard) → slice_get w.shards a.id.shard ≡ o → Classes c (reply_to w a o)
    by_shard None e = at
    by_shard (Some s) e = either (Classes c) _ _ w (λ _. answered s e) (λ _. at)

pub classes_act : (c : Setup) (w : World) (e : Event) → Classes c w → Classes c (act c w e)
classes_act c w (event.Feed piece) at = either (Classes c) (is_some w.closed) w _ (λ _. at) (λ _. classes_grow c w (piece_of piece ∷ []) at)
classes_act c w event.Place at = classes_place c w at
classes_act c w (event.Flush i) at = classes_same c w i (flush_shard c w) (others_flush c w) at
classes_act c w (event.Take i) at = classes_same c w i shard_take pending_take at
classes_act c w (event.Freeze i) at = classes_same c w i shard_freeze pending_freeze at
classes_act c w (event.Send i) at = by_shard (slice_get w.shards i)
  where
    by_shard : (o : Option Shard) → Classes c (send_batch w i o)
    by_shard None = at
    by_shard (Some s) = either (Classes c) (can_send s.core) _ w (λ _. record { placed_in = at.placed_in; below = at.below; above = at.above; kept = each_change (λ i s. AllByRecursion (KeptAt c w.placed (log w)) (pending_in_shard s)) shard_send i w.shards at.kept (λ u _ h. subst (AllByRecursion (KeptAt c w.placed (log w))) (sym (pending_send u)) h) }) (λ _. at)
classes_act c w (event.Arrive k how) at = by_request how (slice_get w.requests k)
  where
    by_request : (how : How) (o : Option Request) → Classes c (arrive c w how o)
    by_request how None = at
    by_request Plain (Some r) = record { placed_in = at.placed_in; below = at.below; above = at.above; kept = at.kept }
    by_request Busy (Some r) = record { placed_in = at.placed_in; below = at.below; above = at.above; kept = at.kept }
    by_request OutOfMemory (Some r) = record { placed_in = at.placed_in; below = at.below; above = at.above; kept = at.kept }
classes_act c w (event.Reply k) at = classes_reply c w (slice_get w.replies k) at
classes_act c w (event.Lost i) at = classes_same c w i shard_lost pending_lost at
classes_act c w (event.Reshard n) at = either (Classes c) (not (is_some w.draining) && (not (is_finished w) && (nat_le 1 n && nat_le n 1000))) _ w (λ _. record { placed_in = at.placed_in; below = at.below; above = at.above; kept = at.kept }) (λ _. at)
classes_act c w event.Restart at = by_draining w.draining
  where
    by_draining : (o : Option ℕ) → Classes c (restart_as c w o)
    by_draining None = at
    by_draining (Some n) = either (Classes c) _ _ w (λ _. record { placed_in = at.placed_in; below = at.below; above = at.above; kept = each_new (λ i s. AllByRecursion (KeptAt c w.placed (log w)) (pending_in_shard s)) c (suc w.epoch) 0 (λ _. tt) n }) (λ _. at)
classes_act c w event.Close at = either (Classes c) (is_some w.closed) w _ (λ _. at) (λ _. record { placed_in = at.placed_in; below = at.below; above = at.above; kept = at.kept })
classes_act c w event.Kill at = record { placed_in = at.placed_in; below = at.below; above = at.above; kept = at.kept }

pub classes_at : (c : Setup) (events : List Event) → Classes c (run c events (start c))
classes_at c events = always (Classes c) c (classes_act c) events (start c) (record { placed_in = omega arith; below = λ p lt. absurd (omega arith); above = λ p le. get-empty nat_cmp p; kept = each_new (λ i s. AllByRecursion (KeptAt c 0 (log (start c))) (pending_in_shard s)) c 0 0 (λ _. tt) c.shards })

pub not_below : (p n : ℕ) → (p < n → ⊥) → n ≤ p
not_below p n h = omega arith

pub accounted : (c : Setup) (w : World) (p : ℕ) (o : Option Entry) → Says c (log w) p (get w.names p) o → AccountedEntry c w p o
accounted c w p None h = h
accounted c w p (Some (Def r l)) h = h
accounted c w p (Some (Sample r t word)) h = h

pub classes : (c : Setup) (events : List Event) → HasOneClassEach c (run c events (start c))
classes c events p = let w = run c events (start c) in (λ lt. accounted c w p (slice_get (log w) p) ((classes_at c events).below p lt), λ h. (classes_at c events).above p (not_below p w.placed h))
