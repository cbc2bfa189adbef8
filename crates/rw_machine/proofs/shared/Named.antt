-- A status is named of a position exactly if a reply refused it.
use Rattle.std.proofs.Common.{◌≡◌, ℕ, zero, suc, ◌+◌, ◌<◌, ◌≤◌, ◌==◌, Bool, true, false, cond, List, [], ◌∷◌, ◌++◌, length, length-append, map, take, Option, Some, None, is_some, slice_get, refl, sym, ap, ◌∙◌, subst, ℤ, ◌&&◌, not, nat_le, arith, inl, inr, ◌⊎◌}
use Rattle.std.proofs.lemmas.Bool.{cases_eq}
use Rattle.std.proofs.lemmas.Bool.Decides.{Decides-eqb}
use Rattle.std.specs.FinMap.{FinMap, get, get-empty, insert}
use Rattle.std.specs.Ordering.{nat_cmp}
use Rattle.std.proofs.lemmas.Option.{same_Some}
use Rattle.std.specs.List.{AllByRecursion}
use Rattle.rw_types.proofs.shared.AllLemmas.{AllByRecursion-weaker}
use Rattle.rw_machine.proofs.shared.Steps.{always, unless, Each, each_change, each_new}
use Rattle.rw_machine.proofs.shared.Frames.{restart_frame}
use Rattle.rw_machine.proofs.shared.Others.{pending_put, pending_resolve}
use Rattle.rw_machine.proofs.shared.Places.{Numbered, numbered_right, numbered_push, numbered_more, numbered_all}
use Rattle.rw_machine.proofs.Invariant.{IsQuiet, quiet_again, quiet_flush, quiet_freeze, quiet_lost, quiet_send, quiet_take}
use Rattle.rw_machine.proofs.shared.Classes.{named_or_not, named_other, named_own}
use Rattle.rw_machine.specs.declared.event.Event.TheVariants as event
use Rattle.rw_ledger.specs.declared.ledger.Reason.{Reason}
use Rattle.rw_ledger.specs.declared.ledger.Reason.TheVariants.{BadLabels, NoSeries, NotRising, Status}
use Rattle.rw_retry.specs.Judgements.{judgement_of}
use Rattle.rw_retry.specs.declared.judgement.Judgement.{Judgement}
use Rattle.rw_retry.specs.declared.judgement.Judgement.TheVariants.{Again, Done, Refused}
use Rattle.rw_machine.proofs.shared.Views.{shard_again, shard_resolve}
use Rattle.rw_machine.specs.Promises.{NamesRefusals, Stands, is_refused, refused_positions, refusal_by, refusals, refused_in}
use Rattle.rw_machine.specs.Shards.{Shard, has_room, pending_in_shard, shard_freeze, shard_lost, shard_put, shard_send, shard_take, with_core}
use Rattle.rw_machine.specs.Steps.{act, arrive, change, changed, flush_shard, happens, next_sample, place, place_entry, place_kept, place_sample, put_if_room, reply_to, restart_as, run, send_batch, settled, shard_of_labels, take_reply, unless_over}
use Rattle.rw_machine.specs.Worlds.{Reply, Request, Setup, World, all_drained, is_finished, is_over, log, start}
use Rattle.rw_machine.specs.declared.event.Event.{Event}
use Rattle.rw_machine.specs.declared.event.How.{How}
use Rattle.rw_machine.specs.declared.event.How.TheVariants.{Busy, Plain, OutOfMemory}
use Rattle.rw_shard_core.specs.Shard.{can_send, is_answer, name_all, positions, settle, settle_names}
use Rattle.rw_series_cache.specs.Known.{Bad, Filtered, Kept, Standing, Unknown, known}
use Rattle.rw_series_cache.specs.Rising.{rises}
use Rattle.rw_plain_queue.specs.Items.{Placed}
use Rattle.rw_types.specs.Labels.{Labels, label_fault_number}
use Rattle.rw_types.specs.declared.entry.Entry.{Entry}
use Rattle.rw_types.specs.declared.entry.Entry.TheVariants.{Def, Sample}
use Rattle.rw_types.proofs.shared.Booleans.{either}
use Rattle.rw_machine.proofs.shared.Resolves.{batch_numbered}

abbrev Names : Type 0
Names = FinMap nat_cmp Reason

pub stands_left : (q : ℕ × ℕ) (xs ys : List (ℕ × ℕ)) → Stands q xs → Stands q (xs ++ ys)
stands_left q [] ys h = let never : None ≡ Some q → ⊥ = λ h. cc in absurd (never h.1)
stands_left q (x ∷ xs) ys (zero, e) = (zero, e)
stands_left q (x ∷ xs) ys (suc k, e) = let r = stands_left q xs ys (k, e) in (suc r.0, r.1)

pub stands_right : (q : ℕ × ℕ) (xs ys : List (ℕ × ℕ)) → Stands q ys → Stands q (xs ++ ys)
stands_right q [] ys h = h
stands_right q (x ∷ xs) ys h = let r = stands_right q xs ys h in (suc r.0, r.1)

pub stands_split : (q : ℕ × ℕ) (xs ys : List (ℕ × ℕ)) → Stands q (xs ++ ys) → Stands q xs ⊎ Stands q ys
stands_split q [] ys h = inr h
stands_split q (x ∷ xs) ys (zero, e) = inl (zero, e)
stands_split q (x ∷ xs) ys (suc k, e) = by_rest (stands_split q xs ys (k, e))
  where
    by_rest : Stands q xs ⊎ Stands q ys → Stands q (x ∷ xs) ⊎ Stands q ys
    by_rest (inl r) = inl (suc r.0, r.1)
    by_rest (inr r) = inr r

pub none_stands : {P : Type 0} {q : ℕ × ℕ} → Stands q [] → P
none_stands {q = q} h = let never : None ≡ Some q → ⊥ = λ h. cc in absurd (never h.1)

-- the positions of a batch with a status
abbrev with_status : ℕ → List Placed → List (ℕ × ℕ)
with_status status xs = map (λ p. (p, status)) (positions xs)

all_stand : (status : ℕ) (xs : List Placed) → AllByRecursion (λ (x : Placed). Stands (x.place.pos, status) (with_status status xs)) xs
all_stand status [] = tt
all_stand status (x ∷ xs) = ((zero, refl), AllByRecursion-weaker (λ (y : Placed). Stands (y.place.pos, status) (with_status status xs)) (λ (y : Placed). Stands (y.place.pos, status) (with_status status (x ∷ xs))) (λ y h. (suc h.0, h.1)) xs (all_stand status xs))

status_stays : (status : ℕ) (xs : List Placed) (names : Names) (p : ℕ) → get names p ≡ Some (Status status) → get (name_all status (positions xs) names) p ≡ Some (Status status)
status_stays status [] names p h = h
status_stays status (x ∷ xs) names p h = status_stays status xs (insert names x.place.pos (Status status)) p (by_case (cases_eq x.place.pos p))
  where
    by_case : (x.place.pos ≡ p) ⊎ (x.place.pos ≡ p → ⊥) → get (insert names x.place.pos (Status status)) p ≡ Some (Status status)
    by_case (inl z) = ap (get (insert names x.place.pos (Status status))) (sym z) ∙ named_own x.place.pos (Status status) names
    by_case (inr z) = named_other x.place.pos p (Status status) names z ∙ h

named_in : (status : ℕ) (xs : List Placed) (names : Names) (p s : ℕ) → Stands (p, s) (with_status status xs) → get (name_all status (positions xs) names) p ≡ Some (Status s)
named_in status [] names p s h = none_stands h
named_in status (x ∷ xs) names p s (zero, e) =
    let pair : (x.place.pos, status) ≡ (p, s) = same_Some _ _ e in
    let at : x.place.pos ≡ p = ap (λ (d : ℕ × ℕ). d.0) pair in
    let as_s : status ≡ s = ap (λ (d : ℕ × ℕ). d.1) pair in
    status_stays status xs (insert names x.place.pos (Status status)) p (ap (get (insert names x.place.pos (Status status))) (sym at) ∙ named_own x.place.pos (Status status) names) ∙ ap (λ (n : ℕ). Some (Status n)) as_s
named_in status (x ∷ xs) names p s (suc k, e) = named_in status xs (insert names x.place.pos (Status status)) p s (k, e)

status_is : (a b : ℕ) → Some (Status a) ≡ Some (Status b) → a ≡ b
status_is a b e = let same : Status a ≡ Status b = same_Some _ _ e in cc

-- a take_reply names what it refuses, and nothing else
abbrev NamesBy : ℕ → ℕ → Names → List (ℕ × ℕ) → Names → Type 0
NamesBy p s old refused new = (get new p ≡ Some (Status s) → (get old p ≡ Some (Status s)) ⊎ Stands (p, s) refused) × (Stands (p, s) refused → get new p ≡ Some (Status s))

reply_names : (w : World) (o : Option Reply) (p s : ℕ) → NamesBy p s w.names (refusal_by w o) (take_reply w o).names
reply_names w None p s = (λ h. inl h, λ h. none_stands h)
reply_names w (Some a) p s = by_shard (slice_get w.shards a.id.shard)
  where
    by_judgement : (batch : List Placed) (d : Judgement) → NamesBy p s w.names (cond (is_refused d) (with_status a.status batch) []) (settle_names d a.status batch (record { names = w.names; room = 0 })).names
    by_judgement batch Done = (λ h. inl h, λ h. none_stands h)
    by_judgement batch Again = (λ h. inl h, λ h. none_stands h)
    by_judgement batch Refused = (λ h. by_name h (named_or_not a.status (λ (q : ℕ). Stands (q, a.status) (with_status a.status batch)) batch w.names p (all_stand a.status batch)), λ h. named_in a.status batch w.names p s h)
      where
        by_name : get (name_all a.status (positions batch) w.names) p ≡ Some (Status s) → (get (name_all a.status (positions batch) w.names) p ≡ get w.names p) ⊎ ((get (name_all a.status (positions batch) w.names) p ≡ Some (Status a.status)) × Stands (p, a.status) (with_status a.status batch)) → (get w.names p ≡ Some (Status s)) ⊎ Stands (p, s) (with_status a.status batch)
        by_name h (inl same) = inl (sym same ∙ h)
        by_name h (inr new) = inr (subst (λ (n : ℕ). Stands (p, n) (with_status a.status batch)) (status_is a.status s (sym new.0 ∙ h)) new.1)

    by_guard : (u : Shard) (b : Bool) → NamesBy p s w.names (cond (b && is_refused (judgement_of a.status)) (with_status a.status u.core.batch) []) (cond b (settled w a.id.shard u a.status) w).names
    by_guard u true = by_judgement u.core.batch (judgement_of a.status)
    by_guard u false = (λ h. inl h, λ h. none_stands h)

    by_shard : (o : Option Shard) → NamesBy p s w.names (refused_positions a o) (reply_to w a o).names
    by_shard None = (λ h. inl h, λ h. none_stands h)
    by_shard (Some u) = by_guard u (is_answer a.id u.core)

-- no other event names a status
place_names : (c : Setup) (w : World) (p s : ℕ) → NamesBy p s w.names [] (place c w).names
place_names c w p s = either P (is_some w.draining) w (place_entry c w (slice_get (log w) w.placed)) (λ _. same) (λ _. by_entry (slice_get (log w) w.placed))
  where
    P : World → Type 0
    P v = NamesBy p s w.names [] v.names

    same : NamesBy p s w.names [] w.names
    same = (λ h. inl h, λ h. none_stands h)

    by_name : (reason : Reason) → (Some reason ≡ Some (Status s) → ⊥) → NamesBy p s w.names [] (insert w.names w.placed reason)
    by_name reason never = (by_case (cases_eq w.placed p), λ h. none_stands h)
      where
        by_case : (w.placed ≡ p) ⊎ (w.placed ≡ p → ⊥) → get (insert w.names w.placed reason) p ≡ Some (Status s) → (get w.names p ≡ Some (Status s)) ⊎ Stands (p, s) []
        by_case (inl z) h = absurd (never (sym (named_own w.placed reason w.names) ∙ ap (get (insert w.names w.placed reason)) z ∙ h))
        by_case (inr z) h = inl (sym (named_other w.placed p reason w.names z) ∙ h)

    by_shard : (i : ℕ) (l : Labels) (t : ℤ) (word : ℕ) (o : Option Shard) → NamesBy p s w.names [] (put_if_room c w i l t word o).names
    by_shard i l t word None = same
    by_shard i l t word (Some u) = either (λ (v : World). NamesBy p s w.names [] v.names) (has_room c.capacity u) _ w (λ _. same) (λ _. same)

    by_rising : (l : Labels) (t : ℤ) (word : ℕ) (b : Bool) → NamesBy p s w.names [] (place_kept c w l t word b).names
    by_rising l t word true = by_shard (shard_of_labels w l) l t word (slice_get w.shards (shard_of_labels w l))
    by_rising l t word false = by_name NotRising (λ h. let z : NotRising ≡ Status s = same_Some _ _ h in let never : NotRising ≡ Status s → ⊥ = λ h. cc in never z)

    by_known : (t : ℤ) (word : ℕ) (k : Standing) → NamesBy p s w.names [] (place_sample c w t word k).names
    by_known t word Unknown = by_name NoSeries (λ h. let z : NoSeries ≡ Status s = same_Some _ _ h in let never : NoSeries ≡ Status s → ⊥ = λ h. cc in never z)
    by_known t word (Bad f) = by_name (BadLabels (label_fault_number f)) (λ h. let z : BadLabels (label_fault_number f) ≡ Status s = same_Some _ _ h in let never : BadLabels (label_fault_number f) ≡ Status s → ⊥ = λ h. cc in never z)
    by_known t word Filtered = same
    by_known t word (Kept l) = by_rising l t word (rises c.choice (take w.placed (log w)) l t)

    by_entry : (o : Option Entry) → NamesBy p s w.names [] (place_entry c w o).names
    by_entry None = same
    by_entry (Some (Def r l)) = same
    by_entry (Some (Sample r t word)) = by_known t word (known c.choice (take w.placed (log w)) r)

arrive_names : (c : Setup) (w : World) (how : How) (o : Option Request) (p s : ℕ) → NamesBy p s w.names [] (arrive c w how o).names
arrive_names c w how None p s = (λ h. inl h, λ h. none_stands h)
arrive_names c w Plain (Some r) p s = (λ h. inl h, λ h. none_stands h)
arrive_names c w Busy (Some r) p s = (λ h. inl h, λ h. none_stands h)
arrive_names c w OutOfMemory (Some r) p s = (λ h. inl h, λ h. none_stands h)

send_names : (w : World) (i : ℕ) (o : Option Shard) (p s : ℕ) → NamesBy p s w.names [] (send_batch w i o).names
send_names w i None p s = (λ h. inl h, λ h. none_stands h)
send_names w i (Some u) p s = either (λ (v : World). NamesBy p s w.names [] v.names) (can_send u.core) _ w (λ _. (λ h. inl h, λ h. none_stands h)) (λ _. (λ h. inl h, λ h. none_stands h))

pub happens_names : (c : Setup) (w : World) (e : Event) (b : Bool) (p s : ℕ) → NamesBy p s w.names (refused_in w e b) (unless_over c w e b).names
happens_names c w (event.Arrive k how) b p s = arrive_names c w how (slice_get w.requests k) p s
happens_names c w (event.Feed piece) true p s = (λ h. inl h, λ h. none_stands h)
happens_names c w (event.Feed piece) false p s = either (λ (v : World). NamesBy p s w.names [] v.names) (is_some w.closed) w _ (λ _. (λ h. inl h, λ h. none_stands h)) (λ _. (λ h. inl h, λ h. none_stands h))
happens_names c w event.Place true p s = (λ h. inl h, λ h. none_stands h)
happens_names c w event.Place false p s = place_names c w p s
happens_names c w (event.Flush i) true p s = (λ h. inl h, λ h. none_stands h)
happens_names c w (event.Flush i) false p s = (λ h. inl h, λ h. none_stands h)
happens_names c w (event.Take i) true p s = (λ h. inl h, λ h. none_stands h)
happens_names c w (event.Take i) false p s = (λ h. inl h, λ h. none_stands h)
happens_names c w (event.Freeze i) true p s = (λ h. inl h, λ h. none_stands h)
happens_names c w (event.Freeze i) false p s = (λ h. inl h, λ h. none_stands h)
happens_names c w (event.Send i) true p s = (λ h. inl h, λ h. none_stands h)
happens_names c w (event.Send i) false p s = send_names w i (slice_get w.shards i) p s
happens_names c w (event.Reply k) true p s = (λ h. inl h, λ h. none_stands h)
happens_names c w (event.Reply k) false p s = reply_names w (slice_get w.replies k) p s
happens_names c w (event.Lost i) true p s = (λ h. inl h, λ h. none_stands h)
happens_names c w (event.Lost i) false p s = (λ h. inl h, λ h. none_stands h)
happens_names c w (event.Reshard n) true p s = (λ h. inl h, λ h. none_stands h)
happens_names c w (event.Reshard n) false p s = either (λ (v : World). NamesBy p s w.names [] v.names) (not (is_some w.draining) && (not (is_finished w) && (nat_le 1 n && nat_le n 1000))) _ w (λ _. (λ h. inl h, λ h. none_stands h)) (λ _. (λ h. inl h, λ h. none_stands h))
happens_names c w event.Restart true p s = (λ h. inl h, λ h. none_stands h)
happens_names c w event.Restart false p s = restart_frame (λ v. NamesBy p s w.names [] v.names) c w w.draining (λ _ _ _. (λ h. inl h, λ h. none_stands h))
happens_names c w event.Close true p s = (λ h. inl h, λ h. none_stands h)
happens_names c w event.Close false p s = either (λ (v : World). NamesBy p s w.names [] v.names) (is_some w.closed) w _ (λ _. (λ h. inl h, λ h. none_stands h)) (λ _. (λ h. inl h, λ h. none_stands h))
happens_names c w event.Kill true p s = (λ h. inl h, λ h. none_stands h)
happens_names c w event.Kill false p s = (λ h. inl h, λ h. none_stands h)

named_then : (c : Setup) (events : List Event) (w : World) (p s : ℕ) → get (run c events w).names p ≡ Some (Status s) → (get w.names p ≡ Some (Status s)) ⊎ Stands (p, s) (refusals c events w)
named_then c [] w p s h = inl h
named_then c (e ∷ es) w p s h = by_rest (named_then c es (happens c w e) p s h)
  where
    by_first : (get w.names p ≡ Some (Status s)) ⊎ Stands (p, s) (refused_in w e (is_over w)) → (get w.names p ≡ Some (Status s)) ⊎ Stands (p, s) (refusals c (e ∷ es) w)
    by_first (inl k) = inl k
    by_first (inr k) = inr (stands_left (p, s) (refused_in w e (is_over w)) (refusals c es (happens c w e)) k)

    by_rest : (get (happens c w e).names p ≡ Some (Status s)) ⊎ Stands (p, s) (refusals c es (happens c w e)) → (get w.names p ≡ Some (Status s)) ⊎ Stands (p, s) (refusals c (e ∷ es) w)
    by_rest (inl k) = by_first ((happens_names c w e (is_over w) p s).0 k)
    by_rest (inr k) = inr (stands_right (p, s) (refused_in w e (is_over w)) (refusals c es (happens c w e)) k)

-- each shard's samples by number, at its index
each_moved : (Q R : ℕ → Shard → Type 0) (f : Shard → Shard) (j : ℕ) (ss : List Shard) → Each Q ss → ((i : ℕ) (s : Shard) → (j ≡ i → ⊥) → Q i s → R i s) → ((s : Shard) → slice_get ss j ≡ Some s → Q j s → R j (f s)) → Each R (change j f ss)
each_moved Q R f j [] each rest own i s e = let no : None ≡ Some s → ⊥ = λ h. cc in absurd (no e)
each_moved Q R f zero (x ∷ xs) each rest own zero s e = let same : f x ≡ s = cc in subst (R zero) same (own x refl (each zero x refl))
each_moved Q R f zero (x ∷ xs) each rest own (suc i) s e = rest (suc i) s (λ z. omega arith) (each (suc i) s e)
each_moved Q R f (suc j) (x ∷ xs) each rest own zero s e = rest zero s (λ z. omega arith) (each zero s e)
each_moved Q R f (suc j) (x ∷ xs) each rest own (suc i) s e = each_moved (λ k. Q (suc k)) (λ k. R (suc k)) f j xs (λ k y at. each (suc k) y at) (λ k y apart q. rest (suc k) y (λ z. apart (omega arith)) q) (λ y at q. own y at q) i s e

-- A pending sample is unnamed, below what is placed, and no other pending sample has its position:
-- the position gives its shard and number.
abbrev IsUnnamed : (ℕ → ℕ × ℕ) → ℕ → Names → ℕ → ℕ → Placed → Type 0
IsUnnamed ident placed names i n x = (ident x.place.pos ≡ (i, n)) × (x.place.pos < placed) × (get names x.place.pos ≡ None)

abbrev AreUnnamed : (ℕ → ℕ × ℕ) → ℕ → Names → ℕ → Shard → Type 0
AreUnnamed ident placed names i s = Numbered (IsUnnamed ident placed names i) (length s.core.resolved) (pending_in_shard s)

pub record Unnamed (w : World) : Type 0 where
  pub ident : ℕ → ℕ × ℕ  -- the shard and the number of each position that was put
  pub numbered : Each (AreUnnamed ident w.placed w.names) w.shards
  pub fresh : (p : ℕ) → w.placed ≤ p → get w.names p ≡ None

unnamed_quiet : (w : World) (j : ℕ) (f : Shard → Shard) → ((s : Shard) → IsQuiet f s) → Unnamed w → Unnamed (changed w j f)
unnamed_quiet w j f q at = record {
  ident = at.ident;
  numbered = each_change (AreUnnamed at.ident w.placed w.names) f j w.shards at.numbered (λ s _ h. subst (λ (n : ℕ). Numbered (IsUnnamed at.ident w.placed w.names j) n (pending_in_shard (f s))) (sym (ap length ((q s).same_resolved))) (subst (Numbered (IsUnnamed at.ident w.placed w.names j) (length s.core.resolved)) (sym ((q s).same_pending)) h));
  fresh = at.fresh;
}

-- one more position
later : (w : World) (at : Unnamed w) (ident : ℕ → ℕ × ℕ) (names : Names) → ((p : ℕ) → p < w.placed → ident p ≡ at.ident p) → ((p : ℕ) → p < w.placed → get names p ≡ get w.names p) → Each (AreUnnamed ident (suc w.placed) names) w.shards
later w at ident names same_ident same_names i s e = numbered_more (IsUnnamed at.ident w.placed w.names i) (IsUnnamed ident (suc w.placed) names i) (length s.core.resolved) (pending_in_shard s) (λ k x _ h. (same_ident x.place.pos h.1 ∙ h.0, (let lt : x.place.pos < w.placed = h.1 in omega arith), same_names x.place.pos h.1 ∙ h.2)) (at.numbered i s e)

unnamed_place : (c : Setup) (w : World) → Unnamed w → Unnamed (place c w)
unnamed_place c w at = either Unnamed (is_some w.draining) w (place_entry c w (slice_get (log w) w.placed)) (λ _. at) (λ _. by_entry (slice_get (log w) w.placed))
  where
    moved : (series : List Labels) (filtered : ℕ) → Unnamed (record w { series = series; filtered = filtered; placed = suc w.placed })
    moved series filtered = record { ident = at.ident; numbered = later w at at.ident w.names (λ p _. refl) (λ p _. refl); fresh = λ p le. at.fresh p (omega arith) }

    named : (reason : Reason) → Unnamed (record w { names = insert w.names w.placed reason; placed = suc w.placed })
    named reason = record {
      ident = at.ident;
      numbered = later w at at.ident (insert w.names w.placed reason) (λ p _. refl) (λ p lt. named_other w.placed p reason w.names (λ z. omega arith));
      fresh = λ p le. named_other w.placed p reason w.names (λ z. omega arith) ∙ at.fresh p (omega arith);
    }

    by_shard : (i : ℕ) (l : Labels) (t : ℤ) (word : ℕ) (o : Option Shard) → slice_get w.shards i ≡ o → Unnamed (put_if_room c w i l t word o)
    by_shard i l t word None e = at
    by_shard i l t word (Some s) e = either Unnamed (has_room c.capacity s) _ w
        (λ _. record {
          ident = ident;
          numbered = each_change (AreUnnamed ident (suc w.placed) w.names) (shard_put (next_sample w i l t word s)) i w.shards (later w at ident w.names old (λ p _. refl))
              (λ u at_u h. subst (Numbered (IsUnnamed ident (suc w.placed) w.names i) (length u.core.resolved)) (sym (pending_put (next_sample w i l t word s) u))
              (numbered_push (IsUnnamed ident (suc w.placed) w.names i) (length u.core.resolved) (length u.core.resolved + length (pending_in_shard u)) (pending_in_shard u) (next_sample w i l t word s) refl h
              (own ∙ ap (λ (v : Shard). (i, length v.core.resolved + length (pending_in_shard v))) (same_Some _ _ (sym e ∙ at_u)), below_own, at.fresh w.placed (omega arith))));
          fresh = λ p le. at.fresh p (omega arith);
        })
        (λ _. at)
      where
        new : ℕ × ℕ
        new = (i, length s.core.resolved + length (pending_in_shard s))

        ident : ℕ → ℕ × ℕ
        ident p = cond (p == w.placed) new (at.ident p)

        old : (p : ℕ) → p < w.placed → ident p ≡ at.ident p
        old p lt = either (λ d. d ≡ at.ident p) (p == w.placed) new (at.ident p) (λ h. let same : p ≡ w.placed = (Decides-eqb p w.placed).0 h in absurd (omega arith)) (λ _. refl)

        own : ident w.placed ≡ new
        own = either (λ d. d ≡ new) (w.placed == w.placed) new (at.ident w.placed) (λ _. refl) (λ h. let no : true ≡ false → ⊥ = λ z. cc in absurd (no (sym ((Decides-eqb w.placed w.placed).1 refl) ∙ h)))

        below_own : w.placed < suc w.placed
        below_own = omega arith

    by_rising : (l : Labels) (t : ℤ) (word : ℕ) (b : Bool) → Unnamed (place_kept c w l t word b)
    by_rising l t word true = by_shard (shard_of_labels w l) l t word (slice_get w.shards (shard_of_labels w l)) refl
    by_rising l t word false = named NotRising

    by_known : (t : ℤ) (word : ℕ) (k : Standing) → Unnamed (place_sample c w t word k)
    by_known t word Unknown = named NoSeries
    by_known t word (Bad f) = named (BadLabels (label_fault_number f))
    by_known t word Filtered = moved w.series (suc w.filtered)
    by_known t word (Kept l) = by_rising l t word (rises c.choice (take w.placed (log w)) l t)

    by_entry : (o : Option Entry) → Unnamed (place_entry c w o)
    by_entry None = at
    by_entry (Some (Def r l)) = moved _ w.filtered
    by_entry (Some (Sample r t word)) = by_known t word (known c.choice (take w.placed (log w)) r)

rest_numbered : (P : ℕ → Placed → Type 0) (s : Shard) → Numbered P (length s.core.resolved) (pending_in_shard s) → Numbered P (length s.core.resolved + length s.core.batch) (pending_in_shard (shard_resolve s))
rest_numbered P s h = numbered_right P (length s.core.resolved) (length s.core.resolved + length s.core.batch) s.core.batch (pending_in_shard (shard_resolve s)) refl (subst (Numbered P (length s.core.resolved)) (sym (pending_resolve s)) h)

-- the open batch is resolved, with names for nothing that is pending in another shard or after it
unnamed_resolve : (w : World) (j : ℕ) (s : Shard) (names : Names) → slice_get w.shards j ≡ Some s → (at : Unnamed w)
    → ((i n : ℕ) (x : Placed) → (j ≡ i → length s.core.resolved + length s.core.batch ≤ n) → IsUnnamed at.ident w.placed w.names i n x → get names x.place.pos ≡ None)
    → ((p : ℕ) → w.placed ≤ p → get names p ≡ None)
    → Unnamed (record w { names = names; shards = change j shard_resolve w.shards })
unnamed_resolve w j s names e at still fresh = record {
  ident = at.ident;
  numbered = each_moved (AreUnnamed at.ident w.placed w.names) (AreUnnamed at.ident w.placed names) shard_resolve j w.shards at.numbered
      (λ i u apart h. numbered_more (IsUnnamed at.ident w.placed w.names i) (IsUnnamed at.ident w.placed names i) (length u.core.resolved) (pending_in_shard u) (λ n x _ k. (k.0, k.1, still i n x (λ z. absurd (apart z)) k)) h)
      (λ u at_u h. own u (same_Some _ _ (sym e ∙ at_u)) h);
  fresh = fresh;
}
  where
    own : (u : Shard) → s ≡ u → AreUnnamed at.ident w.placed w.names j u → AreUnnamed at.ident w.placed names j (shard_resolve u)
    own u same h =
        let bound : length s.core.resolved + length s.core.batch ≡ length u.core.resolved + length u.core.batch = ap (λ (v : Shard). length v.core.resolved + length v.core.batch) same in
        subst (λ (n : ℕ). Numbered (IsUnnamed at.ident w.placed names j) n (pending_in_shard (shard_resolve u))) (sym (length-append u.core.resolved u.core.batch))
        (numbered_more (IsUnnamed at.ident w.placed w.names j) (IsUnnamed at.ident w.placed names j) (length u.core.resolved + length u.core.batch) (pending_in_shard (shard_resolve u)) (λ n x le k. (k.0, k.1, still j n x (λ _. omega arith) k)) (rest_numbered (IsUnnamed at.ident w.placed w.names j) u h))

-- a position of the batch that is refused
abbrev IsIn : (ℕ → ℕ × ℕ) → ℕ → ℕ → ℕ → ℕ → Type 0
IsIn ident placed j end q = (m : ℕ) × (ident q ≡ (j, m)) × (m < end) × (q < placed)

unnamed_refused : (w : World) (j : ℕ) (s : Shard) (status : ℕ) → slice_get w.shards j ≡ Some s → (at : Unnamed w) → Unnamed (record w { names = name_all status (positions s.core.batch) w.names; shards = change j shard_resolve w.shards })
unnamed_refused w j s status e at = unnamed_resolve w j s (name_all status (positions s.core.batch) w.names) e at (λ i n x le h. by_name i n x le h (named x.place.pos)) (λ p le. by_far p le (named p))
  where
    end : ℕ
    end = length s.core.resolved + length s.core.batch

    batch : AllByRecursion (λ (x : Placed). IsIn at.ident w.placed j end x.place.pos) s.core.batch
    batch = numbered_all (IsUnnamed at.ident w.placed w.names j) (λ (x : Placed). IsIn at.ident w.placed j end x.place.pos) (length s.core.resolved) end s.core.batch refl (λ n x _ lt h. (n, h.0, lt, h.1)) (batch_numbered (IsUnnamed at.ident w.placed w.names j) s (at.numbered j s e))

    named : (p : ℕ) → (get (name_all status (positions s.core.batch) w.names) p ≡ get w.names p) ⊎ ((get (name_all status (positions s.core.batch) w.names) p ≡ Some (Status status)) × IsIn at.ident w.placed j end p)
    named p = named_or_not status (IsIn at.ident w.placed j end) s.core.batch w.names p batch

    by_name : (i n : ℕ) (x : Placed) → (j ≡ i → end ≤ n) → IsUnnamed at.ident w.placed w.names i n x → (get (name_all status (positions s.core.batch) w.names) x.place.pos ≡ get w.names x.place.pos) ⊎ ((get (name_all status (positions s.core.batch) w.names) x.place.pos ≡ Some (Status status)) × IsIn at.ident w.placed j end x.place.pos) → get (name_all status (positions s.core.batch) w.names) x.place.pos ≡ None
    by_name i n x le h (inl same) = same ∙ h.2
    by_name i n x le h (inr new) =
        let both : (j, new.1.0) ≡ (i, n) = sym new.1.1 ∙ h.0 in
        let shard : j ≡ i = ap (λ (d : ℕ × ℕ). d.0) both in
        let number : new.1.0 ≡ n = ap (λ (d : ℕ × ℕ). d.1) both in
        let lt : new.1.0 < end = new.1.2 in
        let past : end ≤ n = le shard in
        absurd (omega arith)

    by_far : (p : ℕ) → w.placed ≤ p → (get (name_all status (positions s.core.batch) w.names) p ≡ get w.names p) ⊎ ((get (name_all status (positions s.core.batch) w.names) p ≡ Some (Status status)) × IsIn at.ident w.placed j end p) → get (name_all status (positions s.core.batch) w.names) p ≡ None
    by_far p le (inl same) = same ∙ at.fresh p le
    by_far p le (inr new) = let lt : p < w.placed = new.1.3 in absurd (omega arith)

unnamed_reply : (w : World) (o : Option Reply) → Unnamed w → Unnamed (take_reply w o)
unnamed_reply w None at = at
unnamed_reply w (Some a) at = by_shard (slice_get w.shards a.id.shard) refl
  where
    by_judgement : (s : Shard) → slice_get w.shards a.id.shard ≡ Some s → (d : Judgement) → Unnamed (record w { names = (settle_names d a.status s.core.batch (record { names = w.names; room = 0 })).names; shards = change a.id.shard (with_core (settle d)) w.shards })
    by_judgement s e Done = unnamed_resolve w a.id.shard s w.names e at (λ i n x _ h. h.2) at.fresh
    by_judgement s e Refused = unnamed_refused w a.id.shard s a.status e at
    by_judgement s e Again = unnamed_quiet w a.id.shard shard_again quiet_again at

    by_shard : (o : Option Shard) → slice_get w.shards a.id.shard ≡ o → Unnamed (reply_to w a o)
    by_shard None e = at
    by_shard (Some s) e = either Unnamed (is_answer a.id s.core) (settled w a.id.shard s a.status) w (λ _. by_judgement s e (judgement_of a.status)) (λ _. at)

pub unnamed_act : (c : Setup) (w : World) (e : Event) → Unnamed w → Unnamed (act c w e)
unnamed_act c w (event.Feed piece) at = either Unnamed (is_some w.closed) w _ (λ _. at) (λ _. record { ident = at.ident; numbered = at.numbered; fresh = at.fresh })
unnamed_act c w event.Place at = unnamed_place c w at
unnamed_act c w (event.Flush i) at = unnamed_quiet w i (flush_shard c w) (quiet_flush c w) at
unnamed_act c w (event.Take i) at = unnamed_quiet w i shard_take quiet_take at
unnamed_act c w (event.Freeze i) at = unnamed_quiet w i shard_freeze quiet_freeze at
unnamed_act c w (event.Send i) at = by_shard (slice_get w.shards i)
  where
    sent : Unnamed (changed w i shard_send)
    sent = unnamed_quiet w i shard_send quiet_send at

    by_shard : (o : Option Shard) → Unnamed (send_batch w i o)
    by_shard None = at
    by_shard (Some s) = either Unnamed (can_send s.core) _ w (λ _. record { ident = sent.ident; numbered = sent.numbered; fresh = sent.fresh }) (λ _. at)
unnamed_act c w (event.Arrive k how) at = by_request how (slice_get w.requests k)
  where
    by_request : (how : How) (o : Option Request) → Unnamed (arrive c w how o)
    by_request how None = at
    by_request Plain (Some r) = record { ident = at.ident; numbered = at.numbered; fresh = at.fresh }
    by_request Busy (Some r) = record { ident = at.ident; numbered = at.numbered; fresh = at.fresh }
    by_request OutOfMemory (Some r) = record { ident = at.ident; numbered = at.numbered; fresh = at.fresh }
unnamed_act c w (event.Reply k) at = unnamed_reply w (slice_get w.replies k) at
unnamed_act c w (event.Lost i) at = unnamed_quiet w i shard_lost quiet_lost at
unnamed_act c w (event.Reshard n) at = either Unnamed (not (is_some w.draining) && (not (is_finished w) && (nat_le 1 n && nat_le n 1000))) _ w (λ _. record { ident = at.ident; numbered = at.numbered; fresh = at.fresh }) (λ _. at)
unnamed_act c w event.Restart at = by_draining w.draining
  where
    by_draining : (o : Option ℕ) → Unnamed (restart_as c w o)
    by_draining None = at
    by_draining (Some n) = either Unnamed (not (is_finished w) && all_drained w) _ w (λ _. record { ident = at.ident; numbered = each_new (AreUnnamed at.ident w.placed w.names) c (suc w.epoch) 0 (λ _. tt) n; fresh = at.fresh }) (λ _. at)
unnamed_act c w event.Close at = either Unnamed (is_some w.closed) w _ (λ _. at) (λ _. record { ident = at.ident; numbered = at.numbered; fresh = at.fresh })
unnamed_act c w event.Kill at = record { ident = at.ident; numbered = at.numbered; fresh = at.fresh }

pub unnamed_begins : (c : Setup) → Unnamed (start c)
unnamed_begins c = record { ident = λ p. (0, 0); numbered = each_new (AreUnnamed (λ p. (0, 0)) 0 (start c).names) c 0 0 (λ _. tt) c.shards; fresh = λ p _. get-empty nat_cmp p }

pub unnamed_at : (c : Setup) (events : List Event) → Unnamed (run c events (start c))
unnamed_at c events = always Unnamed c (unnamed_act c) events (start c) (unnamed_begins c)

-- a name stays
module _ (c : Setup) (p : ℕ) (r : Reason) where
  abbrev Named : World → Type 0
  Named w = get w.names p ≡ Some r

  stays_place : (w : World) → Unnamed w → Named w → Named (place c w)
  stays_place w at q = either Named (is_some w.draining) w (place_entry c w (slice_get (log w) w.placed)) (λ _. q) (λ _. by_entry (slice_get (log w) w.placed))
    where
      apart : w.placed ≡ p → ⊥
      apart e = let z : None ≡ Some r = sym (at.fresh w.placed (omega arith)) ∙ ap (get w.names) e ∙ q in let never : None ≡ Some r → ⊥ = λ h. cc in never z

      by_shard : (i : ℕ) (l : Labels) (t : ℤ) (word : ℕ) (o : Option Shard) → Named (put_if_room c w i l t word o)
      by_shard i l t word None = q
      by_shard i l t word (Some u) = either Named (has_room c.capacity u) _ w (λ _. q) (λ _. q)

      by_rising : (l : Labels) (t : ℤ) (word : ℕ) (b : Bool) → Named (place_kept c w l t word b)
      by_rising l t word true = by_shard (shard_of_labels w l) l t word (slice_get w.shards (shard_of_labels w l))
      by_rising l t word false = named_other w.placed p NotRising w.names apart ∙ q

      by_known : (t : ℤ) (word : ℕ) (k : Standing) → Named (place_sample c w t word k)
      by_known t word Unknown = named_other w.placed p NoSeries w.names apart ∙ q
      by_known t word (Bad f) = named_other w.placed p (BadLabels (label_fault_number f)) w.names apart ∙ q
      by_known t word Filtered = q
      by_known t word (Kept l) = by_rising l t word (rises c.choice (take w.placed (log w)) l t)

      by_entry : (o : Option Entry) → Named (place_entry c w o)
      by_entry None = q
      by_entry (Some (Def k l)) = q
      by_entry (Some (Sample k t word)) = by_known t word (known c.choice (take w.placed (log w)) k)

  stays_reply : (w : World) (o : Option Reply) → Unnamed w → Named w → Named (take_reply w o)
  stays_reply w None at q = q
  stays_reply w (Some a) at q = by_shard (slice_get w.shards a.id.shard) refl
    where
      apart : (u : Shard) → slice_get w.shards a.id.shard ≡ Some u → AllByRecursion (λ (x : Placed). x.place.pos ≡ p → ⊥) u.core.batch
      apart u e = numbered_all (IsUnnamed at.ident w.placed w.names a.id.shard) (λ (x : Placed). x.place.pos ≡ p → ⊥) (length u.core.resolved) (length u.core.resolved + length u.core.batch) u.core.batch refl
          (λ n x _ _ h same. let z : None ≡ Some r = sym h.2 ∙ ap (get w.names) same ∙ q in let never : None ≡ Some r → ⊥ = λ h. cc in never z)
          (batch_numbered (IsUnnamed at.ident w.placed w.names a.id.shard) u (at.numbered a.id.shard u e))

      by_name : (u : Shard) → (get (name_all a.status (positions u.core.batch) w.names) p ≡ get w.names p) ⊎ ((get (name_all a.status (positions u.core.batch) w.names) p ≡ Some (Status a.status)) × (p ≡ p → ⊥)) → get (name_all a.status (positions u.core.batch) w.names) p ≡ Some r
      by_name u (inl same) = same ∙ q
      by_name u (inr new) = absurd (new.1 refl)

      by_judgement : (u : Shard) → slice_get w.shards a.id.shard ≡ Some u → (d : Judgement) → get (settle_names d a.status u.core.batch (record { names = w.names; room = 0 })).names p ≡ Some r
      by_judgement u e Done = q
      by_judgement u e Again = q
      by_judgement u e Refused = by_name u (named_or_not a.status (λ (k : ℕ). k ≡ p → ⊥) u.core.batch w.names p (apart u e))

      by_shard : (o : Option Shard) → slice_get w.shards a.id.shard ≡ o → Named (reply_to w a o)
      by_shard None e = q
      by_shard (Some u) e = either Named (is_answer a.id u.core) (settled w a.id.shard u a.status) w (λ _. by_judgement u e (judgement_of a.status)) (λ _. q)

  pub stays_act : (w : World) (e : Event) → Unnamed w → Named w → Named (act c w e)
  stays_act w (event.Feed piece) at q = either Named (is_some w.closed) w _ (λ _. q) (λ _. q)
  stays_act w event.Place at q = stays_place w at q
  stays_act w (event.Flush i) at q = q
  stays_act w (event.Take i) at q = q
  stays_act w (event.Freeze i) at q = q
  stays_act w (event.Send i) at q = by_shard (slice_get w.shards i)
    where
      by_shard : (o : Option Shard) → Named (send_batch w i o)
      by_shard None = q
      by_shard (Some u) = either Named (can_send u.core) _ w (λ _. q) (λ _. q)
  stays_act w (event.Arrive k how) at q = by_request how (slice_get w.requests k)
    where
      by_request : (how : How) (o : Option Request) → Named (arrive c w how o)
      by_request how None = q
      by_request Plain (Some v) = q
      by_request Busy (Some v) = q
      by_request OutOfMemory (Some v) = q
  stays_act w (event.Reply k) at q = stays_reply w (slice_get w.replies k) at q
  stays_act w (event.Lost i) at q = q
  stays_act w (event.Reshard n) at q = either Named (not (is_some w.draining) && (not (is_finished w) && (nat_le 1 n && nat_le n 1000))) _ w (λ _. q) (λ _. q)
  stays_act w event.Restart at q = restart_frame Named c w w.draining (λ _ _ _. q)
  stays_act w event.Close at q = either Named (is_some w.closed) w _ (λ _. q) (λ _. q)
  stays_act w event.Kill at q = q

  stays : (events : List Event) (w : World) → Unnamed w → Named w → Named (run c events w)
  stays events w at q = (always (λ v. Unnamed v × Named v) c (λ v e h. (unnamed_act c v e h.0, stays_act v e h.0 h.1)) events w (at, q)).1

then_named : (c : Setup) (events : List Event) (w : World) (p s : ℕ) → Unnamed w → Stands (p, s) (refusals c events w) → get (run c events w).names p ≡ Some (Status s)
then_named c [] w p s at h = none_stands h
then_named c (e ∷ es) w p s at h = by_place (then_named c es (happens c w e) p s next) (stands_split (p, s) (refused_in w e (is_over w)) (refusals c es (happens c w e)) h)
  where
    next : Unnamed (happens c w e)
    next = unless Unnamed c w e (is_over w) at (unnamed_act c w e at)

    by_place : (Stands (p, s) (refusals c es (happens c w e)) → get (run c es (happens c w e)).names p ≡ Some (Status s)) → Stands (p, s) (refused_in w e (is_over w)) ⊎ Stands (p, s) (refusals c es (happens c w e)) → get (run c es (happens c w e)).names p ≡ Some (Status s)
    by_place rest (inl k) = stays c p (Status s) es (happens c w e) next ((happens_names c w e (is_over w) p s).1 k)
    by_place rest (inr k) = rest k

pub names_refusals : (c : Setup) (events : List Event) → NamesRefusals c events
names_refusals c events p s = (λ h. at_start (named_then c events (start c) p s h), λ h. then_named c events (start c) p s (unnamed_begins c) h)
  where
    at_start : (get (start c).names p ≡ Some (Status s)) ⊎ Stands (p, s) (refusals c events (start c)) → Stands (p, s) (refusals c events (start c))
    at_start (inl h) = let never : None ≡ Some (Status s) → ⊥ = λ h. cc in absurd (never (sym (get-empty nat_cmp p) ∙ h))
    at_start (inr h) = h
