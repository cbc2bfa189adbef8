-- The names and the requests of the machine stay tallied.
use Rattle.std.proofs.Common.{◌≡◌, ◌⊎◌, inl, inr, ◌&&◌, ◌==◌, ℕ, suc, ◌<◌, Bool, true, false, cond, List, [], ◌∷◌, ◌++◌, filter, fold, map, Option, None, Some, Result, Ok, Err, refl, sym, ap, ◌∙◌, subst, append-nil, arith}
use Rattle.std.specs.List.{AllByRecursion}
use Rattle.std.specs.Ordering.{nat_cmp}
use Rattle.std.specs.FinMap.{FinMap, empty, get, get-empty, insert}
use Rattle.std.proofs.lemmas.Bool.{eq-eqb, ne_eqb, and_right, and_from}
use Rattle.std.proofs.lemmas.Bool.Decides.{eqb_tells}
use Rattle.std.proofs.lemmas.List.Elements.{filter-append}
use Rattle.std.proofs.lemmas.List.Sums.{fold-append}
use Rattle.std.proofs.lemmas.Option.{none-some}
use Rattle.rw_types.specs.declared.entry.Entry.{Entry}
use Rattle.rw_types.proofs.shared.AllLemmas.{AllByRecursion-append, AllByRecursion-weaker}
use Rattle.rw_types.proofs.shared.GatherLemmas.{gather-push}
use Rattle.rw_ledger.specs.declared.ledger.Reason.{Reason}
use Rattle.rw_ledger.specs.declared.ledger.Reason.TheVariants.{Status}
use Rattle.rw_retry.specs.Judgements.{judgement_of}
use Rattle.rw_retry.specs.declared.judgement.Judgement.{Judgement}
use Rattle.rw_retry.specs.declared.judgement.Judgement.TheVariants.{Done, Again, Refused}
use Rattle.rw_plain_queue.specs.Items.{Placed}
use Rattle.rw_shard_core.specs.Shard.{Core, name_all, positions, settle_names}
use Rattle.rw_worker.specs.declared.transport.Reply.{Reply}
use Rattle.rw_worker.specs.declared.transport.Lost.{Lost}
use Rattle.rw_worker.specs.Steps.{Working, Step, Takes, Freezes, Sends, Waits, after_step}
use Rattle.rw_sender.specs.Logs.{named, dropped, dropped_of, with_name}
use Rattle.rw_machine.specs.Worlds.{Setup, Request, World, start}
use Rattle.rw_machine.proofs.shared.Lists as lists
use Rattle.rw_machine.proofs.shared.Names.{ledger_insert}
use Rattle.rw_machine.proofs.shared.Named.{Unnamed, unnamed_act, unnamed_begins}
use Rattle.rw_machine.proofs.shared.Views.{Ledger}
use Rattle.rw_simulation.specs.Freely.{Happening, run_freely}
use Rattle.rw_simulation.specs.WorkerRuns.{IsIdOf, answer_names, step_names, steps_names, sent_bytes}
use Rattle.rw_simulation.specs.Tallies.{Past, requests_of, IsNamedSo, IsOwned, IsReached, IsTallied}
use Rattle.rw_simulation.proofs.Changes.{run-append}
use Rattle.rw_simulation.proofs.FreeLaws.{keeps-lists}
use Rattle.rw_simulation.proofs.FreeNames.{always_freely, stays-named, unnamed_answer}

abbrev pub Names : Type 0
Names = FinMap nat_cmp Reason

-- the first of two, if there is one
abbrev pub or_else : Option Reason → Option Reason → Option Reason
or_else (Some r) x = Some r
or_else None x = x

or_assoc : (a b x : Option Reason) → or_else a (or_else b x) ≡ or_else (or_else a b) x
or_assoc (Some r) b x = refl
or_assoc None b x = refl

-- ---- what a position is named anew, whatever the names were
abbrev Renames : (Names → Names) → ℕ → Type 0
Renames f p = (o : Option Reason) × ((m : Names) → get (f m) p ≡ or_else o (get m p))

same_names : (p : ℕ) → Renames (λ m. m) p
same_names p = (None, λ m. refl)

one_after : (f g : Names → Names) (p : ℕ) → Renames f p → Renames g p → Renames (λ m. g (f m)) p
one_after f g p (a, h) (b, k) = (or_else b a, λ m. k (f m) ∙ ap (or_else b) (h m) ∙ or_assoc b a (get m p))

insert-renames : (q : ℕ) (r : Reason) (p : ℕ) → Renames (λ m. insert m q r) p
insert-renames q r p = (cond (q == p) (Some r) None, λ m. ap (λ (l : Ledger). l p) (ledger_insert m q r) ∙ by_place (q == p) (get m p))
  where
    by_place : (b : Bool) (x : Option Reason) → cond b (Some r) x ≡ or_else (cond b (Some r) None) x
    by_place true x = refl
    by_place false x = refl

name_all-renames : (status : ℕ) (qs : List ℕ) (p : ℕ) → Renames (name_all status qs) p
name_all-renames status [] p = same_names p
name_all-renames status (q ∷ qs) p = one_after (λ m. insert m q (Status status)) (name_all status qs) p (insert-renames q (Status status) p) (name_all-renames status qs p)

settle-renames : (j : Judgement) (status : ℕ) (batch : List Placed) (p : ℕ) → Renames (λ m. (settle_names j status batch (record { names = m; room = 0 })).names) p
settle-renames Done status batch p = same_names p
settle-renames Again status batch p = same_names p
settle-renames Refused status batch p = name_all-renames status (positions batch) p

step-renames : (s : Step) (c : Core) (p : ℕ) → Renames (step_names s c) p
step-renames (Takes x) c p = same_names p
step-renames Freezes c p = same_names p
step-renames Waits c p = same_names p
step-renames (Sends e) c p = by_answer e.answer
  where
    by_answer : (a : Result Reply Lost) → Renames (answer_names a c.batch) p
    by_answer (Ok r) = settle-renames (judgement_of r.status) r.status c.batch p
    by_answer (Err lost) = same_names p

pub steps-rename : (ss : List Step) (w : Working) (p : ℕ) → Renames (steps_names ss w) p
steps-rename [] w p = same_names p
steps-rename (s ∷ ss) w p = one_after (step_names s w.core) (steps_names ss (after_step s w)) p (step-renames s w.core p) (steps-rename ss (after_step s w) p)

drops-rename : (ds : List (ℕ × Reason)) (p : ℕ) → Renames (λ m. fold with_name m ds) p
drops-rename [] p = same_names p
drops-rename (d ∷ ds) p = one_after (λ m. with_name m d) (λ m. fold with_name m ds) p (insert-renames d.0 d.1 p) (drops-rename ds p)

-- the same positions are named anew in two lists of names
abbrev pub GrowAlike : (old new was now : Names) → Type 0
GrowAlike old new was now = (p : ℕ) → (o : Option Reason) × (get new p ≡ or_else o (get old p)) × (get now p ≡ or_else o (get was p))

pub alike-self : (old was : Names) → GrowAlike old old was was
alike-self old was p = (None, refl, refl)

pub alike-by : (ss : List Step) (w : Working) (old was : Names) → GrowAlike old (steps_names ss w old) was (steps_names ss w was)
alike-by ss w old was p = let u = steps-rename ss w p in (u.0, u.1 old, u.1 was)

-- ---- the requests of a shard
filter-all : (p : Request → Bool) (rs : List Request) → AllByRecursion (λ r. p r ≡ true) rs → filter p rs ≡ rs
filter-all p [] h = refl
filter-all p (r ∷ rs) h = ap (λ b. cond b (r ∷ filter p rs) (filter p rs)) h.0 ∙ ap (λ xs. r ∷ xs) (filter-all p rs h.1)

filter-none : (p : Request → Bool) (rs : List Request) → AllByRecursion (λ r. p r ≡ false) rs → filter p rs ≡ []
filter-none p [] h = refl
filter-none p (r ∷ rs) h = ap (λ b. cond b (r ∷ filter p rs) (filter p rs)) h.0 ∙ filter-none p rs h.1

abbrev is_of : ℕ → ℕ → Request → Bool
is_of epoch k r = (r.id.epoch == epoch) && (r.id.shard == k)

-- those of the shard itself
pub own-requests : (epoch k : ℕ) (rs more : List Request) → AllByRecursion (IsIdOf epoch k) more → requests_of epoch k (rs ++ more) ≡ requests_of epoch k rs ++ more
own-requests epoch k rs more ids =
    filter-append (is_of epoch k) rs more
    ∙ ap (λ xs. requests_of epoch k rs ++ xs) (filter-all (is_of epoch k) more (AllByRecursion-weaker (IsIdOf epoch k) (λ r. is_of epoch k r ≡ true) (λ r h. and_from (r.id.epoch == epoch) (r.id.shard == k) (eq-eqb r.id.epoch epoch h.0) (eq-eqb r.id.shard k h.1)) more ids))

-- those of another shard, or of another epoch
none-of : (e j epoch k : ℕ) (rs more : List Request) → ((r : Request) → IsIdOf epoch k r → is_of e j r ≡ false) → AllByRecursion (IsIdOf epoch k) more → requests_of e j (rs ++ more) ≡ requests_of e j rs
none-of e j epoch k rs more apart ids =
    filter-append (is_of e j) rs more
    ∙ ap (λ xs. requests_of e j rs ++ xs) (filter-none (is_of e j) more (AllByRecursion-weaker (IsIdOf epoch k) (λ r. is_of e j r ≡ false) apart more ids))
    ∙ append-nil (requests_of e j rs)

pub other-requests : (epoch j k : ℕ) (rs more : List Request) → (j ≡ k → ⊥) → AllByRecursion (IsIdOf epoch k) more → requests_of epoch j (rs ++ more) ≡ requests_of epoch j rs
other-requests epoch j k rs more differ ids = none-of epoch j epoch k rs more (λ r h. and_right (r.id.epoch == epoch) (r.id.shard == j) (ne_eqb r.id.shard j (λ same. differ (sym same ∙ h.1)))) ids

not_same : (a b c : ℕ) → a < c → b ≡ c → b ≡ a → ⊥
not_same a b c lt e h = omega arith

earlier-requests : (e j epoch k : ℕ) (rs more : List Request) → e < epoch → AllByRecursion (IsIdOf epoch k) more → requests_of e j (rs ++ more) ≡ requests_of e j rs
earlier-requests e j epoch k rs more lt ids = none-of e j epoch k rs more (λ r h. ap (λ b. b && (r.id.shard == j)) (ne_eqb r.id.epoch e (not_same e r.id.epoch epoch lt h.0))) ids

pub later-requests : (past : Past) (epoch n k : ℕ) (rs : List Request) → AllByRecursion (IsOwned past epoch n) rs → requests_of (suc epoch) k rs ≡ []
later-requests past epoch n k rs owned = filter-none (is_of (suc epoch) k) rs (AllByRecursion-weaker (IsOwned past epoch n) (λ r. is_of (suc epoch) k r ≡ false) (λ r h. ap (λ b. b && (r.id.shard == k)) (ne_eqb r.id.epoch (suc epoch) (earlier r h))) rs owned)
  where
    below : (a b : ℕ) → a < b → a ≡ suc b → ⊥
    below a b lt e = omega arith

    own : (a b : ℕ) → a ≡ b → a ≡ suc b → ⊥
    own a b h e = omega arith

    earlier : (r : Request) → IsOwned past epoch n r → r.id.epoch ≡ suc epoch → ⊥
    earlier r (inl h) = below r.id.epoch epoch h.0
    earlier r (inr h) = own r.id.epoch epoch h.0

-- ---- a free schedule
pub on : (c : Setup) (w v : World) (hs : List Happening) → IsReached c w → run_freely c hs w ≡ v → IsReached c v
on c w v hs r is = (r.0 ++ hs, run-append c r.0 hs (start c) ∙ ap (run_freely c hs) r.1 ∙ is)

pub lists-at : (c : Setup) (w : World) → IsReached c w → lists.All c w
lists-at c w r = subst (lists.All c) r.1 (keeps-lists c r.0 (start c) (lists.all_start c))

-- a name stays
name-stays : (c : Setup) (w v : World) (hs : List Happening) (p : ℕ) (reason : Reason) → IsReached c w → run_freely c hs w ≡ v → get w.names p ≡ Some reason → get v.names p ≡ Some reason
name-stays c w v hs p reason r is h = subst (λ (u : World). get u.names p ≡ Some reason) is (stays-named c p reason hs w unnamed h)
  where
    unnamed : Unnamed w
    unnamed = subst Unnamed r.1 (always_freely Unnamed c (unnamed_act c) unnamed_answer r.0 (start c) (unnamed_begins c))

-- ---- the parts, with one that has changed
abbrev pub with_part : ℕ → Names → (ℕ → Names) → ℕ → Names
with_part k now parts j = cond (j == k) now (parts j)

pub part-own : (k : ℕ) (now : Names) (parts : ℕ → Names) → with_part k now parts k ≡ now
part-own k now parts = ap (λ b. cond b now (parts k)) (eq-eqb k k refl)

pub part-other : (k : ℕ) (now : Names) (parts : ℕ → Names) (j : ℕ) → (j ≡ k → ⊥) → with_part k now parts j ≡ parts j
part-other k now parts j differ = ap (λ b. cond b now (parts j)) (ne_eqb j k differ)

module _ (c : Setup) (past : Past) (epoch n : ℕ) where
  -- a shard has worked
  module _ (before : List Entry) (parts : ℕ → Names) (w v : World) (hs : List Happening) (k : ℕ) (was now : Names) (more : List Request) (t : IsTallied c past epoch n before parts w) (is : run_freely c hs w ≡ v) (lt : k < n)
      (same : was ≡ parts k) (requests : v.requests ≡ w.requests ++ more) (ids : AllByRecursion (IsIdOf epoch k) more) (grow : GrowAlike w.names v.names was now) where
    abbrev So : ℕ → Reason → Type 0
    So = IsNamedSo c past n before (with_part k now parts)

    own_now : (p : ℕ) (reason : Reason) → get now p ≡ Some reason → get (with_part k now parts k) p ≡ Some reason
    own_now p reason h = ap (λ (m : Names). get m p) (part-own k now parts) ∙ h

    named_by : (p : ℕ) (reason : Reason) → get v.names p ≡ Some reason → (o : Option Reason) → get v.names p ≡ or_else o (get w.names p) → get now p ≡ or_else o (get was p) → So p reason
    named_by p reason h (Some x) a b = inr (inr (k, lt, own_now p reason (b ∙ sym a ∙ h)))
    named_by p reason h None a b = by_source (t.named p reason (sym a ∙ h))
      where
        by_shard : (j : ℕ) → j < n → get (parts j) p ≡ Some reason → (((j == k) ≡ true) × (j ≡ k)) ⊎ (((j == k) ≡ false) × (j ≡ k → ⊥)) → So p reason
        by_shard j lj e (inl d) = inr (inr (k, lt, own_now p reason (b ∙ ap (λ (m : Names). get m p) (same ∙ ap parts (sym d.1)) ∙ e)))
        by_shard j lj e (inr d) = inr (inr (j, lj, ap (λ (m : Names). get m p) (part-other k now parts j d.1) ∙ e))

        by_source : IsNamedSo c past n before parts p reason → So p reason
        by_source (inl own) = inl own
        by_source (inr (inl old)) = inr (inl old)
        by_source (inr (inr (j, lj, e))) = by_shard j lj e (eqb_tells j k)

    stays : (p : ℕ) (reason : Reason) → get w.names p ≡ Some reason → get v.names p ≡ Some reason
    stays p reason h = name-stays c w v hs p reason t.reached is h

    names_by : (p : ℕ) (reason : Reason) → So p reason → get v.names p ≡ Some reason
    names_by p reason (inl own) = stays p reason (t.names p reason (inl own))
    names_by p reason (inr (inl old)) = stays p reason (t.names p reason (inr (inl old)))
    names_by p reason (inr (inr (j, lj, e))) = by_shard (eqb_tells j k)
      where
        by_growth : get now p ≡ Some reason → (o : Option Reason) → get v.names p ≡ or_else o (get w.names p) → get now p ≡ or_else o (get was p) → get v.names p ≡ Some reason
        by_growth h (Some x) a b = a ∙ sym b ∙ h
        by_growth h None a b = a ∙ t.names p reason (inr (inr (k, lt, ap (λ (m : Names). get m p) (sym same) ∙ sym b ∙ h)))

        by_shard : (((j == k) ≡ true) × (j ≡ k)) ⊎ (((j == k) ≡ false) × (j ≡ k → ⊥)) → get v.names p ≡ Some reason
        by_shard (inl d) = by_growth (ap (λ (m : Names). get m p) (sym (part-own k now parts) ∙ ap (with_part k now parts) (sym d.1)) ∙ e) (grow p).0 (grow p).1 (grow p).2
        by_shard (inr d) = stays p reason (t.names p reason (inr (inr (j, lj, ap (λ (m : Names). get m p) (sym (part-other k now parts j d.1)) ∙ e))))

    pub tallied-shard : IsTallied c past epoch n before (with_part k now parts) v
    tallied-shard = record {
      reached = on c w v hs t.reached is;
      named = λ p reason h. named_by p reason h (grow p).0 (grow p).1 (grow p).2;
      names = names_by;
      sent = λ e j bytes h. let old = t.sent e j bytes h in (old.0, ap (λ rs. map sent_bytes (requests_of e j rs)) requests ∙ ap (map sent_bytes) (earlier-requests e j epoch k w.requests more old.0 ids) ∙ old.1);
      owned = subst (AllByRecursion (IsOwned past epoch n)) (sym requests) (AllByRecursion-append (IsOwned past epoch n) w.requests more t.owned (AllByRecursion-weaker (IsIdOf epoch k) (IsOwned past epoch n) (λ r h. inr (h.0, subst (λ (m : ℕ). m < n) (sym h.1) lt)) more ids));
    }

  -- nothing was named or sent
  pub tallied-still : (before : List Entry) (parts : ℕ → Names) (w v : World) (hs : List Happening) → IsTallied c past epoch n before parts w → run_freely c hs w ≡ v → v.names ≡ w.names → v.requests ≡ w.requests → IsTallied c past epoch n before parts v
  tallied-still before parts w v hs t is names requests = record {
    reached = on c w v hs t.reached is;
    named = λ p reason h. t.named p reason (ap (λ (m : Names). get m p) (sym names) ∙ h);
    names = λ p reason h. ap (λ (m : Names). get m p) names ∙ t.names p reason h;
    sent = λ e j bytes h. let old = t.sent e j bytes h in (old.0, ap (λ rs. map sent_bytes (requests_of e j rs)) requests ∙ old.1);
    owned = subst (AllByRecursion (IsOwned past epoch n)) (sym requests) t.owned;
  }

  -- an entry was placed, and named if it is dropped
  module _ (before : List Entry) (e : Entry) (parts : ℕ → Names) (w v : World) (hs : List Happening) (t : IsTallied c past epoch n before parts w) (is : run_freely c hs w ≡ v) (requests : v.requests ≡ w.requests)
      (names : v.names ≡ fold with_name w.names (dropped_of c.choice before e)) where
    abbrev Later : ℕ → Reason → Type 0
    Later = IsNamedSo c past n (before ++ e ∷ []) parts

    own_names : named (dropped c.choice (before ++ e ∷ [])) ≡ fold with_name (named (dropped c.choice before)) (dropped_of c.choice before e)
    own_names = ap named (gather-push (dropped_of c.choice) before e) ∙ fold-append with_name empty (dropped c.choice before) (dropped_of c.choice before e)

    entry_grows : GrowAlike w.names v.names (named (dropped c.choice before)) (named (dropped c.choice (before ++ e ∷ [])))
    entry_grows p = let u = drops-rename (dropped_of c.choice before e) p in (u.0, ap (λ (m : Names). get m p) names ∙ u.1 w.names, ap (λ (m : Names). get m p) own_names ∙ u.1 (named (dropped c.choice before)))

    entry_named : (p : ℕ) (reason : Reason) → get v.names p ≡ Some reason → (o : Option Reason) → get v.names p ≡ or_else o (get w.names p) → get (named (dropped c.choice (before ++ e ∷ []))) p ≡ or_else o (get (named (dropped c.choice before)) p) → Later p reason
    entry_named p reason h (Some x) a b = inl (b ∙ sym a ∙ h)
    entry_named p reason h None a b = by_source (t.named p reason (sym a ∙ h))
      where
        by_source : IsNamedSo c past n before parts p reason → Later p reason
        by_source (inl own) = inl (b ∙ own)
        by_source (inr rest) = inr rest

    entry_names : (p : ℕ) (reason : Reason) → Later p reason → get v.names p ≡ Some reason
    entry_names p reason (inr rest) = name-stays c w v hs p reason t.reached is (t.names p reason (inr rest))
    entry_names p reason (inl own) = by_growth (entry_grows p).0 (entry_grows p).1 (entry_grows p).2
      where
        by_growth : (o : Option Reason) → get v.names p ≡ or_else o (get w.names p) → get (named (dropped c.choice (before ++ e ∷ []))) p ≡ or_else o (get (named (dropped c.choice before)) p) → get v.names p ≡ Some reason
        by_growth (Some x) a b = a ∙ sym b ∙ own
        by_growth None a b = a ∙ t.names p reason (inl (sym b ∙ own))

    pub tallied-entry : IsTallied c past epoch n (before ++ e ∷ []) parts v
    tallied-entry = record {
      reached = on c w v hs t.reached is;
      named = λ p reason h. entry_named p reason h (entry_grows p).0 (entry_grows p).1 (entry_grows p).2;
      names = entry_names;
      sent = λ e j bytes h. let old = t.sent e j bytes h in (old.0, ap (λ rs. map sent_bytes (requests_of e j rs)) requests ∙ old.1);
      owned = subst (AllByRecursion (IsOwned past epoch n)) (sym requests) t.owned;
    }

  -- ---- the epoch is over
  -- what is known with it: its shards have these parts, and sent this
  pub record Passes (next : Past) (parts : ℕ → Names) (sent : ℕ → List (List ℕ)) : Type 0 where
    pub named : (p : ℕ) (reason : Reason) → past.named p reason ⊎ ((k : ℕ) × (k < n) × (get (parts k) p ≡ Some reason)) → next.named p reason
    pub names : (p : ℕ) (reason : Reason) → next.named p reason → past.named p reason ⊎ ((k : ℕ) × (k < n) × (get (parts k) p ≡ Some reason))
    pub sends : (e k : ℕ) (bytes : List (List ℕ)) → next.sent e k bytes → past.sent e k bytes ⊎ ((e ≡ epoch) × (k < n) × (bytes ≡ sent k))
    pub had : (e k : ℕ) → past.has e k → next.has e k
    pub has : (k : ℕ) → k < n → next.has epoch k

  pub tallied-next : (next : Past) (before : List Entry) (parts fated : ℕ → Names) (sent : ℕ → List (List ℕ)) (w v : World) (hs : List Happening) (m : ℕ) → IsTallied c past epoch n before parts w → run_freely c hs w ≡ v → v.names ≡ w.names → v.requests ≡ w.requests
      → ((k : ℕ) → k < n → (fated k ≡ parts k) × (map sent_bytes (requests_of epoch k w.requests) ≡ sent k)) → Passes next fated sent → IsTallied c next (suc epoch) m before (λ k. empty) v
  tallied-next next before parts fated sent w v hs m t is names requests came passes = record {
    reached = on c w v hs t.reached is;
    named = λ p reason h. by_named p reason (t.named p reason (ap (λ (l : Names). get l p) (sym names) ∙ h));
    names = λ p reason h. ap (λ (l : Names). get l p) names ∙ by_names p reason h;
    sent = λ e k bytes h. by_sent e k bytes (passes.sends e k bytes h);
    owned = AllByRecursion-weaker (IsOwned past epoch n) (IsOwned next (suc epoch) m) by_owner v.requests (subst (AllByRecursion (IsOwned past epoch n)) (sym requests) t.owned);
  }
    where
      by_named : (p : ℕ) (reason : Reason) → IsNamedSo c past n before parts p reason → IsNamedSo c next m before (λ k. empty) p reason
      by_named p reason (inl own) = inl own
      by_named p reason (inr (inl old)) = inr (inl (passes.named p reason (inl old)))
      by_named p reason (inr (inr (k, lt, e))) = inr (inl (passes.named p reason (inr (k, lt, ap (λ (l : Names). get l p) (came k lt).0 ∙ e))))

      by_past : (p : ℕ) (reason : Reason) → past.named p reason ⊎ ((k : ℕ) × (k < n) × (get (fated k) p ≡ Some reason)) → get w.names p ≡ Some reason
      by_past p reason (inl old) = t.names p reason (inr (inl old))
      by_past p reason (inr (k, lt, e)) = t.names p reason (inr (inr (k, lt, ap (λ (l : Names). get l p) (sym (came k lt).0) ∙ e)))

      by_names : (p : ℕ) (reason : Reason) → IsNamedSo c next m before (λ k. empty) p reason → get w.names p ≡ Some reason
      by_names p reason (inl own) = t.names p reason (inl own)
      by_names p reason (inr (inl old)) = by_past p reason (passes.names p reason old)
      by_names p reason (inr (inr (k, lt, e))) = absurd (none-some reason (sym (get-empty nat_cmp p) ∙ e))

      less_more : (e : ℕ) → e < epoch → e < suc epoch
      less_more e lt = omega arith

      itself_more : (e : ℕ) → e ≡ epoch → e < suc epoch
      itself_more e h = omega arith

      by_sent : (e k : ℕ) (bytes : List (List ℕ)) → past.sent e k bytes ⊎ ((e ≡ epoch) × (k < n) × (bytes ≡ sent k)) → (e < suc epoch) × (map sent_bytes (requests_of e k v.requests) ≡ bytes)
      by_sent e k bytes (inl old) = let h = t.sent e k bytes old in (less_more e h.0, ap (λ rs. map sent_bytes (requests_of e k rs)) requests ∙ h.1)
      by_sent e k bytes (inr (same, lt, is)) = (itself_more e same, ap (λ rs. map sent_bytes (requests_of e k rs)) requests ∙ ap (λ (i : ℕ). map sent_bytes (requests_of i k w.requests)) same ∙ (came k lt).1 ∙ sym is)

      by_owner : (r : Request) → IsOwned past epoch n r → IsOwned next (suc epoch) m r
      by_owner r (inl old) = inl (less_more r.id.epoch old.0, passes.had r.id.epoch r.id.shard old.1)
      by_owner r (inr own) = inl (itself_more r.id.epoch own.0, subst (λ (e : ℕ). next.has e r.id.shard) (sym own.0) (passes.has r.id.shard own.1))
