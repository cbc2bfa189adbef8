-- At the end of an epoch each shard is put its End, and its worker makes all the steps that are
-- left.
use Rattle.std.proofs.Common.{◌≡◌, ℕ, zero, suc, ◌+◌, ◌<◌, ◌≤◌, ◌==◌, ◌&&◌, Bool, true, false, not, cond, List, [], ◌∷◌, ◌++◌, map, length, Some, slice_get, refl, sym, ap, ◌∙◌, subst, append-nil, length-append, arith, ◌⊎◌, inl, inr}
use Rattle.std.specs.List.{AllByRecursion, list_all}
use Rattle.std.proofs.lemmas.Bool.{lt-ltb, eq-eqb, both_ways, and_from}
use Rattle.std.proofs.lemmas.List.{map-append}
use Rattle.std.proofs.lemmas.Option.{same_Some, none-some, slice_get_within}
use Rattle.rw_types.specs.declared.entry.Entry.{Entry}
use Rattle.rw_plain_queue.specs.Items.{Placed}
use Rattle.rw_plain_queue.specs.Items as items
use Rattle.rw_plain_queue.specs.History.{EndIsLast}
use Rattle.rw_plain_queue.specs.declared.item.Item.{Item}
use Rattle.rw_plain_queue.specs.declared.item.Item.TheVariants as item
use Rattle.rw_plain_queue.specs.declared.item.Kind.{Kind}
use Rattle.rw_shard_core.specs.Shard.{Core}
use Rattle.rw_worker.specs.Steps.{Working, Step, working, after, items_of}
use Rattle.rw_machine.specs.Shards.{Shard, Queued, EndMark, has_room, is_drained, samples_waiting, shard_end}
use Rattle.rw_machine.specs.Worlds.{Setup, Request, World}
use Rattle.rw_machine.specs.Steps.{change, flush_shard, happens, shard_mark, unless_over}
use Rattle.rw_machine.specs.declared.event.Event.TheVariants as event
use Rattle.rw_machine.proofs.shared.Lists.{Lists}
use Rattle.rw_machine.proofs.shared.Others.{samples_append}
use Rattle.rw_machine.proofs.shared.Places.{length_change, get_some}
use Rattle.rw_simulation.specs.Freely.{Of, run_freely}
use Rattle.rw_simulation.specs.WorkerRuns.{queued, happenings, steps_names, IsAfter, IsIdOf, CanEnd, sent_bytes}
use Rattle.rw_simulation.specs.Tallies.{Past, IsTallied, requests_of}
use Rattle.rw_simulation.specs.EpochRuns.{ShardFate, end_in, AreUnsent, Reaches, HasOnlyEnd, IsPutAllButEnd}
use Rattle.rw_simulation.proofs.Changes.{change-is, change-get, change-twice, not-over}
use Rattle.rw_simulation.proofs.WorkerSteps.{moved}
use Rattle.rw_simulation.proofs.WorkerRuns.{worker-run}
use Rattle.rw_simulation.proofs.Eager.{has-room, own-steps}
use Rattle.rw_simulation.proofs.Tallies.{Names, GrowAlike, alike-by, own-requests, other-requests, lists-at, with_part, part-own, part-other, tallied-shard}
use Rattle.rw_simulation.proofs.EpochRuns.{stay, go-on, each-update, none-to-send}
use Rattle.rw_simulation.proofs.MarkRuns.{put-still}
use Rattle.rw_simulation.proofs.Arrived.{below_it}

-- the shard has come to its fate, and so have its requests and its names
pub record HasCome (epoch k : ℕ) (requests : List Request) (part : Names) (s : Shard) (f : ShardFate) : Type 0 where
  pub put : s.put ≡ f.put
  pub core : s.core ≡ f.worker.core
  pub queue : s.queue ≡ f.left
  pub requests_are : map sent_bytes (requests_of epoch k requests) ≡ f.requests
  pub part_is : f.worker.ledger.names ≡ part

pub come-still : (epoch j k : ℕ) (requests more : List Request) (now : Names) (parts : ℕ → Names) (s : Shard) (f : ShardFate) → (j ≡ k → ⊥) → AllByRecursion (IsIdOf epoch k) more → HasCome epoch j requests (parts j) s f → HasCome epoch j (requests ++ more) (with_part k now parts j) s f
come-still epoch j k requests more now parts s f differ ids h = record { put = h.put; core = h.core; queue = h.queue; requests_are = ap (map sent_bytes) (other-requests epoch j k requests more differ ids) ∙ h.requests_are; part_is = h.part_is ∙ sym (part-other k now parts j differ) }

-- All shards of the epoch have come to their fates. Else nothing has changed since a world before.
pub record IsOver (c : Setup) (past : Past) (epoch n : ℕ) (fates : ℕ → ShardFate) (placed : List Entry) (u w : World) : Type 0 where
  pub same : w ≡ record u { shards = w.shards; names = w.names; requests = w.requests; replies = w.replies; head = w.head }
  pub count : length w.shards ≡ n
  pub parts : ℕ → Names
  pub tallied : IsTallied c past epoch n placed parts w
  pub done : (k : ℕ) (s : Shard) → slice_get w.shards k ≡ Some s → HasCome epoch k w.requests (parts k) s (fates k)

-- its End was taken, and no fewer samples are resolved than it was put
abbrev pub IsResolvedFate : ShardFate → Type 0
IsResolvedFate f = (f.worker.core.ended ≡ true) × (length f.put ≤ length f.worker.core.resolved)

no_more_resolved : (c : Setup) (s : Shard) → Lists c s → length s.core.resolved ≤ length s.put
no_more_resolved c s h =
    let a : length s.put ≡ length s.core.taken + length (samples_waiting s.queue) = ap length h.queued ∙ length-append s.core.taken (samples_waiting s.queue) in
    let b : length s.core.taken ≡ length s.core.resolved + length (s.core.batch ++ s.core.builder) = ap length h.held ∙ length-append s.core.resolved (s.core.batch ++ s.core.builder) in
    omega arith

both_at_most : (a b : ℕ) → a ≤ b → b ≤ a → a ≡ b
both_at_most a b h k = omega arith

drained : (c : Setup) (epoch k : ℕ) (requests : List Request) (part : Names) (s : Shard) (f : ShardFate) → Lists c s → HasCome epoch k requests part s f → IsResolvedFate f → is_drained s ≡ true
drained c epoch k requests part s f l h r = and_from s.core.ended (length s.core.resolved == length s.put) (ap (λ (k : Core). k.ended) h.core ∙ r.0)
    (eq-eqb (length s.core.resolved) (length s.put) (both_at_most (length s.core.resolved) (length s.put) (no_more_resolved c s l) all_resolved))
  where
    all_resolved : length s.put ≤ length s.core.resolved
    all_resolved = subst (λ (xs : List Placed). length xs ≤ length s.core.resolved) (sym h.put) (subst (λ (k : Core). length f.put ≤ length k.resolved) (sym h.core) r.1)

pub all-drained : (ss : List Shard) → ((k : ℕ) (s : Shard) → slice_get ss k ≡ Some s → is_drained s ≡ true) → list_all is_drained ss ≡ true
all-drained [] each = refl
all-drained (s ∷ ss) each = and_from (is_drained s) (list_all is_drained ss) (each 0 s refl) (all-drained ss (λ k t e. each (suc k) t e))

-- if one item at most is, an End is the last
no_items : (xs : List Item) → length xs ≡ 0 → xs ≡ []
no_items [] e = refl
no_items (x ∷ xs) e = absurd (omega arith)

short_last : (xs : List Item) → length xs ≤ 1 → EndIsLast xs
short_last xs le before rest kind e =
    let long : length xs ≡ length before + suc (length rest) = ap length e ∙ length-append before (item.End kind ∷ rest) in
    no_items rest (omega arith)

one_queued : (xs : List Item) (q : Queued) (left : List Queued) → q ∷ [] ≡ map queued xs ++ left → length xs ≤ 1
one_queued [] q left e = omega arith
one_queued (x ∷ []) q left e = omega arith
one_queued (x ∷ y ∷ ys) q left e = let long : 1 ≡ suc (suc (length (map queued ys ++ left))) = ap length e in absurd (omega arith)

none_stand : (steps : List Step) → steps ≡ [] → length (items_of steps) ≤ 1
none_stand steps none = subst (λ (ss : List Step). length (items_of ss) ≤ 1) (sym none) (omega arith)

-- the counts that a shard's lists give
pub counted : (put taken waiting resolved held batch builder after : ℕ) → put ≡ taken + waiting → taken ≡ resolved + held → held ≡ batch + builder → after ≡ waiting → put ≡ resolved + (batch + (builder + after))
counted put taken waiting resolved held batch builder after a b c d = omega arith

kept_count : (c : Setup) (s : Shard) (kind : Kind) → Lists c s → length s.put ≡ length s.core.resolved + (length s.core.batch + (length s.core.builder + length (samples_waiting (s.queue ++ EndMark kind ∷ []))))
kept_count c s kind h =
    counted (length s.put) (length s.core.taken) (length (samples_waiting s.queue)) (length s.core.resolved) (length (s.core.batch ++ s.core.builder)) (length s.core.batch) (length s.core.builder) (length (samples_waiting (s.queue ++ EndMark kind ∷ [])))
    (ap length h.queued ∙ length-append s.core.taken (samples_waiting s.queue))
    (ap length h.held ∙ length-append s.core.resolved (s.core.batch ++ s.core.builder))
    (length-append s.core.batch s.core.builder)
    (ap length (samples_append s.queue (EndMark kind) ∙ append-nil (samples_waiting s.queue)))

weaker : (k m : ℕ) → suc m ≤ k → m ≤ k
weaker k m le = omega arith

not_above : (m : ℕ) → suc m ≤ m → ⊥
not_above m le = omega arith

module _ (c : Setup) (past : Past) (epoch n : ℕ) (fates : ℕ → ShardFate) (placed : List Entry) (kind : Kind) (ends : (k : ℕ) → k < n → (fates k).end ≡ Some kind) (u : World) (alive : u.killed ≡ false) (asks : (s : Shard) → shard_mark u s ≡ shard_end kind s) (some : 1 ≤ c.capacity) where
  -- The first m shards have come to their fates, and the others have been put all but their Ends.
  -- Else nothing has changed since u.
  record ClosedBelow (m : ℕ) (w : World) : Type 0 where
    same : w ≡ record u { shards = w.shards; names = w.names; requests = w.requests; replies = w.replies; head = w.head }
    count : length w.shards ≡ n
    parts : ℕ → Names
    tallied : IsTallied c past epoch n placed parts w
    done : (k : ℕ) (s : Shard) → slice_get w.shards k ≡ Some s → k < m → HasCome epoch k w.requests (parts k) s (fates k)
    still : (k : ℕ) (s : Shard) → slice_get w.shards k ≡ Some s → m ≤ k → IsPutAllButEnd c epoch k w.requests (parts k) s (fates k)

  -- the End of shard m, and then all its steps
  end-it : (m : ℕ) (w : World) (s : Shard) → (h : ClosedBelow m w) → slice_get w.shards m ≡ Some s → (p : IsPutAllButEnd c epoch m w.requests (h.parts m) s (fates m)) → p.way.coming.puts ≡ item.End kind ∷ [] → Reaches (AreUnsent fates) c w (ClosedBelow (suc m))
  end-it m w s h at p is = record {
    events = Of (event.Flush m) ∷ happenings c marked m p.way.coming.steps;
    own = λ quiet. (tt, own-steps c marked m p.way.coming.steps (none-to-send c epoch m w.requests s [] (fates m) p.way (quiet m)));
    world = later;
    is = reached;
    holds = record {
      same = ap (λ (x : World). record x { shards = later.shards; names = later.names; requests = later.requests; replies = later.replies; head = later.head }) h.same;
      count = length_change m (λ _. final) w.shards ∙ h.count;
      parts = with_part m now h.parts;
      tallied = tallied-shard c past epoch n placed h.parts w later (Of (event.Flush m) ∷ happenings c marked m steps) m p.way.coming.ledger.names now ran.requests h.tallied reached (subst (λ (i : ℕ). m < i) h.count (slice_get_within w.shards m s at)) p.part_is refl ids
          (subst (λ (l : Names). GrowAlike w.names (steps_names steps (working s.core p.way.coming.ledger) w.names) p.way.coming.ledger.names l) (sym ran.ledger_is) (alike-by steps (working s.core p.way.coming.ledger) w.names p.way.coming.ledger.names));
      done = each-update (λ j t. j < suc m → HasCome epoch j later.requests (with_part m now h.parts j) t (fates j)) final m w.shards
          (λ j t e differ lt. come-still epoch j m w.requests ran.requests now h.parts t (fates j) differ ids (h.done j t e (below_it j m lt differ))) (λ _. own);
      still = each-update (λ j t. suc m ≤ j → IsPutAllButEnd c epoch j later.requests (with_part m now h.parts j) t (fates j)) final m w.shards
          (λ j t e differ le. put-still c epoch j m w.requests ran.requests now h.parts t (fates j) differ ids (h.still j t e (weaker j m le))) (λ le. absurd (not_above m le));
    };
  }
    where
      steps : List Step
      steps = p.way.coming.steps

      marked : World
      marked = record w { shards = change m (λ _. shard_end kind s) w.shards }

      room : has_room c.capacity s ≡ true
      room = lt-ltb (length s.queue) c.capacity (has-room c m s (item.End kind) [] p.way.coming some is p.way.ready)

      undrained : is_drained s ≡ false
      undrained = rw p.way.ready.running refl

      asks_now : (t : Shard) → shard_mark w t ≡ shard_end kind t
      asks_now t = subst (λ (x : World). shard_mark x t ≡ shard_end kind t) (sym h.same) (asks t)

      alive_now : w.killed ≡ false
      alive_now = ap (λ (x : World). x.killed) h.same ∙ alive

      may_mark : (not s.end_put && has_room c.capacity s) ≡ true
      may_mark = and_from (not s.end_put) (has_room c.capacity s) (rw p.way.ready.unended refl) room

      is_marked : flush_shard c w s ≡ shard_end kind s
      is_marked = ap (λ (b : Bool). cond b (shard_mark w s) s) may_mark ∙ asks_now s

      flushed : happens c w (event.Flush m) ≡ marked
      flushed =
          ap (unless_over c w (event.Flush m)) (not-over w m s at (alive_now, inr undrained))
          ∙ ap (λ ss. record w { shards = ss }) (change-is (flush_shard c w) m w.shards s at ∙ ap (λ t. change m (λ _. t) w.shards) is_marked)

      queue_is : s.queue ++ EndMark kind ∷ [] ≡ map queued (items_of steps) ++ p.way.coming.left
      queue_is = ap (λ (xs : List Item). s.queue ++ map queued xs) (sym is) ∙ p.way.ready.split

      few : (s.queue ≡ []) ⊎ (steps ≡ []) → length (items_of steps) ≤ 1
      few (inl empty) = one_queued (items_of steps) (EndMark kind) p.way.coming.left (ap (λ (q : List Queued). q ++ EndMark kind ∷ []) (sym empty) ∙ queue_is)
      few (inr none) = none_stand steps none

      can_end : CanEnd (shard_end kind s) steps
      can_end = record {
        kept = kept_count c s kind (lists-at c w h.tallied.reached m s at);
        ended = λ e. absurd (both_ways s.core.ended p.way.ready.running e);
        last = short_last (items_of steps) (few p.way.ready.eager);
      }

      ran : IsAfter marked m (shard_end kind s) p.way.coming.ledger steps p.way.coming.left (run_freely c (happenings c marked m steps) marked)
      ran = worker-run c marked m (shard_end kind s) p.way.coming.ledger steps p.way.coming.left alive_now (inr can_end) (change-get (shard_end kind s) m w.shards s at) p.way.ready.numbered queue_is p.way.ready.allowed

      -- its names at the end
      now : Names
      now = (after (working s.core p.way.coming.ledger) steps).ledger.names

      ids : AllByRecursion (IsIdOf epoch m) ran.requests
      ids = subst (λ (e : ℕ). AllByRecursion (IsIdOf e m) ran.requests) p.way.epoch_is ran.ids

      final : Shard
      final = record (shard_end kind s) { queue = p.way.coming.left; core = (after (working s.core p.way.coming.ledger) steps).core }

      later : World
      later = moved w m final (steps_names steps (working s.core p.way.coming.ledger) w.names) (w.requests ++ ran.requests) (w.replies ++ ran.replies)

      reached : run_freely c (Of (event.Flush m) ∷ happenings c marked m steps) w ≡ later
      reached = ap (run_freely c (happenings c marked m steps)) flushed ∙ ran.is ∙ ap (λ ss. record later { shards = ss }) (change-twice (shard_end kind s) final m w.shards)

      own : HasCome epoch m later.requests (with_part m now h.parts m) final (fates m)
      own = record {
        put = sym (append-nil s.put) ∙ ap (λ (xs : List Item). s.put ++ items.samples_in xs) (sym is) ∙ p.way.put;
        core = ap (λ (x : Working). x.core) p.way.worker;
        queue = p.way.left;
        requests_are = ap (map sent_bytes) (own-requests epoch m w.requests ran.requests ids) ∙ map-append sent_bytes (requests_of epoch m w.requests) ran.requests ∙ ap (λ (bs : List (List ℕ)). map sent_bytes (requests_of epoch m w.requests) ++ bs) ran.sent ∙ p.way.requests_are;
        part_is = ap (λ (x : Working). x.ledger.names) (sym p.way.worker) ∙ sym (part-own m now h.parts);
      }

  end-one : (m : ℕ) (w : World) (s : Shard) → m < n → (h : ClosedBelow m w) → slice_get w.shards m ≡ Some s → (p : IsPutAllButEnd c epoch m w.requests (h.parts m) s (fates m)) → (ps : List Item) → p.way.coming.puts ≡ ps → Reaches (AreUnsent fates) c w (ClosedBelow (suc m))
  end-one m w s lt h at p [] is = absurd (none-some kind (sym (ap end_in is) ∙ p.way.end ∙ ends m lt))
  end-one m w s lt h at p (item.Sample place t word labels ∷ ps) is = absurd (subst HasOnlyEnd is p.at_end)
  end-one m w s lt h at p (item.Flush ∷ ps) is = absurd (subst HasOnlyEnd is p.at_end)
  end-one m w s lt h at p (item.End other ∷ ps) is = end-it m w s h at p (is ∙ alone)
    where
      kind_is : other ≡ kind
      kind_is = same_Some _ _ (sym (ap end_in is) ∙ p.way.end ∙ ends m lt)

      last : ps ≡ []
      last = subst HasOnlyEnd is p.at_end

      alone : item.End other ∷ ps ≡ item.End kind ∷ []
      alone = λ i. item.End (kind_is i) ∷ last i

  end-from : (more m : ℕ) (w : World) → m + more ≡ n → ClosedBelow m w → Reaches (AreUnsent fates) c w (ClosedBelow n)
  end-from zero m w sum h = stay c w (ClosedBelow n) (subst (λ (k : ℕ). ClosedBelow k w) (no_more m sum) h)
    where
      no_more : (m : ℕ) → m + 0 ≡ n → m ≡ n
      no_more m e = omega arith
  end-from (suc more) m w sum h = go-on c w (ClosedBelow (suc m)) (ClosedBelow n)
      (end-one m w found.0 lt h found.1 put put.way.coming.puts refl)
      (λ v next. end-from more (suc m) v (shift m more sum) next)
    where
      shift : (m more : ℕ) → m + suc more ≡ n → suc m + more ≡ n
      shift m more e = omega arith

      within : (m more : ℕ) → m + suc more ≡ n → m < n
      within m more e = omega arith

      lt : m < n
      lt = within m more sum

      found : (s : Shard) × (slice_get w.shards m ≡ Some s)
      found = get_some w.shards m (subst (λ (k : ℕ). m < k) (sym h.count) lt)

      itself : (k : ℕ) → k ≤ k
      itself k = omega arith

      put : IsPutAllButEnd c epoch m w.requests (h.parts m) found.0 (fates m)
      put = h.still m found.0 found.1 (itself m)

  none_below : (k : ℕ) → k < 0 → ⊥
  none_below k lt = omega arith

  -- all of them, if each has been put all but its End
  pub end-all : length u.shards ≡ n → (parts : ℕ → Names) → IsTallied c past epoch n placed parts u → ((k : ℕ) (s : Shard) → slice_get u.shards k ≡ Some s → IsPutAllButEnd c epoch k u.requests (parts k) s (fates k)) → Reaches (AreUnsent fates) c u (IsOver c past epoch n fates placed u)
  end-all count parts tallied put = go-on c u (ClosedBelow n) (IsOver c past epoch n fates placed u)
      (end-from n 0 u (zero_plus n) (record { same = refl; count = count; parts = parts; tallied = tallied; done = λ k s e lt. absurd (none_below k lt); still = λ k s e le. put k s e }))
      (λ v h. stay c v (IsOver c past epoch n fates placed u) (record { same = h.same; count = h.count; parts = h.parts; tallied = h.tallied; done = λ k s e. h.done k s e (subst (λ (m : ℕ). k < m) h.count (slice_get_within v.shards k s e)) }))
    where
      zero_plus : (n : ℕ) → 0 + n ≡ n
      zero_plus n = omega arith

-- what all shards named and sent is known
pub tallies-at : (epoch n : ℕ) (fates : ℕ → ShardFate) (requests : List Request) (parts : ℕ → Names) (ss : List Shard) → length ss ≡ n → ((k : ℕ) (s : Shard) → slice_get ss k ≡ Some s → HasCome epoch k requests (parts k) s (fates k))
    → (k : ℕ) → k < n → ((fates k).worker.ledger.names ≡ parts k) × (map sent_bytes (requests_of epoch k requests) ≡ (fates k).requests)
tallies-at epoch n fates requests parts ss count come k lt = let found = get_some ss k (subst (λ (m : ℕ). k < m) (sym count) lt) in let h = come k found.0 found.1 in (h.part_is, h.requests_are)

-- if each has come to its fate, and all is resolved, they are drained
pub drained-all : (c : Setup) (epoch n : ℕ) (fates : ℕ → ShardFate) (requests : List Request) (parts : ℕ → Names) (ss : List Shard) → length ss ≡ n → ((k : ℕ) (s : Shard) → slice_get ss k ≡ Some s → Lists c s) → ((k : ℕ) (s : Shard) → slice_get ss k ≡ Some s → HasCome epoch k requests (parts k) s (fates k)) → ((k : ℕ) → k < n → IsResolvedFate (fates k)) → list_all is_drained ss ≡ true
drained-all c epoch n fates requests parts ss count kept come resolved = all-drained ss (λ k s e. let lt = subst (λ (m : ℕ). k < m) count (slice_get_within ss k s e) in drained c epoch k requests (parts k) s (fates k) (kept k s e) (come k s e) (resolved k lt))
