-- What the parts of a world keep, as entries are placed.
use Rattle.std.proofs.Common.{◌≡◌, ℕ, zero, suc, ◌+◌, ◌≤◌, Bool, true, false, not, ◌&&◌, cond, List, [], ◌∷◌, ◌++◌, length, map, take, Option, None, Some, refl, sym, ap, subst, ◌∙◌, add-one, arith, length-append}
use Rattle.std.proofs.lemmas.List.{take-append-le}
use Rattle.std.proofs.lemmas.Option.{slice_get_within}
use Rattle.std.specs.Prelude.{slice_get, fold}
use Rattle.rw_types.specs.Labels.{Labels}
use Rattle.rw_types.specs.declared.entry.Entry.{Entry}
use Rattle.rw_types.specs.declared.entry.Entry.TheVariants.{Def}
use Rattle.rw_wal_format.specs.Laws.{Extends}
use Rattle.rw_wal_format.specs.Pieces.{Piece, entries, reading, page_size}
use Rattle.rw_relabel.specs.declared.choice.Choice.{Choice}
use Rattle.rw_series_cache.specs.Known.{standing_of}
use Rattle.rw_series_cache.specs.Numbers.{with_series, with_entry, series_of}
use Rattle.rw_series_cache.specs.Cached.{Taken}
use Rattle.rw_series_cache.proofs.shared.KnownLemmas.{series_of-definitions_of, series_of-none}
use Rattle.rw_series_cache.specs.Routing.{Routing, Knows}
use Rattle.rw_shard_core.specs.Shard.{can_send, new_core}
use Rattle.rw_shard_core.specs.declared.config.Target.{Target}
use Rattle.rw_machine.specs.Shards.{Shard, new_shard, shard_send}
use Rattle.rw_machine.specs.Worlds.{Setup, Request, Reply, World, new_shards, start, is_finished, all_drained}
use Rattle.rw_machine.specs.Steps.{change, send_batch, restart}
use Rattle.std.specs.FinMap.{empty}
use Rattle.rw_head.specs.Head.{State}
use Rattle.rw_head.specs.declared.limits.Limits.{Limits}
use Rattle.rw_shard_core.specs.Configs.{choice_of}
use Rattle.rw_shard_core.specs.declared.config.ConfigFields.{ConfigFields}
use Rattle.rw_world.specs.Held.{Held}
use Rattle.rw_world.specs.Sending.{Sending, new_held, sent_at}
use Rattle.rw_world.specs.Machine.{Machine, label_limits, setup_of}
use Rattle.rw_world.specs.inner.Machine.{IsWorld}
use Rattle.rw_world.proofs.shared.ReadingLemmas.{taken_more}

fold_snoc : {A B : Type 0} (f : A → B → A) (z : A) (xs : List B) (x : B) → fold f z (xs ++ x ∷ []) ≡ f (fold f z xs) x
fold_snoc f z [] x = refl
fold_snoc f z (y ∷ ys) x = fold_snoc f (f z y) ys x

-- one more definition
pub series_defined : (choice : Choice) (definitions : List Entry) (r : ℕ) (l : Labels) → series_of choice (definitions ++ Def r l ∷ []) ≡ with_series (series_of choice definitions) (standing_of choice (Some l))
unfolding series_of
series_defined choice definitions r l = fold_snoc (with_entry choice) [] definitions (Def r l)

-- the series of the definitions
pub same_series : (before : List Entry) (cache : Taken) → Knows before cache → series_of cache.choice before ≡ series_of cache.choice cache.definitions
same_series before cache k = sym (series_of-definitions_of cache.choice before) ∙ ap (series_of cache.choice) k.defined

-- one entry more was placed
pub world_more : (next next' placed : ℕ) (pieces : List Piece) (router after : Routing) (draining : Option ℕ) (e : Entry) → IsWorld next placed pieces router draining →
    slice_get (entries pieces) placed ≡ Some e → Knows (take placed (entries pieces) ++ e ∷ []) after.cache → after.filtered ≤ placed + 1 → next' ≤ placed + 1 → IsWorld next' (placed + 1) pieces after draining
world_more next next' placed pieces router after draining e w at knows f n =
    let lt = slice_get_within (entries pieces) placed e at in
    record {
      next_within = n;
      placed_within = omega arith;
      filtered_within = f;
      knows = subst (λ es. Knows es after.cache) (sym (taken_more (entries pieces) placed e at)) knows;
      shards = w.shards;
    }

-- before the first entry
pub world_begun : (next : ℕ) (pieces : List Piece) (router : Routing) → next ≡ 0 → Knows [] router.cache → router.filtered ≡ 0 → IsWorld next 0 pieces router None
world_begun next pieces router n knows none = record {
  next_within = omega (arith, n);
  placed_within = omega arith;
  filtered_within = omega (arith, none);
  knows = knows;
  shards = tt;
}

-- more of the log
pub world_fed : (next placed : ℕ) (pieces pieces' : List Piece) (router : Routing) (draining : Option ℕ) → IsWorld next placed pieces router draining →
    Extends (reading page_size pieces) (reading page_size pieces') → IsWorld next placed pieces' router draining
world_fed next placed pieces pieces' router draining w x =
    let len : length (entries pieces') ≡ length (entries pieces) + length x.more = ap length x.entries ∙ length-append (entries pieces) x.more in
    record {
      next_within = w.next_within;
      placed_within = omega (arith, w.placed_within, len);
      filtered_within = w.filtered_within;
      knows = subst (λ es. Knows es router.cache) (sym (ap (take placed) x.entries ∙ take-append-le placed (entries pieces) x.more w.placed_within)) w.knows;
      shards = w.shards;
    }

-- new shards, as the machine has them
pub new_seen : (c : Setup) (target : Target) (capacity batch epoch i n : ℕ) → c.target ≡ target → c.batch ≡ batch → map (λ (h : Held). h.shard) (new_held target capacity batch epoch i n) ≡ new_shards c epoch i n
new_seen c target capacity batch epoch i zero t b = refl
new_seen c target capacity batch epoch i (suc n) t b = rw (t, b) (ap (λ ss. new_shard (new_core target epoch i batch) ∷ ss) (new_seen c target capacity batch epoch (suc i) n t b))

-- a shard that may not send stays
unsent_if : (b : Bool) (s : Shard) (r : Request) → cond b (Some r) None ≡ None → record s { core = cond b (record s.core { waiting = true }) s.core } ≡ s
unsent_if true s r e = absurd (cc)
unsent_if false s r e = refl

pub unsent : (ss : List Shard) (i : ℕ) → sent_at (slice_get ss i) ≡ None → change i shard_send ss ≡ ss
unsent [] i e = refl
unsent (s ∷ ss) zero e = ap (λ t. t ∷ ss) (unsent_if (can_send s.core) s _ e)
unsent (s ∷ ss) (suc i) e = ap (λ xs. s ∷ xs) (unsent ss i e)

send_if : (b : Bool) (r : Request) (v w : World) → cond b (Some r) None ≡ None → cond b v w ≡ w
send_if true r v w e = absurd (cc)
send_if false r v w e = refl

pub send_none : (w : World) (i : ℕ) (o : Option Shard) → sent_at o ≡ None → send_batch w i o ≡ w
send_none w i None e = refl
send_none w i (Some s) e = send_if (can_send s.core) _ _ w e

-- before the first event
pub started : (cfg : ConfigFields) (l : Limits) (v : Sending) (pieces : List Piece) (router : Routing) (requests : List Request) (replies : List Reply) (head : State) →
    v ≡ record {
      target = cfg.target;
      capacity = cfg.capacity;
      batch = cfg.batch;
      epoch = 0;
      shards = map (λ (h : Held). h.shard) (new_held cfg.target cfg.capacity cfg.batch 0 0 cfg.shards);
      next = 0;
      names = empty;
    } → pieces ≡ [] → router.cache ≡ record { choice = choice_of cfg; definitions = []; noted = empty } → router.filtered ≡ 0 → requests ≡ [] → replies ≡ [] →
    head ≡ record { store = empty; limits = label_limits l; busy = l.busy_first } →
    ◌≡◌ {A = Machine}
    (record {
      setup = record {
        target = v.target;
        shards = cfg.shards;
        capacity = v.capacity;
        batch = v.batch;
        choice = router.cache.choice;
        limits = label_limits l;
        max_body = l.max_body_bytes;
        busy = l.busy_first;
      };
      world = record {
        pieces = pieces;
        placed = 0;
        series = series_of router.cache.choice router.cache.definitions;
        epoch = v.epoch;
        shards = v.shards;
        requests = requests;
        replies = replies;
        head = head;
        names = v.names;
        filtered = router.filtered;
        draining = None;
        closed = None;
        killed = false;
      };
    })
    (record { setup = setup_of cfg l; world = start (setup_of cfg l) })
started cfg l v pieces router requests replies head a b d z e f g =
    let seen = new_seen (setup_of cfg l) cfg.target cfg.capacity cfg.batch 0 0 cfg.shards refl refl in
    rw (a, b, d, z, e, f, g) (rw (seen, series_of-none (choice_of cfg)) refl)

pub parts : (f a : Bool) → (not f && a) ≡ true → (f ≡ false) × (a ≡ true)
parts true a e = absurd (cc)
parts false a e = (refl, e)

-- the next shards take over
pub restarted : (u : Machine) (v v' : Sending) (n : ℕ) → u.world.draining ≡ Some n → is_finished u.world ≡ false → all_drained u.world ≡ true →
    u.setup.target ≡ v.target → u.setup.batch ≡ v.batch → u.world.epoch ≡ v.epoch → u.world.names ≡ v.names →
    v' ≡ record v { epoch = v.epoch + 1; shards = map (λ (h : Held). h.shard) (new_held v.target v.capacity v.batch (v.epoch + 1) 0 n) } →
    record u { world = record u.world { epoch = v'.epoch; shards = v'.shards; names = v'.names; draining = None } } ≡ record u { world = restart u.setup u.world }
restarted u v v' n d f a t b ep nm e =
    let up : v.epoch + 1 ≡ suc u.world.epoch = add-one v.epoch ∙ ap suc (sym ep) in
    let seen = new_seen u.setup v.target v.capacity v.batch (v.epoch + 1) 0 n t b in
    let epoch : v'.epoch ≡ suc u.world.epoch = ap (λ (x : Sending). x.epoch) e ∙ up in
    let shards : v'.shards ≡ new_shards u.setup (suc u.world.epoch) 0 n = ap (λ (x : Sending). x.shards) e ∙ seen ∙ ap (λ k. new_shards u.setup k 0 n) up in
    let names : v'.names ≡ u.world.names = ap (λ (x : Sending). x.names) e ∙ sym nm in
    let next : World = record u.world { epoch = suc u.world.epoch; shards = new_shards u.setup (suc u.world.epoch) 0 n; draining = None } in
    let made : record u.world { epoch = v'.epoch; shards = v'.shards; names = v'.names; draining = None } ≡ next = rw (epoch, shards, names) refl in
    let row : restart u.setup u.world ≡ next = rw (d, f, a) refl in
    ap (λ (w : World). record u { world = w }) (made ∙ sym row)

pub head_is : (h : State) (l : Limits) → h.store ≡ empty → h.limits.names ≡ l.names → h.limits.max_labels ≡ l.max_labels → h.limits.max_label_bytes ≡ l.max_label_bytes → h.busy ≡ l.busy_first →
    h ≡ record { store = empty; limits = label_limits l; busy = l.busy_first }
head_is h l a n b d e =
    let made : ◌≡◌ {A = State} (record { store = h.store; limits = record { names = h.limits.names; max_labels = h.limits.max_labels; max_label_bytes = h.limits.max_label_bytes }; busy = h.busy }) (record { store = empty; limits = label_limits l; busy = l.busy_first }) = rw (a, n, b, d, e) refl in
    made
