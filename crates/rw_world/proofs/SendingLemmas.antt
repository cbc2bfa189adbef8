-- What holds of the shards and the names, as one shard changes.
use Rattle.std.proofs.Common.{◌≡◌, ℕ, zero, suc, ◌+◌, ◌<◌, ◌≤◌, Bool, true, false, not, ◌&&◌, cond, List, [], ◌∷◌, ◌++◌, length, map, set, Option, None, Some, inl, inr, ◌⊎◌, ⊎_elim, refl, sym, ap, ◌∙◌, append_assoc, length-set, arith}
use Rattle.std.proofs.lemmas.List.{append-nil, length-map}
use Rattle.std.specs.Prelude.{slice_get}
use Rattle.std.specs.List.{list_all}
use Rattle.std.specs.Ordering.{nat_cmp}
use Rattle.std.specs.FinMap.{FinMap, get}
use Rattle.rw_ledger.specs.Names.{Named}
use Rattle.rw_ledger.specs.declared.ledger.Reason.{Reason}
use Rattle.rw_plain_queue.specs.Items.{Placed}
use Rattle.rw_shard_core.specs.declared.config.Target.{Target}
use Rattle.rw_shard_core.specs.Shard.{Core, positions, new_core, can_take, can_freeze, freeze_room, can_send, awaits, send, lose, again}
use Rattle.rw_machine.specs.Shards.{Shard, Queued, One, FlushMark, EndMark, samples_waiting, pending_in_shard, new_shard, has_room, shard_flush, shard_end, take_queued, take_front, shard_take, shard_freeze, shard_send, shard_lost, is_drained}
use Rattle.rw_plain_queue.specs.declared.item.Kind.{Kind}
use Rattle.rw_machine.specs.Steps.{change}
use Rattle.rw_world.specs.Held.{Held, put_mark, flushed}
use Rattle.rw_world.specs.Sending.{Sending, new_held}
use Rattle.rw_world.specs.inner.Sending.{times, waiting, open_samples, IsShardAt, IsSending}
use Rattle.rw_shard_core.proofs.shared.EmptyLemmas.{nil_from_empty}
use Rattle.rw_shard_core.proofs.shared.StepGuards.{freeze_parts}

pub positions-append : (xs ys : List Placed) → positions (xs ++ ys) ≡ positions xs ++ positions ys
positions-append [] ys = refl
positions-append (x ∷ xs) ys = ap (λ ps. x.place.pos ∷ ps) (positions-append xs ys)

pub times-append : (p : ℕ) (xs ys : List ℕ) → times p (xs ++ ys) ≡ times p xs + times p ys
times-append p [] ys = omega arith
times-append p (x ∷ xs) ys = let r = times-append p xs ys in rw r (omega arith)

-- how often a position waits in a shard
abbrev pub here : ℕ → Held → ℕ
here p h = times p (positions (pending_in_shard h.shard))

pub waiting-set : (p : ℕ) (hs : List Held) (i : ℕ) (h h' : Held) → slice_get hs i ≡ Some h → waiting p (set hs i h') + here p h ≡ waiting p hs + here p h'
waiting-set p [] i h h' e = absurd (cc)
waiting-set p (g ∷ gs) zero h h' e = let same : g ≡ h = cc in rw (← same) (omega arith)
waiting-set p (g ∷ gs) (suc i) h h' e = let r = waiting-set p gs i h h' e in omega (arith, r)

pub waiting-get : (p : ℕ) (hs : List Held) (i : ℕ) (h : Held) → slice_get hs i ≡ Some h → here p h ≤ waiting p hs
waiting-get p [] i h e = absurd (cc)
waiting-get p (g ∷ gs) zero h e = let same : g ≡ h = cc in rw (← same) (omega arith)
waiting-get p (g ∷ gs) (suc i) h e = let r = waiting-get p gs i h e in omega (arith, r)

pub open-set : (hs : List Held) (i : ℕ) (h h' : Held) → slice_get hs i ≡ Some h → open_samples (set hs i h') + length h.shard.core.batch ≡ open_samples hs + length h'.shard.core.batch
open-set [] i h h' e = absurd (cc)
open-set (g ∷ gs) zero h h' e = let same : g ≡ h = cc in rw (← same) (omega arith)
open-set (g ∷ gs) (suc i) h h' e = let r = open-set gs i h h' e in omega (arith, r)

pub open-get : (hs : List Held) (i : ℕ) (h : Held) → slice_get hs i ≡ Some h → length h.shard.core.batch ≤ open_samples hs
open-get [] i h e = absurd (cc)
open-get (g ∷ gs) zero h e = let same : g ≡ h = cc in rw (← same) (omega arith)
open-get (g ∷ gs) (suc i) h e = let r = open-get gs i h e in omega (arith, r)

-- an element of a changed list
pub slice_get-set : {X : Type 0} (xs : List X) (i j : ℕ) (x y z : X) → slice_get xs i ≡ Some x → slice_get (set xs i y) j ≡ Some z → ((j ≡ i) × (y ≡ z)) ⊎ (slice_get xs j ≡ Some z)
slice_get-set [] i j x y z a b = absurd (cc)
slice_get-set (u ∷ us) zero zero x y z a b = inl (refl, cc)
slice_get-set (u ∷ us) zero (suc j) x y z a b = inr b
slice_get-set (u ∷ us) (suc i) zero x y z a b = inr b
slice_get-set {X} (u ∷ us) (suc i) (suc j) x y z a b =
    ⊎_elim (λ (r : (j ≡ i) × (y ≡ z)). inl (ap suc r.0, r.1)) (λ (r : slice_get us j ≡ Some z). inr r) (slice_get-set us i j x y z a b)

-- what the machine sees of the change
pub change-set : (f : Shard → Shard) (hs : List Held) (i : ℕ) (h h' : Held) → slice_get hs i ≡ Some h → h'.shard ≡ f h.shard → map (λ (x : Held). x.shard) (set hs i h') ≡ change i f (map (λ (x : Held). x.shard) hs)
change-set f [] i h h' a e = absurd (cc)
change-set f (g ∷ gs) zero h h' a e = let same : g ≡ h = cc in rw (same, e) refl
change-set f (g ∷ gs) (suc i) h h' a e = ap (λ ss. g.shard ∷ ss) (change-set f gs i h h' a e)

pub change-past : (f : Shard → Shard) (ss : List Shard) (i : ℕ) → length ss ≤ i → change i f ss ≡ ss
change-past f [] i lt = refl
change-past f (s ∷ ss) zero lt = absurd (omega arith)
change-past f (s ∷ ss) (suc i) lt = ap (λ xs. s ∷ xs) (change-past f ss i (omega arith))

-- the shard is the same one, and has put the same samples
pub record Same (h h' : Held) : Type 0 where
  pub target : h'.shard.core.target ≡ h.shard.core.target
  pub capacity : h'.capacity ≡ h.capacity
  pub full : h'.shard.core.full ≡ h.shard.core.full
  pub epoch : h'.shard.core.epoch ≡ h.shard.core.epoch
  pub number : h'.shard.core.shard ≡ h.shard.core.shard
  pub put : h'.shard.put ≡ h.shard.put

pub same_at : (target : Target) (capacity batch epoch next i : ℕ) (h h' : Held) → IsShardAt target capacity batch epoch next i h → Same h h' → IsShardAt target capacity batch epoch next i h'
same_at target capacity batch epoch next i h h' a s = record {
  target_is = s.target ∙ a.target_is;
  capacity_is = s.capacity ∙ a.capacity_is;
  full = s.full ∙ a.full;
  epoch_is = s.epoch ∙ a.epoch_is;
  number = s.number ∙ a.number;
  below = rw s.put a.below;
}

pub each-set : (target : Target) (capacity batch epoch next : ℕ) (hs : List Held) (i : ℕ) (h h' : Held) → slice_get hs i ≡ Some h → IsShardAt target capacity batch epoch next i h' →
    ((j : ℕ) (g : Held) → slice_get hs j ≡ Some g → IsShardAt target capacity batch epoch next j g) → (j : ℕ) (g : Held) → slice_get (set hs i h') j ≡ Some g → IsShardAt target capacity batch epoch next j g
each-set target capacity batch epoch next hs i h h' at a all j g e =
    ⊎_elim
    (λ (r : (j ≡ i) × (h' ≡ g)). rw (r.0, ← r.1) a)
    (λ (r : slice_get hs j ≡ Some g). all j g r)
    (slice_get-set hs i j h h' g at e)

-- one shard changes, and waits for no more than before
pub kept : (target : Target) (capacity batch epoch : ℕ) (hs : List Held) (next : ℕ) (l l' : Named) (i : ℕ) (h h' : Held) →
    IsSending target capacity batch epoch hs next l → slice_get hs i ≡ Some h → Same h h' → l'.names ≡ l.names →
    ((p : ℕ) → here p h' ≤ here p h) → length h'.shard.core.batch + l.room ≤ length h.shard.core.batch + l'.room →
    IsSending target capacity batch epoch (set hs i h') next l'
kept target capacity batch epoch hs next l l' i h h' s at same names fewer room = record {
  batch_some = s.batch_some;
  batch_most = s.batch_most;
  some = omega (arith, s.some, length-set hs i h');
  most = omega (arith, s.most, length-set hs i h');
  each = each-set target capacity batch epoch next hs i h h' at (same_at target capacity batch epoch next i h h' (s.each i h at) same) s.each;
  once = λ p. let w = waiting-set p hs i h h' at in let f = fewer p in let o = s.once p in rw names (omega (arith, w, f, o));
  later = λ p le. ap (λ (m : FinMap nat_cmp Reason). get m p) names ∙ s.later p le;
  room = let o = open-set hs i h h' at in omega (arith, o, room, s.room);
}

-- a shard that has put the same samples, and waits for no more of them
pub record Quiet (s t : Shard) : Type 0 where
  pub target : t.core.target ≡ s.core.target
  pub full : t.core.full ≡ s.core.full
  pub epoch : t.core.epoch ≡ s.core.epoch
  pub number : t.core.shard ≡ s.core.shard
  pub put : t.put ≡ s.put
  pub fewer : (p : ℕ) → times p (positions (pending_in_shard t)) ≤ times p (positions (pending_in_shard s))

pub still_quiet : (s : Shard) → Quiet s s
still_quiet s = record { target = refl; full = refl; epoch = refl; number = refl; put = refl; fewer = λ p. omega arith }

pub samples_in-queue : (xs ys : List Queued) → samples_waiting (xs ++ ys) ≡ samples_waiting xs ++ samples_waiting ys
samples_in-queue [] ys = refl
samples_in-queue (One x ∷ xs) ys = ap (λ zs. x ∷ zs) (samples_in-queue xs ys)
samples_in-queue (FlushMark ∷ xs) ys = samples_in-queue xs ys
samples_in-queue (EndMark kind ∷ xs) ys = samples_in-queue xs ys

same_pending : (s t : Shard) → pending_in_shard t ≡ pending_in_shard s → (p : ℕ) → times p (positions (pending_in_shard t)) ≤ times p (positions (pending_in_shard s))
same_pending s t e p = let q : times p (positions (pending_in_shard t)) ≡ times p (positions (pending_in_shard s)) = ap (λ xs. times p (positions xs)) e in omega (arith, q)

mark_pending : (s : Shard) (m : Queued) → samples_waiting (m ∷ []) ≡ [] → (s.core.batch ++ s.core.builder) ++ samples_waiting (s.queue ++ m ∷ []) ≡ (s.core.batch ++ s.core.builder) ++ samples_waiting s.queue
mark_pending s m none =
    ap (λ zs. (s.core.batch ++ s.core.builder) ++ zs) (samples_in-queue s.queue (m ∷ []) ∙ ap (λ zs. samples_waiting s.queue ++ zs) none ∙ append-nil (samples_waiting s.queue))

mark_quiet : (kind : Option Kind) (s : Shard) → Quiet s (put_mark kind s)
mark_quiet None s = record {
  target = refl;
  full = refl;
  epoch = refl;
  number = refl;
  put = refl;
  fewer = same_pending s (shard_flush s) (mark_pending s FlushMark refl);
}
mark_quiet (Some kind) s = record {
  target = refl;
  full = refl;
  epoch = refl;
  number = refl;
  put = refl;
  fewer = same_pending s (shard_end kind s) (mark_pending s (EndMark kind) refl);
}

if_quiet : (b : Bool) (s t : Shard) → Quiet s t → Quiet s (cond b t s)
if_quiet true s t q = q
if_quiet false s t q = still_quiet s

pub flushed_quiet : (capacity : ℕ) (kind : Option Kind) (s : Shard) → Quiet s (flushed capacity kind s)
flushed_quiet capacity kind s = if_quiet (not s.end_put && has_room capacity s) s (put_mark kind s) (mark_quiet kind s)

taken_pending : (b u q : List Placed) (x : Placed) → (b ++ (u ++ x ∷ [])) ++ q ≡ (b ++ u) ++ x ∷ q
taken_pending b u q x = ap (λ zs. zs ++ q) (sym (append_assoc b u (x ∷ []))) ∙ append_assoc (b ++ u) (x ∷ []) q

front_pending : (x : Queued) (xs : List Queued) (c : Core) → let d = take_queued x c in (d.batch ++ d.builder) ++ samples_waiting xs ≡ (c.batch ++ c.builder) ++ samples_waiting (x ∷ xs)
front_pending (One x) xs c = taken_pending c.batch c.builder (samples_waiting xs) x
front_pending FlushMark xs c = refl
front_pending (EndMark kind) xs c = refl

record SameCore (c d : Core) : Type 0 where
  target : d.target ≡ c.target
  full : d.full ≡ c.full
  epoch : d.epoch ≡ c.epoch
  number : d.shard ≡ c.shard
  batch : d.batch ≡ c.batch

take_same : (x : Queued) (c : Core) → SameCore c (take_queued x c)
take_same (One x) c = record { target = refl; full = refl; epoch = refl; number = refl; batch = refl }
take_same FlushMark c = record { target = refl; full = refl; epoch = refl; number = refl; batch = refl }
take_same (EndMark kind) c = record { target = refl; full = refl; epoch = refl; number = refl; batch = refl }

front_quiet : (xs : List Queued) (s : Shard) → s.queue ≡ xs → Quiet s (take_front xs s)
front_quiet [] s e = still_quiet s
front_quiet (x ∷ xs) s e =
    let t : Shard = record s { queue = xs; core = take_queued x s.core } in
    let k = take_same x s.core in
    record {
      target = k.target;
      full = k.full;
      epoch = k.epoch;
      number = k.number;
      put = refl;
      fewer = same_pending s t (front_pending x xs s.core ∙ ap (λ ys. (s.core.batch ++ s.core.builder) ++ samples_waiting ys) (sym e));
    }

pub take_quiet : (s : Shard) → Quiet s (shard_take s)
take_quiet s = if_quiet (can_take s.core) s (take_front s.queue s) (front_quiet s.queue s refl)

front_batch : (xs : List Queued) (s : Shard) → (take_front xs s).core.batch ≡ s.core.batch
front_batch [] s = refl
front_batch (x ∷ xs) s = (take_same x s.core).batch

if_batch : (b : Bool) (s t : Shard) → t.core.batch ≡ s.core.batch → (cond b t s).core.batch ≡ s.core.batch
if_batch true s t e = e
if_batch false s t e = refl

pub take_batch : (s : Shard) → (shard_take s).core.batch ≡ s.core.batch
take_batch s = if_batch (can_take s.core) s (take_front s.queue s) (front_batch s.queue s)

mark_batch : (kind : Option Kind) (s : Shard) → (put_mark kind s).core.batch ≡ s.core.batch
mark_batch None s = refl
mark_batch (Some kind) s = refl

pub flushed_batch : (capacity : ℕ) (kind : Option Kind) (s : Shard) → (flushed capacity kind s).core.batch ≡ s.core.batch
flushed_batch capacity kind s = if_batch (not s.end_put && has_room capacity s) s (put_mark kind s) (mark_batch kind s)

core_quiet : (s : Shard) (d : Core) → SameCore s.core d → d.builder ≡ s.core.builder → Quiet s (record s { core = d })
core_quiet s d k e = record {
  target = k.target;
  full = k.full;
  epoch = k.epoch;
  number = k.number;
  put = refl;
  fewer = same_pending s (record s { core = d }) (rw (k.batch, e) refl);
}

same_if : (b : Bool) (c : Core) (waiting : Bool) → let d = cond b (record c { waiting = waiting }) c in SameCore c d × (d.builder ≡ c.builder)
same_if true c waiting = (record { target = refl; full = refl; epoch = refl; number = refl; batch = refl }, refl)
same_if false c waiting = (record { target = refl; full = refl; epoch = refl; number = refl; batch = refl }, refl)

pub lost_quiet : (s : Shard) → Quiet s (shard_lost s) × ((shard_lost s).core.batch ≡ s.core.batch)
lost_quiet s = let k = same_if (awaits s.core) s.core false in (core_quiet s (lose s.core) k.0 k.1, k.0.batch)

pub again_quiet : (s : Shard) → Quiet s (record s { core = again s.core })
again_quiet s = let k = same_if true s.core false in core_quiet s (again s.core) k.0 k.1

pub send_quiet : (s : Shard) → Quiet s (shard_send s) × ((shard_send s).core.batch ≡ s.core.batch)
send_quiet s = let k = same_if (can_send s.core) s.core true in (core_quiet s (send s.core) k.0 k.1, k.0.batch)

-- what is frozen waited before, and the ledger's room grows with the open batch
freeze_if : (b : Bool) (s : Shard) (l : Named) → can_freeze s.core ≡ b →
    let t : Shard = record s { core = cond b (record s.core { builder = []; marked = false; batch = s.core.builder; waiting = false }) s.core } in
    let m : Named = cond b (record l { room = l.room + length s.core.builder }) l in
    Quiet s t × (length t.core.batch + l.room ≤ length s.core.batch + m.room) × (m.names ≡ l.names)
freeze_if true s l e =
    let none : s.core.batch ≡ [] = nil_from_empty s.core.batch (freeze_parts s.core e).none in
    let t : Shard = record s { core = record s.core { builder = []; marked = false; batch = s.core.builder; waiting = false } } in
    let same : pending_in_shard t ≡ pending_in_shard s = ap (λ zs. zs ++ samples_waiting s.queue) (append-nil s.core.builder ∙ ap (λ b. b ++ s.core.builder) (sym none)) in
    (record { target = refl; full = refl; epoch = refl; number = refl; put = refl; fewer = same_pending s t same }, omega arith, refl)
freeze_if false s l e = (still_quiet s, omega arith, refl)

pub freeze_quiet : (s : Shard) (l : Named) → Quiet s (shard_freeze s) × (length (shard_freeze s).core.batch + l.room ≤ length s.core.batch + (freeze_room s.core l).room) × ((freeze_room s.core l).names ≡ l.names)
freeze_quiet s l = freeze_if (can_freeze s.core) s l refl

-- one shard changes quietly
pub quiet_kept : (target : Target) (capacity batch epoch : ℕ) (hs : List Held) (next : ℕ) (l l' : Named) (i : ℕ) (h h' : Held) (t : Shard) →
    IsSending target capacity batch epoch hs next l → slice_get hs i ≡ Some h → h' ≡ record h { shard = t } → Quiet h.shard t → l'.names ≡ l.names →
    length t.core.batch + l.room ≤ length h.shard.core.batch + l'.room →
    IsSending target capacity batch epoch (set hs i h') next l'
quiet_kept target capacity batch epoch hs next l l' i h h' t s at e q names room =
    let k =
    kept target capacity batch epoch hs next l l' i h (record h { shard = t }) s at
    (record { target = q.target; capacity = refl; full = q.full; epoch = q.epoch; number = q.number; put = q.put }) names q.fewer room in
    rw e k

same_batch : (s t : Shard) (l : Named) → t.core.batch ≡ s.core.batch → length t.core.batch + l.room ≤ length s.core.batch + l.room
same_batch s t l e = let n : length t.core.batch ≡ length s.core.batch = ap length e in omega (arith, n)

pub quiet_same : (target : Target) (capacity batch epoch : ℕ) (hs : List Held) (next : ℕ) (l : Named) (i : ℕ) (h h' : Held) (t : Shard) →
    IsSending target capacity batch epoch hs next l → slice_get hs i ≡ Some h → h' ≡ record h { shard = t } → Quiet h.shard t → t.core.batch ≡ h.shard.core.batch →
    IsSending target capacity batch epoch (set hs i h') next l
quiet_same target capacity batch epoch hs next l i h h' t s at e q b = quiet_kept target capacity batch epoch hs next l l i h h' t s at e q refl (same_batch h.shard t l b)

-- no shard of that number: nil_from_empty changes
pub past_is : (f : Shard → Shard) (hs : List Held) (n i : ℕ) (v : Sending) → n ≡ length hs → n ≤ i → map (λ (h : Held). h.shard) hs ≡ v.shards → v ≡ record v { shards = change i f v.shards }
past_is f hs n i v len le e =
    let m : length v.shards ≡ length hs = ap length (sym e) ∙ length-map hs (λ (h : Held). h.shard) in
    sym (ap (λ ss. record v { shards = ss }) (change-past f v.shards i (omega (arith, m, len))))

-- this shard changes, and no other
pub changed_is : (f : Shard → Shard) (hs : List Held) (i : ℕ) (h h' : Held) (u v : Sending) → slice_get hs i ≡ Some h → h'.shard ≡ f h.shard → u ≡ v → u.shards ≡ map (λ (x : Held). x.shard) hs →
    record u { shards = map (λ (x : Held). x.shard) (set hs i h') } ≡ record v { shards = change i f v.shards }
changed_is f hs i h h' u v at e same is =
    ap (λ ss. record u { shards = ss }) (change-set f hs i h h' at e ∙ ap (change i f) (sym is)) ∙ ap (λ (w : Sending). record w { shards = change i f w.shards }) same

-- nil_from_empty changes
pub set_same : {X : Type 0} (xs : List X) (i : ℕ) (x : X) → slice_get xs i ≡ Some x → set xs i x ≡ xs
set_same [] i x e = refl
set_same (y ∷ ys) zero x e = let same : y ≡ x = cc in rw same refl
set_same (y ∷ ys) (suc i) x e = ap (λ zs. y ∷ zs) (set_same ys i x e)

-- new shards
pub new-snoc : (target : Target) (capacity batch epoch i n : ℕ) → new_held target capacity batch epoch i (suc n) ≡ new_held target capacity batch epoch i n ++ record { capacity = capacity; shard = new_shard (new_core target epoch (n + i) batch) } ∷ []
new-snoc target capacity batch epoch i zero = let z : 0 + i ≡ i = omega arith in rw z refl
new-snoc target capacity batch epoch i (suc n) =
    let first : Held = record { capacity = capacity; shard = new_shard (new_core target epoch i batch) } in
    let step : n + suc i ≡ suc n + i = omega arith in
    ap (λ hs. first ∷ hs) (new-snoc target capacity batch epoch (suc i) n) ∙ ap (λ k. first ∷ (new_held target capacity batch epoch (suc i) n ++ record { capacity = capacity; shard = new_shard (new_core target epoch k batch) } ∷ [])) step

new_at : (target : Target) (capacity batch epoch next i n j : ℕ) (h : Held) → slice_get (new_held target capacity batch epoch i n) j ≡ Some h → IsShardAt target capacity batch epoch next (i + j) h
new_at target capacity batch epoch next i zero j h e = absurd (cc)
new_at target capacity batch epoch next i (suc n) zero h e =
    let g : Held = record { capacity = capacity; shard = new_shard (new_core target epoch i batch) } in
    let same : g ≡ h = cc in
    let z : i + 0 ≡ i = omega arith in
    let at : IsShardAt target capacity batch epoch next i g = record { target_is = refl; capacity_is = refl; full = refl; epoch_is = refl; number = refl; below = λ k d lt. absurd (omega arith) } in
    rw (z, ← same) at
new_at target capacity batch epoch next i (suc n) (suc j) h e =
    let step : i + suc j ≡ suc i + j = omega arith in
    rw step (new_at target capacity batch epoch next (suc i) n j h e)

new_length : (target : Target) (capacity batch epoch i n : ℕ) → length (new_held target capacity batch epoch i n) ≡ n
new_length target capacity batch epoch i zero = refl
new_length target capacity batch epoch i (suc n) = ap suc (new_length target capacity batch epoch (suc i) n)

new_waiting : (p : ℕ) (target : Target) (capacity batch epoch i n : ℕ) → waiting p (new_held target capacity batch epoch i n) ≡ 0
new_waiting p target capacity batch epoch i zero = refl
new_waiting p target capacity batch epoch i (suc n) = let r = new_waiting p target capacity batch epoch (suc i) n in omega (arith, r)

new_open : (target : Target) (capacity batch epoch i n : ℕ) → open_samples (new_held target capacity batch epoch i n) ≡ 0
new_open target capacity batch epoch i zero = refl
new_open target capacity batch epoch i (suc n) = let r = new_open target capacity batch epoch (suc i) n in omega (arith, r)

-- new shards take over
pub new_kept : (target : Target) (capacity batch epoch n : ℕ) (hs : List Held) (next : ℕ) (l : Named) → hs ≡ new_held target capacity batch epoch 0 n → 0 < batch → batch ≤ 10000 → 1 ≤ n → n ≤ 1000 →
    ((p : ℕ) → next ≤ p → get l.names p ≡ None) → IsSending target capacity batch epoch hs next l
new_kept target capacity batch epoch n hs next l e some most one many later =
    let made = new_held target capacity batch epoch 0 n in
    let len : length made ≡ n = new_length target capacity batch epoch 0 n in
    let kept : IsSending target capacity batch epoch made next l = record {
      batch_some = some;
      batch_most = most;
      some = omega (arith, len);
      most = omega (arith, len);
      each = λ j h f. let z : 0 + j ≡ j = omega arith in let a = new_at target capacity batch epoch next 0 n j h f in rw z at a;
      once = λ p. let w = new_waiting p target capacity batch epoch 0 n in omega (arith, w);
      later = later;
      room = let o = new_open target capacity batch epoch 0 n in omega (arith, o);
    } in
    rw e kept

pub all_drained_is : (hs : List Held) → list_all (λ (h : Held). is_drained h.shard) hs ≡ list_all is_drained (map (λ (h : Held). h.shard) hs)
all_drained_is [] = refl
all_drained_is (h ∷ hs) = ap (λ b. is_drained h.shard && b) (all_drained_is hs)
