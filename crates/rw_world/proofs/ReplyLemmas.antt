-- What holds of the shards and the names, as samples are put, named and resolved.
use Rattle.std.proofs.Common.{◌≡◌, ℕ, zero, suc, ◌+◌, ◌-◌, ◌<◌, ◌≤◌, ℤ, Bool, true, false, cond, List, [], ◌∷◌, ◌++◌, length, map, set, get_or, Option, None, Some, All, IfSome, refl, sym, ap, ◌∙◌, append_assoc, length-set, arith}
use Rattle.std.proofs.lemmas.Bool.Decides.{nat_tests}
use Rattle.std.proofs.lemmas.List.Elements.{All-append, All-weaker}
use Rattle.std.proofs.lemmas.Option.{slice_get-map}
use Rattle.std.specs.Cmp.{unsigned_tied, nat_cmp_total}
use Rattle.std.specs.Prelude.{slice_get, nat_lt, nat_eq, option_map}
use Rattle.std.specs.Ordering.{nat_cmp}
use Rattle.std.specs.FinMap.{FinMap, get, insert, get-insert}
use Rattle.rw_types.specs.Labels.{Labels}
use Rattle.rw_batch.specs.declared.batch.BatchId.{BatchId}
use Rattle.rw_retry.specs.Judgements.{judgement_of}
use Rattle.rw_retry.specs.declared.judgement.Judgement.{Judgement}
use Rattle.rw_retry.specs.declared.judgement.Judgement.TheVariants.{Done, Again, Refused}
use Rattle.rw_ledger.specs.Names.{Named}
use Rattle.rw_ledger.specs.declared.ledger.Reason.{Reason}
use Rattle.rw_ledger.specs.declared.ledger.Reason.TheVariants as why
use Rattle.rw_plain_queue.specs.Items.{Placed}
use Rattle.rw_shard_core.specs.declared.config.Target.{Target}
use Rattle.rw_shard_core.specs.Shard.{HasRoomFor, positions, last_sample, is_answer, settle, resolve, again, reply, reply_names, settle_names, name_all}
use Rattle.rw_machine.specs.Shards.{Shard, One, samples_waiting, pending_in_shard, has_room, shard_put, with_core}
use Rattle.rw_machine.specs.Steps.{change}
use Rattle.rw_world.specs.Held.{Held}
use Rattle.rw_world.specs.inner.Held.{sample_for}
use Rattle.rw_world.specs.Sending.{Sending, replied, has_room_at, next_sample_at, put_to}
use Rattle.rw_world.specs.inner.Sending.{times, waiting, allowed, IsShardAt, IsSending}
use Rattle.rw_world.proofs.SendingLemmas.{positions-append, times-append, here, waiting-set, waiting-get, open-set, open-get, samples_in-queue, same_at, each-set, quiet_kept, changed_is, still_quiet, again_quiet}
use Rattle.rw_shard_core.proofs.shared.NamingLemmas.{settle_names-room}

shard_times : (p : ℕ) (b u q : List Placed) → times p (positions ((b ++ u) ++ q)) ≡ times p (positions b) + (times p (positions u) + times p (positions q))
shard_times p b u q =
    let x : times p (positions ((b ++ u) ++ q)) ≡ times p (positions (b ++ u)) + times p (positions q) = ap (times p) (positions-append (b ++ u) q) ∙ times-append p (positions (b ++ u)) (positions q) in
    let y : times p (positions (b ++ u)) ≡ times p (positions b) + times p (positions u) = ap (times p) (positions-append b u) ∙ times-append p (positions b) (positions u) in
    omega (arith, x, y)

allowed_past : (p next : ℕ) (o : Option Reason) → next ≤ p → allowed (nat_lt p next) o ≡ 0
allowed_past p next o le = let f : nat_lt p next ≡ false = grind (arith, nat_tests) in rw f refl

allowed_most : (b : Bool) (o : Option Reason) → allowed b o ≤ 1
allowed_most true None = omega arith
allowed_most true (Some r) = omega arith
allowed_most false o = omega arith

allowed_unnamed : (b : Bool) (o : Option Reason) → 1 ≤ allowed b o → o ≡ None
allowed_unnamed true None h = refl
allowed_unnamed true (Some r) h = absurd (omega arith)
allowed_unnamed false o h = absurd (omega arith)

allowed_if : (a b : Bool) (o : Option Reason) → (a ≡ true → b ≡ true) → allowed a o ≤ allowed b o
allowed_if true b o f = rw (f refl) (omega arith)
allowed_if false b o f = omega arith

allowed_more : (p next m : ℕ) (o : Option Reason) → next ≤ m → allowed (nat_lt p next) o ≤ allowed (nat_lt p m) o
allowed_more p next m o le = allowed_if (nat_lt p next) (nat_lt p m) o (λ h. grind (arith, nat_tests))

times-at : (xs : List ℕ) (k d : ℕ) → k < length xs → 1 ≤ times (get_or xs k d) xs
times-at [] k d lt = absurd (omega arith)
times-at (x ∷ xs) zero d lt = let t : nat_eq x x ≡ true = grind (arith, nat_tests) in rw t (omega arith)
times-at (x ∷ xs) (suc k) d lt = let r = times-at xs k d (omega arith) in omega (arith, r)

batch_times : (p : ℕ) (s : Shard) → times p (positions s.core.batch) ≤ times p (positions (pending_in_shard s))
batch_times p s = let e = shard_times p s.core.batch s.core.builder (samples_waiting s.queue) in omega (arith, e)

-- the names have room for the open batch, and none of its samples
pub has_room_for : (target : Target) (capacity batch epoch : ℕ) (hs : List Held) (next : ℕ) (l : Named) (i : ℕ) (h : Held) → IsSending target capacity batch epoch hs next l → slice_get hs i ≡ Some h → HasRoomFor h.shard.core l
has_room_for target capacity batch epoch hs next l i h s at = record {
  room = let o = open-get hs i h at in omega (arith, o, s.room);
  unnamed = λ k d lt.
      let p = get_or (positions h.shard.core.batch) k d in
      let one = times-at (positions h.shard.core.batch) k d lt in
      let in_shard = batch_times p h.shard in
      let in_all = waiting-get p hs i h at in
      let once = s.once p in
      allowed_unnamed (nat_lt p next) (get l.names p) (omega (arith, one, in_shard, in_all, once));
}

-- the name of one position leaves the others
other_name : (names : FinMap nat_cmp Reason) (q p : ℕ) (r : Reason) → nat_eq p q ≡ false → get (insert names q r) p ≡ get names p
other_name names q p r ne = get-insert nat_cmp_total names q r p ∙ ap (λ b. cond b (Some r) (get names p)) (unsigned_tied p q ∙ ne)

first_if : (b : Bool) (n : ℕ) → cond b 1 0 + n ≡ 0 → b ≡ false
first_if true n e = absurd (omega arith)
first_if false n e = refl

not_first : (p q n : ℕ) → cond (nat_eq p q) 1 0 + n ≡ 0 → nat_eq p q ≡ false
not_first p q n e = first_if (nat_eq p q) n e

name_all_other : (status : ℕ) (ps : List ℕ) (names : FinMap nat_cmp Reason) (p : ℕ) → times p ps ≡ 0 → get (name_all status ps names) p ≡ get names p
name_all_other status [] names p e = refl
name_all_other status (q ∷ qs) names p e =
    let ne : nat_eq p q ≡ false = not_first p q (times p qs) e in
    let rest : times p qs ≡ 0 = omega arith in
    name_all_other status qs (insert names q (why.Status status)) p rest ∙ other_name names q p (why.Status status) ne

once_at : (n w w' here' a a' : ℕ) → w' + (n + here') ≡ w + here' → w ≤ a → a ≤ 1 → (n ≡ 0 → a' ≡ a) → w' ≤ a'
once_at zero w w' here' a a' e le one f = let g = f refl in omega (arith, g)
once_at (suc n) w w' here' a a' e le one f = omega arith

-- the open batch is resolved
resolve_kept : (target : Target) (capacity batch epoch : ℕ) (hs : List Held) (next : ℕ) (l l' : Named) (i : ℕ) (h h' : Held) →
    IsSending target capacity batch epoch hs next l → slice_get hs i ≡ Some h → h' ≡ record h { shard = record h.shard { core = resolve h.shard.core } } →
    ((p : ℕ) → times p (positions h.shard.core.batch) ≡ 0 → get l'.names p ≡ get l.names p) → l'.room ≡ l.room - length h.shard.core.batch →
    IsSending target capacity batch epoch (set hs i h') next l'
resolve_kept target capacity batch epoch hs next l l' i h h' s at e names room =
    let g : Held = record h { shard = record h.shard { core = resolve h.shard.core } } in
    let kept : IsSending target capacity batch epoch (set hs i g) next l' = record {
      batch_some = s.batch_some;
      batch_most = s.batch_most;
      some = omega (arith, s.some, length-set hs i g);
      most = omega (arith, s.most, length-set hs i g);
      each = each-set target capacity batch epoch next hs i h g at
          (same_at target capacity batch epoch next i h g (s.each i h at) (record { target = refl; capacity = refl; full = refl; epoch = refl; number = refl; put = refl })) s.each;
      once = λ p.
          let w = waiting-set p hs i h g at in
          let old = shard_times p h.shard.core.batch h.shard.core.builder (samples_waiting h.shard.queue) in
          let new = shard_times p [] h.shard.core.builder (samples_waiting h.shard.queue) in
          let o = s.once p in
          once_at (times p (positions h.shard.core.batch)) (waiting p hs) (waiting p (set hs i g)) (here p g) (allowed (nat_lt p next) (get l.names p)) (allowed (nat_lt p next) (get l'.names p))
          (omega (arith, w, old, new)) o (allowed_most (nat_lt p next) (get l.names p)) (λ z. ap (allowed (nat_lt p next)) (names p z));
      later = λ p le.
          let o = s.once p in
          let none = allowed_past p next (get l.names p) le in
          let in_shard = batch_times p h.shard in
          let in_all = waiting-get p hs i h at in
          let z : times p (positions h.shard.core.batch) ≡ 0 = omega (arith, o, none, in_shard, in_all) in
          names p z ∙ s.later p le;
      room = let o = open-set hs i h g at in let k = open-get hs i h at in omega (arith, o, k, room, s.room);
    } in
    rw e kept

settle_kept : (j : Judgement) (status : ℕ) (target : Target) (capacity batch epoch : ℕ) (hs : List Held) (next : ℕ) (l l' : Named) (i : ℕ) (h h' : Held) →
    IsSending target capacity batch epoch hs next l → slice_get hs i ≡ Some h → h' ≡ record h { shard = record h.shard { core = settle j h.shard.core } } →
    l'.names ≡ (settle_names j status h.shard.core.batch l).names → l'.room ≡ (settle_names j status h.shard.core.batch l).room →
    IsSending target capacity batch epoch (set hs i h') next l'
settle_kept Done status target capacity batch epoch hs next l l' i h h' s at e names room =
    resolve_kept target capacity batch epoch hs next l l' i h h' s at e (λ p z. ap (λ (m : FinMap nat_cmp Reason). get m p) names) room
settle_kept Refused status target capacity batch epoch hs next l l' i h h' s at e names room =
    resolve_kept target capacity batch epoch hs next l l' i h h' s at e
    (λ p z. ap (λ (m : FinMap nat_cmp Reason). get m p) names ∙ name_all_other status (positions h.shard.core.batch) l.names p z) room
settle_kept Again status target capacity batch epoch hs next l l' i h h' s at e names room =
    quiet_kept target capacity batch epoch hs next l l' i h h' (record h.shard { core = again h.shard.core }) s at e (again_quiet h.shard) names (omega (arith, room))

replied_if : (b : Bool) (j : Judgement) (status : ℕ) (target : Target) (capacity batch epoch : ℕ) (hs : List Held) (next : ℕ) (l l' : Named) (i : ℕ) (h h' : Held) →
    IsSending target capacity batch epoch hs next l → slice_get hs i ≡ Some h → h' ≡ record h { shard = record h.shard { core = cond b (settle j h.shard.core) h.shard.core } } →
    l'.names ≡ (cond b (settle_names j status h.shard.core.batch l) l).names → l'.room ≡ (cond b (settle_names j status h.shard.core.batch l) l).room →
    IsSending target capacity batch epoch (set hs i h') next l'
replied_if true j status target capacity batch epoch hs next l l' i h h' s at e names room = settle_kept j status target capacity batch epoch hs next l l' i h h' s at e names room
replied_if false j status target capacity batch epoch hs next l l' i h h' s at e names room =
    quiet_kept target capacity batch epoch hs next l l' i h h' h.shard s at e (still_quiet h.shard) names (omega (arith, room))

pub reply_kept_all : (id : BatchId) (status : ℕ) (target : Target) (capacity batch epoch : ℕ) (hs : List Held) (next : ℕ) (l l' : Named) (i : ℕ) (h h' : Held) →
    IsSending target capacity batch epoch hs next l → slice_get hs i ≡ Some h → h' ≡ record h { shard = with_core (reply id status) h.shard } →
    l'.names ≡ (reply_names id status h.shard.core l).names → l'.room ≡ (reply_names id status h.shard.core l).room →
    IsSending target capacity batch epoch (set hs i h') next l'
reply_kept_all id status target capacity batch epoch hs next l l' i h h' s at e names room =
    replied_if (is_answer id h.shard.core) (judgement_of status) status target capacity batch epoch hs next l l' i h h' s at e names room

-- the element that the machine sees
pub shard_seen : (hs : List Held) (ss : List Shard) (i : ℕ) (h : Held) → slice_get hs i ≡ Some h → map (λ (x : Held). x.shard) hs ≡ ss → slice_get ss i ≡ Some h.shard
shard_seen hs ss i h at e = ap (λ xs. slice_get xs i) (sym e) ∙ slice_get-map (λ (x : Held). x.shard) hs i ∙ ap (option_map (λ (x : Held). x.shard)) at

change_nothing : (i : ℕ) (ss : List Shard) → change i (λ s. s) ss ≡ ss
change_nothing i [] = refl
change_nothing zero (s ∷ ss) = refl
change_nothing (suc i) (s ∷ ss) = ap (λ xs. s ∷ xs) (change_nothing i ss)

replied_is_if : (b : Bool) (j : Judgement) (id : BatchId) (status : ℕ) (hs : List Held) (h h' : Held) (l l' : Named) (u v : Sending) →
    slice_get hs id.shard ≡ Some h → h'.shard ≡ record h.shard { core = cond b (settle j h.shard.core) h.shard.core } →
    l'.names ≡ (cond b (settle_names j status h.shard.core.batch l) l).names → u ≡ v → u.shards ≡ map (λ (x : Held). x.shard) hs → u.names ≡ l.names →
    record u { shards = map (λ (x : Held). x.shard) (set hs id.shard h'); names = l'.names }
    ≡ cond b (record v { names = (settle_names j status h.shard.core.batch (record { names = v.names; room = 0 })).names; shards = change id.shard (with_core (settle j)) v.shards }) v
replied_is_if true j id status hs h h' l l' u v at e names same is was =
    ap (λ (m : FinMap nat_cmp Reason). record u { shards = map (λ (x : Held). x.shard) (set hs id.shard h'); names = m })
    (names ∙ settle_names-room j status h.shard.core.batch l ∙ ap (λ (m : FinMap nat_cmp Reason). (settle_names j status h.shard.core.batch (record { names = m; room = 0 })).names) (sym was ∙ ap (λ (w : Sending). w.names) same))
    ∙ ap (λ (w : Sending). record w { names = (settle_names j status h.shard.core.batch (record { names = v.names; room = 0 })).names })
    (changed_is (with_core (settle j)) hs id.shard h h' u v at e same is)
replied_is_if false j id status hs h h' l l' u v at e names same is was =
    ap (λ (m : FinMap nat_cmp Reason). record u { shards = map (λ (x : Held). x.shard) (set hs id.shard h'); names = m }) (names ∙ sym was)
    ∙ changed_is (λ s. s) hs id.shard h h' u v at e same is ∙ ap (λ ss. record v { shards = ss }) (change_nothing id.shard v.shards)

pub replied_is : (id : BatchId) (status : ℕ) (hs : List Held) (h h' : Held) (l l' : Named) (u v : Sending) →
    slice_get hs id.shard ≡ Some h → h'.shard ≡ with_core (reply id status) h.shard → l'.names ≡ (reply_names id status h.shard.core l).names → u ≡ v → u.shards ≡ map (λ (x : Held). x.shard) hs →
    u.names ≡ l.names → record u { shards = map (λ (x : Held). x.shard) (set hs id.shard h'); names = l'.names } ≡ replied id status v (slice_get v.shards id.shard)
replied_is id status hs h h' l l' u v at e names same is was =
    replied_is_if (is_answer id h.shard.core) (judgement_of status) id status hs h h' l l' u v at e names same is was
    ∙ ap (replied id status v) (sym (shard_seen hs v.shards id.shard h at (sym is ∙ ap (λ (w : Sending). w.shards) same)))

-- a sample is put
one_below : (x : Placed) (n : ℕ) → x.place.pos < n → All (λ (y : Placed). y.place.pos < n) (x ∷ [])
one_below x n lt zero d k = lt
one_below x n lt (suc k) d m = absurd (omega arith)

below_more : (next m : ℕ) (xs : List Placed) → next ≤ m → All (λ (x : Placed). x.place.pos < next) xs → All (λ (x : Placed). x.place.pos < m) xs
below_more next m xs le h = All-weaker (λ (x : Placed). x.place.pos < next) (λ (x : Placed). x.place.pos < m) (λ x lt. omega arith) xs h

at_more : (target : Target) (capacity batch epoch next m i : ℕ) (h : Held) → next ≤ m → IsShardAt target capacity batch epoch next i h → IsShardAt target capacity batch epoch m i h
at_more target capacity batch epoch next m i h le a = record {
  target_is = a.target_is;
  capacity_is = a.capacity_is;
  full = a.full;
  epoch_is = a.epoch_is;
  number = a.number;
  below = below_more next m h.shard.put le a.below;
}

put_at : (b : Bool) (p pos next w w' hh hh' : ℕ) (o : Option Reason) → nat_eq p pos ≡ b → w' + hh ≡ w + hh' → hh' ≡ hh + (cond b 1 0 + 0) → w ≤ allowed (nat_lt p next) o → (next ≤ p → o ≡ None) → next ≤ pos →
    w' ≤ allowed (nat_lt p (pos + 1)) o
put_at true p pos next w w' hh hh' o b e f le none np =
    let same : p ≡ pos = grind (arith, nat_tests) in
    let past = allowed_past p next o (omega arith) in
    let lt : nat_lt p (pos + 1) ≡ true = grind (arith, nat_tests) in
    let n : o ≡ None = none (omega arith) in
    rw (lt, n) (omega (arith, past))
put_at false p pos next w w' hh hh' o b e f le none np = let m = allowed_more p next (pos + 1) o (omega arith) in omega (arith, m)

pub put_kept : (target : Target) (capacity batch epoch : ℕ) (hs : List Held) (next : ℕ) (l : Named) (i pos : ℕ) (h h' : Held) (x : Placed) →
    IsSending target capacity batch epoch hs next l → slice_get hs i ≡ Some h → h' ≡ record h { shard = shard_put x h.shard } → x.place.pos ≡ pos → next ≤ pos →
    IsSending target capacity batch epoch (set hs i h') (pos + 1) l
put_kept target capacity batch epoch hs next l i pos h h' x s at e is np =
    let g : Held = record h { shard = shard_put x h.shard } in
    let a = s.each i h at in
    let b : IsShardAt target capacity batch epoch (pos + 1) i g = record {
      target_is = a.target_is;
      capacity_is = a.capacity_is;
      full = a.full;
      epoch_is = a.epoch_is;
      number = a.number;
      below = All-append (λ (y : Placed). y.place.pos < pos + 1) h.shard.put (x ∷ []) (below_more next (pos + 1) h.shard.put (omega arith) a.below) (one_below x (pos + 1) (omega (arith, is)));
    } in
    let kept : IsSending target capacity batch epoch (set hs i g) (pos + 1) l = record {
      batch_some = s.batch_some;
      batch_most = s.batch_most;
      some = omega (arith, s.some, length-set hs i g);
      most = omega (arith, s.most, length-set hs i g);
      each = each-set target capacity batch epoch (pos + 1) hs i h g at b (λ j k f. at_more target capacity batch epoch next (pos + 1) j k (omega arith) (s.each j k f));
      once = λ p.
          let w = waiting-set p hs i h g at in
          let o = s.once p in
          let q : positions (pending_in_shard g.shard) ≡ positions (pending_in_shard h.shard) ++ x.place.pos ∷ [] =
          ap (λ ys. positions ((h.shard.core.batch ++ h.shard.core.builder) ++ ys)) (samples_in-queue h.shard.queue (One x ∷ []))
          ∙ ap positions (sym (append_assoc (h.shard.core.batch ++ h.shard.core.builder) (samples_waiting h.shard.queue) (x ∷ []))) ∙ positions-append (pending_in_shard h.shard) (x ∷ []) in
          let f : here p g ≡ here p h + (cond (nat_eq p pos) 1 0 + 0) =
          ap (times p) q ∙ times-append p (positions (pending_in_shard h.shard)) (x.place.pos ∷ []) ∙ ap (λ n. here p h + (cond (nat_eq p n) 1 0 + 0)) is in
          put_at (nat_eq p pos) p pos next (waiting p hs) (waiting p (set hs i g)) (here p h) (here p g) (get l.names p) refl w f o (s.later p) np;
      later = λ p le. s.later p (omega arith);
      room = let o = open-set hs i h g at in omega (arith, o, s.room);
    } in
    rw e kept

last_below : (n : ℕ) (xs : List Placed) → All (λ (x : Placed). x.place.pos < n) xs → IfSome (last_sample xs) (λ (y : Placed). y.place.pos < n)
last_below n [] h = tt
last_below n (x ∷ []) h = h 0 x (omega arith)
last_below n (x ∷ y ∷ ys) h = last_below n (y ∷ ys) (λ k d lt. h (suc k) d (omega arith))

some_below : (next m : ℕ) (o : Option Placed) → next ≤ m → IfSome o (λ (y : Placed). y.place.pos < next) → IfSome o (λ (y : Placed). y.place.pos < m)
some_below next m None le h = tt
some_below next m (Some y) le h = omega arith

pub last_put : (target : Target) (capacity batch epoch : ℕ) (hs : List Held) (next : ℕ) (l : Named) (i pos : ℕ) (h : Held) → IsSending target capacity batch epoch hs next l → slice_get hs i ≡ Some h → next ≤ pos →
    IfSome (last_sample h.shard.put) (λ (y : Placed). y.place.pos < pos)
last_put target capacity batch epoch hs next l i pos h s at le = some_below next pos (last_sample h.shard.put) le (last_below next h.shard.put (s.each i h at).below)

-- what the machine sees of it
pub put_is : (hs : List Held) (i pos series : ℕ) (t : ℤ) (word : ℕ) (ls : Labels) (h h' : Held) (u v : Sending) → slice_get hs i ≡ Some h → h'.shard ≡ shard_put (sample_for h.shard pos series t word ls) h.shard →
    u ≡ v → u.shards ≡ map (λ (x : Held). x.shard) hs → h.shard.core.epoch ≡ u.epoch → h.shard.core.shard ≡ i → has_room_at v.capacity (slice_get v.shards i) ≡ true →
    record u { shards = map (λ (x : Held). x.shard) (set hs i h'); next = pos + 1 } ≡ put_to v i pos series t word ls (slice_get v.shards i)
put_is hs i pos series t word ls h h' u v at e same is epoch number room =
    let seen : slice_get v.shards i ≡ Some h.shard = shard_seen hs v.shards i h at (sym is ∙ ap (λ (w : Sending). w.shards) same) in
    let has : has_room v.capacity h.shard ≡ true = rw seen at room in
    let f = shard_put (next_sample_at v i pos series t word ls h.shard) in
    let x : sample_for h.shard pos series t word ls ≡ next_sample_at v i pos series t word ls h.shard = rw (epoch ∙ ap (λ (w : Sending). w.epoch) same, number) refl in
    let made = changed_is f hs i h h' u v at (e ∙ ap (λ y. shard_put y h.shard) x) same is in
    rw (seen, has) (ap (λ (w : Sending). record w { next = pos + 1 }) made)

-- a position is named
name_at : (b : Bool) (p pos next w : ℕ) (o o' : Option Reason) → nat_eq p pos ≡ b → w ≤ allowed (nat_lt p next) o → (nat_eq p pos ≡ false → o' ≡ o) → next ≤ pos → w ≤ allowed (nat_lt p (pos + 1)) o'
name_at true p pos next w o o' b le f np =
    let same : p ≡ pos = grind (arith, nat_tests) in
    let past = allowed_past p next o (omega arith) in
    omega (arith, past)
name_at false p pos next w o o' b le f np = let m = allowed_more p next (pos + 1) o (omega arith) in rw (f b) (omega (arith, m))

pub name_kept : (target : Target) (capacity batch epoch : ℕ) (hs : List Held) (next : ℕ) (l l' : Named) (pos : ℕ) (r : Reason) →
    IsSending target capacity batch epoch hs next l → l'.names ≡ insert l.names pos r → l'.room ≡ l.room → next ≤ pos → IsSending target capacity batch epoch hs (pos + 1) l'
name_kept target capacity batch epoch hs next l l' pos r s names room np = record {
  batch_some = s.batch_some;
  batch_most = s.batch_most;
  some = s.some;
  most = s.most;
  each = λ j k f. at_more target capacity batch epoch next (pos + 1) j k (omega arith) (s.each j k f);
  once = λ p. name_at (nat_eq p pos) p pos next (waiting p hs) (get l.names p) (get l'.names p) refl (s.once p) (λ ne. ap (λ (m : FinMap nat_cmp Reason). get m p) names ∙ other_name l.names pos p r ne) np;
  later = λ p le. let ne : nat_eq p pos ≡ false = grind (arith, nat_tests) in ap (λ (m : FinMap nat_cmp Reason). get m p) names ∙ other_name l.names pos p r ne ∙ s.later p (omega arith);
  room = omega (arith, room, s.room);
}
