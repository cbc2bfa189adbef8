-- What a shard's core keeps, as samples are taken and batches are frozen.
use Rattle.std.proofs.Common.{◌≡◌, ℕ, zero, suc, ◌+◌, ◌-◌, ◌<◌, Bool, true, false, cond, not, List, [], ◌∷◌, ◌++◌, length, map, Option, None, Some, All, IfSome, refl, sym, subst, ap, ap₂, ◌∙◌, append_assoc, length-append, arith}
use Rattle.std.proofs.lemmas.List.{map-append, length-map}
use Rattle.std.proofs.lemmas.List.Elements.{All-append}
use Rattle.std.specs.Prelude.{slice_get, option_map}
use Rattle.rw_batch.specs.Batches.{Building, Frozen, IsNextPlace, batch_of}
use Rattle.rw_batch.specs.Grouping.{LabelledSample, distinct, message}
use Rattle.rw_write_request.specs.Canon.{canon}
use Rattle.rw_write_request.specs.Spells.{Spells}
use Rattle.rw_write_request.proofs.shared.Meanings.{request-again}
use Rattle.std.specs.FinMap.{FinMap}
use Rattle.std.specs.Ordering.{nat_cmp}
use Rattle.rw_ledger.specs.Names.{Named}
use Rattle.rw_ledger.specs.declared.ledger.Reason.{Reason}
use Rattle.rw_types.specs.declared.place.Place.{Place}
use Rattle.rw_plain_queue.specs.Items.{Placed}
use Rattle.rw_shard_core.specs.Shard.{Core, is_empty, can_freeze, freeze, freeze_room, last_sample, IsNext, AreInRow, places_of, labelled, body_of, IsReadAgain}
use Rattle.rw_shard_core.specs.SentRequest.{request_of}
use Rattle.rw_shard_core.specs.Inside.{batch_part, builder_part, is_waiting}
use Rattle.rw_shard_core.specs.inner.Inside.{IsKept, SpellsMessageOf}
use Rattle.rw_shard_core.specs.declared.config.Target.{Target}
use Rattle.rw_shard_core.specs.declared.shard.OpenBatch.{OpenBatch}

-- the last place is that of the last sample
last_placed : (xs : List Placed) (p : Place) → slice_get (places_of xs) (length (places_of xs) - 1) ≡ Some p →
    (y : Placed) × (last_sample xs ≡ Some y) × (y.place ≡ p)
last_placed [] p e = absurd (cc)
last_placed (x ∷ []) p e = (x, refl, cc)
last_placed (x ∷ y ∷ ys) p e =
    let n = length (places_of ys) in
    let down : suc (suc n) - 1 ≡ suc (suc n - 1) = omega arith in
    last_placed (y ∷ ys) p (sym (ap (slice_get (places_of (x ∷ y ∷ ys))) down) ∙ e)

last_of-append : (xs ys : List Placed) (y : Placed) → last_sample ys ≡ Some y → last_sample (xs ++ ys) ≡ Some y
last_of-append [] ys y e = e
last_of-append (x ∷ []) [] y e = absurd (cc)
last_of-append (x ∷ []) (z ∷ zs) y e = e
last_of-append (x ∷ w ∷ ws) ys y e = last_of-append (w ∷ ws) ys y e

All-tail : (P : Placed → Type 0) (x : Placed) (xs : List Placed) → All P (x ∷ xs) → All P xs
All-tail P x xs h = λ k d lt. h (suc k) d (omega arith)

last_of-All : (P : Placed → Type 0) (xs : List Placed) (y : Placed) → All P xs → last_sample xs ≡ Some y → P y
last_of-All P [] y h e = absurd (cc)
last_of-All P (x ∷ []) y h e = let same : x ≡ y = cc in rw (← same) (h 0 x (omega arith))
last_of-All P (x ∷ z ∷ zs) y h e = last_of-All P (z ∷ zs) y (All-tail P x (z ∷ zs) h) e

pub All-one : (P : Placed → Type 0) (x : Placed) → P x → All P (x ∷ [])
All-one P x p zero d lt = p
All-one P x p (suc k) d lt = absurd (omega arith)

pub AreInRow-push : (xs : List Placed) (x : Placed) → AreInRow xs → IfSome (last_sample xs) (λ y. IsNext y x) → AreInRow (xs ++ x ∷ [])
AreInRow-push [] x h n = tt
AreInRow-push (y ∷ []) x h n = (n, tt)
AreInRow-push (y ∷ z ∷ zs) x h n = (h.0, AreInRow-push (z ∷ zs) x h.1 n)

not_both : (xs : List Placed) → is_empty xs ≡ true → 0 < length xs → ⊥
not_both [] e lt = omega arith
not_both (x ∷ xs) e lt = cc

-- the place of a sample that may be taken follows those of the builder
pub kept_follows : (target : Target) (epoch shard full : ℕ) (builder : Building) (current : Option OpenBatch) (last : Option Place) (taken resolved pending : List Placed) (x : Placed) →
    IsKept target epoch shard full builder current last taken resolved pending → is_empty (batch_part current pending) ≡ true →
    x.place.epoch ≡ epoch → x.place.shard ≡ shard → IfSome (last_sample taken) (λ y. IsNext y x) → IsNextPlace builder.places x.place
kept_follows target epoch shard full builder None last taken resolved pending x k e ep sh next = λ p h.
    let l = last_placed pending p (rw k.builder_is.places at h) in
    let whole : last_sample taken ≡ Some l.0 = ap last_sample k.whole ∙ last_of-append resolved pending l.0 l.1 in
    let n = rw whole at next in
    let named = last_of-All (λ (y : Placed). (y.place.epoch ≡ epoch) × (y.place.shard ≡ shard)) taken l.0 k.named whole in
    let same = l.2 in
    rw (← same) (ep ∙ sym named.0, sh ∙ sym named.1, n.0)
kept_follows target epoch shard full builder (Some o) last taken resolved pending x k e ep sh next = absurd (not_both pending e k.open_is.some)

pub kept_take : (target : Target) (epoch shard full : ℕ) (builder : Building) (current : Option OpenBatch) (last : Option Place) (taken resolved pending : List Placed) (x : Placed) →
    IsKept target epoch shard full builder current last taken resolved pending → is_empty (batch_part current pending) ≡ true → length (builder_part current pending) < full →
    x.place.epoch ≡ epoch → x.place.shard ≡ shard → IfSome (last_sample taken) (λ y. IsNext y x) →
    IsKept target epoch shard full (record builder { places = builder.places ++ x.place ∷ []; samples = builder.samples ++ labelled x ∷ [] }) current (Some x.place) (taken ++ x ∷ []) resolved (pending ++ x ∷ [])
kept_take target epoch shard full builder None last taken resolved pending x k e lt ep sh next = record {
  some = k.some;
  most = k.most;
  builder_full = k.builder_full;
  fits = omega (arith, length-append pending (x ∷ []));
  whole = ap (λ ys. ys ++ x ∷ []) k.whole ∙ append_assoc resolved pending (x ∷ []);
  named = All-append (λ (y : Placed). (y.place.epoch ≡ epoch) × (y.place.shard ≡ shard)) taken (x ∷ []) k.named (All-one (λ (y : Placed). (y.place.epoch ≡ epoch) × (y.place.shard ≡ shard)) x (ep, sh));
  in_row = AreInRow-push taken x k.in_row next;
  last_is = sym (ap (option_map (λ (y : Placed). y.place)) (last_of-append taken (x ∷ []) x refl));
  builder_is = record {
    places = ap (λ ps. ps ++ x.place ∷ []) k.builder_is.places ∙ sym (map-append (λ (y : Placed). y.place) pending (x ∷ []));
    samples_are = ap (λ ss. ss ++ labelled x ∷ []) k.builder_is.samples_are ∙ sym (map-append labelled pending (x ∷ []));
  };
  open_is = tt;
}
kept_take target epoch shard full builder (Some o) last taken resolved pending x k e lt ep sh next = absurd (not_both pending e k.open_is.some)

-- what the core's batch and builder are after it
pub parts_take : (target : Target) (epoch shard full : ℕ) (builder : Building) (current : Option OpenBatch) (last : Option Place) (taken resolved pending : List Placed) (x : Placed) →
    IsKept target epoch shard full builder current last taken resolved pending → is_empty (batch_part current pending) ≡ true →
    (batch_part current (pending ++ x ∷ []) ≡ batch_part current pending) × (builder_part current (pending ++ x ∷ []) ≡ builder_part current pending ++ x ∷ [])
parts_take target epoch shard full builder None last taken resolved pending x k e = (refl, refl)
parts_take target epoch shard full builder (Some o) last taken resolved pending x k e = absurd (not_both pending e k.open_is.some)

-- the builder's samples are frozen
pub kept_freeze : (target : Target) (epoch shard full : ℕ) (builder next : Building) (current : Option OpenBatch) (frozen : Frozen) (request : List ℕ) (last : Option Place) (taken resolved pending : List Placed) →
    IsKept target epoch shard full builder current last taken resolved pending → current ≡ None → 0 < length builder.samples →
    next ≡ record { batch = full; places = []; samples = [] } →
    frozen ≡ record { places = builder.places; body = canon (message builder.samples) } → Spells frozen.body (message builder.samples) →
    request ≡ request_of target.host target.path (batch_of builder).body →
    IsKept target epoch shard full next (Some (record { batch = frozen; request = request; waiting = false })) last taken resolved pending
unfolding body_of SpellsMessageOf
kept_freeze target epoch shard full builder next None frozen request last taken resolved pending k e some n f spells made =
    let same : length builder.samples ≡ length pending = ap length k.builder_is.samples_are ∙ length-map pending labelled in record {
      some = k.some;
      most = k.most;
      builder_full = ap (λ (b : Building). b.batch) n;
      fits = k.fits;
      whole = k.whole;
      named = k.named;
      in_row = k.in_row;
      last_is = k.last_is;
      builder_is = record { places = ap (λ (b : Building). b.places) n; samples_are = ap (λ (b : Building). b.samples) n };
      open_is = record {
        some = omega (arith, same, some);
        places = ap (λ (b : Frozen). b.places) f ∙ k.builder_is.places;
        body = ap (λ (b : Frozen). b.body) f ∙ ap (λ ss. canon (message ss)) k.builder_is.samples_are;
        spells = subst (λ (ss : List LabelledSample). Spells frozen.body (message ss)) k.builder_is.samples_are spells;
        request = made ∙ ap (request_of target.host target.path) (sym (ap (λ (b : Frozen). b.body) f));
      };
    }
kept_freeze target epoch shard full builder next (Some o) frozen request last taken resolved pending k e some n f spells made = absurd (cc)

-- the core before and after a freeze
abbrev core_of : Target → ℕ → ℕ → ℕ → List Placed → List Placed → List Placed → Option OpenBatch → Bool → Bool → Bool → Core
core_of target epoch shard full taken resolved pending current marked ended killed = record {
  target = target;
  epoch = epoch;
  shard = shard;
  full = full;
  taken = taken;
  resolved = resolved;
  builder = builder_part current pending;
  marked = marked;
  batch = batch_part current pending;
  waiting = is_waiting current;
  ended = ended;
  killed = killed;
}

not_empty : (xs : List Placed) → 0 < length xs → is_empty xs ≡ false
not_empty [] lt = absurd (omega arith)
not_empty (x ∷ xs) lt = refl

pub freezes : (target : Target) (epoch shard full : ℕ) (taken resolved pending : List Placed) (current : Option OpenBatch) (marked ended killed : Bool) → current ≡ None → killed ≡ false → 0 < length pending
    → can_freeze (core_of target epoch shard full taken resolved pending current marked ended killed) ≡ true
freezes target epoch shard full taken resolved pending (Some o) marked ended killed e f some = absurd (cc)
freezes target epoch shard full taken resolved pending None marked ended true e f some = absurd (cc)
freezes target epoch shard full taken resolved pending None marked ended false e f some = ap not (not_empty pending some)

pub core_frozen : (target : Target) (epoch shard full : ℕ) (taken resolved pending : List Placed) (current : Option OpenBatch) (marked ended killed : Bool) (batch : Frozen) (request : List ℕ) → current ≡ None → killed ≡ false
    → 0 < length pending
    → core_of target epoch shard full taken resolved pending (Some (record { batch = batch; request = request; waiting = false })) false ended killed
    ≡ freeze (core_of target epoch shard full taken resolved pending current marked ended killed)
core_frozen target epoch shard full taken resolved pending (Some o) marked ended killed batch request e f some = absurd (cc)
core_frozen target epoch shard full taken resolved pending None marked ended killed batch request e f some =
    let old = core_of target epoch shard full taken resolved pending None marked ended killed in
    sym (ap (λ (b : Bool). cond b (record old { builder = []; marked = false; batch = pending; waiting = false }) old)
    (freezes target epoch shard full taken resolved pending None marked ended killed refl f some))

pub room_frozen : (target : Target) (epoch shard full : ℕ) (taken resolved pending : List Placed) (current : Option OpenBatch) (marked ended killed : Bool) (old new : Named) (n : ℕ) → current ≡ None → killed ≡ false
    → 0 < length pending → n ≡ length pending → new.names ≡ old.names → new.room ≡ old.room + n
    → new ≡ freeze_room (core_of target epoch shard full taken resolved pending current marked ended killed) old
room_frozen target epoch shard full taken resolved pending (Some o) marked ended killed old new n e f some len names room = absurd (cc)
room_frozen target epoch shard full taken resolved pending None marked ended killed old new n e f some len names room =
    ap₂ (λ (ns : FinMap nat_cmp Reason) (r : ℕ). record { names = ns; room = r }) names (room ∙ ap (λ (k : ℕ). old.room + k) len)
    ∙ sym (ap (λ (b : Bool). cond b (record old { room = old.room + length pending }) old) (freezes target epoch shard full taken resolved pending None marked ended killed refl f some))

-- the builder has the samples that wait
pub all_pending : (target : Target) (epoch shard full : ℕ) (builder : Building) (current : Option OpenBatch) (last : Option Place) (taken resolved pending : List Placed) →
    IsKept target epoch shard full builder current last taken resolved pending → current ≡ None → length builder.samples ≡ length pending
all_pending target epoch shard full builder None last taken resolved pending k e = ap length k.builder_is.samples_are ∙ length-map pending labelled
all_pending target epoch shard full builder (Some o) last taken resolved pending k e = absurd (cc)

-- no samples make an empty message, which takes no byte
none_spelled : Spells (body_of []) (message [])
unfolding body_of message distinct
none_spelled = record { fields = []; are = record { spelled = refl; wires = tt }; series = tt }

none_read : IsReadAgain []
none_read = request-again (body_of []) (message []) none_spelled

-- the open batch is read again, and so are no samples
pub kept_read : (target : Target) (epoch shard full : ℕ) (builder : Building) (current : Option OpenBatch) (last : Option Place) (taken resolved pending : List Placed) →
    IsKept target epoch shard full builder current last taken resolved pending → IsReadAgain (batch_part current pending)
unfolding SpellsMessageOf
kept_read target epoch shard full builder None last taken resolved pending k = none_read
kept_read target epoch shard full builder (Some o) last taken resolved pending k =
    let open_is = k.open_is in
    request-again (body_of pending) (message (map labelled pending)) (subst (λ (b : List ℕ). Spells b (message (map labelled pending))) open_is.body open_is.spells)
