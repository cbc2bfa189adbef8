-- A round of an orderly shutdown.
use Rattle.std.proofs.Common.{◌≡◌, ℕ, ℤ, suc, zero, ◌+◌, ◌%◌, ◌<◌, Bool, true, false, not, ◌||◌, ◌&&◌, cond, List, [], ◌∷◌, ◌++◌, length, take, get_or, Option, None, Some, is_some, refl, sym, ap, subst, ◌∙◌, arith}
use Rattle.std.proofs.lemmas.Bool.{ltb-true}
use Rattle.std.proofs.lemmas.List.{take_more}
use Rattle.std.specs.Prelude.{slice_get, nat_lt}
use Rattle.std.specs.List.{position, position_or_len}
use Rattle.rw_batch.specs.declared.batch.BatchId.{BatchId}
use Rattle.rw_series_cache.specs.Known.{known}
use Rattle.rw_series_cache.specs.Numbers.{number_of}
use Rattle.rw_series_cache.specs.Fates.{Fate, Drops, Filters, Sends}
use Rattle.rw_types.specs.Labels.{Labels}
use Rattle.rw_types.specs.declared.entry.Entry.{Entry}
use Rattle.rw_types.specs.declared.entry.Entry.TheVariants.{Def, Sample}
use Rattle.rw_shard_core.specs.Shard.{is_empty, batch_id, same_id}
use Rattle.rw_machine.specs.Shards.{Shard}
use Rattle.rw_machine.specs.Steps.{shard_of_labels}
use Rattle.rw_machine.specs.Worlds.{Setup, Request, World, log, is_finished}
use Rattle.rw_machine.specs.Settling.{newest_from, exchange_at, first_of_these, made_at, at_first, can_place, can_place_as, can_place_entry, can_place_known, next_events}
use Rattle.rw_machine.specs.Settling as settling
use Rattle.rw_machine.specs.declared.event.How.TheVariants.{Plain}
use Rattle.rw_machine.specs.declared.event.Event.{Event}
use Rattle.rw_machine.specs.declared.event.Event.TheVariants as event
use Rattle.rw_world.specs.Sending.{has_room_at}
use Rattle.rw_world.specs.Guards.{is_open, is_ready, may_take, may_flush, waiting_id_at}
use Rattle.rw_world.specs.inner.Guards.{IsOpen}
use Rattle.rw_world.specs.Positions.{ahead_of}
use Rattle.rw_world.specs.declared.log.Ahead.TheVariants as ahead
use Rattle.rw_machine.proofs.shared.Settles.{hit}

newest_snoc : (id : BatchId) (k : ℕ) (rs : List Request) (r : Request) (f : ℕ) → newest_from id k (rs ++ r ∷ []) f ≡ cond (same_id id r.id) (k + length rs) (newest_from id k rs f)
newest_snoc id k [] r f = let n : k ≡ k + 0 = omega arith in ap (λ m. cond (same_id id r.id) m f) n
newest_snoc id k (x ∷ xs) r f =
    let n : suc k + length xs ≡ k + suc (length xs) = omega arith in
    newest_snoc id (suc k) xs r (cond (same_id id x.id) k f) ∙ ap (λ m. cond (same_id id r.id) m (newest_from id (suc k) xs (cond (same_id id x.id) k f))) n

length_taken : (sent : List Request) (i : ℕ) → i < length sent → length (take i sent) ≡ i
length_taken [] i lt = absurd (omega arith)
length_taken (s ∷ ss) zero lt = refl
length_taken (s ∷ ss) (suc i) lt = ap suc (length_taken ss i (omega arith))

pick_same : (b : Bool) (m n f : ℕ) → m ≡ n → cond b m f ≡ cond b n f
pick_same b m n f e = ap (λ k. cond b k f) e

-- one more request
pub newest_more : (id : BatchId) (sent : List Request) (i : ℕ) (d : Request) → i < length sent →
    newest_from id 0 (take (i + 1) sent) 0 ≡ cond (same_id id (get_or sent i d).id) i (newest_from id 0 (take i sent) 0)
newest_more id sent i d lt =
    let n : 0 + length (take i sent) ≡ i = let l = length_taken sent i lt in omega (arith, l) in
    ap (λ rs. newest_from id 0 rs 0) (take_more sent i d lt) ∙ newest_snoc id 0 (take i sent) (get_or sent i d) 0 ∙ pick_same (same_id id (get_or sent i d).id) (0 + length (take i sent)) i (newest_from id 0 (take i sent) 0) n

-- the last of these requests is it, or is skipped
pub newest_found : (id : BatchId) (sent : List Request) (i k : ℕ) (d : Request) → i ≡ k + 1 → k < length sent → newest_from id 0 sent 0 ≡ newest_from id 0 (take i sent) 0 →
    same_id id (get_or sent k d).id ≡ true → k ≡ newest_from id 0 sent 0
newest_found id sent i k d n lt e h = sym (e ∙ ap (λ j. newest_from id 0 (take j sent) 0) n ∙ newest_more id sent k d lt ∙ ap (λ b. cond b k (newest_from id 0 (take k sent) 0)) h)

pub newest_passed : (id : BatchId) (sent : List Request) (i k : ℕ) (d : Request) → i ≡ k + 1 → k < length sent → newest_from id 0 sent 0 ≡ newest_from id 0 (take i sent) 0 →
    same_id id (get_or sent k d).id ≡ false → newest_from id 0 sent 0 ≡ newest_from id 0 (take k sent) 0
newest_passed id sent i k d n lt e h = e ∙ ap (λ j. newest_from id 0 (take j sent) 0) n ∙ newest_more id sent k d lt ∙ ap (λ b. cond b k (newest_from id 0 (take k sent) 0)) h

found_if : (b : Bool) (n i : ℕ) → cond b (Some n) None ≡ Some i → (b ≡ true) × (n ≡ i)
found_if true n i e = (refl, cc)
found_if false n i e = absurd (cc)

-- there it is
pub open_at : (ss : List Shard) (i : ℕ) → position is_open ss ≡ Some i → IsOpen (slice_get ss i)
open_at ss i e =
    let n = position_or_len is_open ss in
    let f = found_if (nat_lt n (length ss)) n i e in
    let h = hit is_open ss (ltb-true n (length ss) f.0) in
    subst (λ (k : ℕ). IsOpen (slice_get ss k)) f.1 (subst IsOpen (sym h.1) h.2)

waits_if : (b e : Bool) (id found : BatchId) → not e ≡ true → cond b (cond e None (Some id)) None ≡ Some found → (b ≡ true) × (id ≡ found)
waits_if true true id found o h = absurd (cc)
waits_if true false id found o h = (refl, cc)
waits_if false e id found o h = absurd (cc)

rests_if : (b e : Bool) (id : BatchId) → not e ≡ true → cond b (cond e None (Some id)) None ≡ None → b ≡ false
rests_if true true id o h = absurd (cc)
rests_if true false id o h = absurd (cc)
rests_if false e id o h = refl

-- an open batch that waits, and one that does not
pub exchange_waits : (w : World) (i : ℕ) (o : Option Shard) (id : BatchId) → IsOpen o → waiting_id_at o ≡ Some id → event.Arrive (newest_from id 0 w.requests 0) Plain ∷ event.Reply (length w.replies) ∷ [] ≡ exchange_at w i o
exchange_waits w i None id opened h = absurd opened
exchange_waits w i (Some s) id opened h =
    let e = waits_if s.core.waiting (is_empty s.core.batch) (batch_id s.core.batch) id opened h in
    sym (ap (λ b. cond b (event.Arrive (newest_from (batch_id s.core.batch) 0 w.requests 0) Plain ∷ event.Reply (length w.replies) ∷ []) (event.Send i ∷ [])) e.0
    ∙ ap (λ (d : BatchId). event.Arrive (newest_from d 0 w.requests 0) Plain ∷ event.Reply (length w.replies) ∷ []) e.1)

pub exchange_rests : (w : World) (i : ℕ) (o : Option Shard) → IsOpen o → waiting_id_at o ≡ None → event.Send i ∷ [] ≡ exchange_at w i o
exchange_rests w i None opened h = absurd opened
exchange_rests w i (Some s) opened h =
    sym (ap (λ b. cond b (event.Arrive (newest_from (batch_id s.core.batch) 0 w.requests 0) Plain ∷ event.Reply (length w.replies) ∷ []) (event.Send i ∷ [])) (rests_if s.core.waiting (is_empty s.core.batch) (batch_id s.core.batch) opened h))

room_same : (c : Setup) (o : Option Shard) → has_room_at c.capacity o ≡ settling.room_at c o
room_same c None = refl
room_same c (Some s) = refl

-- a sample that is not sent needs no room
pub unsent_placed : (c : Setup) (w : World) (f : Fate) → ((l : Labels) → f ≡ Sends l → ⊥) → true ≡ can_place_as c w f
unsent_placed c w (Drops reason) none = refl
unsent_placed c w Filters none = refl
unsent_placed c w (Sends l) none = absurd (none l refl)

-- one that is sent needs room in the queue of its series' shard
pub sent_placed : (c : Setup) (w : World) (f : Fate) (l : Labels) (number n : ℕ) (b : Bool) → f ≡ Sends l → number ≡ number_of w.series l → n ≡ length w.shards →
    b ≡ has_room_at c.capacity (slice_get w.shards (number % n)) → b ≡ can_place_as c w f
sent_placed c w f l number n b sends is len room =
    let here : number % n ≡ shard_of_labels w l = ap (λ k. k % n) is ∙ ap (λ k. number_of w.series l % k) len in
    room ∙ ap (λ k. has_room_at c.capacity (slice_get w.shards k)) here ∙ room_same c (slice_get w.shards (shard_of_labels w l)) ∙ ap (can_place_as c w) (sym sends)

entry_none : (c : Setup) (w : World) (o : Option Entry) → ahead_of o ≡ ahead.Nothing → can_place_entry c w o ≡ false
entry_none c w None e = refl
entry_none c w (Some (Def r l)) e = absurd (cc)
entry_none c w (Some (Sample r t word)) e = absurd (cc)

entry_defined : (c : Setup) (w : World) (o : Option Entry) → ahead_of o ≡ ahead.Definition → can_place_entry c w o ≡ true
entry_defined c w None e = absurd (cc)
entry_defined c w (Some (Def r l)) e = refl
entry_defined c w (Some (Sample r t word)) e = absurd (cc)

same_sample : (r s : ℕ) (t u : ℤ) → ahead.Sample r t ≡ ahead.Sample s u → (r ≡ s) × (t ≡ u)
same_sample r s t u e = (cc, cc)

entry_sampled : (c : Setup) (w : World) (o : Option Entry) (r : ℕ) (t : ℤ) → ahead_of o ≡ ahead.Sample r t → can_place_entry c w o ≡ can_place_known c w t (known c.choice (take w.placed (log w)) r)
entry_sampled c w None r t e = absurd (cc)
entry_sampled c w (Some (Def s l)) r t e = absurd (cc)
entry_sampled c w (Some (Sample s u word)) r t e =
    let same = same_sample s r u t e in
    ap (λ k. can_place_known c w u (known c.choice (take w.placed (log w)) k)) same.0 ∙ ap (λ k. can_place_known c w k (known c.choice (take w.placed (log w)) r)) same.1

stops : (a b : Bool) → a ≡ true → false ≡ (not a && b)
stops true b e = refl
stops false b e = absurd (cc)

goes : (a b : Bool) → a ≡ false → b ≡ (not a && b)
goes true b e = absurd (cc)
goes false b e = refl

-- whether the next entry may be placed
pub place_stops : (c : Setup) (w : World) → is_some w.draining ≡ true → false ≡ can_place c w
place_stops c w e = stops (is_some w.draining) (can_place_entry c w (slice_get (log w) w.placed)) e

pub place_goes : (c : Setup) (w : World) → is_some w.draining ≡ false → can_place_entry c w (slice_get (log w) w.placed) ≡ can_place c w
place_goes c w e = goes (is_some w.draining) (can_place_entry c w (slice_get (log w) w.placed)) e

pub place_none : (c : Setup) (w : World) → is_some w.draining ≡ false → ahead_of (slice_get (log w) w.placed) ≡ ahead.Nothing → false ≡ can_place c w
place_none c w d e = sym (entry_none c w (slice_get (log w) w.placed) e) ∙ place_goes c w d

pub place_defined : (c : Setup) (w : World) → is_some w.draining ≡ false → ahead_of (slice_get (log w) w.placed) ≡ ahead.Definition → true ≡ can_place c w
place_defined c w d e = sym (entry_defined c w (slice_get (log w) w.placed) e) ∙ place_goes c w d

pub place_sampled : (c : Setup) (w : World) (r : ℕ) (t : ℤ) → is_some w.draining ≡ false → ahead_of (slice_get (log w) w.placed) ≡ ahead.Sample r t → can_place_known c w t (known c.choice (take w.placed (log w)) r) ≡ can_place c w
place_sampled c w r t d e = sym (entry_sampled c w (slice_get (log w) w.placed) r t e) ∙ place_goes c w d

-- what is left if nothing may be placed, no batch is open, no builder is due and nothing may be
-- taken
abbrev pub after_taking : Setup → World → List Event
after_taking c w = first_of_these (cond (is_finished w || is_some w.draining) (at_first (may_flush c.capacity) (λ i. event.Flush i ∷ []) w) None) (event.Restart ∷ [])

abbrev after_due : Setup → World → List Event
after_due c w = first_of_these (at_first may_take (λ i. event.Take i ∷ []) w) (after_taking c w)

abbrev after_open : Setup → World → List Event
after_open c w = first_of_these (at_first is_ready (λ i. event.Freeze i ∷ []) w) (after_due c w)

-- the first choice that there is
pub next_place : (c : Setup) (w : World) → can_place c w ≡ true → event.Place ∷ [] ≡ next_events c w
next_place c w b = sym (ap (λ d. cond d (event.Place ∷ []) (first_of_these (at_first is_open (λ i. exchange_at w i (slice_get w.shards i)) w) (after_open c w))) b)

no_place : (c : Setup) (w : World) → can_place c w ≡ false → next_events c w ≡ first_of_these (at_first is_open (λ i. exchange_at w i (slice_get w.shards i)) w) (after_open c w)
no_place c w b = ap (λ d. cond d (event.Place ∷ []) (first_of_these (at_first is_open (λ i. exchange_at w i (slice_get w.shards i)) w) (after_open c w))) b

first_made : (o : Option ℕ) (make : ℕ → List Event) (rest : List Event) (i : ℕ) → o ≡ Some i → first_of_these (made_at make o) rest ≡ make i
first_made o make rest i e = ap (λ p. first_of_these (made_at make p) rest) e

none_made : (o : Option ℕ) (make : ℕ → List Event) (rest : List Event) → o ≡ None → first_of_these (made_at make o) rest ≡ rest
none_made o make rest e = ap (λ p. first_of_these (made_at make p) rest) e

no_open : (c : Setup) (w : World) → can_place c w ≡ false → position is_open w.shards ≡ None → next_events c w ≡ after_open c w
no_open c w b o = no_place c w b ∙ none_made (position is_open w.shards) (λ i. exchange_at w i (slice_get w.shards i)) (after_open c w) o

no_due : (c : Setup) (w : World) → can_place c w ≡ false → position is_open w.shards ≡ None → position is_ready w.shards ≡ None → next_events c w ≡ after_due c w
no_due c w b o d = no_open c w b o ∙ none_made (position is_ready w.shards) (λ i. event.Freeze i ∷ []) (after_due c w) d

pub next_exchange : (c : Setup) (w : World) (i : ℕ) → can_place c w ≡ false → position is_open w.shards ≡ Some i → exchange_at w i (slice_get w.shards i) ≡ next_events c w
next_exchange c w i b o = sym (no_place c w b ∙ first_made (position is_open w.shards) (λ i. exchange_at w i (slice_get w.shards i)) (after_open c w) i o)

pub next_freeze : (c : Setup) (w : World) (i : ℕ) → can_place c w ≡ false → position is_open w.shards ≡ None → position is_ready w.shards ≡ Some i → event.Freeze i ∷ [] ≡ next_events c w
next_freeze c w i b o d = sym (no_open c w b o ∙ first_made (position is_ready w.shards) (λ i. event.Freeze i ∷ []) (after_due c w) i d)

pub next_take : (c : Setup) (w : World) (i : ℕ) → can_place c w ≡ false → position is_open w.shards ≡ None → position is_ready w.shards ≡ None → position may_take w.shards ≡ Some i → event.Take i ∷ [] ≡ next_events c w
next_take c w i b o d t = sym (no_due c w b o d ∙ first_made (position may_take w.shards) (λ i. event.Take i ∷ []) (after_taking c w) i t)

pub next_last : (c : Setup) (w : World) → can_place c w ≡ false → position is_open w.shards ≡ None → position is_ready w.shards ≡ None → position may_take w.shards ≡ None → after_taking c w ≡ next_events c w
next_last c w b o d t = sym (no_due c w b o d ∙ none_made (position may_take w.shards) (λ i. event.Take i ∷ []) (after_taking c w) t)

-- the last of them: a mark, or a restart
pub last_restart : (c : Setup) (w : World) → (is_finished w || is_some w.draining) ≡ false → event.Restart ∷ [] ≡ after_taking c w
last_restart c w e = sym (ap (λ b. first_of_these (cond b (at_first (may_flush c.capacity) (λ i. event.Flush i ∷ []) w) None) (event.Restart ∷ [])) e)

flushes : (c : Setup) (w : World) → (is_finished w || is_some w.draining) ≡ true → after_taking c w ≡ first_of_these (at_first (may_flush c.capacity) (λ i. event.Flush i ∷ []) w) (event.Restart ∷ [])
flushes c w b = ap (λ b. first_of_these (cond b (at_first (may_flush c.capacity) (λ i. event.Flush i ∷ []) w) None) (event.Restart ∷ [])) b

pub last_flush : (c : Setup) (w : World) (i : ℕ) → (is_finished w || is_some w.draining) ≡ true → position (may_flush c.capacity) w.shards ≡ Some i → event.Flush i ∷ [] ≡ after_taking c w
last_flush c w i b e = sym (flushes c w b ∙ first_made (position (may_flush c.capacity) w.shards) (λ i. event.Flush i ∷ []) (event.Restart ∷ []) i e)

pub last_none : (c : Setup) (w : World) → (is_finished w || is_some w.draining) ≡ true → position (may_flush c.capacity) w.shards ≡ None → event.Restart ∷ [] ≡ after_taking c w
last_none c w b e = sym (flushes c w b ∙ none_made (position (may_flush c.capacity) w.shards) (λ i. event.Flush i ∷ []) (event.Restart ∷ []) e)
