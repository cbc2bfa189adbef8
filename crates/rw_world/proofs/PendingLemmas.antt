-- Which samples are not resolved.
use Rattle.std.proofs.Common.{◌≡◌, ℕ, ◌+◌, ◌<◌, ◌||◌, List, [], ◌∷◌, ◌++◌, length, map, take, get_or, Result, Ok, Err, OnOk, refl, sym, ap, ◌∙◌}
use Rattle.std.proofs.lemmas.List.{append-nil, append_assoc, map-append, take_more}
use Rattle.std.proofs.lemmas.List.Folds.{list_any-append}
use Rattle.std.proofs.lemmas.List.Sorted.{list_any-IsPermutation}
use Rattle.std.specs.Prelude.{◌==◌}
use Rattle.std.specs.List.{list_any}
use Rattle.std.specs.List.Sorted.{IsPermutation}
use Rattle.rw_types.specs.declared.place.Place.{Place}
use Rattle.rw_plain_queue.specs.Items.{Placed, places_in}
use Rattle.rw_plain_queue.specs.declared.item.Item.{Item}
use Rattle.rw_plain_queue.specs.declared.item.Item.TheVariants.{Sample, Flush, End}
use Rattle.rw_shard_core.specs.Shard.{Core, places_of, positions_of, positions}
use Rattle.rw_shard_core.specs.Shard as core
use Rattle.rw_machine.specs.Shards.{samples_waiting, pending_in_shard}
use Rattle.rw_world.specs.Held.{Held}
use Rattle.rw_world.specs.inner.Held.{queued_of}
use Rattle.rw_world.specs.inner.Sending.{all_pending}
use Rattle.rw_world.proofs.SendingLemmas.{positions-append}

pub none_more : (xs : List ℕ) → xs ≡ xs ++ []
none_more xs = sym (append-nil xs)

-- one more place
pub place_step : (now so_far old : List ℕ) (ps : List Place) (i : ℕ) (d : Place) → i < length ps → now ≡ so_far ++ (get_or ps i d).pos ∷ [] → so_far ≡ old ++ positions_of (take i ps) → now ≡ old ++ positions_of (take (i + 1) ps)
place_step now so_far old ps i d lt e so =
    e ∙ ap (λ xs. xs ++ (get_or ps i d).pos ∷ []) so ∙ append_assoc old (positions_of (take i ps)) ((get_or ps i d).pos ∷ [])
    ∙ ap (λ xs. old ++ xs) (sym (map-append (λ (q : Place). q.pos) (take i ps) (get_or ps i d ∷ [])) ∙ ap positions_of (sym (take_more ps i d lt)))

places_join : (xs ys : List Item) → positions_of (places_in (xs ++ ys)) ≡ positions_of (places_in xs) ++ positions_of (places_in ys)
places_join [] ys = refl
places_join (Sample place t word labels ∷ xs) ys = ap (λ ps. place.pos ∷ ps) (places_join xs ys)
places_join (Flush ∷ xs) ys = places_join xs ys
places_join (End kind ∷ xs) ys = places_join xs ys

-- one more item
pub items_more : (old : List ℕ) (items : List Item) (i : ℕ) (x : Item) → i < length items → x ≡ get_or items i x → (old ++ positions_of (places_in (take i items))) ++ positions_of (places_in (x ∷ [])) ≡ old ++ positions_of (places_in (take (i + 1) items))
items_more old items i x lt e =
    append_assoc old (positions_of (places_in (take i items))) (positions_of (places_in (x ∷ [])))
    ∙ ap (λ xs. old ++ xs) (ap (λ (y : Item). positions_of (places_in (take i items)) ++ positions_of (places_in (y ∷ []))) e ∙ sym (places_join (take i items) (get_or items i x ∷ [])) ∙ ap (λ (ys : List Item). positions_of (places_in ys)) (sym (take_more items i x lt)))

pending_join : (hs gs : List Held) → all_pending (hs ++ gs) ≡ all_pending hs ++ all_pending gs
pending_join [] gs = refl
pending_join (h ∷ hs) gs = ap (λ ps. positions (pending_in_shard h.shard) ++ ps) (pending_join hs gs) ∙ sym (append_assoc (positions (pending_in_shard h.shard)) (all_pending hs) (all_pending gs))

-- one more shard
shards_more : (old : List ℕ) (hs : List Held) (i : ℕ) (h : Held) → i < length hs → h ≡ get_or hs i h → (old ++ all_pending (take i hs)) ++ positions (pending_in_shard h.shard) ≡ old ++ all_pending (take (i + 1) hs)
shards_more old hs i h lt e =
    append_assoc old (all_pending (take i hs)) (positions (pending_in_shard h.shard))
    ∙ ap (λ xs. old ++ xs) (ap (λ ps. all_pending (take i hs) ++ ps) (none_more (positions (pending_in_shard h.shard))) ∙ ap (λ (g : Held). all_pending (take i hs) ++ all_pending (g ∷ [])) e ∙ sym (pending_join (take i hs) (get_or hs i h ∷ [])) ∙ ap all_pending (sym (take_more hs i h lt)))

pub shard_step : (now so_far old : List ℕ) (hs : List Held) (i : ℕ) (h : Held) → i < length hs → h ≡ get_or hs i h → now ≡ so_far ++ positions (pending_in_shard h.shard) → so_far ≡ old ++ all_pending (take i hs) → now ≡ old ++ all_pending (take (i + 1) hs)
shard_step now so_far old hs i h lt at e so = e ∙ ap (λ xs. xs ++ positions (pending_in_shard h.shard)) so ∙ shards_more old hs i h lt at

queued_positions : (items : List Item) → positions (samples_waiting (map queued_of items)) ≡ positions_of (places_in items)
queued_positions [] = refl
queued_positions (Sample place t word labels ∷ items) = ap (λ ps. place.pos ∷ ps) (queued_positions items)
queued_positions (Flush ∷ items) = queued_positions items
queued_positions (End kind ∷ items) = queued_positions items

-- what a shard has: in its core, and then in its queue
pending_positions : (c : Core) (items : List Item) → positions (core.pending c ++ samples_waiting (map queued_of items)) ≡ positions_of (places_of (core.pending c)) ++ positions_of (places_in items)
pending_positions c items = positions-append (core.pending c) (samples_waiting (map queued_of items)) ∙ ap (λ ps. positions (core.pending c) ++ ps) (queued_positions items)

pub both_added : {X E : Type 0} (r : Result X E) (old middle now : List ℕ) (c : Core) (ps : List Place) (items : List Item) → middle ≡ old ++ positions_of ps → ps ≡ places_of (core.pending c) → OnOk r (now ≡ middle ++ positions_of (places_in items)) → OnOk r (now ≡ old ++ positions (core.pending c ++ samples_waiting (map queued_of items)))
both_added (Ok x) old middle now c ps items m p e =
    let queued = positions_of (places_in items) in
    e ∙ ap (λ xs. xs ++ queued) m ∙ append_assoc old (positions_of ps) queued
    ∙ ap (λ xs. old ++ xs) (ap (λ (qs : List Place). positions_of qs ++ queued) p ∙ sym (pending_positions c items))
both_added (Err x) old middle now c ps items m p e = tt

any_position : (pos : ℕ) (xs : List Placed) → list_any (λ (p : ℕ). p == pos) (positions xs) ≡ list_any (λ (x : Placed). x.place.pos == pos) xs
any_position pos [] = refl
any_position pos (x ∷ xs) = ap (λ b. (x.place.pos == pos) || b) (any_position pos xs)

any_pending : (pos : ℕ) (hs : List Held) → list_any (λ (p : ℕ). p == pos) (all_pending hs) ≡ list_any (λ s. list_any (λ (x : Placed). x.place.pos == pos) (pending_in_shard s)) (map (λ (h : Held). h.shard) hs)
any_pending pos [] = refl
any_pending pos (h ∷ hs) =
    list_any-append (λ (p : ℕ). p == pos) (positions (pending_in_shard h.shard)) (all_pending hs)
    ∙ ap (λ b. b || list_any (λ (p : ℕ). p == pos) (all_pending hs)) (any_position pos (pending_in_shard h.shard))
    ∙ ap (λ b. list_any (λ (x : Placed). x.place.pos == pos) (pending_in_shard h.shard) || b) (any_pending pos hs)

-- in whatever order, a position is among them if a shard has it
pub all_found : (pos : ℕ) (hs : List Held) (xs ys : List ℕ) → xs ≡ all_pending hs → IsPermutation xs ys → list_any (λ (p : ℕ). p == pos) ys ≡ list_any (λ s. list_any (λ (x : Placed). x.place.pos == pos) (pending_in_shard s)) (map (λ (h : Held). h.shard) hs)
all_found pos hs xs ys e moved = sym (list_any-IsPermutation (λ (p : ℕ). p == pos) xs ys moved) ∙ ap (list_any (λ (p : ℕ). p == pos)) e ∙ any_pending pos hs
