-- How many samples wait.
use Rattle.std.proofs.Common.{◌≡◌, ℕ, suc, ◌+◌, ◌≤◌, List, [], ◌∷◌, length, drop, refl, ap, length-append, length-drop, arith}
use Rattle.rw_plain_queue.specs.declared.item.Item.{Item}
use Rattle.rw_plain_queue.specs.declared.item.Item.TheVariants as item
use Rattle.rw_plain_queue.specs.Items.{samples_in, places_in}
use Rattle.rw_types.specs.Beginnings.{Begins}
use Rattle.rw_shard_queue.specs.Ends.{Feeding, Draining}
use Rattle.rw_fleet.specs.Work.{positions_in}
use Rattle.rw_fleet.proofs.PutLemmas.{positions_length}
use Rattle.rw_plain_queue.proofs.shared.Histories.{places_in-append}

places_fewer : (xs : List Item) → length (places_in xs) ≤ length xs
places_fewer [] = omega arith
places_fewer (item.Sample p t w l ∷ xs) = let h = places_fewer xs in omega arith
places_fewer (item.Flush ∷ xs) = let h = places_fewer xs in omega arith
places_fewer (item.End k ∷ xs) = let h = places_fewer xs in omega arith

samples_places : (xs : List Item) → length (samples_in xs) ≡ length (places_in xs)
samples_places [] = refl
samples_places (item.Sample p t w l ∷ xs) = ap (λ n. suc n) (samples_places xs)
samples_places (item.Flush ∷ xs) = samples_places xs
samples_places (item.End k ∷ xs) = samples_places xs

-- no more samples are left than items
pub places_within : (feed f : Feeding) (drain d : Draining) → f ≡ feed → d ≡ drain → Begins drain.taken feed.put → length feed.put ≤ length drain.taken + feed.queue.capacity → length (places_in f.put) ≤ length (places_in d.taken) + feed.queue.capacity
places_within feed f drain d same_feed same_drain h most =
    let a = ap (λ (x : Feeding). length (places_in x.put)) same_feed in
    let b = ap (λ (x : Draining). length (places_in x.taken)) same_drain in
    let items = ap length h.1 in
    let parts = length-append drain.taken h.0 in
    let places = ap (λ l. length (places_in l)) h.1 in
    let each = ap length (places_in-append drain.taken h.0) in
    let sum = length-append (places_in drain.taken) (places_in h.0) in
    let fewer = places_fewer h.0 in
    omega arith

-- no more samples wait than the queue holds, and a batch
pub left_within : (most capacity batch held size resolved : ℕ) (all : List ℕ) (put taken drained : List Item) → all ≡ positions_in put → most ≡ capacity + batch → capacity ≡ held → size ≡ batch → taken ≡ drained
    → length (places_in put) ≤ length (places_in taken) + held → length (samples_in drained) ≤ resolved + size → length all ≤ resolved + most
left_within most capacity batch held size resolved all put taken drained is sum a b same within few =
    let puts = positions_length put all is in
    let takes = ap (λ l. length (places_in l)) same in
    let samples = samples_places drained in
    omega arith

pub few_left : (most capacity batch resolved : ℕ) (all left : List ℕ) → most ≡ capacity + batch → length all ≤ resolved + most → left ≡ drop resolved all → length left ≤ capacity + batch
few_left most capacity batch resolved all left sum within is = let len = length-drop resolved all in let same = ap length is in omega arith
