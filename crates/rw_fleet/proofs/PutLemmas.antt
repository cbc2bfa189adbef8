-- What was put, with one item more.
use Rattle.std.proofs.Common.{◌≡◌, ℕ, ◌^◌, ◌<◌, map, List, [], ◌∷◌, ◌++◌, length, refl, sym, ap, ◌∙◌, append-nil, length-append, arith}
use Rattle.std.specs.Prelude.{ℤ}
use Rattle.std.proofs.lemmas.List.{length-map, map-append}
use Rattle.std.specs.Arc.{arc_value}
use Rattle.rw_types.specs.declared.place.Place.{Place}
use Rattle.rw_plain_queue.specs.declared.item.Item.{Item}
use Rattle.rw_plain_queue.specs.declared.item.Item.TheVariants as item
use Rattle.rw_plain_queue.specs.Items.{Placed, samples_in, places_in}
use Rattle.rw_plain_queue.specs.History.{IsFew}
use Rattle.rw_fleet.specs.ShardHistories.{ShardHistory, put_as, item_as, marks_in}
use Rattle.rw_series_cache.specs.declared.sample.RoutedSample.{RoutedSample}
use Rattle.rw_fleet.specs.Work.{positions_in}
use Rattle.rw_plain_queue.proofs.shared.Histories.{samples_in-append, places_in-append}

-- with a sample more they are not too many
pub few_more : (put : List Item) (p : Place) (t : ℤ) (w : _) (l : _) → length (places_in put) < 2 ^ 60 → IsFew (put ++ item.Sample p t w l ∷ [])
few_more put p t w l below = let all = ap length (places_in-append put (item.Sample p t w l ∷ [])) in let sum = length-append (places_in put) (p ∷ []) in omega arith

-- with an item more that is no sample
pub samples_mark : (xs zs : List Item) (x : Item) → zs ≡ xs ++ x ∷ [] → samples_in (x ∷ []) ≡ [] → samples_in zs ≡ samples_in xs
samples_mark xs zs x is none = ap samples_in is ∙ samples_in-append xs (x ∷ []) ∙ ap (λ ps. samples_in xs ++ ps) none ∙ append-nil (samples_in xs)

pub places_mark : (xs zs : List Item) (x : Item) → zs ≡ xs ++ x ∷ [] → places_in (x ∷ []) ≡ [] → places_in zs ≡ places_in xs
places_mark xs zs x is none = ap places_in is ∙ places_in-append xs (x ∷ []) ∙ ap (λ ps. places_in xs ++ ps) none ∙ append-nil (places_in xs)

pub samples_more : (xs zs : List Item) (x : Item) → zs ≡ xs ++ x ∷ [] → samples_in zs ≡ samples_in xs ++ samples_in (x ∷ [])
samples_more xs zs x is = ap samples_in is ∙ samples_in-append xs (x ∷ [])

-- as many positions as places
pub positions_length : (xs : List Item) (ps : List ℕ) → ps ≡ positions_in xs → length ps ≡ length (places_in xs)
positions_length xs ps is = ap length is ∙ length-map (places_in xs) (λ (p : Place). p.pos)

pub positions_more : (xs zs : List Item) (x : Item) (p : Place) (was now : List ℕ) → zs ≡ xs ++ x ∷ [] → places_in (x ∷ []) ≡ p ∷ [] → was ≡ positions_in xs → now ≡ was ++ p.pos ∷ [] → now ≡ positions_in zs
positions_more xs zs x p was now is one old new =
    new ∙ ap (λ l. l ++ p.pos ∷ []) old ∙ sym (ap (λ l. map (λ (q : Place). q.pos) (places_in l)) is ∙ ap (map (λ (q : Place). q.pos)) (places_in-append xs (x ∷ []) ∙ ap (λ ps. places_in xs ++ ps) one) ∙ map-append (λ (q : Place). q.pos) (places_in xs) (p ∷ []))

-- the next sample of a shard, part by part
pub as_put : (lane : ShardHistory) (s : RoutedSample) (epoch shard seq : ℕ) (t : ℤ) → epoch ≡ lane.setup.queue.epoch → shard ≡ lane.setup.queue.shard → seq ≡ length (places_in lane.put) → t ≡ s.t
    → ◌≡◌ {A = Placed} (record { place = record { epoch = epoch; shard = shard; seq = seq; pos = s.pos; series = s.series }; t = t; word = s.word; labels = arc_value s.labels }) (put_as lane s)
as_put lane s epoch shard seq t e h n z = λ i. record { place = record { epoch = e i; shard = h i; seq = n i; pos = s.pos; series = s.series }; t = z i; word = s.word; labels = arc_value s.labels }

pub as_item : (lane : ShardHistory) (s : RoutedSample) (epoch shard seq : ℕ) (t : ℤ) → epoch ≡ lane.setup.queue.epoch → shard ≡ lane.setup.queue.shard → seq ≡ length (places_in lane.put) → t ≡ s.t
    → ◌≡◌ {A = Item} (item.Sample (record { epoch = epoch; shard = shard; seq = seq; pos = s.pos; series = s.series }) t s.word s.labels) (item_as lane s)
as_item lane s epoch shard seq t e h n z = λ i. item.Sample (record { epoch = e i; shard = h i; seq = n i; pos = s.pos; series = s.series }) (z i) s.word s.labels

pub marks_append : (xs ys : List Item) → marks_in (xs ++ ys) ≡ marks_in xs ++ marks_in ys
marks_append [] ys = refl
marks_append (item.Sample p t w l ∷ xs) ys = marks_append xs ys
marks_append (item.Flush ∷ xs) ys = ap (λ ms. item.Flush ∷ ms) (marks_append xs ys)
marks_append (item.End k ∷ xs) ys = ap (λ ms. item.End k ∷ ms) (marks_append xs ys)

-- a sample more leaves the marks
pub marks_same_but : (xs zs : List Item) (x : Item) → zs ≡ xs ++ x ∷ [] → marks_in (x ∷ []) ≡ [] → marks_in zs ≡ marks_in xs
marks_same_but xs zs x is none = ap marks_in is ∙ marks_append xs (x ∷ []) ∙ ap (λ ms. marks_in xs ++ ms) none ∙ append-nil (marks_in xs)
