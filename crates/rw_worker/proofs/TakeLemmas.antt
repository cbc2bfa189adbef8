-- What comes out of a queue may be taken.
use Rattle.std.proofs.Common.{◌≡◌, ℕ, suc, ◌<◌, ◌≤◌, ◌^◌, List, [], ◌∷◌, ◌++◌, length, Option, None, Some, IfSome, refl, sym, ap, ◌∙◌, append_assoc, arith}
use Rattle.std.proofs.lemmas.List.{map-append, length-map}
use Rattle.std.specs.Prelude.{slice_get}
use Rattle.rw_types.specs.declared.place.Place.{Place}
use Rattle.rw_types.proofs.shared.RisingLemmas.{Rises-get}
use Rattle.rw_plain_queue.specs.Items.{Placed, samples_in, places_in}
use Rattle.rw_plain_queue.specs.History.{IsHistory, StandsBefore}
use Rattle.rw_plain_queue.specs.declared.item.Item.{Item}
use Rattle.rw_plain_queue.specs.declared.item.Item.TheVariants.{Sample, Flush, End}
use Rattle.rw_plain_queue.proofs.shared.Histories.{places_in-append}
use Rattle.rw_shard_core.specs.Shard.{Core, MayTake, last_sample, places_of, placed, IsNext}

pub places_are : (xs : List Item) → places_of (samples_in xs) ≡ places_in xs
places_are [] = refl
places_are (Sample p t w l ∷ xs) = ap (λ ps. p ∷ ps) (places_are xs)
places_are (Flush ∷ xs) = places_are xs
places_are (End k ∷ xs) = places_are xs

get_last : (ps : List Place) (p : Place) → slice_get (ps ++ p ∷ []) (length ps) ≡ Some p
get_last [] p = refl
get_last (q ∷ qs) p = get_last qs p

get_before : (ps : List Place) (p q : Place) → slice_get (ps ++ p ∷ q ∷ []) (length ps) ≡ Some p
get_before [] p q = refl
get_before (r ∷ rs) p q = get_before rs p q

get_after : (ps : List Place) (p q : Place) → slice_get (ps ++ p ∷ q ∷ []) (suc (length ps)) ≡ Some q
get_after [] p q = refl
get_after (r ∷ rs) p q = get_after rs p q

last_split : (xs : List Placed) (y : Placed) → last_sample xs ≡ Some y → (ys : List Placed) × (xs ≡ ys ++ y ∷ [])
last_split [] y e = absurd (cc)
last_split (x ∷ []) y e = ([], ap (λ z. z ∷ []) (let same : x ≡ y = cc in same))
last_split (x ∷ z ∷ zs) y e = let h = last_split (z ∷ zs) y e in (x ∷ h.0, ap (λ ws. x ∷ ws) h.1)

follows : (epoch shard : ℕ) (items : List Item) (x : Item) (next last : Placed) (ys : List Placed) → IsHistory epoch shard (items ++ x ∷ []) → places_in (x ∷ []) ≡ next.place ∷ [] → samples_in items ≡ ys ++ last ∷ [] → IsNext last next
follows epoch shard items x next last ys h one is =
    let qs = places_of ys in
    let same : places_in (items ++ x ∷ []) ≡ qs ++ (last.place ∷ next.place ∷ []) =
    places_in-append items (x ∷ []) ∙ ap (λ ps. places_in items ++ ps) one ∙ ap (λ ps. ps ++ next.place ∷ []) (sym (places_are items) ∙ ap places_of is ∙ map-append (λ (p : Placed). p.place) ys (last ∷ []))
    ∙ append_assoc qs (last.place ∷ []) (next.place ∷ []) in
    let at_last : slice_get (places_in (items ++ x ∷ [])) (length qs) ≡ Some last.place = ap (λ ps. slice_get ps (length qs)) same ∙ get_before qs last.place next.place in
    let at_next : slice_get (places_in (items ++ x ∷ [])) (suc (length qs)) ≡ Some next.place = ap (λ ps. slice_get ps (suc (length qs))) same ∙ get_after qs last.place next.place in
    let a : last.place.seq ≡ length qs = h.numbered (length qs) last.place at_last in
    let b : next.place.seq ≡ suc (length qs) = h.numbered (suc (length qs)) next.place at_next in
    let lt : length qs < suc (length qs) = omega arith in
    (omega arith, Rises-get StandsBefore (places_in (items ++ x ∷ [])) (length qs) (suc (length qs)) last.place next.place h.rising lt at_last at_next)

pub may-take : (epoch shard : ℕ) (items : List Item) (x : Item) (c : Core) → c.taken ≡ samples_in items → c.epoch ≡ epoch → c.shard ≡ shard → IsHistory epoch shard (items ++ x ∷ []) → MayTake x c
may-take epoch shard items (Sample p t w l) c taken in_epoch in_shard h =
    let ps = places_in items in
    let at : slice_get (places_in (items ++ Sample p t w l ∷ [])) (length ps) ≡ Some p = ap (λ qs. slice_get qs (length ps)) (places_in-append items (Sample p t w l ∷ [])) ∙ get_last ps p in
    let named = h.named (length ps) p at in
    (named.0 ∙ sym in_epoch, named.1 ∙ sym in_shard, next (last_sample c.taken) refl)
  where
    next : (o : Option Placed) → last_sample c.taken ≡ o → IfSome o (λ y. IsNext y (placed p t w l.value))
    next None e = tt
    next (Some y) e = let s = last_split c.taken y e in follows epoch shard items (Sample p t w l) (placed p t w l.value) y s.0 h refl (sym taken ∙ s.1)
may-take epoch shard items Flush c taken in_epoch in_shard h = tt
may-take epoch shard items (End kind) c taken in_epoch in_shard h = tt

-- the samples taken are few
pub few : (epoch shard : ℕ) (items : List Item) → IsHistory epoch shard items → length (samples_in items) ≤ 2 ^ 60
few epoch shard items h = let same = length-map (samples_in items) (λ (x : Placed). x.place) in let are = ap length (places_are items) in let most = h.few in omega arith
