-- Places one after the other in one shard.
use Rattle.std.proofs.Common.{◌≡◌, zero, suc, ◌+◌, ◌-◌, List, [], ◌∷◌, ◌++◌, length, get_or, Some, slice_get, refl, sym, ap, ◌∙◌, inl, inr, arith}
use Rattle.std.proofs.lemmas.Option.{slice_get-get_or}
use Rattle.rw_types.specs.declared.place.Place.{Place}
use Rattle.rw_batch.specs.Batches.{IsNextPlace, IsStretch}
use Rattle.rw_plain_queue.proofs.shared.Lists.{get_snoc}

pub no_places : (ps : List Place) → ps ≡ [] → IsStretch ps
no_places ps e k p q first at = absurd (let none : slice_get [] 0 ≡ Some p = ap (λ xs. slice_get xs 0) (sym e) ∙ first in cc)

-- the last place of a stretch that is not empty
last_of : (x : Place) (xs : List Place) → (q : Place) × (slice_get (x ∷ xs) (length (x ∷ xs) - 1) ≡ Some q)
last_of x xs = (get_or (x ∷ xs) (length (x ∷ xs) - 1) x, slice_get-get_or (x ∷ xs) (length (x ∷ xs) - 1) x (omega arith))

stretch_more : (x : Place) (xs : List Place) (new : Place) → IsNextPlace (x ∷ xs) new → IsStretch (x ∷ xs) → (new.epoch ≡ x.epoch) × (new.shard ≡ x.shard) × (new.seq ≡ x.seq + length (x ∷ xs))
stretch_more x xs new follows h =
    let last = last_of x xs in
    let f = follows last.0 last.1 in
    let s = h (length (x ∷ xs) - 1) x last.0 refl last.1 in
    (f.0 ∙ s.0, f.1 ∙ s.1, (let a = f.2 in let b = s.2 in omega arith))

-- a place that follows makes the stretch longer
pub stretch-push : (ps : List Place) (new : Place) → IsNextPlace ps new → IsStretch ps → IsStretch (ps ++ new ∷ [])
stretch-push [] new follows h zero p q first at =
    let same : q ≡ p = cc in
    let seq : q.seq ≡ p.seq = ap (λ (r : Place). r.seq) same in
    (ap (λ (r : Place). r.epoch) same, ap (λ (r : Place). r.shard) same, omega arith)
stretch-push [] new follows h (suc k) p q first at = absurd cc
stretch-push (x ∷ xs) new follows h k p q first at =
    let same : x ≡ p = cc in
    elim (get_snoc (x ∷ xs) new q k at) [
      | inl old ↦ h k p q first old
      | inr end ↦
          let more = stretch_more x xs new follows h in
          let seq : new.seq ≡ q.seq = ap (λ (r : Place). r.seq) end.1 in
          let from : x.seq ≡ p.seq = ap (λ (r : Place). r.seq) same in
          let grown = more.2 in
          let at_end = end.0 in
          (ap (λ (r : Place). r.epoch) (sym end.1) ∙ more.0 ∙ ap (λ (r : Place). r.epoch) same, ap (λ (r : Place). r.shard) (sym end.1) ∙ more.1 ∙ ap (λ (r : Place). r.shard) same, omega arith)
    ]
