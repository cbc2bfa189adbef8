-- Names for the samples of a batch.
use Rattle.std.proofs.Common.{◌≡◌, ℕ, zero, suc, ◌+◌, ◌<◌, false, List, [], ◌∷◌, ◌++◌, length, drop, Option, None, Some, All, cond, eqb, Bool, true, ◌≢◌, get_or, refl, arith, ap, ◌∙◌}
use Rattle.std.specs.Cmp.{nat_cmp_total}
use Rattle.std.proofs.lemmas.Bool.{eqb-true, eqb-false}
use Rattle.std.proofs.lemmas.List.{length-map}
use Rattle.std.specs.Prelude.{slice_index_or}
use Rattle.std.specs.Ordering.{nat_cmp}
use Rattle.std.specs.List.{AllByRecursion}
use Rattle.std.specs.FinMap.{FinMap, get, insert, get-insert}
use Rattle.rw_ledger.specs.declared.ledger.Reason.{Reason}
use Rattle.rw_ledger.specs.declared.ledger.Reason.TheVariants as Why
use Rattle.rw_types.specs.declared.place.Place.{Place}
use Rattle.rw_plain_queue.specs.Items.{Placed}
use Rattle.rw_shard_core.specs.Shard.{AreInRow, positions_of, positions, name_all, settle_names}
use Rattle.rw_shard_core.specs.Inside.{batch_part}
use Rattle.rw_shard_core.specs.declared.shard.OpenBatch.{OpenBatch}
use Rattle.rw_types.specs.Rising.{Rises}
use Rattle.rw_types.proofs.shared.AllLemmas.{AllByRecursion-at, AllByRecursion-weaker}
use Rattle.rw_types.proofs.shared.TimeLemmas.{nat_cmp-apart}
use Rattle.rw_retry.specs.declared.judgement.Judgement.{Judgement}
use Rattle.rw_retry.specs.declared.judgement.Judgement.TheVariants.{Done, Again, Refused}
use Rattle.rw_ledger.specs.Names.{Named}

-- what follows samples in a row is in a row
pub AreInRow-rest : (xs ys : List Placed) → AreInRow (xs ++ ys) → AreInRow ys
AreInRow-rest [] ys h = h
AreInRow-rest (x ∷ []) [] h = tt
AreInRow-rest (x ∷ []) (y ∷ ys) h = h.1
AreInRow-rest (x ∷ w ∷ ws) ys h = AreInRow-rest (w ∷ ws) ys h.1

-- their positions rise
pub positions_rise : (xs : List Placed) → AreInRow xs → Rises (λ p q. p < q) (positions xs)
positions_rise [] h = tt
positions_rise (x ∷ []) h = (tt, tt)
positions_rise (x ∷ y ∷ ys) h =
    let rest = positions_rise (y ∷ ys) h.1 in
    let above : AllByRecursion (λ r. x.place.pos < r) (positions ys) =
    AllByRecursion-weaker (λ r. y.place.pos < r) (λ r. x.place.pos < r) (λ r lt. omega (arith, h.0.1, lt)) (positions ys) rest.0 in
    ((h.0.1, above), rest)

-- those of the open batch, if there is one
pub batch_rises : (current : Option OpenBatch) (pending : List Placed) → Rises (λ p q. p < q) (positions pending) → Rises (λ p q. p < q) (positions (batch_part current pending))
batch_rises None pending h = tt
batch_rises (Some o) pending h = h

-- a name for the first leaves the others without one
name_first : (p : ℕ) (ps : List ℕ) (reason : Reason) (names : FinMap nat_cmp Reason) → Rises (λ p q. p < q) (p ∷ ps) →
    All (λ q. get names q ≡ None) (p ∷ ps) → All (λ q. get (insert names p reason) q ≡ None) ps
name_first p ps reason names rise none = λ k d lt.
    let q : ℕ = slice_index_or ps k d in
    let above : p < q = AllByRecursion-at (λ r. p < r) ps k d rise.0 lt in
    let before : get names q ≡ None = none (suc k) d (omega arith) in
    get-insert nat_cmp_total names p reason q ∙ ap (λ b. cond b (Some reason) (get names q)) (nat_cmp-apart p q above) ∙ before

-- the position at an index, and those after it
pub left_is : (ps : List Place) (i : ℕ) (d : Place) → i < length ps →
    drop i (positions_of ps) ≡ (get_or ps i d).pos ∷ drop (i + 1) (positions_of ps)
left_is [] i d lt = absurd (omega arith)
left_is (p ∷ ps) zero d lt = refl
left_is (p ∷ ps) (suc i) d lt =
    let up : suc i + 1 ≡ suc (i + 1) = omega arith in
    rw up (left_is ps i d (omega arith))

-- one more sample is named
pub name_next : (status : ℕ) (ps : List Place) (i : ℕ) (d : Place) (names new : FinMap nat_cmp Reason) → i < length ps →
    All (λ q. get names q ≡ None) (drop i (positions_of ps)) → Rises (λ p q. p < q) (drop i (positions_of ps)) →
    new ≡ insert names (get_or ps i d).pos (Why.Status status) →
    (name_all status (drop (i + 1) (positions_of ps)) new ≡ name_all status (drop i (positions_of ps)) names)
    × All (λ q. get new q ≡ None) (drop (i + 1) (positions_of ps)) × Rises (λ p q. p < q) (drop (i + 1) (positions_of ps))
name_next status ps i d names new lt none rise e =
    let left = left_is ps i d lt in
    let p : ℕ = (get_or ps i d).pos in
    let rest : List ℕ = drop (i + 1) (positions_of ps) in
    let none' : All (λ q. get names q ≡ None) (p ∷ rest) = rw left at none in
    let rise' : Rises (λ p q. p < q) (p ∷ rest) = rw left at rise in
    (rw (left, e) refl, rw e (name_first p rest (Why.Status status) names rise' none'), rise'.1)

-- the position at an index
pub position_at : (ps : List Place) (i d : ℕ) (e : Place) → i < length ps → get_or (positions_of ps) i d ≡ (get_or ps i e).pos
position_at [] i d e lt = absurd (omega arith)
position_at (p ∷ ps) zero d e lt = refl
position_at (p ∷ ps) (suc i) d e lt = position_at ps i d e (omega arith)

-- a name at one of the positions
pub one_named : (names : FinMap nat_cmp Reason) (ps : List Place) (i : ℕ) (e : Place) (reason : Reason) → i < length ps →
    get names (get_or ps i e).pos ≡ Some reason → All (λ p. get names p ≡ None) (positions_of ps) → ⊥
one_named names ps i e reason lt named all =
    let at = position_at ps i 0 e lt in
    let many : length (positions_of ps) ≡ length ps = length-map ps (λ (p : Place). p.pos) in
    let none : get names (get_or (positions_of ps) i 0) ≡ None = all i 0 (omega (arith, many, lt)) in
    absurd (let h : get names (get_or ps i e).pos ≡ None = rw (← at) none in cc)

-- no name at one more position
pub one_more : (names : FinMap nat_cmp Reason) (ps : List Place) (i : ℕ) (e : Place) → i < length ps →
    get names (get_or ps i e).pos ≡ None → ((k d : ℕ) → k < i → get names (get_or (positions_of ps) k d) ≡ None) →
    (k d : ℕ) → k < i + 1 → get names (get_or (positions_of ps) k d) ≡ None
one_more names ps i e lt none below k d up = by_place (eqb k i) refl where
  by_place : (t : Bool) → eqb k i ≡ t → get names (get_or (positions_of ps) k d) ≡ None
  by_place true same =
      let at : k ≡ i = eqb-true k i same in
      rw (at, position_at ps i d e lt) none
  by_place false other =
      let apart' : k ≢ i = eqb-false k i other in
      below k d (omega (arith, apart', up))

-- the names that an answer leaves do not depend on the room for them
pub settle_names-room : (j : Judgement) (status : ℕ) (xs : List Placed) (l : Named) → (settle_names j status xs l).names ≡ (settle_names j status xs (record { names = l.names; room = 0 })).names
settle_names-room Done status xs l = refl
settle_names-room Again status xs l = refl
settle_names-room Refused status xs l = refl
