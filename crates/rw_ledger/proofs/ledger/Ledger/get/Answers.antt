use Rattle.std.proofs.Common.{◌≡◌, ℕ, List, T, Option, Some, None, ◌∙◌, sym, ap, subst, ◌<◌, ◌≤◌, length, get_or, arith}
use Rattle.std.proofs.lemmas.List.{get_or_default}
use Rattle.std.specs.Ordering.{nat_cmp}
use Rattle.std.specs.FinMap as map
use Rattle.rw_ledger.specs.Names.{Named, IsPlaceOf}
use Rattle.rw_ledger.specs.declared.ledger.Reason.{Reason}
use Rattle.rw_ledger.proofs.NameLemmas.{above, as_test, found_at_place, none_at_place}
use Rattle.rw_ledger.proofs.ledger.Ledger.get.Goals as goal

-- a look-up in the map of a list
looked_up : (es : List (ℕ × Reason)) (room p : ℕ) (n : Named) (o : Option Reason) → record { names = map.from_sorted es; room = room } ≡ n → T (map.is_sorted nat_cmp es) → map.find nat_cmp p es ≡ o → o ≡ map.get n.names p
looked_up es room p n o view sorted found =
    sym found ∙ sym (map.get-from_sorted nat_cmp es p sorted) ∙ ap (λ (x : Named). map.get x.names p) view

-- a position that is at its place is found, and one that does not is not
found_here : (es ds : List (ℕ × Reason)) (p i : ℕ) (e : ℕ × Reason) → ds ≡ es → IsPlaceOf p ds i → i < length es → e ≡ get_or es i e → e.0 ≡ p → map.find nat_cmp p es ≡ Some e.1
found_here es ds p i e same place lt is here = found_at_place es p i e lt (subst (λ xs. IsPlaceOf p xs i) same place).before is here

other_here : (es ds : List (ℕ × Reason)) (p i : ℕ) (e : ℕ × Reason) → T (map.is_sorted nat_cmp es) → ds ≡ es → IsPlaceOf p ds i → i < length es → e ≡ get_or es i e → (e.0 ≡ p → ⊥) → map.find nat_cmp p es ≡ None
other_here es ds p i e sorted same place lt is apart =
    let at = subst (λ xs. IsPlaceOf p xs i) same place in
    let first : ℕ × Reason → ℕ = λ x. x.0 in
    none_at_place es p i sorted at.before
    (λ d _. above p (get_or es i d).0 (at.after i d (omega arith) lt) (λ q. apart (ap first is ∙ ap first (get_or_default es i e d lt) ∙ q)))

none_here : (es ds : List (ℕ × Reason)) (p i : ℕ) → T (map.is_sorted nat_cmp es) → ds ≡ es → IsPlaceOf p ds i → length es ≤ i → map.find nat_cmp p es ≡ None
none_here es ds p i sorted same place le = none_at_place es p i sorted (subst (λ xs. IsPlaceOf p xs i) same place).before (λ d lt. absurd (omega arith))

pub returns-then-named-pos : goal.returns-then-named-pos
returns-then-named-pos c =
    looked_up c.self.inside.names.items c.self.inside.room c.args.pos c.args.self.now _ c.self.view_is (as_test _ c.self.invariant.0)
    (found_here c.self.inside.names.items c.deref.result.now c.args.pos c.place_of-place.result c.index.result.now c.deref.ensures.value c.place_of-place.ensures (omega (arith, c.self.inside.names.ok.0)) c.index.ensures c.if-named-pos.true)

pub returns-else-named-pos : goal.returns-else-named-pos
returns-else-named-pos c =
    looked_up c.self.inside.names.items c.self.inside.room c.args.pos c.args.self.now _ c.self.view_is (as_test _ c.self.invariant.0)
    (other_here c.self.inside.names.items c.deref.result.now c.args.pos c.place_of-place.result c.index.result.now (as_test _ c.self.invariant.0) c.deref.ensures.value c.place_of-place.ensures
    (omega (arith, c.self.inside.names.ok.0)) c.index.ensures c.if-named-pos.false)

pub returns-else-place-len : goal.returns-else-place-len
returns-else-place-len c =
    looked_up c.self.inside.names.items c.self.inside.room c.args.pos c.args.self.now _ c.self.view_is (as_test _ c.self.invariant.0)
    (none_here c.self.inside.names.items c.deref.result.now c.args.pos c.place_of-place.result (as_test _ c.self.invariant.0) c.deref.ensures.value c.place_of-place.ensures (omega (arith, c.self.inside.names.ok.0)))
