use Rattle.std.proofs.Common.{◌≡◌, ℕ, ◌+◌, List, T, cond, Result, Ok, None, is_ok, subst, ◌∙◌, sym, ap, arith}
use Rattle.std.specs.List.{insert}
use Rattle.std.specs.Ordering.{nat_cmp}
use Rattle.std.specs.FinMap as map
use Rattle.rw_ledger.specs.Names.{Named, IsPlaceOf}
use Rattle.rw_ledger.specs.declared.ledger.Reason.{Reason}
use Rattle.rw_ledger.proofs.NameLemmas.{as_test, put_at_place, sorted_with, map_with}
use Rattle.rw_ledger.proofs.ledger.Ledger.name.Goals as goal

inserted : {X Y E : Type 0} (es ns : List X) (x : X) (i : ℕ) (r : Result Y E) (y : Y) → ns ≡ cond (is_ok r) (insert es i x) es → r ≡ Ok y → ns ≡ insert es i x
inserted es ns x i r y e is = e ∙ ap (λ q. cond (is_ok q) (insert es i x) es) is

-- the look-up of a position that is not named
not_found : (es : List (ℕ × Reason)) (room p : ℕ) (n : Named) → record { names = map.from_sorted es; room = room } ≡ n → T (map.is_sorted nat_cmp es) → map.get n.names p ≡ None → map.find nat_cmp p es ≡ None
not_found es room p n view sorted none = sym (map.get-from_sorted nat_cmp es p sorted) ∙ ap (λ (x : Named). map.get x.names p) view ∙ none

named : (es ds ns : List (ℕ × Reason)) (room p i : ℕ) (x : Reason) (n : Named) → record { names = map.from_sorted es; room = room } ≡ n → T (map.is_sorted nat_cmp es) → map.get n.names p ≡ None
    → ds ≡ es → IsPlaceOf p ds i → ns ≡ insert es i (p, x) → ns ≡ map.put nat_cmp p x es
named es ds ns room p i x n view sorted none same place e =
    let at = subst (λ xs. IsPlaceOf p xs i) same place in
    e ∙ put_at_place es p x i (not_found es room p n view sorted none) at.within at.before at.after

longer : {Y E : Type 0} (n m : ℕ) (r : Result Y E) (y : Y) → m ≡ cond (is_ok r) (n + 1) n → r ≡ Ok y → m ≡ n + 1
longer n m r y e is = e ∙ ap (λ q. cond (is_ok q) (n + 1) n) is

pub invariant_of-self : goal.invariant_of-self
invariant_of-self c =
    let grown : c.insert.new.self.items ≡ insert c.self.inside.names.items c.place_of-place.result (c.args.pos, c.args.reason) = inserted _ _ _ _ _ _ c.insert.ensures.items c.unwrap.ensures in (
      sorted_with c.self.inside.names.items c.insert.new.self.items c.args.pos c.args.reason (as_test _ c.self.invariant.0)
          (named c.self.inside.names.items c.deref.result.now c.insert.new.self.items c.self.inside.room c.args.pos c.place_of-place.result c.args.reason c.args.self.now c.self.view_is (as_test _ c.self.invariant.0)
          c.requires.unnamed c.deref.ensures.value c.place_of-place.ensures grown),
      (let room : c.self.inside.room ≡ c.args.self.now.room = ap (λ (x : Named). x.room) c.self.view_is in
          let len = longer _ _ _ _ c.insert.ensures.len c.unwrap.ensures in
          omega arith),
    )

pub returns-clause-names : goal.returns-clause-names
returns-clause-names c =
    let grown : c.insert.new.self.items ≡ insert c.self.inside.names.items c.place_of-place.result (c.args.pos, c.args.reason) = inserted _ _ _ _ _ _ c.insert.ensures.items c.unwrap.ensures in
    map_with c.self.inside.names.items c.insert.new.self.items c.args.pos c.args.reason (as_test _ c.self.invariant.0)
    (named c.self.inside.names.items c.deref.result.now c.insert.new.self.items c.self.inside.room c.args.pos c.place_of-place.result c.args.reason c.args.self.now c.self.view_is (as_test _ c.self.invariant.0)
    c.requires.unnamed c.deref.ensures.value c.place_of-place.ensures grown)
    ∙ ap (λ (x : Named). map.insert x.names c.args.pos c.args.reason) c.self.view_is
