-- A list of fields: what the fields before one of them and that one take.
use Rattle.std.proofs.Common.{◌≡◌, ℕ, ◌+◌, ◌≤◌, ◌<◌, List, ◌++◌, length, take, map, get_or, [], ◌∷◌, Option, Some, None, arith, ap, sym, ◌∙◌, add-one, length-append}
use Rattle.std.specs.Prelude.{IfNone}
use Rattle.std.proofs.Math.Seq.{take-suc}
use Rattle.std.proofs.lemmas.List.{flat_map_more}
use Rattle.std.specs.List.{flat_map}
use Rattle.std.proofs.lemmas.List.Folds.{length-flat_map-take, flat_map-map}

pub none_is : {A : Type 0} (o : Option A) (P : Type 0) → P → IfNone o P
none_is None P p = p
none_is (Some x) P p = tt

-- the one at an index is within all of them
pub part_fits : {X : Type 0} (f : X → List ℕ) (xs : List X) (i : ℕ) (x : X) → i < length xs → x ≡ get_or xs i x → length (flat_map f (take i xs)) + length (f x) ≤ length (flat_map f xs)
part_fits f xs i x lt e =
    let h = length-flat_map-take f xs i x lt in
    omega (arith, h, ap (λ (y : _). length (f y)) e)

-- the same after a view of the items
pub viewed_fits : {X Y : Type 0} (f : Y → List ℕ) (view : X → Y) (xs : List X) (i : ℕ) (x : X) → i < length xs → x ≡ get_or xs i x → length (flat_map f (map view (take i xs))) + length (f (view x)) ≤ length (flat_map f (map view xs))
viewed_fits f view xs i x lt e =
    let h = part_fits (λ y. f (view y)) xs i x lt e in
    omega (arith, h, ap length (flat_map-map f view (take i xs)), ap length (flat_map-map f view xs))

-- so it has room after the fields before it
pub has_room : (len cap before part all start cap_now wanted : ℕ) → start + all ≤ cap → cap ≤ cap_now → before + part ≤ all → len ≡ start + before → wanted ≡ part → len + wanted ≤ cap_now
has_room len cap before part all start cap_now wanted h le p e w = omega arith

-- what the fields up to an index take
pub len_of : (old new written : List ℕ) (len start : ℕ) → new ≡ old ++ written → len ≡ length new → start ≡ length old → len ≡ start + length written
len_of old new written len start e l s = omega (arith, ap length e, length-append old written)

-- and once it is written, so are the fields up to the next index
pub one_more : {X : Type 0} (f : X → List ℕ) (xs : List X) (i : ℕ) (x : X) (old out new field : List ℕ) → i < length xs → x ≡ get_or xs i x
    → out ≡ old ++ flat_map f (take i xs) → new ≡ out ++ field → field ≡ f x → new ≡ old ++ flat_map f (take (i + 1) xs)
one_more f xs i x old out new field lt e h n d =
    let next : take (i + 1) xs ≡ take i xs ++ x ∷ [] = ap (λ (k : ℕ). take k xs) (add-one i) ∙ take-suc xs i x lt ∙ ap (λ (y : _). take i xs ++ y ∷ []) (sym e) in
    n ∙ ap (λ (o : List ℕ). o ++ field) h ∙ ap (λ (g : List ℕ). (old ++ flat_map f (take i xs)) ++ g) d ∙ flat_map_more f old (take i xs) x ∙ ap (λ (ys : _). old ++ flat_map f ys) (sym next)
