-- The first shard that passes a test.
use Rattle.std.proofs.Common.{◌≡◌, ℕ, suc, ◌+◌, Bool, true, false, not, ◌||◌, cond, List, [], ◌∷◌, ◌++◌, length, map, Some, None, refl, sym, ap, ◌∙◌}
use Rattle.std.proofs.lemmas.List.{length-map}
use Rattle.std.specs.Prelude.{slice_get, nat_lt}
use Rattle.std.specs.List.{position, position_or_len, prefix_len}
use Rattle.rw_shard_core.specs.Shard.{is_empty}
use Rattle.rw_machine.specs.Shards.{Shard}
use Rattle.rw_world.specs.Held.{Held}
use Rattle.rw_world.specs.Guards.{may_flush}

prefix_if : (b b' : Bool) (n n' : ℕ) → b ≡ b' → n ≡ n' → cond b (1 + n) 0 ≡ cond b' (1 + n') 0
prefix_if b b' n n' e f = rw (e, f) refl

prefix_same : {X Y : Type 0} (f : X → Y) (p : X → Bool) (q : Y → Bool) (xs : List X) → ((i : ℕ) (x : X) → slice_get xs i ≡ Some x → p x ≡ q (f x)) → prefix_len p xs ≡ prefix_len q (map f xs)
prefix_same f p q [] e = refl
prefix_same f p q (x ∷ xs) e = prefix_if (p x) (q (f x)) (prefix_len p xs) (prefix_len q (map f xs)) (e 0 x refl) (prefix_same f p q xs (λ i y at. e (suc i) y at))

position_same : {X Y : Type 0} (f : X → Y) (p : X → Bool) (q : Y → Bool) (xs : List X) → ((i : ℕ) (x : X) → slice_get xs i ≡ Some x → p x ≡ q (f x)) → position p xs ≡ position q (map f xs)
position_same f p q xs e =
    let n : position_or_len p xs ≡ position_or_len q (map f xs) = prefix_same f (λ x. not (p x)) (λ y. not (q y)) xs (λ i x at. ap not (e i x at)) in
    let l : length xs ≡ length (map f xs) = sym (length-map xs f) in
    ap (λ k. cond (nat_lt k (length xs)) (Some k) None) n ∙ ap (λ m. cond (nat_lt (position_or_len q (map f xs)) m) (Some (position_or_len q (map f xs))) None) l

pub position_seen : (q : Shard → Bool) (hs : List Held) → position (λ (h : Held). q h.shard) hs ≡ position q (map (λ (h : Held). h.shard) hs)
position_seen q hs = position_same (λ (h : Held). h.shard) (λ (h : Held). q h.shard) q hs (λ i x at. refl)

pub position_flushing : (capacity : ℕ) (hs : List Held) → ((i : ℕ) (h : Held) → slice_get hs i ≡ Some h → h.capacity ≡ capacity) → position (λ (h : Held). may_flush h.capacity h.shard) hs ≡ position (may_flush capacity) (map (λ (h : Held). h.shard) hs)
position_flushing capacity hs e = position_same (λ (h : Held). h.shard) (λ (h : Held). may_flush h.capacity h.shard) (may_flush capacity) hs (λ (i : ℕ) (h : Held) (at : slice_get hs i ≡ Some h). ap (λ k. may_flush k h.shard) (e i h at))

-- if one of two lists is empty, the second has something if the first is empty and both
-- together are not
pub builder_some : {X : Type 0} (xs ys : List X) → (is_empty xs || is_empty ys) ≡ true → not (is_empty xs) ≡ true → not (is_empty ys) ≡ false
builder_some [] ys e o = absurd (cc)
builder_some (x ∷ xs) [] e o = refl
builder_some (x ∷ xs) (y ∷ ys) e o = absurd (cc)

pub builder_alone : {X : Type 0} (xs ys : List X) → not (is_empty xs) ≡ false → is_empty (xs ++ ys) ≡ is_empty ys
builder_alone [] ys o = refl
builder_alone (x ∷ xs) ys o = absurd (cc)
