-- Each step of the ends keeps the rule of the blocks that are given back.
use Rattle.std.proofs.Common.{◌≡◌, ◌≢◌, ◌<◌, ℕ, zero, suc, List, [], ◌∷◌, set, sym, refl, ap, ◌∙◌, subst, ⊎_elim, arith}
use mathlib.Core.Option.{some, some-ne-none}
use lib.ListN.{get_elem?}
use Rattle.std.proofs.lemmas.List.Elements.{All-nil, All-push, All-head, All-tail}
use Rattle.crossbeam_channel.specs.Fifo.{Pushes, Pops, Forks}
use Rattle.atomic_table.proofs.Lists.{at_set, at_snoc}
use Rattle.rw_shard_queue.specs.Rule.{Filled}
use Rattle.rw_shard_queue.specs.inner.Spares.{empty_block, AreEmpty, AreSpare}

at_first : (x u : ℕ) (j : ℕ) → get_elem? (x ∷ []) j ≡ some u → j ≡ 0
at_first x u zero e = refl
at_first x u (suc j) e = absurd (some-ne-none u (sym e))

-- a view that is set as it was leaves what is known
known_set : (views : List ℕ) (port w most : ℕ) → w ≡ most → ((j u : ℕ) → get_elem? views j ≡ some u → u ≡ most) → (j u : ℕ) → get_elem? (set views port w) j ≡ some u → u ≡ most
known_set views port w most mine known j u e = ⊎_elim (λ (x : (j ≡ port) × (w ≡ u)). sym x.1 ∙ mine)
    (λ (x : (j ≢ port) × (get_elem? views j ≡ some u)). known j u x.1) (at_set views port j w u e)

pub begins_empty : AreSpare [] (0 ∷ [])
begins_empty = record {
  most = 0;
  empty = All-nil _;
  known = one;
  unknown = λ _. (refl, refl);
}
  where
    one : (port v : ℕ) → get_elem? (0 ∷ []) port ≡ some v → v ≡ 0
    one zero v e = sym (mathlib.Core.Option.some-injective _ _ e)
    one (suc port) v e = absurd (some-ne-none v (sym e))

pub gives_back : (n port v : ℕ) (x : Filled) → x ≡ empty_block v → 0 < v → Pushes AreSpare n port v x (λ w. w ≡ v)
gives_back n port v x is some_room items views room h at =
    let same = h.known port v at in (
      v,
      record {
        most = h.most;
        empty = All-push (λ b. b ≡ empty_block h.most) items x h.empty (is ∙ ap empty_block same);
        known = known_set views port v h.most same h.known;
        unknown = λ z. absurd (omega (arith, same, z, some_room));
      },
      refl,
    )

pub reuses : (port v : ℕ) → 0 < v → Pops AreSpare port v (λ x w. (x ≡ empty_block v) × (w ≡ v))
reuses port v some_room x items views h at =
    let same = h.known port v at in (
      v,
      record {
        most = h.most;
        empty = All-tail (λ b. b ≡ empty_block h.most) x items h.empty;
        known = known_set views port v h.most same h.known;
        unknown = λ z. absurd (omega (arith, same, z, some_room));
      },
      (All-head (λ b. b ≡ empty_block h.most) x items h.empty ∙ ap empty_block (sym same), refl),
    )

-- the two ends learn how much room a block has
pub sizes : (port v most : ℕ) → v ≡ 0 → 0 < most → Forks AreSpare port v most most
sizes port v most none some_room items views h at =
    let unset = h.unknown (sym (h.known port v at) ∙ none) in
    let first : (j u : ℕ) → get_elem? views j ≡ some u → j ≡ 0 = λ j u e. at_first 0 u j (subst (λ vs. get_elem? vs j ≡ some u) unset.1 e) in
    record {
      most = most;
      empty = subst (AreEmpty most) (sym unset.0) (All-nil _);
      known = λ j u e. ⊎_elim
          (λ was. ⊎_elim (λ (x : (j ≡ port) × (most ≡ u)). sym x.1) (λ (x : (j ≢ port) × (get_elem? views j ≡ some u)). absurd (x.0 (first j u x.1 ∙ sym (first port v at)))) (at_set views port j most u was))
          (λ (new : most ≡ u). sym new)
          (at_snoc (set views port most) most u j e);
      unknown = λ z. absurd (omega (arith, z, some_room));
    }
