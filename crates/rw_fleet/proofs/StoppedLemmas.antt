-- Shards that have ended, of which the first ones are folded.
use Rattle.std.proofs.Common.{◌≡◌, ℕ, zero, suc, ◌+◌, ◌≤◌, List, [], ◌∷◌, ◌++◌, length, map, Some, None, true, false, Bool, refl, sym, ap, ◌∙◌, subst, arith}
use Rattle.std.specs.Prelude.{slice_get, ◌==◌, ◌&&◌, Result, Ok, Err, OnOk, is_err}
use Rattle.std.specs.FinMap.{entries}
use Rattle.std.specs.List.{sum_by}
use Rattle.std.proofs.lemmas.List.{map-append, nil_from_length}
use Rattle.std.proofs.lemmas.List.Sums.{sum_by-append}
use Rattle.std.proofs.lemmas.Bool.Decides.{nat_tests}
use Rattle.std.proofs.lemmas.Grind.{flat_map-append}
use Rattle.rw_ledger.specs.Names.{Named}
use Rattle.rw_fleet.specs.Loads.{load_of, resolved_in, left_in_shard}
use Rattle.rw_fleet.specs.Stopped.{abandoned_in, names_in_parts, part_of}
use Rattle.rw_fleet.specs.Work.{is_compared, is_resolved, AreResolved}
use Rattle.rw_fleet.specs.declared.joined.StoppedShard.{StoppedShard}
use Rattle.rw_fleet.specs.declared.load.Load.{Load}
use Rattle.rw_fleet.specs.inner.Work.{HasUnresolved}

both_true : (b : Bool) (n : ℕ) → (b && (n == 0)) ≡ true → n ≡ 0
both_true true n e = grind (arith, nat_tests)
both_true false n e = absurd (cc)

pub on_ok : {A E : Type 0} (r : Result A E) (P : Type 0) → is_err r ≡ false → OnOk r P → P
on_ok (Ok x) P e h = h
on_ok (Err x) P e h = absurd (cc)

module _ {T : Type 0} where
  pub resolved_nil : (js : List (StoppedShard T)) → js ≡ [] → AreResolved js
  resolved_nil js is = subst (λ (xs : List (StoppedShard T)). AreResolved xs) (sym is) (λ k j at. absurd (let none : None ≡ Some j = at in cc))

  pub resolved_append : (xs ys : List (StoppedShard T)) → AreResolved xs → AreResolved ys → AreResolved (xs ++ ys)
  resolved_append xs ys h g = λ k j at. go xs h k j at
    where
      go : (xs : List (StoppedShard T)) → AreResolved xs → (k : ℕ) (j : StoppedShard T) → slice_get (xs ++ ys) k ≡ Some j → is_resolved j ≡ true
      go [] h k j at = g k j at
      go (x ∷ xs) h zero j at = h zero j at
      go (x ∷ xs) h (suc k) j at = go xs (λ i y is. h (suc i) y is) k j at

  -- one of the last ones is not resolved
  pub unresolved_append : (xs ys : List (StoppedShard T)) → HasUnresolved ys → HasUnresolved (xs ++ ys)
  unresolved_append [] ys u = u
  unresolved_append (x ∷ xs) ys u = let v = unresolved_append xs ys u in (suc v.0, v.1, v.2, v.3)

  pub names_append : (xs ys : List (StoppedShard T)) → names_in_parts (map part_of (xs ++ ys)) ≡ names_in_parts (map part_of xs) ++ names_in_parts (map part_of ys)
  names_append xs ys = ap names_in_parts (map-append part_of xs ys) ∙ flat_map-append (λ (part : Named). entries part.names) (map part_of xs) (map part_of ys)

  -- shards that are resolved left no samples
  pub abandoned_after : (xs ys : List (StoppedShard T)) → AreResolved xs → abandoned_in ys ≡ abandoned_in (xs ++ ys)
  abandoned_after [] ys h = refl
  abandoned_after (x ∷ xs) ys h =
      let none = nil_from_length x.abandoned.items (both_true (is_compared x.finished.ends) (length x.abandoned.items) (h zero x refl)) in
      abandoned_after xs ys (λ k j at. h (suc k) j at) ∙ ap (λ l. l ++ abandoned_in (xs ++ ys)) (sym none)

  -- the load of the first ones, and then of the others
  pub load_append : (xs ys : List (StoppedShard T)) (load : Load) → load ≡ load_of (sum_by resolved_in xs + sum_by resolved_in ys) (sum_by left_in_shard xs + sum_by left_in_shard ys) → load ≡ load_of (sum_by resolved_in (xs ++ ys)) (sum_by left_in_shard (xs ++ ys))
  load_append xs ys load is = is ∙ ap (λ n. load_of n (sum_by left_in_shard xs + sum_by left_in_shard ys)) (sym (sum_by-append resolved_in xs ys)) ∙ ap (λ n. load_of (sum_by resolved_in (xs ++ ys)) n) (sym (sum_by-append left_in_shard xs ys))

  pub folded_still : (was now : List (StoppedShard T)) (old new : ℕ) → now ≡ was → new ≡ old → old ≤ length was → new ≤ length now
  folded_still was now old new is same few = let len = ap length is in omega (arith, few)
