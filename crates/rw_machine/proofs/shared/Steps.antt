-- How a fact goes through one event.
use Rattle.std.proofs.Common.{◌≡◌, ℕ, zero, suc, Bool, true, false, List, [], ◌∷◌, Some, None, slice_get, refl, ap, subst, ◌+◌, arith}
use Rattle.std.specs.Ordering.{is_eq}
use Rattle.std.proofs.lemmas.Cmp.{tied_itself}
use Rattle.rw_machine.specs.declared.event.Event.TheVariants as event
use Rattle.rw_machine.specs.Shards.{Shard, new_shard}
use Rattle.rw_machine.specs.Steps.{act, change, happens, run, unless_over}
use Rattle.rw_machine.specs.Worlds.{Setup, World, is_over, new_shards}
use Rattle.rw_machine.specs.declared.event.Event.{Event}
use Rattle.rw_shard_core.specs.Shard.{new_core}
use Rattle.rw_types.specs.LabelOrder.{labels_eq}
use Rattle.rw_types.specs.inner.LabelOrder.{labels_cmp-total, same_if_equal}
use Rattle.rw_types.specs.Labels.{Labels}

-- what holds before the event and after it
pub unless : (I : World → Type 0) (c : Setup) (w : World) (e : Event) (b : Bool) → I w → I (act c w e) → I (unless_over c w e b)
unless I c w (event.Arrive k how) b old new = new
unless I c w e true old new = old
unless I c w e false old new = new

pub always : (I : World → Type 0) (c : Setup) → ((w : World) (e : Event) → I w → I (act c w e)) → (events : List Event) (w : World) → I w → I (run c events w)
always I c keep [] w at = at
always I c keep (e ∷ es) w at = always I c keep es (happens c w e) (unless I c w e (is_over w) at (keep w e at))

-- a fact of each shard, at its index
abbrev pub Each : (ℕ → Shard → Type 0) → List Shard → Type 0
Each Q ss = (i : ℕ) (s : Shard) → slice_get ss i ≡ Some s → Q i s

pub each_change : (Q : ℕ → Shard → Type 0) (f : Shard → Shard) (j : ℕ) (ss : List Shard) → Each Q ss → ((s : Shard) → slice_get ss j ≡ Some s → Q j s → Q j (f s)) → Each Q (change j f ss)
each_change Q f j [] each step i s e = each i s e
each_change Q f zero (x ∷ xs) each step zero s e = let same : f x ≡ s = cc in subst (Q zero) same (step x refl (each zero x refl))
each_change Q f zero (x ∷ xs) each step (suc i) s e = each (suc i) s e
each_change Q f (suc j) (x ∷ xs) each step zero s e = each zero s e
each_change Q f (suc j) (x ∷ xs) each step (suc i) s e = each_change (λ k. Q (suc k)) f j xs (λ k y at. each (suc k) y at) (λ y at old. step y at old) i s e

pub each_new : (Q : ℕ → Shard → Type 0) (c : Setup) (epoch k : ℕ) → ((i : ℕ) → Q i (new_shard (new_core c.target epoch (k + i) c.batch))) → (n : ℕ) → Each Q (new_shards c epoch k n)
each_new Q c epoch k one zero i s e = let no : None ≡ Some s → ⊥ = λ h. cc in absurd (no e)
each_new Q c epoch k one (suc n) zero s e = let same : new_shard (new_core c.target epoch k c.batch) ≡ s = cc in subst (Q zero) same (subst (λ m. Q zero (new_shard (new_core c.target epoch m c.batch))) (omega arith) (one zero))
each_new Q c epoch k one (suc n) (suc i) s e = each_new (λ j. Q (suc j)) c epoch (suc k) (λ j. subst (λ m. Q (suc j) (new_shard (new_core c.target epoch m c.batch))) (omega arith) (one (suc j))) n i s e

pub same_is : (l m : Labels) → labels_eq l m ≡ true → l ≡ m
same_is l m h = same_if_equal l m h

pub is_same : (l m : Labels) → l ≡ m → labels_eq l m ≡ true
is_same l m e = subst (λ n. labels_eq l n ≡ true) e (ap is_eq (tied_itself labels_cmp-total l))
