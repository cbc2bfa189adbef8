-- A load with one shard more.
use Rattle.std.proofs.Common.{◌≡◌, ℕ, ◌+◌, ◌<◌, ◌≤◌, List, length, take, sym, ap, ◌∙◌, subst, arith}
use Rattle.std.specs.Prelude.{get_or}
use Rattle.std.proofs.Math.Seq.{take-length}
use Rattle.std.specs.List.{sum_by}
use Rattle.std.proofs.lemmas.List.Sums.{sum_by_more}
use Rattle.rw_fleet.specs.ShardHistories.{ShardHistory}
use Rattle.rw_fleet.specs.Loads.{load_of, count_in, left_at_work, IsAdvised}
use Rattle.rw_fleet.specs.declared.load.Load.{Load}

sum_on : {X : Type 0} (f : X → ℕ) (xs : List X) (i : ℕ) (x : X) → i < length xs → x ≡ get_or xs i x → sum_by f (take (i + 1) xs) ≡ sum_by f (take i xs) + f x
sum_on f xs i x below is = sum_by_more f xs i x below ∙ ap (λ y. sum_by f (take i xs) + f y) (sym is)

pub waits_are_put : (window : ℕ) (x : ShardHistory) (waiting : ℕ) → waiting ≤ left_at_work window x → waiting ≤ count_in x
waits_are_put window x waiting few = omega (arith, few)

pub advised_on : (window : ℕ) (xs : List ShardHistory) (i r l a b : ℕ) (x : ShardHistory) (load new : Load) → i < length xs → x ≡ get_or xs i x → a + b ≡ count_in x → b ≤ left_at_work window x
    → IsAdvised window (take i xs) r l load → ((m n : ℕ) → load ≡ load_of m n → new ≡ load_of (m + a) (n + b)) → IsAdvised window (take (i + 1) xs) r l new
advised_on window xs i r l a b x load new below is all few h more =
    let counts = sum_on count_in xs i x below is in
    let lefts = sum_on (left_at_work window) xs i x below is in
    let was = h.all in
    let within = h.few in
    let settled : (r + h.settled) + a ≡ r + (h.settled + a) = omega arith in
    let waiting : (l + h.waiting) + b ≡ l + (h.waiting + b) = omega arith in
    record {
      settled = h.settled + a;
      waiting = h.waiting + b;
      all = omega (arith, counts, was, all);
      few = omega (arith, lefts, within, few);
      load_is = more _ _ h.load_is ∙ ap (λ k. load_of k ((l + h.waiting) + b)) settled ∙ ap (λ k. load_of (r + (h.settled + a)) k) waiting;
    }

pub advised_whole : (window : ℕ) (xs : List ShardHistory) (i r l : ℕ) (load : Load) → i ≡ length xs → IsAdvised window (take i xs) r l load → IsAdvised window xs r l load
advised_whole window xs i r l load whole h = subst (λ (ys : List ShardHistory). IsAdvised window ys r l load) (ap (λ k. take k xs) whole ∙ take-length xs) h

-- a load with the sums over the first of a list, and one more
pub load_on : {X : Type 0} (f g : X → ℕ) (xs : List X) (i r l a b : ℕ) (x : X) (load new : Load) → i < length xs → x ≡ get_or xs i x → f x ≡ a → g x ≡ b → load ≡ load_of (r + sum_by f (take i xs)) (l + sum_by g (take i xs))
    → ((m n : ℕ) → load ≡ load_of m n → new ≡ load_of (m + a) (n + b)) → new ≡ load_of (r + sum_by f (take (i + 1) xs)) (l + sum_by g (take (i + 1) xs))
load_on f g xs i r l a b x load new below is fa gb h more =
    let fs = sum_on f xs i x below is in
    let gs = sum_on g xs i x below is in
    let left : (r + sum_by f (take i xs)) + a ≡ r + sum_by f (take (i + 1) xs) = omega (arith, fs, fa) in
    let right : (l + sum_by g (take i xs)) + b ≡ l + sum_by g (take (i + 1) xs) = omega (arith, gs, gb) in
    more _ _ h ∙ ap (λ k. load_of k ((l + sum_by g (take i xs)) + b)) left ∙ ap (λ k. load_of (r + sum_by f (take (i + 1) xs)) k) right

pub load_whole : {X : Type 0} (f g : X → ℕ) (xs : List X) (i r l : ℕ) (load : Load) → i ≡ length xs → load ≡ load_of (r + sum_by f (take i xs)) (l + sum_by g (take i xs)) → load ≡ load_of (r + sum_by f xs) (l + sum_by g xs)
load_whole f g xs i r l load whole h = subst (λ ys. load ≡ load_of (r + sum_by f ys) (l + sum_by g ys)) (ap (λ k. take k xs) whole ∙ take-length xs) h
