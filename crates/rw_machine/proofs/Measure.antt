-- How much work is left, and that each step of `settle` makes it less.
use Rattle.std.proofs.Common.{◌≡◌, ℕ, zero, suc, ◌+◌, ◌-◌, ◌*◌, ◌<◌, Bool, true, false, List, [], ◌∷◌, length, Option, Some, None, slice_get, refl, ap, arith}
use Rattle.rw_machine.specs.Shards.{Shard}
use Rattle.rw_machine.specs.Steps.{change}
use Rattle.rw_machine.specs.Worlds.{Setup, World, log, new_shards}
use Rattle.rw_plain_queue.specs.Items.{Placed}

abbrev pub builder_work : List Placed → ℕ
builder_work [] = 0
builder_work (x ∷ xs) = 3

abbrev pub batch_work : List Placed → Bool → ℕ
batch_work [] b = 0
batch_work (x ∷ xs) true = 1
batch_work (x ∷ xs) false = 2

abbrev pub end_work : Bool → ℕ
end_work true = 0
end_work false = 5

abbrev pub shard_work : Shard → ℕ
shard_work s = 4 * length s.queue + builder_work s.core.builder + batch_work s.core.batch s.core.waiting + end_work s.end_put

abbrev pub shards_work : List Shard → ℕ
shards_work [] = 0
shards_work (s ∷ ss) = shard_work s + shards_work ss

abbrev pub drain_work : Option ℕ → ℕ
drain_work None = 0
drain_work (Some n) = 5 * n + 1

-- what is left to do once closed: entries, items, builders, batches, ends, a restart, busy answers
abbrev pub work : World → ℕ
work w = 5 * (length (log w) - w.placed) + shards_work w.shards + drain_work w.draining + 2 * w.head.busy

pub sub_step : (m n : ℕ) → n < m → m - n ≡ suc (m - suc n)
sub_step m n lt = omega arith

pub work_change : (i : ℕ) (f : Shard → Shard) (ss : List Shard) (s : Shard) → slice_get ss i ≡ Some s → shards_work (change i f ss) + shard_work s ≡ shards_work ss + shard_work (f s)
work_change i f [] s e = let never : None ≡ Some s → ⊥ = λ h. cc in absurd (never e)
work_change zero f (x ∷ ss) s e =
    let same : x ≡ s = cc in
    let a : shard_work x ≡ shard_work s = ap shard_work same in
    let b : shard_work (f x) ≡ shard_work (f s) = ap (λ y. shard_work (f y)) same in
    lemma (shard_work x) (shard_work s) (shard_work (f x)) (shard_work (f s)) (shards_work ss) a b
  where
    lemma : (p q m n r : ℕ) → p ≡ q → m ≡ n → (m + r) + q ≡ (p + r) + n
    lemma p q m n r a b = omega arith
work_change (suc i) f (x ∷ ss) s e = lemma (shard_work x) (shards_work (change i f ss)) (shard_work s) (shards_work ss) (shard_work (f s)) (work_change i f ss s e)
  where
    lemma : (x a b d e : ℕ) → a + b ≡ d + e → (x + a) + b ≡ (x + d) + e
    lemma x a b d e h = omega arith

pub new_work : (c : Setup) (epoch i n : ℕ) → shards_work (new_shards c epoch i n) ≡ 5 * n
new_work c epoch i zero = refl
new_work c epoch i (suc n) = let h : shards_work (new_shards c epoch (suc i) n) ≡ 5 * n = new_work c epoch (suc i) n in omega arith
