-- What is added within a capacity, one request after the other.
use Rattle.std.proofs.Common.{ℕ, ◌≤◌, inl, inr, ⊎_elim, arith}
use Rattle.rw_head.specs.declared.capacity.Capacity.{Capacity}
use Rattle.rw_head.specs.Capacity.{series_count, IsWithin, StaysWithin}
use Rattle.rw_head.specs.Store.{Store, total}

within_twice : (limit a b c : ℕ) → IsWithin limit a b → IsWithin limit b c → IsWithin limit a c
within_twice limit a b c first =
    ⊎_elim
    (λ (fewer : c ≤ b). ⊎_elim (λ (few : b ≤ a). inl (omega (arith, fewer, few)))
    (λ (most : b ≤ limit). inr (omega (arith, fewer, most))) first)
    (λ (most : c ≤ limit). inr most)

pub stays_itself : (capacity : Capacity) (store : Store) → StaysWithin capacity store store
stays_itself capacity store = record { samples = inl (omega arith); series = inl (omega arith) }

pub stays_twice : (capacity : Capacity) (a b c : Store)
    → StaysWithin capacity a b → StaysWithin capacity b c → StaysWithin capacity a c
stays_twice capacity a b c g h = record {
  samples = within_twice capacity.max_samples (total a) (total b) (total c) g.samples h.samples;
  series = within_twice capacity.max_series (series_count a) (series_count b) (series_count c) g.series h.series;
}
