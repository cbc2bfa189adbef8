-- What does not exceed a capacity stays within it.
use Rattle.std.proofs.Common.{◌≡◌, ℕ, Bool, true, false, ◌&&◌, ◌||◌, nat_lt, refl, inl, inr, arith}
use Rattle.std.proofs.lemmas.Bool.Decides.{nat_tests}
use Rattle.rw_head.specs.declared.capacity.Capacity.{Capacity}
use Rattle.rw_head.specs.Capacity.{series_count, is_above, exceeds, IsWithin, StaysWithin}
use Rattle.rw_head.specs.Store.{Store, total}

is_within : (limit old new : ℕ) (a b : Bool) → nat_lt old new ≡ a → nat_lt limit new ≡ b → (a && b) ≡ false → IsWithin limit old new
is_within limit old new false b e f over = inl (grind (arith, nat_tests))
is_within limit old new true false e f over = inr (grind (arith, nat_tests))
is_within limit old new true true e f over = absurd (let h : true ≡ false = over in cc)

neither : (a b : Bool) → (a || b) ≡ false → (a ≡ false) × (b ≡ false)
neither false b over = (refl, over)
neither true b over = absurd (let h : true ≡ false = over in cc)

pub stays_within : (capacity : Capacity) (old new : Store) → exceeds capacity old new ≡ false → StaysWithin capacity old new
stays_within capacity old new over =
    let both = neither (is_above capacity.max_samples (total old) (total new)) (is_above capacity.max_series (series_count old) (series_count new)) over in record {
      samples = is_within capacity.max_samples (total old) (total new) (nat_lt (total old) (total new)) (nat_lt capacity.max_samples (total new)) refl refl both.0;
      series = is_within capacity.max_series (series_count old) (series_count new) (nat_lt (series_count old) (series_count new)) (nat_lt capacity.max_series (series_count new)) refl refl both.1;
    }
