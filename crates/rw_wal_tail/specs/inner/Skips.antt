-- The counts of skipped records.
use Rattle.std.specs.Prelude.{◌≡◌, ℕ, ◌<◌, List, length, ◌==◌, count_by, get_or}
use Rattle.rw_wal_format.specs.Skipped.{type_number}
use Rattle.rw_wal_format.specs.declared.skipped_type.SkippedType.{SkippedType}

-- this many records in all, and at each type's number how many are of this type
pub record AreCounted (types : List SkippedType) (all : ℕ) (of_type : List ℕ) : Type 0 where
  pub all_are : all ≡ length types
  pub size : length of_type ≡ 11
  pub each : (n : ℕ) → n < 11 → get_or of_type n 0 ≡ count_by (λ t. type_number t == n) types
