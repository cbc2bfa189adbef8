-- Inner definitions beside those of Forgetting.antt: only invariants, private functions and
-- proofs use them.
use Rattle.std.specs.Prelude.{◌≡◌, ℕ, ℤ, ◌<◌, int_lt, Bool, true, false, List, [], ◌++◌, length, slice_index_or}
use Rattle.std.specs.List.{AllByRecursion}
use Rattle.rw_head.specs.Lists.{Lists, no_lists}
use Rattle.rw_head.specs.Order.{Point}

-- each is earlier than this timestamp
abbrev pub AreBefore : ℤ → List Point → Type 0
AreBefore t xs = AllByRecursion (λ x. int_lt x.0 t ≡ true) xs

-- more samples are gone, each earlier than this timestamp
abbrev pub HasForgotten : ℤ → List Point → List Point → Type 0
HasForgotten t old new = (more : List Point) × (new ≡ old ++ more) × AreBefore t more

-- the first 120 samples, each earlier than this timestamp, are gone, and there are others
pub record HasMoved (t : ℤ) (old new gone after : List Point) : Type 0 where
  pub block : List Point
  pub full : length block ≡ 120
  pub front : old ≡ block ++ new
  pub back : after ≡ gone ++ block
  pub earlier : AreBefore t block
  pub more : 0 < length new

-- they are gone, or nothing is
abbrev pub Moves : Bool → ℤ → List Point → List Point → List Point → List Point → Type 0
Moves true t old new gone after = HasMoved t old new gone after
Moves false t old new gone after = (new ≡ old) × (after ≡ gone)

-- of no list a sample is gone
abbrev pub AreWhole : List Lists → Type 0
AreWhole lists = (n : ℕ) → (slice_index_or lists n no_lists).gone ≡ []

-- Each list is at the place of its label set, and samples are gone only if the head may forget.
pub record AreListed (names : ℕ) (forgets : Bool) (lists : List Lists) : Type 0 where
  pub same : names ≡ length lists
  pub whole : forgets ≡ false → AreWhole lists
