-- Inner definitions beside those of Keys.antt: only invariants, private functions and
-- proofs use them.
use Rattle.std.specs.Prelude.{ℕ, Bool, false, ◌&&◌, nat_eq, nat_le}
use Rattle.rw_settings.specs.declared.keys.Key.{Key}
use Rattle.rw_settings.specs.declared.keys.Kind.{Kind}
use Rattle.rw_settings.specs.Keys.{Row}

abbrev pub row_of : Key → Row
row_of key = (key.0.now, key.1)

-- it takes a number of this range, as its default is
abbrev pub has_range : ℕ → ℕ → Kind → Bool
has_range low high (Kind.Number least greatest default) = (nat_eq least low && nat_eq greatest high) && (nat_le low default && nat_le default high)
has_range low high _ = false
