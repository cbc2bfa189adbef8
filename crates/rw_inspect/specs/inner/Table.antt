-- Inner definitions beside those of Table.antt: only private functions and proofs use them.
use Rattle.std.specs.Prelude.{ℕ, List}
use Rattle.std.specs.Borrow.{Bor}
use Rattle.rw_inspect.specs.Table.{Column}

abbrev pub column_of : Bor (List ℕ) × ℕ → Column
column_of c = (c.0.now, c.1)
