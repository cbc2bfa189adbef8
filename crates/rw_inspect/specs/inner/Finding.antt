-- Inner definitions beside those of Finding.antt: only invariants, private functions and
-- proofs use them.
use Rattle.std.specs.Prelude.{◌≡◌, ℕ, List, [], ◌∷◌, length, map, nat_eq, Bool, true, false, if◌then◌else◌, Option, None, Some, Vec}
use Rattle.std.specs.Global.{Global}
use Rattle.std.specs.List.{list_any}
use Rattle.rw_types.specs.declared.entry.Entry.{Entry}
use Rattle.rw_series_cache.specs.Cached.{Taken}
use Rattle.rw_series_cache.specs.Known.{definitions_of}
use Rattle.rw_types.specs.Gathering.{gather}
use Rattle.rw_inspect.specs.Finding.{any_names, entry_text}

-- a position is one of these
abbrev pub is_asked : List ℕ → ℕ → Bool
is_asked positions position = list_any (λ p. nat_eq p position) positions

-- what is noted of an entry after others: its text with its position, if that is asked for
abbrev pub note_if : Bool → ℕ → List ℕ → List (ℕ × List ℕ)
note_if true position text = (position, text) ∷ []
note_if false position text = []

abbrev pub note_of : List ℕ → List Entry → Entry → List (ℕ × List ℕ)
note_of positions before e = note_if (is_asked positions (length before)) (length before) (entry_text before e)

-- the same as it is held
abbrev pub notes_in : ℕ → Option (Vec ℕ Global) → List (ℕ × List ℕ)
notes_in position None = []
notes_in position (Some text) = (position, text.items) ∷ []

-- the first of these that is noted of a position
abbrev pub noted_at : List (ℕ × List ℕ) → ℕ → Option (List ℕ)
noted_at [] position = None
noted_at (n ∷ notes) position = if nat_eq n.0 position then Some n.1 else noted_at notes position

abbrev pub told : ℕ × Vec ℕ Global → ℕ × List ℕ
told n = (n.0, n.1.items)

-- what a finder keeps of the entries
pub record IsFinder (positions : List ℕ) (es : List Entry) (count : ℕ) (cache : Taken) (notes : List (ℕ × Vec ℕ Global)) : Type 0 where
  pub counted : count ≡ length es
  pub choice : cache.choice ≡ any_names
  pub defined : definitions_of es ≡ cache.definitions
  pub noted : map told notes ≡ gather (note_of positions) es

-- the positions and the entries
pub record Finding : Type 0 where
  pub positions : Vec ℕ Global
  pub entries : List Entry
