-- What is read of a record whose form is judged.
use Rattle.std.specs.Prelude.{◌≡◌, ℕ, ◌<◌, List, length, Option, Some}
use Rattle.rw_types.specs.declared.entry.Entry.{Entry}
use Rattle.rw_wal_format.specs.Records.{record_entries}
use Rattle.rw_wal_format.specs.Segments.{Record, entries_in}

-- something is read, and these are the bytes after it
abbrev pub Leaves : {A : Type 0} → Option (A × List ℕ) → List ℕ → Type 0
Leaves {A} found rest = (x : A) × (found ≡ Some (x, rest))

-- these are the bytes of a record with at least one entry
abbrev pub HasEntries : List ℕ → Type 0
HasEntries bytes = (es : List Entry) × (record_entries bytes ≡ Some es) × (0 < length es)

-- the same of a record as it is stored
abbrev pub StoresEntries : Record → Type 0
StoresEntries r = (es : List Entry) × (entries_in r ≡ Some es) × (0 < length es)
