-- What a client of a reader has taken so far.
use Rattle.std.specs.Prelude.{◌≡◌, List, [], ◌∷◌, ◌++◌, length, Option, Some, None, Result, Ok, Err, false}
use Rattle.rw_types.specs.declared.entry.Entry.{Entry}
use Rattle.rw_wal_format.specs.Pieces.{Piece, entries, skipped, fault}
use Rattle.rw_wal_format.specs.declared.tail_fault.TailFault.{TailFault}
use Rattle.rw_wal_tail.specs.Fed.{Fed, is_out_of_memory}

-- these entries were taken from the reader, each in its turn
pub record HasTaken (t : Fed) (taken : List Entry) : Type 0 where
  pub count : t.given ≡ length taken
  pub rest : List Entry
  pub begins : entries t.pieces ≡ taken ++ rest

-- the log has these entries and no more: there is this fault after them, or none
pub record HasRead (pieces : List Piece) (taken : List Entry) (found : Option TailFault) : Type 0 where
  pub all : taken ≡ entries pieces
  pub fault_is : fault pieces ≡ found

-- all entries were taken, with this fault after them, or none, and the skipped records are counted
pub record HasTakenAll (t : Fed) (taken : List Entry) (found : Option TailFault) : Type 0 where
  pub taken_all : HasTaken t taken
  pub read : HasRead t.pieces taken found
  pub passed : t.skipped ≡ skipped t.pieces

-- what was taken after an answer: one entry more, or what was taken before, which is all unless
-- memory ran out
abbrev pub TakesNext : List Entry → Result (Option Entry) TailFault → Fed → Type 0
TakesNext taken (Ok (Some e)) new = HasTaken new (taken ++ e ∷ [])
TakesNext taken (Ok None) new = HasTakenAll new taken None
TakesNext taken (Err f) new =
    HasTaken new taken × (is_out_of_memory f ≡ false → HasTakenAll new taken (Some f))

-- All entries that were left were taken, after those that were taken before: if a client had taken
-- what the reader gave until then, it has now taken all that there are, with this fault after them,
-- or none.
pub record TakesAll (old new : Fed) (before after : List Entry) (found : Option TailFault) : Type 0 where
  pub more : List Entry
  pub grows : after ≡ before ++ more
  pub all : (taken : List Entry) → HasTaken old taken → HasTakenAll new (taken ++ more) found
