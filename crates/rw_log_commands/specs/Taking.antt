-- Entries that are taken from a log as its bytes come.
use Rattle.std.specs.Prelude.{◌≡◌, ◌≢◌, ◌⊎◌, ℕ, Bool, List, ◌++◌, [], ◌∷◌, Option, None, Some}
use Rattle.std.specs.Io.KnownBytes.{Consumes}
use Rattle.rw_follow.specs.Meals.{Meal, with_piece}
use Rattle.rw_types.specs.declared.entry.Entry.{Entry}
use Rattle.rw_wal_format.specs.Pieces.{entries, fault}
use Rattle.rw_wal_format.specs.declared.tail_fault.TailFault.{TailFault}
use Rattle.rw_wal_format.specs.declared.tail_fault.TailFault.TheVariants as tail
use Rattle.rw_log_read.specs.Logs.{log_in, texts_of}

-- this was read of a log, which may have Snappy blocks or has none; it is all that the log had, and
-- has no fault, and these are its entries
pub record ReadsWhole (compresses : Bool) (gave had_all : Meal → Type 0) (taken : List Entry) : Type 0 where
  pub fed : Meal
  pub gives : gave fed
  pub whole : had_all fed
  pub sound : fault (log_in compresses (texts_of fed)) ≡ None
  pub all : taken ≡ entries (log_in compresses (texts_of fed))

-- why a log cannot be read: its device may fail and has failed, or it lacks a segment
abbrev pub CannotRead : (may_fail has_failed : Type 0) → (lacks : ℕ → Type 0) → Type 0
CannotRead may_fail has_failed lacks = (may_fail × has_failed) ⊎ ((n : ℕ) × lacks n)

-- a log was read up to a fault, which it has whatever follows
pub record ReadsLogToFault (compresses : Bool) (f : TailFault) (gave : Meal → Type 0) : Type 0 where
  pub fed : Meal
  pub gives : gave fed
  pub named : f ≢ tail.OutOfMemory
  pub stays : (more : List ℕ) → fault (log_in compresses (texts_of (with_piece fed more))) ≡ Some f

-- a segment was read up to a fault, which it has whatever follows
pub record ReadsToFault (compresses : Bool) (f : TailFault) (left_before left_after : Option (List ℕ)) : Type 0 where
  pub front : List ℕ
  pub read : Consumes left_before left_after front
  pub named : f ≢ tail.OutOfMemory
  pub stays : (more : List ℕ) → fault (log_in compresses ((front ++ more) ∷ [])) ≡ Some f
