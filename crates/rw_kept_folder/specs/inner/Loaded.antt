-- Inner definitions of how a folder is loaded: only private functions and proofs use them.
use Rattle.std.specs.Prelude.{◌≡◌, ℕ, List, [], ◌∷◌, ◌++◌, length, Option, Some, None, Vec}
use Rattle.std.specs.declared.alloc.Global.{Global}
use Rattle.rw_kept_log.specs.Journal.{Segments, Only}
use Rattle.rw_kept_folder.specs.declared.file_call.FileCall.{FileCall}
use Rattle.rw_kept_folder.specs.Noted.{Noted, seen_of, MayLeave}
use Rattle.rw_kept_folder.specs.inner.Noted.{loads_of}

-- the last segment that was read, if there is one
abbrev pub IsLastRead : Segments → Option (Vec ℕ Global) → Type 0
IsLastRead segments None = segments ≡ []
IsLastRead segments (Some text) = (front : Segments) × (segments ≡ front ++ text.items ∷ [])

-- This many segments were read, noted and taken, in this order, and this is the last one.
pub record IsLoaded (before after : Segments) (calls : List FileCall) (last : Option (Vec ℕ Global)) (count : ℕ) : Type 0 where
  pub segments : Segments
  pub noted : calls ≡ loads_of segments
  pub taken : after ≡ before ++ segments
  pub last_is : IsLastRead segments last
  pub counted : count ≡ length segments

-- The segments that were taken are those of a folder, and on the disk.
pub record IsHeld (before after : Segments) (noted : Noted) (count : ℕ) : Type 0 where
  pub taken : after ≡ before ++ seen_of noted
  pub synced : Only (seen_of noted) (MayLeave noted)
  pub counted : count ≡ length (seen_of noted)
