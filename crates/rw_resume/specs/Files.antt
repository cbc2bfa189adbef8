-- What a crash may leave of the file with a position, by what was asked of the operating system.
-- That the operating system keeps to this is a premise.
use Rattle.std.specs.Prelude.{◌≡◌, ◌⊎◌, ℕ, Bool, true, false, List, [], ◌∷◌, ◌++◌, fold, Option, Some}
use Rattle.std.specs.List.{Contains}
use Rattle.rw_resume.specs.declared.position_call.PositionCall.{PositionCall}
use Rattle.rw_resume.specs.declared.position_call.PositionCall.TheVariants.{Write, Spoil, Sync, Rename, SyncFolder}

-- the copy that is to replace the file
pub data Copy : Type 0 where
  -- there is none, or it is not whole
  NoCopy : Copy
  -- its bytes were written
  Written : (text : List ℕ) → Copy
  -- and synced
  Synced : (text : List ℕ) → Copy
  -- and it was renamed over the file
  Renamed : (text : List ℕ) → Copy

-- What the file may hold after a crash now (`None` if there is no file), and whether a copy that
-- was not synced has replaced it, so that it may hold anything; and the same of a crash at some
-- moment so far.
pub record FileState : Type 0 where
  pub now : List (Option (List ℕ))
  pub is_torn : Bool
  pub ever : List (Option (List ℕ))
  pub was_torn : Bool
  pub copy : Copy

abbrev pub MayLeave : FileState → Option (List ℕ) → Type 0
MayLeave s c = Contains s.now c ⊎ (s.is_torn ≡ true)

abbrev pub MightHaveLeft : FileState → Option (List ℕ) → Type 0
MightHaveLeft s c = Contains s.ever c ⊎ (s.was_torn ≡ true)

abbrev pub written : List ℕ → FileState → FileState
written text s = record s { copy = Written text }

abbrev pub spoiled : FileState → FileState
spoiled s = record s { copy = NoCopy }

abbrev pub copy_synced : Copy → Copy
copy_synced NoCopy = NoCopy
copy_synced (Written text) = Synced text
copy_synced (Synced text) = Synced text
copy_synced (Renamed text) = Renamed text

abbrev pub synced : FileState → FileState
synced s = record s { copy = copy_synced s.copy }

-- A copy that was synced replaces the file, or does not yet; any other makes it uncertain.
abbrev pub renamed_from : Copy → FileState → FileState
renamed_from (Synced text) s = record {
  now = s.now ++ Some text ∷ [];
  is_torn = s.is_torn;
  ever = s.ever ++ Some text ∷ [];
  was_torn = s.was_torn;
  copy = Renamed text;
}
renamed_from NoCopy s = record s { is_torn = true; was_torn = true }
renamed_from (Written text) s = record s { is_torn = true; was_torn = true }
renamed_from (Renamed text) s = record s { is_torn = true; was_torn = true }

abbrev pub renamed : FileState → FileState
renamed s = renamed_from s.copy s

-- The folder was synced: then it has the copy that was renamed.
abbrev pub folder_synced_from : Copy → FileState → FileState
folder_synced_from (Renamed text) s = record {
  now = Some text ∷ [];
  is_torn = false;
  ever = s.ever;
  was_torn = s.was_torn;
  copy = NoCopy;
}
folder_synced_from NoCopy s = s
folder_synced_from (Written text) s = s
folder_synced_from (Synced text) s = s

abbrev pub folder_synced : FileState → FileState
folder_synced s = folder_synced_from s.copy s

abbrev pub step : FileState → PositionCall → FileState
step s (Write text) = written text s
step s Spoil = spoiled s
step s Sync = synced s
step s Rename = renamed s
step s SyncFolder = folder_synced s

-- the file at the start: what a crash may leave of it is not known
abbrev pub unknown_file : FileState
unknown_file = record { now = []; is_torn = true; ever = []; was_torn = true; copy = NoCopy }

-- after these calls, in order
abbrev pub file_state : List PositionCall → FileState
file_state calls = fold step unknown_file calls
