-- What the files of a folder hold, and what a crash may leave of them, by what was asked of the
-- operating system so far. That it keeps to this is a premise.
--
-- What this process has not written and synced itself is not on the disk: a page whose write has
-- failed can be read again, and a later sync of it succeeds. So the last segment that was loaded is
-- on the disk only once it was written anew: a copy of it is written and synced, renamed over it,
-- and then the folder is synced. Until then a crash may leave what the one before may have left.
use Rattle.std.specs.Prelude.{◌≡◌, ◌⊎◌, ℕ, zero, suc, List, [], ◌∷◌, ◌++◌, take}
use Rattle.rw_kept_log.specs.Journal.{Segments, on_last, with_more, IsTornEnd, IsCutEnd, IsBegun}
use Rattle.rw_kept_folder.specs.declared.file_call.FileCall.{FileCall}
use Rattle.rw_kept_folder.specs.declared.file_call.FileCall.TheVariants.{Load, WriteCopy, SyncCopy, RenameCopy, Append, SetLen, CreateNext, SyncData, SyncFolder}

-- the calls, in order, and how often one has failed
pub record Noted : Type 0 where
  pub calls : List FileCall
  pub faults : ℕ

-- what is under way, so that it is not certain to be on the disk
pub data UnderWay : Type 0 where
  Nothing : UnderWay
  Appending : (bytes : List ℕ) → UnderWay
  Cutting : (len : ℕ) → UnderWay
  Creating : UnderWay
  -- the last segment was loaded
  Loaded : (text : List ℕ) → UnderWay
  -- and a copy of it was written
  Copied : (text : List ℕ) → (copy : List ℕ) → UnderWay
  -- and synced
  CopySynced : (text : List ℕ) → (copy : List ℕ) → UnderWay
  -- and renamed over the segment
  Replaced : (copy : List ℕ) → UnderWay

-- the segments on the disk, and what is under way
pub record FolderState : Type 0 where
  pub on_disk : Segments
  pub under_way : UnderWay

-- the segments as a read returns them
abbrev pub changed_by : UnderWay → Segments → Segments
changed_by Nothing segments = segments
changed_by (Appending bytes) segments = with_more segments bytes
changed_by (Cutting len) segments = on_last (take len) segments
changed_by Creating segments = segments ++ [] ∷ []
changed_by (Loaded text) segments = segments ++ text ∷ []
changed_by (Copied text copy) segments = segments ++ text ∷ []
changed_by (CopySynced text copy) segments = segments ++ text ∷ []
changed_by (Replaced copy) segments = segments ++ copy ∷ []

-- bytes that are being written may be torn in any way
abbrev pub Tears : List ℕ → List ℕ → Type 0
Tears bytes torn = Unit {0}

-- After these segments there is one more, whatever its bytes.
pub record HasOneMore (segments c : Segments) : Type 0 where
  pub last : List ℕ
  pub folder : c ≡ segments ++ last ∷ []

-- What a crash leaves of a last segment that this process has not written: anything that the crash
-- before may have left, also no file. The segments before it stay.
abbrev pub IsUnsure : Segments → Segments → Type 0
IsUnsure segments c = (c ≡ segments) ⊎ HasOneMore segments c

-- what a crash may leave
abbrev pub Leaves : UnderWay → Segments → Segments → Type 0
Leaves Nothing segments c = c ≡ segments
Leaves (Appending bytes) segments c = IsTornEnd Tears bytes segments c
Leaves (Cutting len) segments c = IsCutEnd len segments c
Leaves Creating segments c = IsBegun segments c
Leaves (Loaded text) segments c = IsUnsure segments c
Leaves (Copied text copy) segments c = IsUnsure segments c
Leaves (CopySynced text copy) segments c = IsUnsure segments c
Leaves (Replaced copy) segments c = IsUnsure segments c

abbrev pub seen_in : FolderState → Segments
seen_in s = changed_by s.under_way s.on_disk

abbrev pub LeftIn : FolderState → Segments → Type 0
LeftIn s c = Leaves s.under_way s.on_disk c

-- what is under way is on the disk
abbrev pub settled_state : FolderState → FolderState
settled_state s = record { on_disk = seen_in s; under_way = Nothing }

-- something else is under way
abbrev pub asked_state : UnderWay → FolderState → FolderState
asked_state u s = record { on_disk = seen_in s; under_way = u }

-- The bytes of the last segment were synced: then those that this process wrote are on the disk. A
-- file that was just created may be missing in the folder.
abbrev pub data_synced : UnderWay → FolderState → FolderState
data_synced (Appending bytes) s = settled_state s
data_synced (Cutting len) s = settled_state s
data_synced _ s = s

-- The folder was synced: then it has the file that was created, or the copy in place of the last
-- segment.
abbrev pub folder_synced : UnderWay → FolderState → FolderState
folder_synced Creating s = settled_state s
folder_synced (Replaced copy) s = settled_state s
folder_synced _ s = s

abbrev pub copy_written : List ℕ → UnderWay → UnderWay
copy_written copy (Loaded text) = Copied text copy
copy_written copy u = u

abbrev pub copy_synced : UnderWay → UnderWay
copy_synced (Copied text copy) = CopySynced text copy
copy_synced u = u

-- A copy that was not synced makes nothing certain.
abbrev pub copy_renamed : UnderWay → UnderWay
copy_renamed (CopySynced text copy) = Replaced copy
copy_renamed u = u

-- A call: a change, which is under way from then on, or a sync that succeeded. A change is asked
-- only while all that is seen is on the disk. A segment that is loaded has those before it on the
-- disk, since each was synced before the next one was created (`create_next` requires `Only`).
abbrev pub step : FileCall → FolderState → FolderState
step (Load text) s = asked_state (Loaded text) s
step (WriteCopy copy) s =
    record { on_disk = s.on_disk; under_way = copy_written copy s.under_way }
step SyncCopy s = record { on_disk = s.on_disk; under_way = copy_synced s.under_way }
step RenameCopy s = record { on_disk = s.on_disk; under_way = copy_renamed s.under_way }
step (Append bytes) s = asked_state (Appending bytes) s
step (SetLen len) s = asked_state (Cutting len) s
step CreateNext s = asked_state Creating s
step SyncData s = data_synced s.under_way s
step SyncFolder s = folder_synced s.under_way s

-- after these calls, in order
abbrev pub after_calls : FolderState → List FileCall → FolderState
after_calls s [] = s
after_calls s (call ∷ calls) = after_calls (step call s) calls

-- what a crash may have left at the moment t, the number of calls before it, or later
abbrev pub LeftFrom : FolderState → List FileCall → ℕ → Segments → Type 0
LeftFrom s [] t c = LeftIn s c
LeftFrom s (call ∷ calls) zero c = LeftIn s c ⊎ LeftFrom (step call s) calls zero c
LeftFrom s (call ∷ calls) (suc t) c = LeftFrom (step call s) calls t c

-- no segment was loaded yet
abbrev pub no_segments : FolderState
no_segments = record { on_disk = []; under_way = Nothing }

abbrev pub state_of : Noted → FolderState
state_of noted = after_calls no_segments noted.calls

abbrev pub seen_of : Noted → Segments
seen_of noted = seen_in (state_of noted)

abbrev pub MayLeave : Noted → Segments → Type 0
MayLeave noted c = LeftIn (state_of noted) c

abbrev pub LeftSinceNoted : Noted → ℕ → Segments → Type 0
LeftSinceNoted noted t c = LeftFrom no_segments noted.calls t c
