-- Inner definitions beside those of Noted.antt: only invariants, private functions and
-- proofs use them.
use Rattle.std.specs.Prelude.{ℕ, zero, suc, List, [], ◌∷◌, length, map}
use Rattle.std.proofs.Common.{inr, refl}
use Rattle.std.proofs.Math.Nat.{le_refl}
use Rattle.rw_kept_log.specs.Journal.{Segments}
use Rattle.rw_kept_folder.specs.declared.file_call.FileCall.{FileCall}
use Rattle.rw_kept_folder.specs.declared.file_call.FileCall.TheVariants.{Load}
use Rattle.rw_kept_folder.specs.Noted.{Noted, UnderWay, Nothing, Appending, Cutting, Creating, Loaded, Copied, CopySynced, Replaced, FolderState, changed_by, Leaves, LeftIn, step, after_calls, LeftFrom, no_segments, state_of, seen_of, MayLeave, LeftSinceNoted}

-- the calls that load segments of these texts
abbrev pub loads_of : Segments → List FileCall
loads_of texts = map Load texts

-- what is under way was asked by this process: no segment that was loaded is
abbrev pub IsOwn : UnderWay → Type 0
IsOwn (Loaded text) = ⊥
IsOwn (Copied text copy) = ⊥
IsOwn (CopySynced text copy) = ⊥
IsOwn (Replaced copy) = ⊥
IsOwn _ = Unit {0}

-- a crash leaves no segment that was loaded otherwise than it was
abbrev pub HasOwn : Noted → Type 0
HasOwn noted = IsOwn (state_of noted).under_way

now_in : (s : FolderState) (calls : List FileCall) (t : ℕ) (c : Segments) → LeftIn (after_calls s calls) c → LeftFrom s calls t c
now_in s [] t c now = now
now_in s (call ∷ calls) zero c now = inr (now_in (step call s) calls zero c now)
now_in s (call ∷ calls) (suc t) c now = now_in (step call s) calls t c now

-- the current moment is one of those since an earlier one
pub counts_now : (noted : Noted) (t : ℕ) (c : Segments) → MayLeave noted c → LeftSinceNoted noted t c
counts_now noted t c now = now_in no_segments noted.calls t c now

only_in : (s : FolderState) (calls : List FileCall) (c : Segments) → LeftFrom s calls (length calls) c → LeftIn (after_calls s calls) c
only_in s [] c left = left
only_in s (call ∷ calls) c left = only_in (step call s) calls c left

-- since the current moment there is no other one
pub only_now : (noted : Noted) (c : Segments) → LeftSinceNoted noted (length noted.calls) c → MayLeave noted c
only_now noted c left = only_in no_segments noted.calls c left

pub all_written : (u : UnderWay) (segments : Segments) → Leaves u segments (changed_by u segments)
all_written Nothing segments = refl
all_written (Appending bytes) segments = record { more = bytes; torn = tt; no_longer = le_refl (length bytes); folder = refl }
all_written (Cutting len) segments = record { at = len; no_shorter = le_refl len; folder = refl }
all_written Creating segments = inr refl
all_written (Loaded text) segments = inr (record { last = text; folder = refl })
all_written (Copied text copy) segments = inr (record { last = text; folder = refl })
all_written (CopySynced text copy) segments = inr (record { last = text; folder = refl })
all_written (Replaced copy) segments = inr (record { last = copy; folder = refl })

-- a crash may leave all that was asked
pub leaves_seen : (noted : Noted) → MayLeave noted (seen_of noted)
leaves_seen noted = all_written (state_of noted).under_way (state_of noted).on_disk
