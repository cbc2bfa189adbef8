-- A journal in memory, what a crash may leave of it, and what it might have left.
use Rattle.std.specs.Prelude.{◌≡◌, ◌⊎◌, ℕ, ◌-◌, ◌≤◌, List, [], ◌∷◌, ◌++◌, length, take, drop, map, Vec}
use mathlib.Core.Logic.{inl, inr}
use Rattle.std.proofs.Common.{sym, ap, subst, length-drop, take-append-drop}
use Rattle.std.proofs.Math.Nat.{le_refl}
use Rattle.std.specs.declared.alloc.Global.{Global}
use Rattle.rw_kept_log.specs.Journal.{Segments}
use Rattle.rw_kept_log.specs.declared.image.Image.{Image}

-- the segments that are done, and the last one
abbrev pub contents_of_image : List (Vec ℕ Global) → List ℕ → Segments
contents_of_image done last = map (λ v. v.items) done ++ last ∷ []

abbrev pub image_segments : Image → Segments
image_segments image = contents_of_image image.done.items image.last.items

-- what a crash may leave: the synced part of the last segment, and after it any bytes, no more than
-- were written there
pub record IsLeftOf (image : Image) (c : Segments) : Type 0 where
  pub more : List ℕ
  pub no_longer : length more ≤ length image.last.items - image.synced
  pub folder : c ≡ contents_of_image image.done.items (take image.synced image.last.items ++ more)

-- a crash at one of these moments might have left this
abbrev pub HadBeen : List Image → Segments → Type 0
HadBeen [] c = ⊥
HadBeen (image ∷ past) c = IsLeftOf image c ⊎ HadBeen past c

-- what a crash since t might have left
abbrev pub LeftSince : List Image → Image → ℕ → Segments → Type 0
LeftSince past image t c = IsLeftOf image c ⊎ HadBeen (drop t past) c

none_left : (past : List Image) (c : Segments) → HadBeen (drop (length past) past) c → ⊥
none_left [] c had = had
none_left (image ∷ past) c had = none_left past c had

-- since the last of them there is what there is now
pub only_this : (past : List Image) (image : Image) (c : Segments) → LeftSince past image (length past) c → IsLeftOf image c
only_this past image c (inl now) = now
only_this past image c (inr had) = absurd (none_left past c had)

-- a crash may leave all that was written
pub all_left : (image : Image) → IsLeftOf image (image_segments image)
all_left image =
    let rest = length image.last.items - image.synced in
    record {
      more = drop image.synced image.last.items;
      no_longer = subst (λ (n : ℕ). n ≤ rest) (sym (length-drop image.synced image.last.items))
          (le_refl rest);
      folder = sym (ap (contents_of_image image.done.items)
          (take-append-drop image.synced image.last.items));
    }
