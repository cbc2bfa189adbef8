-- What a crash may leave of a journal in memory after calls that were synced or not.
use Rattle.std.proofs.Common.{◌≡◌, ℕ, ◌<◌, ◌≤◌, ◌-◌, List, [], ◌∷◌, ◌++◌, length, take, drop, map, Vec, refl, sym, ap, ◌∙◌, arith, append_assoc, append-nil, length-append, length-take, length-drop, take-append-drop}
use Rattle.std.proofs.lemmas.List.{drop-append-le, drop-map, length-map, take_all, take-append-le}
use Rattle.std.specs.declared.alloc.Global.{Global}
use Rattle.rw_kept_log.specs.Journal.{Segments, on_last, with_more, Only, NoMore, IsTornEnd, IsCutEnd}
use Rattle.rw_kept_log.specs.Memory.{contents_of_image, image_segments, IsLeftOf}
use Rattle.rw_kept_log.specs.Retiring.{texts_of, with_first}
use Rattle.rw_kept_log.specs.declared.image.Image.{Image}
use Rattle.rw_kept_log.proofs.SegmentLemmas.{on_last-push, with_none}

-- lists that end alike
same_last : (xs : Segments) (a b : List ℕ) → xs ++ a ∷ [] ≡ xs ++ b ∷ [] → a ≡ b
same_last [] a b e = cc
same_last (x ∷ xs) a b e = let e' : xs ++ a ∷ [] ≡ xs ++ b ∷ [] = cc in same_last xs a b e'

-- if a crash leaves what is seen, all of it is synced
pub all_synced : (image : Image) → Only (image_segments image) (IsLeftOf image) → length image.last.items ≤ image.synced
all_synced image only =
    let left : IsLeftOf image (contents_of_image image.done.items (take image.synced image.last.items ++ [])) = record { more = []; no_longer = omega arith; folder = refl } in
    let same : take image.synced image.last.items ++ [] ≡ image.last.items = same_last (map (λ v. v.items) image.done.items) (take image.synced image.last.items ++ []) image.last.items (only _ left) in
    omega (arith, length-take image.synced image.last.items, ap length same, length-append (take image.synced image.last.items) [])

-- and the other way round
pub only_seen : (image : Image) → length image.last.items ≤ image.synced → Only (image_segments image) (IsLeftOf image)
only_seen image all c left =
    let none : left.more ≡ [] = none_of left.more (omega (arith, left.no_longer)) in
    left.folder ∙ ap (λ (m : List ℕ). contents_of_image image.done.items (take image.synced image.last.items ++ m)) none
    ∙ ap (contents_of_image image.done.items) (append-nil (take image.synced image.last.items) ∙ take_all image.synced image.last.items all)
  where
    none_of : (xs : List ℕ) → length xs ≤ 0 → xs ≡ []
    none_of [] h = refl
    none_of (x ∷ xs) h = absurd (omega arith)

-- bytes that are appended after what is synced are torn at their end
pub appended_torn : (old new : Image) (bytes : List ℕ) → length old.last.items ≤ old.synced → new.done ≡ old.done → new.synced ≡ old.synced → new.last.items ≡ old.last.items ++ bytes
    → old.synced ≤ length old.last.items → (c : Segments) → IsLeftOf new c → IsTornEnd (λ b t. Unit {0}) bytes (image_segments old) c
appended_torn old new bytes all done synced last within c left =
    let front : take new.synced new.last.items ≡ old.last.items =
    ap (λ (n : ℕ). take n new.last.items) synced ∙ ap (take old.synced) last ∙ take-append-le old.synced old.last.items bytes within ∙ take_all old.synced old.last.items all in
    record {
      more = left.more;
      torn = tt;
      no_longer = omega (arith, left.no_longer, ap length last, length-append old.last.items bytes, synced);
      folder = left.folder
          ∙ ap (λ (v : Vec (Vec ℕ Global) Global). contents_of_image v.items (take new.synced new.last.items ++ left.more)) done
          ∙ ap (λ (t : List ℕ). contents_of_image old.done.items (t ++ left.more)) front
          ∙ sym (on_last-push (λ s. s ++ left.more) (map (λ v. v.items) old.done.items) old.last.items);
    }

pub appended : (old new : Image) (bytes : List ℕ) → new.done ≡ old.done → new.last.items ≡ old.last.items ++ bytes → image_segments new ≡ with_more (image_segments old) bytes
appended old new bytes done last =
    ap (λ (v : Vec (Vec ℕ Global) Global). contents_of_image v.items new.last.items) done ∙ ap (contents_of_image old.done.items) last
    ∙ sym (on_last-push (λ s. s ++ bytes) (map (λ v. v.items) old.done.items) old.last.items)

-- nothing was appended yet
pub untouched_torn : (image : Image) (n : List ℕ) → Only (image_segments image) (IsLeftOf image) → (c : Segments) → IsLeftOf image c → IsTornEnd (λ b t. Unit {0}) n (image_segments image) c
untouched_torn image n only c left = record { more = []; torn = tt; no_longer = omega arith; folder = only c left ∙ sym (with_none (image_segments image)) }

pub untouched_cut : (image : Image) (n : ℕ) → n ≤ length image.last.items → Only (image_segments image) (IsLeftOf image) → (c : Segments) → IsLeftOf image c → IsCutEnd n (image_segments image) c
untouched_cut image n le only c left = record {
  at = length image.last.items;
  no_shorter = le;
  folder = only c left
      ∙ ap (contents_of_image image.done.items) (sym (take_all (length image.last.items) image.last.items (omega arith)))
      ∙ sym (on_last-push (take (length image.last.items)) (map (λ v. v.items) image.done.items) image.last.items);
}

pub uncut : (image : Image) (n : ℕ) → length image.last.items ≤ n → image_segments image ≡ on_last (take n) (image_segments image)
uncut image n le = ap (contents_of_image image.done.items) (sym (take_all n image.last.items le)) ∙ sym (on_last-push (take n) (map (λ v. v.items) image.done.items) image.last.items)

pub uncut_crash : (image : Image) (n : ℕ) → length image.last.items ≤ n → Only (image_segments image) (IsLeftOf image) → (c : Segments) → IsLeftOf image c → IsCutEnd n (image_segments image) c
uncut_crash image n le only c left = record { at = n; no_shorter = omega arith; folder = only c left ∙ uncut image n le }

pub was_cut : (old new : Image) (n : ℕ) → new.done ≡ old.done → new.last.items ≡ take n old.last.items → image_segments new ≡ on_last (take n) (image_segments old)
was_cut old new n done last =
    ap (λ (v : Vec (Vec ℕ Global) Global). contents_of_image v.items new.last.items) done ∙ ap (contents_of_image old.done.items) last
    ∙ sym (on_last-push (take n) (map (λ v. v.items) old.done.items) old.last.items)

pub cut_crash : (old new : Image) (n : ℕ) → new.done ≡ old.done → new.last.items ≡ take n old.last.items → length new.last.items ≤ new.synced → (c : Segments) → IsLeftOf new c → IsCutEnd n (image_segments old) c
cut_crash old new n done last all c left = record { at = n; no_shorter = omega arith; folder = only_seen new all c left ∙ was_cut old new n done last }

-- after a sync a crash leaves one of the outcomes from before it
pub synced_fewer : (old new : Image) → new.done ≡ old.done → new.last ≡ old.last → length new.last.items ≤ new.synced → NoMore (IsLeftOf old) (IsLeftOf new)
synced_fewer old new done last all c left =
    let n = old.synced in
    let whole : take old.synced old.last.items ++ drop old.synced old.last.items ≡ old.last.items = take-append-drop old.synced old.last.items in
    record {
      more = drop old.synced old.last.items;
      no_longer = omega (arith, length-drop old.synced old.last.items);
      folder = only_seen new all c left
          ∙ ap (λ (v : Vec (Vec ℕ Global) Global). contents_of_image v.items new.last.items) done
          ∙ ap (λ (v : Vec ℕ Global). contents_of_image old.done.items v.items) last
          ∙ ap (contents_of_image old.done.items) (sym whole);
    }

-- the same segments, of which the same is synced
pub same_left : (old new : Image) → new.done.items ≡ old.done.items → new.last.items ≡ old.last.items → new.synced ≡ old.synced → (c : Segments) → IsLeftOf new c → IsLeftOf old c
same_left old new done last synced c left = record {
  more = left.more;
  no_longer = omega (arith, left.no_longer, ap length last, synced);
  folder = left.folder
      ∙ ap (λ (v : List (Vec ℕ Global)). contents_of_image v (take new.synced new.last.items ++ left.more)) done
      ∙ ap (λ (t : List ℕ). contents_of_image old.done.items (take new.synced t ++ left.more)) last
      ∙ ap (λ (n : ℕ). contents_of_image old.done.items (take n old.last.items ++ left.more)) synced;
}

-- the last segment changed, and no other
pub last_changed : (f : List ℕ → List ℕ) (done : List (Vec ℕ Global)) (old last : List ℕ) → last ≡ f old → contents_of_image done last ≡ on_last f (contents_of_image done old)
last_changed f done old last e = ap (contents_of_image done) e ∙ sym (on_last-push f (map (λ v. v.items) done) old)

pub within_done : (image : Image) (n : ℕ) → n < length (image_segments image) → n ≤ length image.done.items
within_done image n lt = omega (arith, length-append (texts_of image.done.items) (image.last.items ∷ []), length-map image.done.items (λ (v : Vec ℕ Global). v.items))

-- the segments from a place on, as a slice has them
pub rest_of : (n : ℕ) (texts : List (Vec ℕ Global)) → take (length texts - n) (drop n texts) ≡ drop n texts
rest_of n texts = take_all (length texts - n) (drop n texts) (omega (arith, length-drop n texts))

-- texts in the place of the first segments
pub first_replaced : (old : Image) (done texts : List (Vec ℕ Global)) (n : ℕ) → n ≤ length old.done.items → texts_of done ≡ texts_of texts ++ texts_of (drop n old.done.items)
    → contents_of_image done old.last.items ≡ with_first n (texts_of texts) (image_segments old)
first_replaced old done texts n le same =
    ap (λ (ss : Segments). ss ++ old.last.items ∷ []) same
    ∙ append_assoc (texts_of texts) (texts_of (drop n old.done.items)) (old.last.items ∷ [])
    ∙ ap (λ (ss : Segments). texts_of texts ++ ss) (sym rest)
  where
    rest : drop n (image_segments old) ≡ texts_of (drop n old.done.items) ++ old.last.items ∷ []
    rest =
        drop-append-le n (texts_of old.done.items) (old.last.items ∷ []) (omega (arith, length-map old.done.items (λ (v : Vec ℕ Global). v.items)))
        ∙ ap (λ (ss : Segments). ss ++ old.last.items ∷ []) (drop-map (λ (v : Vec ℕ Global). v.items) n old.done.items)

-- and all of it is synced
pub replaced_synced : (old new : Image) → Only (image_segments old) (IsLeftOf old) → new.last ≡ old.last → new.synced ≡ old.synced → Only (image_segments new) (IsLeftOf new)
replaced_synced old new only last synced = only_seen new (omega (arith, all_synced old only, synced, ap (λ (v : Vec ℕ Global). length v.items) last))
