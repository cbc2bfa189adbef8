-- A list of readers, and what was read of it.
use Rattle.std.proofs.Common.{◌≡◌, ◌<◌, ℕ, List, [], ◌∷◌, ◌++◌, drop, length, map, Option, Some, None, refl, sym, ap, ◌∙◌, subst, arith}
use Rattle.std.proofs.lemmas.List.{append-nil, length-map}
use Rattle.std.specs.Prelude.{option_to_list}
use Rattle.std.specs.Io.KnownBytes.{Consumes, IsAtEnd, Keeps}
use Rattle.std.proofs.KnownBytes.{Consumes-kept, Consumes-nil, Consumes-trans}
use Rattle.rw_follow.specs.Queues.{AreRead, IsAllOf, IsFirstAtEnd}
use Rattle.rw_follow.specs.inner.Queues.{with_current}

-- more of the current reader
pub read_more : (lefts : List (Option (List ℕ))) (whole : List (List ℕ)) (begun : List ℕ) (old new : Option (List ℕ)) (later : List (Option (List ℕ))) (bytes : List ℕ) → Consumes old new bytes → AreRead lefts whole begun (old ∷ later) → AreRead lefts whole (begun ++ bytes) (new ∷ later)
read_more [] whole begun old new later bytes c h =
    let e = ap (λ (xs : List (Option (List ℕ))). length xs) h.2 in
    let no : ⊥ = omega (arith, e) in
    absurd no
read_more (left ∷ lefts) [] begun old new later bytes c h = (Consumes-trans left old new begun bytes h.0 c, h.1)
read_more (left ∷ []) (text ∷ whole) begun old new later bytes c h = absurd h
read_more (left ∷ next ∷ lefts) (text ∷ whole) begun old new later bytes c h = (h.0, read_more (next ∷ lefts) whole begun old new later bytes c h.1)

-- a read that fails
pub read_none : (lefts : List (Option (List ℕ))) (whole : List (List ℕ)) (begun : List ℕ) (old new : Option (List ℕ)) (later : List (Option (List ℕ))) → Keeps old new → AreRead lefts whole begun (old ∷ later) → AreRead lefts whole begun (new ∷ later)
read_none [] whole begun old new later k h =
    let e = ap (λ (xs : List (Option (List ℕ))). length xs) h.2 in
    let no : ⊥ = omega (arith, e) in
    absurd no
read_none (left ∷ lefts) [] begun old new later k h = (Consumes-kept left old new begun h.0 k, h.1)
read_none (left ∷ []) (text ∷ whole) begun old new later k h = absurd h
read_none (left ∷ next ∷ lefts) (text ∷ whole) begun old new later k h = (h.0, read_none (next ∷ lefts) whole begun old new later k h.1)

all_of : (left now : Option (List ℕ)) (text : List ℕ) → Consumes left now text → IsAtEnd now → IsAllOf left text
all_of None now text h e = tt
all_of (Some xs) None text h e = absurd h
all_of (Some xs) (Some ys) text h e = sym (append-nil text) ∙ ap (λ (zs : List ℕ). text ++ zs) (sym e) ∙ sym h

-- the readers after the current one
begin_next : (lefts later : List (Option (List ℕ))) → later ≡ lefts → AreRead lefts [] [] later
begin_next [] later e = (refl, refl, e)
begin_next (left ∷ lefts) later e = subst (λ l. AreRead (left ∷ lefts) [] [] l) (sym e) (Consumes-nil left, refl)

read_next : (lefts : List (Option (List ℕ))) (whole : List (List ℕ)) (begun : List ℕ) (now : Option (List ℕ)) (later : List (Option (List ℕ))) → 0 < length later → IsAtEnd now → AreRead lefts whole begun (now ∷ later) → AreRead lefts (whole ++ begun ∷ []) [] later
read_next [] whole begun now later more at_end h =
    let e = ap (λ (xs : List (Option (List ℕ))). length xs) h.2 in
    let no : ⊥ = omega (arith, e) in
    absurd no
read_next (left ∷ []) [] begun now later more at_end h =
    let e = ap (λ (xs : List (Option (List ℕ))). length xs) h.1 in
    let no : ⊥ = omega (arith, e, more) in
    absurd no
read_next (left ∷ next ∷ lefts) [] begun now later more at_end h = (all_of left now begun h.0 at_end, begin_next (next ∷ lefts) later h.1)
read_next (left ∷ []) (text ∷ whole) begun now later more at_end h = absurd h
read_next (left ∷ next ∷ lefts) (text ∷ whole) begun now later more at_end h = (h.0, read_next (next ∷ lefts) whole begun now later more at_end h.1)

-- ---- the same of readers

pub of_view : {S : Type 0} (f : S → Option (List ℕ)) (q : List S) (current : Option S) (x : S) (later : List S) (start : List (Option (List ℕ))) (whole : List (List ℕ)) (begun : List ℕ)
    → q ≡ with_current current later → current ≡ Some x → AreRead start whole begun (map f q) → AreRead start whole begun (f x ∷ map f later)
of_view {S} f q current x later start whole begun e is h =
    subst (λ (xs : List S). AreRead start whole begun (map f xs)) (e ∙ ap (λ (o : Option S). with_current o later) is) h

pub next_of : {S : Type 0} (f : S → Option (List ℕ)) (q : List S) (current popped : Option S) (later rest : List S) (start : List (Option (List ℕ))) (whole : List (List ℕ)) (begun : List ℕ)
    → q ≡ with_current current later → later ≡ option_to_list popped ++ rest → rest ≡ drop 1 later → 1 < length q → IsFirstAtEnd (map f q) → AreRead start whole begun (map f q)
    → AreRead start (whole ++ begun ∷ []) [] (map f (with_current popped rest))
next_of {S} f q None popped later rest start whole begun e items drops followed at_end h =
    let l = ap (λ (xs : List S). length xs) e in
    let no : ⊥ = omega (arith, l, followed) in
    absurd no
next_of {S} f q (Some x) None [] rest start whole begun e items drops followed at_end h =
    let l = ap (λ (xs : List S). length xs) e in
    let no : ⊥ = omega (arith, l, followed) in
    absurd no
next_of {S} f q (Some x) None (y ∷ ys) rest start whole begun e items drops followed at_end h =
    let l = ap (λ (xs : List S). length xs) (items ∙ drops) in
    let no : ⊥ = omega (arith, l) in
    absurd no
next_of {S} f q (Some x) (Some p) later rest start whole begun e items drops followed at_end h =
    let at = subst (λ (xs : List S). IsFirstAtEnd (map f xs)) e at_end in
    let now = subst (λ (xs : List S). AreRead start whole begun (map f xs)) e h in
    let l = ap (λ (xs : List S). length xs) e in
    let m = length-map later f in
    let more : 0 < length (map f later) = omega (arith, l, m, followed) in
    subst (λ (xs : List S). AreRead start (whole ++ begun ∷ []) [] (map f xs)) items (read_next start whole begun (f x) (map f later) more at now)
