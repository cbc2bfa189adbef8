-- What is taken from a reader, entry by entry.
use Rattle.std.proofs.Common.{◌≡◌, ℕ, ◌+◌, List, [], ◌∷◌, ◌++◌, length, take, Option, None, Some, Result, refl, ap, ◌∙◌, subst}
use Rattle.std.proofs.lemmas.List.{take_more}
use Rattle.std.proofs.lemmas.Option.{slice_get_within, get_or_from_slice_get}
use Rattle.std.specs.Prelude.{slice_get}
use Rattle.rw_types.specs.declared.entry.Entry.{Entry}
use Rattle.rw_wal_format.specs.Segments.{segment_in}
use Rattle.rw_wal_format.specs.Pieces.{reading}
use Rattle.rw_wal_format.specs.declared.tail_fault.TailFault.{TailFault}
use Rattle.rw_wal_tail.specs.Fed.{Fed}
use Rattle.rw_wal_tail.specs.Taking.{HasTakenAll, TakesNext}

pub nothing_read : HasTakenAll (record { pieces = []; given = 0; skipped = []; fault = None }) [] None
unfolding reading segment_in
nothing_read = record {
  taken_all = record { count = refl; rest = []; begins = refl };
  read = record { all = refl; fault_is = refl };
  passed = refl;
}

-- one more element
pub taken_more : {X : Type 0} (xs : List X) (n : ℕ) (x : X) → slice_get xs n ≡ Some x → take (n + 1) xs ≡ take n xs ++ x ∷ []
taken_more xs n x e =
    let lt = slice_get_within xs n x e in
    take_more xs n x lt ∙ ap (λ y. take n xs ++ y ∷ []) (get_or_from_slice_get xs n x x e)

-- what was taken with an answer
pub took_as : (taken : List Entry) (new : Fed) (said now : Result (Option Entry) TailFault) → TakesNext taken said new → said ≡ now → TakesNext taken now new
took_as taken new said now h is = subst (λ (r : Result (Option Entry) TailFault). TakesNext taken r new) is h

-- one more element after a front
pub front_more : {X : Type 0} (front xs : List X) (x : X) → take (length front) xs ≡ front → take (length front) (xs ++ x ∷ []) ≡ front
front_more [] xs x e = refl
front_more (y ∷ ys) [] x e = absurd (cc)
front_more (y ∷ ys) (z ∷ zs) x e =
    let a : z ≡ y = cc in
    let b : take (length ys) zs ≡ ys = cc in
    let r = front_more ys zs x b in
    cc
