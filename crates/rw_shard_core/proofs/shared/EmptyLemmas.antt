-- Lists of samples that are empty, and those that are not.
use Rattle.std.proofs.Common.{◌≡◌, ◌+◌, ◌<◌, List, [], ◌∷◌, ◌++◌, length, true, false, refl, arith}
use Rattle.std.proofs.lemmas.Bool.{true≢false}
use Rattle.rw_plain_queue.specs.Items.{Placed}
use Rattle.rw_shard_core.specs.Shard.{is_empty}

pub nil_from_empty : (xs : List Placed) → is_empty xs ≡ true → xs ≡ []
nil_from_empty [] e = refl
nil_from_empty (x ∷ xs) e = absurd (cc)

pub length_not_empty : (xs : List Placed) → is_empty xs ≡ false → 0 < length xs
length_not_empty [] e = absurd (true≢false e)
length_not_empty (x ∷ xs) e = omega arith

pub is_empty-push : (xs : List Placed) (x : Placed) → is_empty (xs ++ x ∷ []) ≡ false
is_empty-push [] x = refl
is_empty-push (y ∷ xs) x = refl
