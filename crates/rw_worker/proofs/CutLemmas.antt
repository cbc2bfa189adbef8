-- Items cut into batches.
use Rattle.std.proofs.Common.{◌≡◌, ℕ, Bool, true, false, List, [], ◌∷◌, ◌++◌, refl, sym, ap, append-nil, cond}
use Rattle.std.specs.Prelude.{fold}
use Rattle.rw_plain_queue.specs.Items.{Placed}
use Rattle.rw_plain_queue.specs.declared.item.Item.{Item}
use Rattle.rw_worker.specs.Cut.{Cutting, cutting, one_of, close_batch, cut_by, cut}

fold-push : (n : ℕ) (c : Cutting) (xs : List Item) (x : Item) → fold (cut_by n) c (xs ++ x ∷ []) ≡ cut_by n (fold (cut_by n) c xs) x
fold-push n c [] x = refl
fold-push n c (y ∷ ys) x = fold-push n (cut_by n c y) ys x

pub cut-push : (n : ℕ) (xs : List Item) (x : Item) → cut n (xs ++ x ∷ []) ≡ cut_by n (cut n xs) x
cut-push n xs x = fold-push n (cutting [] []) xs x

-- samples that may fill a batch
pub fill : (full : Bool) (bs : List (List Placed)) (ys : List Placed) → cond full (close_batch (cutting bs ys)) (cutting bs ys) ≡ cutting (bs ++ one_of (cond full ys [])) (cond full [] ys)
fill true bs ys = refl
fill false bs ys = ap (λ cs. cutting cs ys) (sym (append-nil bs))
