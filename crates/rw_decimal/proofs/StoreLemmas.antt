-- The line of a label set, said in other words.
use Rattle.std.proofs.Common.{◌≡◌, ℕ, List, subst}
use Rattle.rw_types.specs.Labels.{Labels}
use Rattle.rw_head.specs.Order.{Point}
use Rattle.rw_decimal.specs.DecimalStore.{IsReceivedText}

pub same_received : (l m : Labels) (xs ys : List Point) (text : List ℕ) → l ≡ m → xs ≡ ys → IsReceivedText (l, xs) text → IsReceivedText (m, ys) text
same_received l m xs ys text e f h = subst (λ (k : Labels). IsReceivedText (k, ys) text) e (subst (λ (zs : List Point). IsReceivedText (l, zs) text) f h)
