-- The names of positions as a function: to insert in their map is to name.
use Rattle.std.proofs.Common.{◌≡◌, ℕ, ◌==◌, Bool, true, false, cond, List, [], ◌∷◌, Some, refl, sym, ap, ◌∙◌}
use Rattle.std.specs.Ordering.{nat_cmp, eq_by_cmp}
use Rattle.std.specs.FinMap.{FinMap, get, insert, get-insert}
use Rattle.std.specs.Cmp.{unsigned_tied}
use Rattle.std.proofs.lemmas.Cmp.{nat_cmp_total}
use Rattle.std.proofs.lemmas.Bool.Decides.{Decides-eqb}
use Rattle.rw_ledger.specs.declared.ledger.Reason.{Reason}
use Rattle.rw_ledger.specs.declared.ledger.Reason.TheVariants.{Status}
use Rattle.rw_plain_queue.specs.Items.{Placed}
use Rattle.rw_shard_core.specs.Shard.{name_all, positions}
use Rattle.rw_machine.proofs.shared.Views.{Ledger, named_at}

pub one_answer : (a b : Bool) → (a ≡ true → b ≡ true) → (b ≡ true → a ≡ true) → a ≡ b
one_answer true b f g = sym (f refl)
one_answer false true f g = g refl
one_answer false false f g = refl

nat_turned : (p q : ℕ) → eq_by_cmp nat_cmp q p ≡ (p == q)
nat_turned p q = unsigned_tied q p ∙ one_answer (q == p) (p == q) (λ e. (Decides-eqb p q).1 (sym ((Decides-eqb q p).0 e))) (λ e. (Decides-eqb q p).1 (sym ((Decides-eqb p q).0 e)))

-- to name a position is to insert it
pub ledger_insert : (m : FinMap nat_cmp Reason) (p : ℕ) (r : Reason) → get (insert m p r) ≡ named_at p r (get m)
ledger_insert m p r i q = (get-insert nat_cmp_total m p r q ∙ ap (λ b. cond b (Some r) (get m q)) (nat_turned p q)) i

-- all samples of a batch are named with a status
abbrev pub name_batch : ℕ → List Placed → Ledger → Ledger
name_batch status [] ledger = ledger
name_batch status (x ∷ xs) ledger = name_batch status xs (named_at x.place.pos (Status status) ledger)

pub ledger_name_all : (status : ℕ) (xs : List Placed) (m : FinMap nat_cmp Reason) → get (name_all status (positions xs) m) ≡ name_batch status xs (get m)
ledger_name_all status [] m = refl
ledger_name_all status (x ∷ xs) m = ledger_name_all status xs (insert m x.place.pos (Status status)) ∙ ap (name_batch status xs) (ledger_insert m x.place.pos (Status status))
