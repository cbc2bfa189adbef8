-- No sample that waits is named.
use Rattle.std.proofs.Common.{◌≡◌, ℕ, zero, suc, ◌<◌, List, [], ◌∷◌, ◌++◌, length, None, Some, All, cond, ap, ◌∙◌, arith}
use Rattle.std.specs.Cmp.{nat_cmp_total}
use Rattle.std.specs.Prelude.{fold, slice_index_or}
use Rattle.std.specs.Ordering.{nat_cmp}
use Rattle.std.specs.FinMap.{FinMap, get, insert, get-insert}
use Rattle.rw_ledger.specs.declared.ledger.Reason.{Reason}
use Rattle.rw_ledger.specs.declared.ledger.Reason.TheVariants as Why
use Rattle.rw_retry.specs.Judgements.{judgement_of}
use Rattle.rw_retry.specs.declared.judgement.Judgement.{Judgement}
use Rattle.rw_retry.specs.declared.judgement.Judgement.TheVariants.{Done, Again, Refused}
use Rattle.rw_plain_queue.specs.Items.{Placed}
use Rattle.rw_shard_core.specs.Shard.{AreInRow, positions, name_all}
use Rattle.rw_worker.specs.Transcript.{Settled, samples_settled, names_after, with_names}
use Rattle.rw_types.proofs.shared.TimeLemmas.{nat_cmp-apart}
use Rattle.rw_shard_core.proofs.shared.NamingLemmas.{AreInRow-rest}

-- all these samples are before this position
abbrev pub AreBelow : ℕ → List Placed → Type 0
AreBelow p [] = Unit {0}
AreBelow p (x ∷ xs) = (x.place.pos < p) × AreBelow p xs

below_front : (p : ℕ) (xs ys : List Placed) → AreBelow p (xs ++ ys) → AreBelow p xs
below_front p [] ys h = tt
below_front p (x ∷ xs) ys h = (h.0, below_front p xs ys h.1)

below_rest : (p : ℕ) (xs ys : List Placed) → AreBelow p (xs ++ ys) → AreBelow p ys
below_rest p [] ys h = h
below_rest p (x ∷ xs) ys h = below_rest p xs ys h.1

below_more : (p q : ℕ) (xs : List Placed) → p < q → AreBelow p xs → AreBelow q xs
below_more p q [] lt h = tt
below_more p q (x ∷ xs) lt h = (let first = h.0 in omega arith, below_more p q xs lt h.1)

first_below : (x : Placed) (zs : List Placed) (y : Placed) (ys : List Placed) → AreInRow (x ∷ (zs ++ y ∷ ys)) → x.place.pos < y.place.pos
first_below x [] y ys h = h.0.1
first_below x (z ∷ zs) y ys h = let a = h.0.1 in let b = first_below z zs y ys h.1 in omega arith

-- samples in a row are before the next one
row_below : (xs : List Placed) (y : Placed) (ys : List Placed) → AreInRow (xs ++ y ∷ ys) → AreBelow y.place.pos xs
row_below [] y ys h = tt
row_below (x ∷ []) y ys h = (h.0.1, tt)
row_below (x ∷ z ∷ zs) y ys h = (first_below x (z ∷ zs) y ys h, row_below (z ∷ zs) y ys h.1)

-- names for samples before a position do not name it
name_before : (status p : ℕ) (xs : List Placed) (names : FinMap nat_cmp Reason) → AreBelow p xs → get names p ≡ None → get (name_all status (positions xs) names) p ≡ None
name_before status p [] names h none = none
name_before status p (x ∷ xs) names h none =
    let reason : Reason = Why.Status status in
    name_before status p xs (insert names x.place.pos reason) h.1
    (get-insert nat_cmp_total names x.place.pos reason p ∙ ap (λ b. cond b (Some reason) (get names p)) (nat_cmp-apart x.place.pos p h.0) ∙ none)

settled_before : (j : Judgement) (p : ℕ) (b : Settled) (names : FinMap nat_cmp Reason) → AreBelow p b.samples → get names p ≡ None → get (names_after j b names) p ≡ None
settled_before Done p b names h none = none
settled_before Again p b names h none = none
settled_before Refused p b names h none = name_before b.status p b.samples names h none

pub names_before : (p : ℕ) (bs : List Settled) (names : FinMap nat_cmp Reason) → AreBelow p (samples_settled bs) → get names p ≡ None → get (fold with_names names bs) p ≡ None
names_before p [] names h none = none
names_before p (b ∷ bs) names h none =
    names_before p bs (with_names names b) (below_rest p b.samples (samples_settled bs) h) (settled_before (judgement_of b.status) p b names (below_front p b.samples (samples_settled bs) h) none)

all_unnamed : (done : List Placed) (names : FinMap nat_cmp Reason) → ((p : ℕ) → AreBelow p done → get names p ≡ None) → (y : Placed) (ys rest : List Placed) → AreBelow y.place.pos done → AreInRow (y ∷ (ys ++ rest))
    → (k d : ℕ) → k < length (positions (y ∷ ys)) → get names (slice_index_or (positions (y ∷ ys)) k d) ≡ None
all_unnamed done names none y ys rest below row zero d lt = none y.place.pos below
all_unnamed done names none y [] rest below row (suc k) d lt = absurd (omega arith)
all_unnamed done names none y (z ∷ zs) rest below row (suc k) d lt =
    all_unnamed done names none z zs rest (below_more y.place.pos z.place.pos done row.0.1 below) row.1 k d (omega arith)

-- if those alone are named that are before all others of a row, none of these is
pub unnamed : (done batch rest : List Placed) (names : FinMap nat_cmp Reason) → ((p : ℕ) → AreBelow p done → get names p ≡ None) → AreInRow (done ++ (batch ++ rest)) → All (λ p. get names p ≡ None) (positions batch)
unnamed done [] rest names none row = λ k d lt. absurd (omega arith)
unnamed done (y ∷ ys) rest names none row = all_unnamed done names none y ys rest (row_below done y (ys ++ rest) row) (AreInRow-rest done (y ∷ (ys ++ rest)) row)
