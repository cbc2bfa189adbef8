-- What is owed of a series is owed of its samples that rise: the others are named.
use Rattle.std.proofs.Common.{◌≡◌, ℕ, zero, suc, ◌<◌, ◌≤◌, Bool, true, false, cond, ◌&&◌, List, [], ◌∷◌, ◌++◌, length, length-take-le, take, Some, is_none, refl, sym, ap, ◌∙◌, subst, ℤ, arith}
use Rattle.std.specs.FinMap.{get}
use Rattle.rw_types.specs.Labels.{Labels}
use Rattle.rw_types.specs.declared.entry.Entry.{Entry}
use Rattle.rw_types.specs.declared.entry.Entry.TheVariants.{Def, Sample}
use Rattle.rw_types.proofs.shared.Booleans.{either}
use Rattle.rw_ledger.specs.declared.ledger.Reason.TheVariants.{NotRising}
use Rattle.rw_series_cache.specs.Known.{Kept, known}
use Rattle.rw_series_cache.specs.Points.{is_kept}
use Rattle.rw_series_cache.specs.Rising.{rises}
use Rattle.rw_machine.specs.Promises.{Accounted, AccountedEntry, AccountedKept, HasOneClassEach}
use Rattle.rw_machine.specs.Worlds.{Setup, World, log}
use Rattle.rw_machine.proofs.Risen.{risen}
use Rattle.rw_machine.proofs.shared.Views.{is_of, logged_of, logged_points, owed_by, point_of, points}
use Rattle.rw_machine.proofs.shared.Places.{get_some, logged_more, points_more, take_next}
use Rattle.rw_machine.proofs.Keeps.{of_is, owed_append, owed_none}

pub no_logged : (c : Setup) (l : Labels) → logged_points c l [] ≡ []
no_logged c l = either (λ ps. ps ≡ []) (is_kept c.choice l) [] [] (λ _. refl) (λ _. refl)

-- a sample of a kept series that does not rise is named so
pub named_fallen : (c : Setup) (w : World) (p r : ℕ) (t : ℤ) (word : ℕ) (l : Labels) → AccountedEntry c w p (Some (Sample r t word)) → known c.choice (take p (log w)) r ≡ Kept l → rises c.choice (take p (log w)) l t ≡ false → get w.names p ≡ Some NotRising
named_fallen c w p r t word l said is_known falls = subst (AccountedKept (get w.names p)) falls (subst (Accounted (get w.names p) (λ m. rises c.choice (take p (log w)) m t)) is_known said)

-- so nothing is owed of it
same_owed : (c : Setup) (w : World) (l : Labels) (n : ℕ) (x : Entry) → length (take n (log w)) ≡ n → AccountedEntry c w n (Some x) → owed_by (get w.names) (logged_of c l (take n (log w)) x) ≡ owed_by (get w.names) (point_of c l (take n (log w)) x)
same_owed c w l n (Def r m) long said = refl
same_owed c w l n (Sample r t word) long said = by_known (is_of l (known c.choice before r)) refl
  where
    before : List Entry
    before = take n (log w)

    by_rising : (b : Bool) → rises c.choice before l t ≡ b → known c.choice before r ≡ Kept l → owed_by (get w.names) ((length before, t, word) ∷ []) ≡ owed_by (get w.names) (cond b ((length before, t, word) ∷ []) [])
    by_rising true up is_known = refl
    by_rising false falls is_known = owed_none (get w.names) ((length before, t, word) ∷ []) (ap is_none (ap (get w.names) long ∙ named_fallen c w n r t word l said is_known falls), tt)

    by_known : (b : Bool) → is_of l (known c.choice before r) ≡ b → owed_by (get w.names) (cond b ((length before, t, word) ∷ []) []) ≡ owed_by (get w.names) (cond (b && rises c.choice before l t) ((length before, t, word) ∷ []) [])
    by_known true h = by_rising (rises c.choice before l t) refl (of_is l (known c.choice before r) h)
    by_known false h = refl

-- what is owed below a position up to which all is placed
pub owed_points : (c : Setup) (w : World) (l : Labels) → HasOneClassEach c w → w.placed ≤ length (log w) → (n : ℕ) → n ≤ w.placed → owed_by (get w.names) (logged_points c l (take n (log w))) ≡ owed_by (get w.names) (points c l (take n (log w)))
owed_points c w l one long zero le = ap (λ ps. owed_by (get w.names) ps) (no_logged c l) ∙ sym (ap (λ ps. owed_by (get w.names) (risen ps)) (no_logged c l))
owed_points c w l one long (suc n) le =
    let lt : n < length (log w) = omega arith in
    let below : n < w.placed = omega arith in
    let at = get_some (log w) n lt in
    let before : List Entry = take n (log w) in
    let more : take (suc n) (log w) ≡ before ++ at.0 ∷ [] = take_next (log w) n at.0 at.1 in
    let said : AccountedEntry c w n (Some at.0) = subst (AccountedEntry c w n) at.1 ((one n).0 below) in
    let same : owed_by (get w.names) (logged_of c l before at.0) ≡ owed_by (get w.names) (point_of c l before at.0) = same_owed c w l n at.0 (length-take-le n (log w) (omega arith)) said in
    let rest : owed_by (get w.names) (logged_points c l before) ≡ owed_by (get w.names) (points c l before) = owed_points c w l one long n (omega arith) in
    ap (λ es. owed_by (get w.names) (logged_points c l es)) more
    ∙ ap (λ ps. owed_by (get w.names) ps) (logged_more c l before at.0)
    ∙ owed_append (get w.names) (logged_points c l before) (logged_of c l before at.0)
    ∙ (λ i. rest i ++ same i)
    ∙ sym (owed_append (get w.names) (points c l before) (point_of c l before at.0))
    ∙ sym (ap (λ ps. owed_by (get w.names) ps) (points_more c l before at.0))
    ∙ sym (ap (λ es. owed_by (get w.names) (points c l es)) more)
