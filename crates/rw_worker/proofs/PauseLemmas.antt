-- Pauses with one step more, counted as far as 64 bits go.
use Rattle.std.proofs.Common.{◌≡◌, ℕ, zero, suc, ◌+◌, ◌-◌, ◌^◌, ◌<◌, ◌≤◌, min, Bool, true, false, nat_le, List, [], ◌∷◌, ◌++◌, refl, sym, ap, ◌∙◌, append_assoc, append-nil, arith, cond}
use Rattle.std.proofs.lemmas.Bool.Decides.{nat_tests}
use Rattle.std.proofs.Math.Nat.{min-eq_left, min-eq_right, zero-mul}
use Rattle.rw_retry.specs.Backoff.{delay_of}
use Rattle.rw_retry.proofs.shared.BackoffLemmas.{late}
use Rattle.rw_worker.specs.Transcript.{is_again}
use Rattle.rw_worker.specs.Steps.{Step, Takes, Freezes, Sends, Waits}
use Rattle.rw_worker.specs.Pauses.{pause_after, retries_after, retries_of, pauses_of}
use Rattle.rw_worker.specs.Report.{counted_to}

pub pauses-push : (least most n : ℕ) (ss : List Step) (s : Step) → pauses_of least most n (ss ++ s ∷ []) ≡ pauses_of least most n ss ++ pause_after least most (retries_of n ss) s
pauses-push least most n [] s = append-nil (pause_after least most n s)
pauses-push least most n (t ∷ ts) s =
    ap (λ ps. pause_after least most n t ++ ps) (pauses-push least most (retries_after n t) ts s)
    ∙ sym (append_assoc (pause_after least most n t) (pauses_of least most (retries_after n t) ts) (pause_after least most (retries_of (retries_after n t) ts) s))

pub retries-push : (n : ℕ) (ss : List Step) (s : Step) → retries_of n (ss ++ s ∷ []) ≡ retries_after (retries_of n ss) s
retries-push n [] s = refl
retries-push n (t ∷ ts) s = retries-push (retries_after n t) ts s

-- from the 64th retry on the delays are the same
late_delays : (least most n m : ℕ) → most < 2 ^ 64 → 64 ≤ n → 64 ≤ m → delay_of least most n ≡ delay_of least most m
late_delays zero most n m fits a b = ap (λ k. min k most) (zero-mul (2 ^ n) ∙ sym (zero-mul (2 ^ m)))
late_delays (suc k) most n m fits a b = let some : 1 ≤ suc k = omega arith in sym (late (suc k) most n some fits a) ∙ late (suc k) most m some fits b

same_delay_to : (least most n top : ℕ) (b : Bool) → nat_le n top ≡ b → most < 2 ^ 64 → 64 ≤ top → delay_of least most (min n top) ≡ delay_of least most n
same_delay_to least most n top true e fits much = ap (delay_of least most) (min-eq_left (grind (arith, nat_tests)))
same_delay_to least most n top false e fits much =
    let under : top ≤ n = grind (arith, nat_tests) in
    ap (delay_of least most) (min-eq_right under) ∙ late_delays least most top n fits much (omega arith)

same_delay : (least most n : ℕ) → most < 2 ^ 64 → delay_of least most (counted_to n) ≡ delay_of least most n
same_delay least most n fits = same_delay_to least most n (2 ^ 64 - 1) (nat_le n (2 ^ 64 - 1)) refl fits (omega arith)

pub same-pause : (least most n : ℕ) (s : Step) → most < 2 ^ 64 → pause_after least most (counted_to n) s ≡ pause_after least most n s
same-pause least most n (Takes x) fits = refl
same-pause least most n Freezes fits = refl
same-pause least most n (Sends e) fits = ap (λ d. cond (is_again e.answer) (d ∷ []) []) (same_delay least most n fits)
same-pause least most n Waits fits = refl

counted-twice : (n top : ℕ) → min (min n top) top ≡ min n top
counted-twice n top = omega arith

one_more : (n top : ℕ) → min (min n top + 1) top ≡ min (n + 1) top
one_more n top = omega arith

answered_count : (again : Bool) (n : ℕ) → counted_to (cond again (counted_to n + 1) 0) ≡ counted_to (cond again (n + 1) 0)
answered_count true n = one_more n (2 ^ 64 - 1)
answered_count false n = refl

pub counted-after : (n : ℕ) (s : Step) → counted_to (retries_after (counted_to n) s) ≡ counted_to (retries_after n s)
counted-after n (Takes x) = counted-twice n (2 ^ 64 - 1)
counted-after n Freezes = counted-twice n (2 ^ 64 - 1)
counted-after n (Sends e) = answered_count (is_again e.answer) n
counted-after n Waits = counted-twice n (2 ^ 64 - 1)

pub counted-same : (n m : ℕ) → n ≡ counted_to m → n ≡ counted_to n
counted-same n m is = is ∙ sym (counted-twice m (2 ^ 64 - 1)) ∙ ap counted_to (sym is)
