-- Statuses, and the lengths of their replies.
use Rattle.std.proofs.Common.{◌≡◌, ◌≤◌, ◌||◌, ◌==◌, nat_le, ℕ, Bool, true, false, IsTrue, List, [], ◌∷◌, length, refl, arith}
use Rattle.std.proofs.lemmas.Bool.{and_parts, leb-true, eqb-true}
use Rattle.std.proofs.lemmas.Grind.{common_steps}
use Rattle.std.specs.List.{list_all, list_any}
use Rattle.rw_endpoint.specs.Judgement.{is_refusal}
use Rattle.rw_endpoint.specs.Replies.{reply_bytes, is_verdict}

-- the statuses of replies
abbrev pub statuses : List ℕ
statuses = 204 ∷ 400 ∷ 404 ∷ 405 ∷ 411 ∷ 413 ∷ 415 ∷ 429 ∷ 503 ∷ []

is_listed : (s : ℕ) → IsTrue (is_verdict s || is_refusal s) → list_any (λ n. n == s) statuses ≡ true
is_listed s h = grind (arith, common_steps)

first_or_later : (test : ℕ → Bool) (n s : ℕ) (first later : Bool) → (n == s) ≡ first → test n ≡ true → (later ≡ true → test s ≡ true) → (first || later) ≡ true → test s ≡ true
first_or_later test n s true later e passes rest some = let same : n ≡ s = eqb-true n s e in rw (← same) passes
first_or_later test n s false later e passes rest some = rest some

-- what each element passes, a number passes that is in the list
listed_passes : (test : ℕ → Bool) (ns : List ℕ) (s : ℕ) → list_all test ns ≡ true → list_any (λ n. n == s) ns ≡ true → test s ≡ true
listed_passes test [] s all some = absurd (cc)
listed_passes test (n ∷ ns) s all some =
    let p = and_parts (test n) (list_all test ns) all in
    first_or_later test n s (n == s) (list_any (λ m. m == s) ns) refl p.0 (listed_passes test ns s p.1) some

-- what each of these statuses passes, the status of each reply passes
pub status_passes : (test : ℕ → Bool) (s : ℕ) → IsTrue (is_verdict s || is_refusal s) → list_all test statuses ≡ true → test s ≡ true
status_passes test s h all = listed_passes test statuses s all (is_listed s h)

-- a reply takes at most 86 bytes
pub reply_len : (s : ℕ) (closes : Bool) → IsTrue (is_verdict s || is_refusal s) → length (reply_bytes s closes) ≤ 86
unfolding reply_bytes
reply_len s true h = leb-true (length (reply_bytes s true)) 86 (status_passes (λ n. nat_le (length (reply_bytes n true)) 86) s h refl)
reply_len s false h = leb-true (length (reply_bytes s false)) 86 (status_passes (λ n. nat_le (length (reply_bytes n false)) 86) s h refl)

-- the status of a text is one of them
pub verdict_status : (s : ℕ) → IsTrue (is_verdict s) → IsTrue (is_verdict s || is_refusal s)
verdict_status s h = grind (arith, common_steps)
