-- The least number that is not below another one.
use Rattle.std.proofs.Common.{◌≡◌, ℕ, suc, ◌<◌, ◌≤◌, List, [], ◌∷◌, ◌++◌, Option, None, Some, inl, inr, sym, subst, arith}
use Rattle.std.proofs.lemmas.List.Elements.{All-push, All-weaker, Contains-append_left, Contains-push}
use Rattle.std.specs.List.{Contains}
use Rattle.rw_resume.specs.Continuations.{IsContinuation, IsHole, IsLeastFrom}
use Rattle.rw_resume.specs.declared.continuation.Continuation.{Continuation}
use Rattle.rw_resume.specs.declared.continuation.Continuation.TheVariants.{There, Gone, Ended}

-- one that is below
pub least_kept : (n : ℕ) (seen : List ℕ) (least : Option ℕ) (x : ℕ) → x < n → IsLeastFrom n seen least → IsLeastFrom n (seen ++ x ∷ []) least
least_kept n seen None x below h = All-push (λ (k : ℕ). k < n) seen x h below
least_kept n seen (Some least) x below h =
    (h.0, Contains-append_left seen (x ∷ []) least h.1, All-push (λ (k : ℕ). n ≤ k → least ≤ k) seen x h.2 (λ le. absurd (omega arith)))

-- the first one that is not
pub least_first : (n : ℕ) (seen : List ℕ) (x : ℕ) → n ≤ x → IsLeastFrom n seen None → IsLeastFrom n (seen ++ x ∷ []) (Some x)
least_first n seen x above h = (
  above,
  Contains-push seen x,
  All-push (λ (k : ℕ). n ≤ k → x ≤ k) seen x (All-weaker (λ (k : ℕ). k < n) (λ (k : ℕ). n ≤ k → x ≤ k) (λ k lt le. absurd (omega arith)) seen h) (λ le. omega arith),
)

-- one that is not below, after a lower one
pub least_stays : (n : ℕ) (seen : List ℕ) (least x : ℕ) → least ≤ x → IsLeastFrom n seen (Some least) → IsLeastFrom n (seen ++ x ∷ []) (Some least)
least_stays n seen least x above h =
    (h.0, Contains-append_left seen (x ∷ []) least h.1, All-push (λ (k : ℕ). n ≤ k → least ≤ k) seen x h.2 (λ le. above))

-- or after a higher one
pub least_falls : (n : ℕ) (seen : List ℕ) (least x : ℕ) → n ≤ x → x < least → IsLeastFrom n seen (Some least) → IsLeastFrom n (seen ++ x ∷ []) (Some x)
least_falls n seen least x above lower h = (
  above,
  Contains-push seen x,
  All-push (λ (k : ℕ). n ≤ k → x ≤ k) seen x (All-weaker (λ (k : ℕ). n ≤ k → least ≤ k) (λ (k : ℕ). n ≤ k → x ≤ k) (λ k has le. let le2 : least ≤ k = has le in omega arith) seen h.2) (λ le. omega arith),
)

-- a later one is the least
pub hole_before : (n : ℕ) (numbers : List ℕ) (least last : ℕ) → suc last ≡ least → (n ≡ least → ⊥) → IsLeastFrom n numbers (Some least) → IsHole n last numbers
hole_before n numbers least last e other h = record {
  some = let le = h.0 in omega arith;
  none = All-weaker (λ (k : ℕ). n ≤ k → least ≤ k) (λ (k : ℕ). n ≤ k → last < k) (λ k has le. let le2 : least ≤ k = has le in omega arith) numbers h.2;
  next = subst (λ (k : ℕ). Contains numbers k) (sym e) h.1;
}

-- with a checkpoint before it
pub after_checkpoint : (n cp : ℕ) (numbers : List ℕ) (c : Continuation) → cp < n → IsContinuation n None numbers c → IsContinuation n (Some cp) numbers c
after_checkpoint n cp numbers There before h = (before, h.1)
after_checkpoint n cp numbers (Gone first last) before h = (h.0, elim h.1 [ inl never ↦ absurd never | inr both ↦ inr (before, both.1) ])
after_checkpoint n cp numbers Ended before h = (before, h.1)
