-- Answers of any type: of options and results, and parts of bytes.
use Rattle.std.proofs.Common.{◌≡◌, ℕ, ◌≤◌, List, ◌++◌, length, take, drop, false, Option, Some, None, Result, Ok, Err, OnErr, refl, sym, ap, ◌∙◌}
use Rattle.std.specs.Option.{is_some}
use Rattle.std.proofs.Math.Seq.{take-append_seam}
use Rattle.std.proofs.lemmas.List.{take-append-le, take-append-drop}

pub None-from_not_some : {A : Type 0} (o : Option A) → is_some o ≡ false → o ≡ None
None-from_not_some None e = refl
None-from_not_some (Some x) e = absurd (cc)

pub OnErr-always : {T E P : Type 0} (r : Result T E) → P → OnErr r P
OnErr-always (Ok x) h = tt
OnErr-always (Err e) h = h

-- a front that is no longer than what was read of the text is in it
pub front_within : (buf more front rest : List ℕ) → buf ++ more ≡ front ++ rest → length front ≤ length buf →
    buf ≡ front ++ drop (length front) buf
front_within buf more front rest e le =
    let n = length front in
    let same : take n buf ≡ front =
    sym (take-append-le n buf more le) ∙ ap (take n) e ∙ take-append_seam front rest in
    sym (take-append-drop n buf) ∙ ap (λ t. t ++ drop n buf) same
