-- The points that rise: those that are later than all before them.
use Rattle.std.proofs.Common.{◌≡◌, ℤ, int_lt, Bool, true, false, cond, if◌then◌else◌, List, [], ◌∷◌, ◌++◌, sym, ap, ◌∙◌, subst, append-nil, append_assoc}
use Rattle.std.proofs.lemmas.Bool.{and_parts}
use Rattle.std.specs.List.{AllByRecursion}
use Rattle.rw_types.specs.Rising.{Rises}
use Rattle.rw_types.proofs.shared.Booleans.{either}
use Rattle.rw_series_cache.specs.Rising.{is_after_all}
use Rattle.rw_head.specs.Lists.{IsEarlier}
use Rattle.rw_machine.specs.Promises.{LoggedPoint, pair_of}

-- the first has the earlier timestamp
abbrev pub IsEarlierPoint : LoggedPoint → LoggedPoint → Type 0
IsEarlierPoint p q = IsEarlier (pair_of p) (pair_of q)

-- those that are later than all before them, if others are before
abbrev pub risen_after : List LoggedPoint → List LoggedPoint → List LoggedPoint
risen_after before [] = []
risen_after before (p ∷ ps) = if is_after_all p.1 before then p ∷ risen_after (before ++ p ∷ []) ps else risen_after (before ++ p ∷ []) ps

abbrev pub risen : List LoggedPoint → List LoggedPoint
risen ps = risen_after [] ps

push_either : (b : Bool) (p : LoggedPoint) (now later more : List LoggedPoint) → now ≡ later ++ more → cond b (p ∷ now) now ≡ cond b (p ∷ later) later ++ more
push_either true p now later more e = ap (λ ps. p ∷ ps) e
push_either false p now later more e = e

risen_after-push : (before ps : List LoggedPoint) (p : LoggedPoint) → risen_after before (ps ++ p ∷ []) ≡ risen_after before ps ++ cond (is_after_all p.1 (before ++ ps)) (p ∷ []) []
risen_after-push before [] p = ap (λ b. cond (is_after_all p.1 b) (p ∷ []) []) (sym (append-nil before))
risen_after-push before (q ∷ ps) p =
    push_either (is_after_all q.1 before) q (risen_after (before ++ q ∷ []) (ps ++ p ∷ [])) (risen_after (before ++ q ∷ []) ps) (cond (is_after_all p.1 (before ++ q ∷ ps)) (p ∷ []) [])
    (risen_after-push (before ++ q ∷ []) ps p ∙ ap (λ b. risen_after (before ++ q ∷ []) ps ++ cond (is_after_all p.1 b) (p ∷ []) []) (append_assoc before (q ∷ []) ps))

-- one more point
pub risen-push : (ps : List LoggedPoint) (p : LoggedPoint) → risen (ps ++ p ∷ []) ≡ risen ps ++ cond (is_after_all p.1 ps) (p ∷ []) []
risen-push ps p = risen_after-push [] ps p

later_than_each : (t : ℤ) (b : List LoggedPoint) (p : LoggedPoint) (ps : List LoggedPoint) → is_after_all t (b ++ p ∷ ps) ≡ true → int_lt p.1 t ≡ true
later_than_each t [] p ps h = (and_parts (int_lt p.1 t) (is_after_all t ps) h).0
later_than_each t (q ∷ b) p ps h = later_than_each t b p ps (and_parts (int_lt q.1 t) (is_after_all t (b ++ p ∷ ps)) h).1

later_than_before : (b : List LoggedPoint) (p : LoggedPoint) (d ps : List LoggedPoint) → AllByRecursion (IsEarlierPoint p) (risen_after (b ++ p ∷ d) ps)
later_than_before b p d [] = tt
later_than_before b p d (q ∷ ps) =
    let more : List LoggedPoint = risen_after ((b ++ p ∷ d) ++ q ∷ []) ps in
    let rest : AllByRecursion (IsEarlierPoint p) more = subst (λ bs. AllByRecursion (IsEarlierPoint p) (risen_after bs ps)) (sym (append_assoc b (p ∷ d) (q ∷ []))) (later_than_before b p (d ++ q ∷ []) ps) in
    either (AllByRecursion (IsEarlierPoint p)) (is_after_all q.1 (b ++ p ∷ d)) (q ∷ more) more (λ h. (later_than_each q.1 b p d h, rest)) (λ _. rest)

Rises-risen_after : (before ps : List LoggedPoint) → Rises IsEarlierPoint (risen_after before ps)
Rises-risen_after before [] = tt
Rises-risen_after before (p ∷ ps) =
    let more : List LoggedPoint = risen_after (before ++ p ∷ []) ps in
    either (Rises IsEarlierPoint) (is_after_all p.1 before) (p ∷ more) more (λ _. (later_than_before before p [] ps, Rises-risen_after (before ++ p ∷ []) ps)) (λ _. Rises-risen_after (before ++ p ∷ []) ps)

-- what is risen rises
pub Rises-risen : (ps : List LoggedPoint) → Rises IsEarlierPoint (risen ps)
Rises-risen ps = Rises-risen_after [] ps
