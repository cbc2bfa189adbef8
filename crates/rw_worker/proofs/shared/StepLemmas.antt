-- Steps one after the other.
use Rattle.std.proofs.Common.{◌≡◌, List, [], ◌∷◌, ◌++◌, refl, ap}
use Rattle.rw_worker.specs.Steps.{Working, Step, Takes, Freezes, Sends, Waits, MayStep, AreSteps, after, after_step, items_of, exchanges_of}

pub steps-push : (w : Working) (ss : List Step) (s : Step) → AreSteps w ss → MayStep s (after w ss).core → AreSteps w (ss ++ s ∷ [])
steps-push w [] s h may = (may, tt)
steps-push w (t ∷ ts) s h may = (h.0, steps-push (after_step t w) ts s h.1 may)

pub after-push : (w : Working) (ss : List Step) (s : Step) → after w (ss ++ s ∷ []) ≡ after_step s (after w ss)
after-push w [] s = refl
after-push w (t ∷ ts) s = after-push (after_step t w) ts s

pub items-append : (ss ts : List Step) → items_of (ss ++ ts) ≡ items_of ss ++ items_of ts
items-append [] ts = refl
items-append (Takes x ∷ ss) ts = ap (λ xs. x ∷ xs) (items-append ss ts)
items-append (Freezes ∷ ss) ts = items-append ss ts
items-append (Sends e ∷ ss) ts = items-append ss ts
items-append (Waits ∷ ss) ts = items-append ss ts

pub exchanges-append : (ss ts : List Step) → exchanges_of (ss ++ ts) ≡ exchanges_of ss ++ exchanges_of ts
exchanges-append [] ts = refl
exchanges-append (Takes x ∷ ss) ts = exchanges-append ss ts
exchanges-append (Freezes ∷ ss) ts = exchanges-append ss ts
exchanges-append (Sends e ∷ ss) ts = ap (λ es. e ∷ es) (exchanges-append ss ts)
exchanges-append (Waits ∷ ss) ts = exchanges-append ss ts
