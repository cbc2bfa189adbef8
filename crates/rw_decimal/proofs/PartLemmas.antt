-- Texts of parts that grow.
use Rattle.std.proofs.Common.{◌≡◌, ℕ, ◌+◌, ◌<◌, List, [], ◌∷◌, ◌++◌, length, take, get_or, refl, sym, ap, ◌∙◌, subst, append_assoc, append-nil}
use Rattle.std.proofs.lemmas.List.{take_more}
use Rattle.rw_decimal.specs.Parts.{AreParts}

-- one more part
pub parts_more : {A : Type 0} (P : A → List ℕ → Type 0) (xs : List A) (x : A) (text part : List ℕ) → AreParts P xs text → P x part → AreParts P (xs ++ x ∷ []) (text ++ part)
parts_more P [] x text part e h = (part, [], rw e (sym (append-nil part)), h, refl)
parts_more P (y ∷ xs) x text part (front, rest, e, g, more) h =
    (front, rest ++ part, ap (λ (t : List ℕ). t ++ part) e ∙ append_assoc front rest part, g, parts_more P xs x rest part more h)

-- what is written of the first items of a list
abbrev pub Wrote : {A : Type 0} → (A → List ℕ → Type 0) → List A → List ℕ → List ℕ → Type 0
Wrote P xs old out = (text : List ℕ) × (out ≡ old ++ text) × AreParts P xs text

pub wrote_none : {A : Type 0} (P : A → List ℕ → Type 0) (old : List ℕ) → Wrote P [] old old
wrote_none P old = ([], sym (append-nil old), refl)

pub wrote_more : {A : Type 0} (P : A → List ℕ → Type 0) (xs : List A) (x : A) (old out longer part : List ℕ) → Wrote P xs old out → longer ≡ out ++ part → P x part → Wrote P (xs ++ x ∷ []) old longer
wrote_more P xs x old out longer part (text, e, parts) f h =
    (text ++ part, f ∙ ap (λ (t : List ℕ). t ++ part) e ∙ append_assoc old text part, parts_more P xs x text part parts h)

pub wrote_next : {A : Type 0} (P : A → List ℕ → Type 0) (xs : List A) (i : ℕ) (d : A) (old out longer part : List ℕ) → i < length xs → Wrote P (take i xs) old out → longer ≡ out ++ part
    → P (get_or xs i d) part → Wrote P (take (i + 1) xs) old longer
wrote_next P xs i d old out longer part below w e h = subst (λ (ys : List _). Wrote P ys old longer) (sym (take_more xs i d below)) (wrote_more P (take i xs) (get_or xs i d) old out longer part w e h)

-- while some items are still to come
abbrev pub Writing : {A : Type 0} → (A → List ℕ → Type 0) → List A → List ℕ → List ℕ → List A → Type 0
Writing {A} P whole old out left = (done : List A) × (whole ≡ done ++ left) × Wrote P done old out

pub writing_begins : {A : Type 0} (P : A → List ℕ → Type 0) (whole all : List A) (old : List ℕ) → all ≡ whole → Writing P whole old old all
writing_begins P whole all old e = ([], sym e, wrote_none P old)

pub writing_more : {A : Type 0} (P : A → List ℕ → Type 0) (whole : List A) (old out longer part : List ℕ) (x : A) (all left : List A) → Writing P whole old out all → all ≡ x ∷ left → longer ≡ out ++ part
    → P x part → Writing P whole old longer left
writing_more P whole old out longer part x all left (done, e, w) f g h =
    (done ++ x ∷ [], e ∙ ap (λ (ys : List _). done ++ ys) f ∙ sym (append_assoc done (x ∷ []) left), wrote_more P done x old out longer part w g h)

pub writing_ends : {A : Type 0} (P : A → List ℕ → Type 0) (whole : List A) (old out : List ℕ) (left : List A) → Writing P whole old out left → left ≡ [] → Wrote P whole old out
writing_ends P whole old out left (done, e, w) f = subst (λ (ys : List _). Wrote P ys old out) (sym (e ∙ ap (λ (ys : List _). done ++ ys) f ∙ append-nil done)) w
