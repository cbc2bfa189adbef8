-- Known bytes, if they are known.
use Rattle.std.proofs.Common.{◌≡◌, ℕ, List, [], ◌++◌, Option, None, Some, refl, sym, ◌∙◌, ap, subst}
use Rattle.std.proofs.lemmas.List.{append-nil}
use Rattle.std.specs.Io.KnownBytes.{Keeps, Appends, prepend_known}

pub keeps_known : (a b : Option (List ℕ)) (x : List ℕ) → Keeps a b → a ≡ Some x → b ≡ Some x
keeps_known None b x p e = cc
keeps_known (Some y) None x p e = absurd p
keeps_known (Some y) (Some z) x p e = ap Some p ∙ e

pub appends_known : (a b : Option (List ℕ)) (x bs : List ℕ) → Appends a b bs → a ≡ Some x → b ≡ Some (x ++ bs)
appends_known None b x bs p e = cc
appends_known (Some y) None x bs p e = absurd p
appends_known (Some y) (Some z) x bs p e = let same : y ≡ x = cc in ap Some (p ∙ ap (λ t. t ++ bs) same)

pub prepend_split : (p : List ℕ) (r : Option (List ℕ)) (x : List ℕ) → prepend_known p r ≡ Some x → (y : List ℕ) × (r ≡ Some y) × (x ≡ p ++ y)
prepend_split p None x e = absurd cc
prepend_split p (Some y) x e = let same : p ++ y ≡ x = cc in (y, refl, sym same)

pub prepend_known_is : (p : List ℕ) (r : Option (List ℕ)) (y : List ℕ) → r ≡ Some y → prepend_known p r ≡ Some (p ++ y)
prepend_known_is p r y e = ap (prepend_known p) e

pub some_is : (x y : List ℕ) → Some x ≡ Some y → x ≡ y
some_is x y e = cc

pub keeps_trans : (a b c : Option (List ℕ)) → Keeps a b → Keeps b c → Keeps a c
keeps_trans None b c p q = tt
keeps_trans (Some x) None c p q = absurd p
keeps_trans (Some x) (Some y) None p q = absurd q
keeps_trans (Some x) (Some y) (Some z) p q = q ∙ p

-- a body grows, if nothing waits
pub keeps_body : (a : Option (List ℕ)) (q r w : List ℕ) (b c : Option (List ℕ)) → w ≡ [] → Keeps a (prepend_known (q ++ w) b) → Keeps (prepend_known q b) (prepend_known r c) → Keeps a (prepend_known (r ++ w) c)
keeps_body a q r w b c none p k =
    let alone : (t : List ℕ) → t ++ w ≡ t = λ t. ap (λ (u : List ℕ). t ++ u) none ∙ append-nil t in
    keeps_trans a (prepend_known q b) (prepend_known (r ++ w) c)
    (subst (λ (t : List ℕ). Keeps a (prepend_known t b)) (alone q) p)
    (subst (λ (t : List ℕ). Keeps (prepend_known q b) (prepend_known t c)) (sym (alone r)) k)
