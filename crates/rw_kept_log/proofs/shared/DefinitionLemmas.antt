-- Lists of definitions, and the definitions of a log that goes on.
use Rattle.std.proofs.Common.{◌≡◌, inl, inr, ℕ, ℤ, append-nil, List, [], ◌∷◌, ◌++◌, refl, ap, ◌∙◌, subst}
use Rattle.std.specs.List.{AllByRecursion}
use Rattle.rw_types.specs.Beginnings.{Begins}
use Rattle.rw_types.specs.Labels.{Labels}
use Rattle.rw_types.specs.declared.entry.Entry.{Entry}
use Rattle.rw_types.specs.declared.entry.Entry.TheVariants.{Def, Sample}
use Rattle.rw_kept_log.specs.Definitions.{definitions_in, IsOther, AreApart, IsDefinedOnce, IsOneOf}

abbrev pub Pairs : Type 0
Pairs = List (ℕ × Labels)

-- ---- what holds of each of a list

module _ {A : Type 0} where
  pub all_weaker : (P Q : A → Type 0) (xs : List A) → ((x : A) → P x → Q x) → AllByRecursion P xs → AllByRecursion Q xs
  all_weaker P Q [] f all = tt
  all_weaker P Q (x ∷ xs) f all = (f x all.0, all_weaker P Q xs f all.1)

  pub all_zip : (P Q R : A → Type 0) (xs : List A) → ((x : A) → P x → Q x → R x) → AllByRecursion P xs → AllByRecursion Q xs → AllByRecursion R xs
  all_zip P Q R [] f ps qs = tt
  all_zip P Q R (x ∷ xs) f ps qs = (f x ps.0 qs.0, all_zip P Q R xs f ps.1 qs.1)

  pub all_front : (P : A → Type 0) (xs ys : List A) → AllByRecursion P (xs ++ ys) → AllByRecursion P xs
  all_front P [] ys all = tt
  all_front P (x ∷ xs) ys all = (all.0, all_front P xs ys all.1)

  pub all_back : (P : A → Type 0) (xs ys : List A) → AllByRecursion P (xs ++ ys) → AllByRecursion P ys
  all_back P [] ys all = all
  all_back P (x ∷ xs) ys all = all_back P xs ys all.1

  pub all_both : (P : A → Type 0) (xs ys : List A) → AllByRecursion P xs → AllByRecursion P ys → AllByRecursion P (xs ++ ys)
  all_both P [] ys first more = more
  all_both P (x ∷ xs) ys first more = (first.0, all_both P xs ys first.1 more)

-- ---- one of a list of definitions

pub one_of : (P : ℕ × Labels → Type 0) (ds : Pairs) (d : ℕ × Labels) → AllByRecursion P ds → IsOneOf ds d → P d
one_of P [] d all one = absurd one
one_of P (e ∷ ds) d all (inl same) = subst P same all.0
one_of P (e ∷ ds) d all (inr later) = one_of P ds d all.1 later

pub one_left : (ds es : Pairs) (d : ℕ × Labels) → IsOneOf ds d → IsOneOf (ds ++ es) d
one_left [] es d one = absurd one
one_left (e ∷ ds) es d (inl same) = inl same
one_left (e ∷ ds) es d (inr later) = inr (one_left ds es d later)

pub one_right : (ds es : Pairs) (d : ℕ × Labels) → IsOneOf es d → IsOneOf (ds ++ es) d
one_right [] es d one = one
one_right (e ∷ ds) es d one = inr (one_right ds es d one)

pub each_one : (ds : Pairs) → AllByRecursion (IsOneOf ds) ds
each_one [] = tt
each_one (d ∷ ds) = (inl refl, all_weaker (IsOneOf ds) (IsOneOf (d ∷ ds)) ds (λ e one. inr one) (each_one ds))

-- ---- definitions that are apart

pub apart_front : (ds es : Pairs) → AreApart (ds ++ es) → AreApart ds
apart_front [] es apart = tt
apart_front (d ∷ ds) es apart = (all_front (IsOther d) ds es apart.0, apart_front ds es apart.1)

pub apart_back : (ds es : Pairs) → AreApart (ds ++ es) → AreApart es
apart_back [] es apart = apart
apart_back (d ∷ ds) es apart = apart_back ds es apart.1

pub apart_cross : (ds es : Pairs) → AreApart (ds ++ es) → AllByRecursion (λ d. AllByRecursion (IsOther d) es) ds
apart_cross [] es apart = tt
apart_cross (d ∷ ds) es apart = (all_back (IsOther d) ds es apart.0, apart_cross ds es apart.1)

pub apart_both : (ds es : Pairs) → AreApart ds → AreApart es → AllByRecursion (λ d. AllByRecursion (IsOther d) es) ds → AreApart (ds ++ es)
apart_both [] es first more cross = more
apart_both (d ∷ ds) es first more cross = (all_both (IsOther d) ds es first.0 cross.0, apart_both ds es first.1 more cross.1)

-- ---- the definitions of a log

pub definitions-append : (es fs : List Entry) → definitions_in (es ++ fs) ≡ definitions_in es ++ definitions_in fs
definitions-append [] fs = refl
definitions-append (Def r l ∷ es) fs = ap (λ (ds : Pairs). (r, l) ∷ ds) (definitions-append es fs)
definitions-append (Sample r t w ∷ es) fs = definitions-append es fs

pub push_def : (es : List Entry) (r : ℕ) (labels : List (List ℕ × List ℕ)) → definitions_in (es ++ Def r labels ∷ []) ≡ definitions_in es ++ (r, labels) ∷ []
push_def es r labels = definitions-append es (Def r labels ∷ [])

pub push_sample : (es : List Entry) (r : ℕ) (t : ℤ) (w : ℕ) → definitions_in (es ++ Sample r t w ∷ []) ≡ definitions_in es
push_sample es r t w = definitions-append es (Sample r t w ∷ []) ∙ append-nil (definitions_in es)

pub begins_once : (es fs : List Entry) → Begins es fs → IsDefinedOnce fs → IsDefinedOnce es
begins_once es fs b once = apart_front (definitions_in es) (definitions_in b.0) (subst AreApart (ap definitions_in b.1 ∙ definitions-append es b.0) once)
