-- Label sets that come, and the samples of their references.
use Rattle.std.proofs.Common.{◌≡◌, inl, inr, ℕ, suc, ◌+◌, ◌<◌, ℤ, List, [], ◌∷◌, ◌++◌, length, take, get_or, Bool, true, false, cond, Option, Some, refl, sym, ap, ◌∙◌, subst, arith, append_assoc, eqb}
use Rattle.std.proofs.lemmas.List.{take_more}
use Rattle.rw_types.specs.Labels.{Labels}
use Rattle.rw_types.specs.LabelOrder.{labels_eq}
use Rattle.rw_wal_format.specs.Series.{has_labels}
use Rattle.rw_kept_log.specs.Additions.{Point}
use Rattle.rw_kept_log.proofs.shared.DefinitionLemmas.{Pairs}
use Rattle.rw_kept_log.specs.References.{ReferenceTable, Grows, labels_in, labels_at, with_set, numbered, undefined, pairs_of, AreReferenced, points_of}
use Rattle.rw_kept_log.specs.inner.References.{with_reference}

-- ---- one more label set

pub numbered-push : (r : ℕ) (ls : List Labels) (l : Labels) → numbered r (ls ++ l ∷ []) ≡ numbered r ls ++ (r + length ls, l) ∷ []
numbered-push r [] l = ap (λ (n : ℕ). (n, l) ∷ []) (omega arith)
numbered-push r (m ∷ ls) l = ap (λ (ds : Pairs). (r, m) ∷ ds) (numbered-push (suc r) ls l ∙ ap (λ (n : ℕ). numbered (suc r) ls ++ (n, l) ∷ []) (omega arith))

-- the references with one more label set
pub pairs_more : (n : ReferenceTable) (m : Labels) → pairs_of (with_set m n) ≡ pairs_of n ++ (n.next + length n.fresh, m) ∷ []
pairs_more n m =
    ap (λ (ps : Pairs). n.known ++ ps) (numbered-push n.next n.fresh m) ∙ sym (append_assoc n.known (undefined n) ((n.next + length n.fresh, m) ∷ []))

in_more : (ps qs : Pairs) (r : ℕ) (l : Labels) → labels_in ps r ≡ Some l → labels_in (ps ++ qs) r ≡ Some l
in_more [] qs r l e = absurd (cc)
in_more (p ∷ ps) qs r l e = here (eqb p.0 r) (λ is. in_more ps qs r l is) e
  where
    here : (b : Bool) → (labels_in ps r ≡ Some l → labels_in (ps ++ qs) r ≡ Some l) → cond b (Some p.1) (labels_in ps r) ≡ Some l → cond b (Some p.1) (labels_in (ps ++ qs) r) ≡ Some l
    here true rest is = is
    here false rest is = rest is

-- the label sets stay under their references
abbrev pub Keeps : ReferenceTable → ReferenceTable → Type 0
Keeps n later = (r : ℕ) (l : Labels) → labels_at n r ≡ Some l → labels_at later r ≡ Some l

keeps_more : (n : ReferenceTable) (m : Labels) → Keeps n (with_set m n)
keeps_more n m r l e = ap (λ (ps : Pairs). labels_in ps r) (pairs_more n m) ∙ in_more (pairs_of n) ((n.next + length n.fresh, m) ∷ []) r l e

keeps_grown : (n later : ReferenceTable) (m : Labels) → Grows m n later → Keeps n later
keeps_grown n later m (inl same) r l e = ap (λ (k : ReferenceTable). labels_at k r) same ∙ e
keeps_grown n later m (inr more) r l e = ap (λ (k : ReferenceTable). labels_at k r) more ∙ keeps_more n m r l e

of_both : (n later : ReferenceTable) (m : Labels) (r : ℕ) (old : List (ℕ × ℤ × ℕ)) (new : List Point) → Keeps n later → labels_at later r ≡ Some m → AreReferenced n old
    → AreReferenced later (old ++ with_reference r new)
of_both n later m r [] [] keeps at of = tt
of_both n later m r [] (p ∷ new) keeps at of = ((m, at), of_both n later m r [] new keeps at tt)
of_both n later m r (s ∷ old) new keeps at of = ((of.0.0, keeps s.0 of.0.0 of.0.1), of_both n later m r old new keeps at of.1)

points_new : (later : ReferenceTable) (m : Labels) (r : ℕ) (new : List Point) (l : Labels) → labels_at later r ≡ Some m → points_of later l (with_reference r new) ≡ cond (labels_eq m l) new []
points_new later m r [] l at = none (labels_eq m l)
  where
    none : (b : Bool) → ◌≡◌ {A = List Point} [] (cond b [] [])
    none true = refl
    none false = refl
points_new later m r (p ∷ new) l at =
    ap (λ (o : Option Labels). cond (has_labels l o) ((p.0, p.1) ∷ points_of later l (with_reference r new)) (points_of later l (with_reference r new))) at
    ∙ one (labels_eq m l) (points_of later l (with_reference r new)) (points_new later m r new l at)
  where
    one : (b : Bool) (ps : List Point) → ps ≡ cond b new [] → cond b ((p.0, p.1) ∷ ps) ps ≡ cond b (p ∷ new) []
    one true ps e = ap (λ (qs : List Point). p ∷ qs) e
    one false ps e = e

keep_or_not : (b : Bool) (p : Point) (now more earlier : List Point) → now ≡ earlier ++ more → cond b (p ∷ now) now ≡ cond b (p ∷ earlier) earlier ++ more
keep_or_not true p now more earlier e = ap (λ (qs : List Point). p ∷ qs) e
keep_or_not false p now more earlier e = e

pub points_both : (n later : ReferenceTable) (m : Labels) (r : ℕ) (old : List (ℕ × ℤ × ℕ)) (new : List Point) (l : Labels) → Keeps n later → labels_at later r ≡ Some m → AreReferenced n old
    → points_of later l (old ++ with_reference r new) ≡ points_of n l old ++ cond (labels_eq m l) new []
points_both n later m r [] new l keeps at of = points_new later m r new l at
points_both n later m r (s ∷ old) new l keeps at of =
    let same : labels_at later s.0 ≡ labels_at n s.0 = keeps s.0 of.0.0 of.0.1 ∙ sym of.0.1 in
    ap (λ (o : Option Labels). cond (has_labels l o) ((s.1, s.2) ∷ points_of later l (old ++ with_reference r new)) (points_of later l (old ++ with_reference r new))) same
    ∙ keep_or_not (has_labels l (labels_at n s.0)) (s.1, s.2) (points_of later l (old ++ with_reference r new)) (cond (labels_eq m l) new []) (points_of n l old)
    (points_both n later m r old new l keeps at of.1)

-- what a call that adds samples leaves
pub added_of : (n later : ReferenceTable) (m : Labels) (r : ℕ) (old : List (ℕ × ℤ × ℕ)) (new : List Point) (samples : List (ℕ × ℤ × ℕ)) → Grows m n later
    → labels_at later r ≡ Some m → AreReferenced n old → samples ≡ old ++ with_reference r new → AreReferenced later samples
added_of n later m r old new samples grown at of e = subst (AreReferenced later) (sym e) (of_both n later m r old new (keeps_grown n later m grown) at of)

pub added_points : (n later : ReferenceTable) (m : Labels) (r : ℕ) (old : List (ℕ × ℤ × ℕ)) (new : List Point) (samples : List (ℕ × ℤ × ℕ)) → Grows m n later
    → labels_at later r ≡ Some m → AreReferenced n old → samples ≡ old ++ with_reference r new → (l : Labels)
    → points_of later l samples ≡ points_of n l old ++ cond (labels_eq m l) new []
added_points n later m r old new samples grown at of e l = ap (points_of later l) e ∙ points_both n later m r old new l (keeps_grown n later m grown) at of

-- ---- loops

with-push : (r : ℕ) (ps : List Point) (p : Point) → with_reference r (ps ++ p ∷ []) ≡ with_reference r ps ++ (r, p.0, p.1) ∷ []
with-push r [] p = refl
with-push r (x ∷ ps) p = ap (λ (ss : List (ℕ × ℤ × ℕ)). (r, x.0, x.1) ∷ ss) (with-push r ps p)

-- one more sample
pub with_next : (r i : ℕ) (ps : List Point) (p : Point) (start old new : List (ℕ × ℤ × ℕ)) → i < length ps → p ≡ get_or ps i p → old ≡ start ++ with_reference r (take i ps)
    → new ≡ old ++ (r, p.0, p.1) ∷ [] → new ≡ start ++ with_reference r (take (i + 1) ps)
with_next r i ps p start old new lt is e f =
    f ∙ ap (λ (ss : List (ℕ × ℤ × ℕ)). ss ++ (r, p.0, p.1) ∷ []) e ∙ append_assoc start (with_reference r (take i ps)) ((r, p.0, p.1) ∷ [])
    ∙ ap (λ (ss : List (ℕ × ℤ × ℕ)). start ++ ss) (sym (with-push r (take i ps) p) ∙ ap (with_reference r) (ap (λ (x : Point). take i ps ++ x ∷ []) is ∙ sym (take_more ps i p lt)))
