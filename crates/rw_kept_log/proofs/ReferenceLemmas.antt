-- References of a log that goes on.
use Rattle.std.proofs.Common.{◌≡◌, ℕ, suc, ◌+◌, ◌<◌, ◌≤◌, ℤ, List, [], ◌∷◌, ◌++◌, length, map, Bool, true, false, cond, Option, Some, refl, sym, ap, ◌∙◌, subst, arith, append_assoc, append-nil, eqb, eqb-true, eq-eqb, ne_eqb}
use Rattle.std.specs.List.{AllByRecursion}
use Rattle.rw_types.specs.Labels.{Labels, IsLabelSet}
use Rattle.rw_types.specs.declared.entry.Entry.{Entry}
use Rattle.rw_types.specs.declared.entry.Entry.TheVariants.{Def, Sample}
use Rattle.rw_types.specs.declared.names.Names.TheVariants.{Utf8}
use Rattle.rw_wal_format.specs.Laws.{sample_entry}
use Rattle.rw_wal_format.specs.Series.{defines, has_labels, labels_of, samples_after}
use Rattle.rw_wal_format.proofs.shared.SeriesRows.{labels_of-push}
use Rattle.rw_kept_log.specs.Additions.{Point, without_position, samples_of_labels, definition_entry}
use Rattle.rw_kept_log.specs.Definitions.{definitions_in, IsOther, AreApart, IsDefinedOnce, IsOneOf}
use Rattle.rw_kept_log.proofs.shared.AdditionLemmas.{samples_in-append}
use Rattle.rw_kept_log.proofs.shared.DefinitionLemmas.{Pairs, all_weaker, all_back, all_both, all_zip, one_of, one_left, one_right, each_one, apart_front, apart_back, apart_both, apart_cross, definitions-append}
use Rattle.rw_kept_log.specs.References.{ReferenceTable, labels_in, labels_at, numbered, undefined, pairs_of, all_defined, IsTable, StandFor, KnowsAll, IsNoted, AreReferenced, points_of}

-- ---- what references stand for, as the log goes on

not_redefined : (q r : ℕ) (m : Labels) (known : Option Labels) → r < q → defines r known (Def q m) ≡ known
not_redefined q r m known h = rw (ne_eqb q r (λ e. omega (arith, e, h))) refl

stand_sample : (es : List Entry) (q : ℕ) (t : ℤ) (w : ℕ) (ps : Pairs) → StandFor es ps → StandFor (es ++ Sample q t w ∷ []) ps
stand_sample es q t w [] h = tt
stand_sample es q t w (p ∷ ps) h = (labels_of-push es (Sample q t w) p.0 ∙ h.0, stand_sample es q t w ps h.1)

-- a definition of a later reference
stand_later : (es : List Entry) (q : ℕ) (m : Labels) (ps : Pairs) → AllByRecursion (λ p. p.0 < q) ps → StandFor es ps → StandFor (es ++ Def q m ∷ []) ps
stand_later es q m [] less h = tt
stand_later es q m (p ∷ ps) less h = (
  labels_of-push es (Def q m) p.0 ∙ not_redefined q p.0 m (labels_of es p.0 (length es)) less.0 ∙ h.0,
  stand_later es q m ps less.1 h.1,
)

stand_both : (es : List Entry) (ps : Pairs) (q : ℕ) (m : Labels) → StandFor es ps → labels_of es q (length es) ≡ Some m → StandFor es (ps ++ (q, m) ∷ [])
stand_both es [] q m h e = (e, tt)
stand_both es (p ∷ ps) q m h e = (h.0, stand_both es ps q m h.1 e)

-- the definition of the next reference
stand_next : (es : List Entry) (q : ℕ) (m : Labels) (ps : Pairs) → AllByRecursion (λ p. p.0 < q) ps → StandFor es ps → StandFor (es ++ Def q m ∷ []) (ps ++ (q, m) ∷ [])
stand_next es q m ps less h =
    stand_both (es ++ Def q m ∷ []) ps q m (stand_later es q m ps less h)
    (labels_of-push es (Def q m) q ∙ rw (eq-eqb q q refl) refl)

less_next : (q : ℕ) (m : Labels) (ps : Pairs) → AllByRecursion (λ p. p.0 < q) ps → AllByRecursion (λ p. p.0 < suc q) (ps ++ (q, m) ∷ [])
less_next q m [] less = (omega arith, tt)
less_next q m (p ∷ ps) less = (omega (arith, less.0), less_next q m ps less.1)

stand_defined : (es : List Entry) (q : ℕ) (ps : Pairs) (ls : List Labels) → AllByRecursion (λ p. p.0 < q) ps → StandFor es ps
    → StandFor (es ++ map definition_entry (numbered q ls)) (ps ++ numbered q ls)
stand_defined es q ps [] less h = subst (λ (x : Pairs). StandFor (es ++ []) x) (sym (append-nil ps)) (subst (λ (x : List Entry). StandFor x ps) (sym (append-nil es)) h)
stand_defined es q ps (m ∷ ls) less h =
    let next = stand_defined (es ++ Def q m ∷ []) (suc q) (ps ++ (q, m) ∷ []) ls (less_next q m ps less) (stand_next es q m ps less h) in
    subst (λ (x : Pairs). StandFor (es ++ Def q m ∷ map definition_entry (numbered (suc q) ls)) x) (append_assoc ps ((q, m) ∷ []) (numbered (suc q) ls))
    (subst (λ (x : List Entry). StandFor x ((ps ++ (q, m) ∷ []) ++ numbered (suc q) ls)) (append_assoc es (Def q m ∷ []) (map definition_entry (numbered (suc q) ls))) next)

stand_samples : (es : List Entry) (ps : Pairs) (ss : List (ℕ × ℤ × ℕ)) → StandFor es ps → StandFor (es ++ map sample_entry ss) ps
stand_samples es ps [] h = subst (λ (x : List Entry). StandFor x ps) (sym (append-nil es)) h
stand_samples es ps (s ∷ ss) h =
    subst (λ (x : List Entry). StandFor x ps) (append_assoc es (sample_entry s ∷ []) (map sample_entry ss))
    (stand_samples (es ++ sample_entry s ∷ []) ps ss (stand_sample es s.0 s.1 s.2 ps h))

held : (es : List Entry) (ps : Pairs) (r : ℕ) (l : Labels) → StandFor es ps → labels_in ps r ≡ Some l → labels_of es r (length es) ≡ Some l
held es [] r l h e = absurd (cc)
held es (p ∷ ps) r l h e = here (eqb p.0 r) refl (λ is. held es ps r l h.1 is) e
  where
    here : (b : Bool) → eqb p.0 r ≡ b → (labels_in ps r ≡ Some l → labels_of es r (length es) ≡ Some l) → cond b (Some p.1) (labels_in ps r) ≡ Some l → labels_of es r (length es) ≡ Some l
    here true same rest is = ap (λ (n : ℕ). labels_of es n (length es)) (sym (eqb-true p.0 r same)) ∙ h.0 ∙ is
    here false other rest is = rest is

-- ---- the samples

no_definitions : (l : Labels) (before : List Entry) (ps : Pairs) → samples_after l before (map definition_entry ps) ≡ []
no_definitions l before [] = refl
no_definitions l before (p ∷ ps) = no_definitions l (before ++ Def p.0 p.1 ∷ []) ps

take_it : (b : Bool) (p : ℕ × ℤ × ℕ) (later : List (ℕ × ℤ × ℕ)) (ps : List Point) → map without_position later ≡ ps
    → map without_position (cond b (p ∷ later) later) ≡ cond b ((p.1, p.2) ∷ ps) ps
take_it true p later ps e = ap (λ (qs : List Point). (p.1, p.2) ∷ qs) e
take_it false p later ps e = e

points_read : (n : ReferenceTable) (l : Labels) (es : List Entry) (ss : List (ℕ × ℤ × ℕ)) → StandFor es (pairs_of n) → AreReferenced n ss
    → map without_position (samples_after l es (map sample_entry ss)) ≡ points_of n l ss
points_read n l es [] h of = refl
points_read n l es (s ∷ ss) h of =
    let is : labels_of es s.0 (length es) ≡ labels_at n s.0 = held es (pairs_of n) s.0 of.0.0 h of.0.1 ∙ sym of.0.1 in
    let later = samples_after l (es ++ sample_entry s ∷ []) (map sample_entry ss) in
    ap (λ (o : Option Labels). map without_position (cond (has_labels l o) ((length es, s.1, s.2) ∷ samples_after l (es ++ sample_entry s ∷ []) (map sample_entry ss)) (samples_after l (es ++ sample_entry s ∷ []) (map sample_entry ss)))) is
    ∙ take_it (has_labels l (labels_at n s.0)) (length es, s.1, s.2) later (points_of n l ss)
    (points_read n l (es ++ sample_entry s ∷ []) ss (stand_sample es s.0 s.1 s.2 (pairs_of n) h) of.1)

pub samples_read : (es : List Entry) (n : ReferenceTable) (ss : List (ℕ × ℤ × ℕ)) (l : Labels) → IsNoted es n → IsTable n → AreReferenced n ss
    → samples_of_labels (es ++ map definition_entry (undefined n) ++ map sample_entry ss) l ≡ samples_of_labels es l ++ points_of n l ss
samples_read es n ss l noted table of =
    let defs = map definition_entry (undefined n) in
    let none : samples_after l es (map definition_entry (undefined n)) ≡ [] = no_definitions l es (undefined n) in
    let same : samples_of_labels (es ++ map definition_entry (undefined n)) l ≡ samples_of_labels es l =
    samples_in-append l es defs ∙ ap (λ (x : List (ℕ × ℤ × ℕ)). samples_of_labels es l ++ map without_position x) none ∙ append-nil (samples_of_labels es l) in
    samples_in-append l (es ++ defs) (map sample_entry ss)
    ∙ ap (λ (x : List Point). x ++ map without_position (samples_after l (es ++ map definition_entry (undefined n)) (map sample_entry ss))) same
    ∙ ap (λ (x : List Point). samples_of_labels es l ++ x) (points_read n l (es ++ defs) ss (stand_defined es n.next n.known n.fresh table.below noted.stand) of)

-- ---- the definitions

of_definitions : (ps : Pairs) → definitions_in (map definition_entry ps) ≡ ps
of_definitions [] = refl
of_definitions (p ∷ ps) = ap (λ (x : Pairs). p ∷ x) (of_definitions ps)

of_samples : (ss : List (ℕ × ℤ × ℕ)) → definitions_in (map sample_entry ss) ≡ []
of_samples [] = refl
of_samples (s ∷ ss) = of_samples ss

-- what a log defines, once it has more definitions and samples
written : (es : List Entry) (ps : Pairs) (ss : List (ℕ × ℤ × ℕ)) → definitions_in (es ++ map definition_entry ps ++ map sample_entry ss) ≡ definitions_in es ++ ps
written es ps ss =
    definitions-append (es ++ map definition_entry ps) (map sample_entry ss)
    ∙ ap (λ (x : Pairs). definitions_in (es ++ map definition_entry ps) ++ x) (of_samples ss)
    ∙ append-nil (definitions_in (es ++ map definition_entry ps))
    ∙ definitions-append es (map definition_entry ps)
    ∙ ap (λ (x : Pairs). definitions_in es ++ x) (of_definitions ps)

pub numbered_below : (q : ℕ) (ls : List Labels) → AllByRecursion (λ p. p.0 < q + length ls) (numbered q ls)
numbered_below q [] = tt
numbered_below q (l ∷ ls) = (omega arith, all_weaker (λ p. p.0 < suc q + length ls) (λ p. p.0 < q + length (l ∷ ls)) (numbered (suc q) ls) (λ p less. omega (arith, less)) (numbered_below (suc q) ls))

numbered_from : (q : ℕ) (ls : List Labels) → AllByRecursion (λ p. q ≤ p.0) (numbered q ls)
numbered_from q [] = tt
numbered_from q (l ∷ ls) = (omega arith, all_weaker (λ p. suc q ≤ p.0) (λ p. q ≤ p.0) (numbered (suc q) ls) (λ p le. omega (arith, le)) (numbered_from (suc q) ls))

pub all_below : (n : ReferenceTable) (ps : Pairs) → AllByRecursion (λ p. p.0 < n.next) ps → AllByRecursion (λ p. p.0 < n.next + length n.fresh) (ps ++ undefined n)
all_below n ps below =
    all_both (λ p. p.0 < n.next + length n.fresh) ps (undefined n) (all_weaker (λ p. p.0 < n.next) (λ p. p.0 < n.next + length n.fresh) ps (λ p less. omega (arith, less)) below)
    (numbered_below n.next n.fresh)

-- all definitions are known once they are written
knows_all : (n : ReferenceTable) (ds : Pairs) → KnowsAll ds n.known → KnowsAll (ds ++ undefined n) (pairs_of n)
knows_all n ds knows =
    all_both (λ d. IsLabelSet Utf8 d.1 → IsOneOf (pairs_of n) d) ds (undefined n)
    (all_weaker (λ d. IsLabelSet Utf8 d.1 → IsOneOf n.known d) (λ d. IsLabelSet Utf8 d.1 → IsOneOf (pairs_of n) d) ds (λ d one set. one_left n.known (undefined n) d (one set)) knows)
    (all_weaker (IsOneOf (undefined n)) (λ d. IsLabelSet Utf8 d.1 → IsOneOf (pairs_of n) d) (undefined n) (λ d one set. one_right n.known (undefined n) d one) (each_one (undefined n)))

pub noted_all : (es : List Entry) (n : ReferenceTable) (ss : List (ℕ × ℤ × ℕ)) → IsNoted es n → IsTable n
    → IsNoted (es ++ map definition_entry (undefined n) ++ map sample_entry ss) (all_defined n)
noted_all es n ss noted table =
    let is = written es (undefined n) ss in
    record {
      stand =
          stand_samples (es ++ map definition_entry (undefined n)) (pairs_of n) ss (stand_defined es n.next n.known n.fresh table.below noted.stand);
      below = subst (AllByRecursion (λ p. p.0 < n.next + length n.fresh)) (sym is) (all_below n (definitions_in es) noted.below);
      knows = λ once.
          subst (λ (ds : Pairs). KnowsAll ds (pairs_of n)) (sym is)
          (knows_all n (definitions_in es) (noted.knows (apart_front (definitions_in es) (undefined n) (subst AreApart is once))));
    }

-- a definition of the log is not one of the new ones
is_other : (n : ReferenceTable) (d e : ℕ × Labels) → IsTable n → d.0 < n.next → (IsLabelSet Utf8 d.1 → IsOneOf n.known d) → n.next ≤ e.0 → IsLabelSet Utf8 e.1 → IsOneOf (undefined n) e → IsOther d e
is_other n d e table less knows from set one = (
  λ same. omega (arith, same, less, from),
  λ same.
      let there : IsOneOf n.known d = knows (subst (IsLabelSet Utf8) (sym same) set) in
      let apart : AllByRecursion (IsOther d) (undefined n) = one_of (λ x. AllByRecursion (IsOther x) (undefined n)) n.known d (apart_cross n.known (undefined n) table.apart) there in
      (one_of (IsOther d) (undefined n) e apart one).1 same,
)

others : (n : ReferenceTable) (d : ℕ × Labels) → IsTable n → d.0 < n.next → (IsLabelSet Utf8 d.1 → IsOneOf n.known d) → AllByRecursion (IsOther d) (undefined n)
others n d table less knows =
    all_zip (λ e. n.next ≤ e.0) (λ e. IsLabelSet Utf8 e.1 × IsOneOf (undefined n) e) (IsOther d) (undefined n) (λ e from both. is_other n d e table less knows from both.0 both.1) (numbered_from n.next n.fresh)
    (all_zip (λ e. IsLabelSet Utf8 e.1) (IsOneOf (undefined n)) (λ e. IsLabelSet Utf8 e.1 × IsOneOf (undefined n) e) (undefined n) (λ e set one. (set, one))
    (all_back (λ e. IsLabelSet Utf8 e.1) n.known (undefined n) table.are) (each_one (undefined n)))

pub once_more : (es : List Entry) (n : ReferenceTable) (ss : List (ℕ × ℤ × ℕ)) → IsNoted es n → IsTable n → IsDefinedOnce es
    → IsDefinedOnce (es ++ map definition_entry (undefined n) ++ map sample_entry ss)
once_more es n ss noted table once =
    subst AreApart (sym (written es (undefined n) ss))
    (apart_both (definitions_in es) (undefined n) once (apart_back n.known (undefined n) table.apart)
    (all_zip (λ d. d.0 < n.next) (λ d. IsLabelSet Utf8 d.1 → IsOneOf n.known d) (λ d. AllByRecursion (IsOther d) (undefined n)) (definitions_in es) (λ d less knows. others n d table less knows) noted.below (noted.knows once)))
