-- The references that are noted as a log is opened.
use Rattle.std.proofs.Common.{◌≡◌, ◌≢◌, inl, inr, ◌⊎◌, ℕ, ◌+◌, ◌<◌, ◌≤◌, List, [], ◌∷◌, ◌++◌, length, fold, Bool, true, false, cond, ◌||◌, Option, Some, None, refl, sym, ap, ◌∙◌, subst, arith, nat_eq, eqb-true, eq-eqb, ne_eqb}
use Rattle.std.proofs.lemmas.Bool.{ltb-true, ltb-false}
use Rattle.std.proofs.lemmas.List.{take_all}
use Rattle.std.specs.List.{AllByRecursion, IsDistinct, list_any}
use Rattle.std.specs.Map.{keys_of, lookup}
use Rattle.std.specs.Prelude.{is_some, nat_lt}
use Rattle.rw_types.specs.LabelOrder.{labels_eq}
use Rattle.rw_types.specs.Labels.{Labels, IsLabelSet, label_fault}
use Rattle.rw_types.specs.inner.LabelOrder.{same_if_equal}
use Rattle.rw_types.specs.declared.entry.Entry.{Entry}
use Rattle.rw_types.specs.declared.entry.Entry.TheVariants.{Def, Sample}
use Rattle.rw_types.specs.declared.names.Names.TheVariants.{Utf8}
use Rattle.rw_wal_format.specs.Series.{defines, labels_of}
use Rattle.rw_write_request.specs.Message.{TimeSeries}
use Rattle.rw_kept_log.specs.Reading.{greater, greatest_after}
use Rattle.rw_kept_log.specs.Definitions.{definitions_in, IsOther, AreApart, IsDefinedOnce, IsOneOf}
use Rattle.rw_kept_log.specs.References.{ReferenceTable, with_pair, IsNoted, StandFor}
use Rattle.rw_kept_log.proofs.shared.DefinitionLemmas.{Pairs, all_weaker, all_both, one_of, one_left, one_right, each_one}
use Rattle.rw_kept_head.specs.inner.Noting.{AreNames, no_references, note_one, noted_from, CanNoteOne, CanNote}
use Rattle.rw_kept_head.specs.inner.Restoring.{StandsFor}

Found : Type 0
Found = Option (List (List ℕ × List ℕ))

abbrev Series : Type 0
Series = List (ℕ × Option TimeSeries)

-- ---- what a log defines, and the labels of a reference

defined_by : (es : List Entry) (r : ℕ) (l : Labels) (known : Option Labels) → fold (defines r) known es ≡ Some l → (known ≡ Some l) ⊎ IsOneOf (definitions_in es) (r, l)
defined_by [] r l known e = inl e
defined_by (Sample q t w ∷ es) r l known e = defined_by es r l known e
defined_by (Def q m ∷ es) r l known e = here (nat_eq q r) refl (defined_by es r l (cond (nat_eq q r) (Some m) known) e)
  where
    here : (b : Bool) → nat_eq q r ≡ b → (cond b (Some m) known ≡ Some l) ⊎ IsOneOf (definitions_in es) (r, l) → (known ≡ Some l) ⊎ IsOneOf (definitions_in (Def q m ∷ es)) (r, l)
    here b same (inr later) = inr (inr later)
    here true same (inl is) = let set : m ≡ l = cc in inr (inl (ap (λ (n : ℕ). (n, m)) (eqb-true q r same) ∙ ap (λ (x : Labels). (r, x)) set))
    here false other (inl is) = inl is

pub is_definition : (es : List Entry) (r : ℕ) (l : Labels) → labels_of es r (length es) ≡ Some l → IsOneOf (definitions_in es) (r, l)
is_definition es r l e = there (defined_by es r l None (ap (fold (defines r) None) (sym (take_all (length es) es (omega arith))) ∙ e))
  where
    there : ◌≡◌ {A = Option Labels} None (Some l) ⊎ IsOneOf (definitions_in es) (r, l) → IsOneOf (definitions_in es) (r, l)
    there (inl none) = absurd (cc)
    there (inr one) = one

-- no definition of this reference comes
untouched : (es : List Entry) (d : ℕ × Labels) (known : Option Labels) → AllByRecursion (IsOther d) (definitions_in es) → fold (defines d.0) known es ≡ known
untouched [] d known others = refl
untouched (Sample q t w ∷ es) d known others = untouched es d known others
untouched (Def q m ∷ es) d known others =
    ap (λ (b : Bool). fold (defines d.0) (cond b (Some m) known) es) (ne_eqb q d.0 (λ same. others.0.0 (sym same))) ∙ untouched es d known others.1

defined_last : (es : List Entry) (r : ℕ) (l : Labels) (known : Option Labels) → IsDefinedOnce es → IsOneOf (definitions_in es) (r, l) → fold (defines r) known es ≡ Some l
defined_last [] r l known once one = absurd one
defined_last (Sample q t w ∷ es) r l known once one = defined_last es r l known once one
defined_last (Def q m ∷ es) r l known once (inr later) = defined_last es r l (cond (nat_eq q r) (Some m) known) once.1 later
defined_last (Def q m ∷ es) r l known once (inl same) =
    let place : q ≡ r = ap (λ (d : ℕ × Labels). d.0) same in
    ap (λ (b : Bool). fold (defines r) (cond b (Some m) known) es) (eq-eqb q r place)
    ∙ untouched es (r, l) (Some m) (subst (λ (d : ℕ × Labels). AllByRecursion (IsOther d) (definitions_in es)) same once.0)
    ∙ ap (λ (d : ℕ × Labels). Some d.1) same

named_once : (es : List Entry) (r : ℕ) (l : Labels) → IsDefinedOnce es → IsOneOf (definitions_in es) (r, l) → labels_of es r (length es) ≡ Some l
named_once es r l once one = ap (fold (defines r) None) (take_all (length es) es (omega arith)) ∙ defined_last es r l None once one

same_reference : (ds : Pairs) (q r : ℕ) (l : Labels) → AreApart ds → IsOneOf ds (q, l) → IsOneOf ds (r, l) → q ≡ r
same_reference [] q r l apart one two = absurd one
same_reference (d ∷ ds) q r l apart (inl a) (inl b) = ap (λ (x : ℕ × Labels). x.0) (sym a ∙ b)
same_reference (d ∷ ds) q r l apart (inl a) (inr b) = absurd ((one_of (IsOther d) ds (r, l) apart.0 b).1 (ap (λ (x : ℕ × Labels). x.1) a))
same_reference (d ∷ ds) q r l apart (inr a) (inl b) = absurd ((one_of (IsOther d) ds (q, l) apart.0 a).1 (ap (λ (x : ℕ × Labels). x.1) b))
same_reference (d ∷ ds) q r l apart (inr a) (inr b) = same_reference ds q r l apart.1 a b

-- ---- the greatest reference

grows : (n : ℕ) (e : Entry) → n ≤ greater n e
grows n (Sample r t w) = omega arith
grows n (Def r l) = here (nat_lt n r) refl
  where
    here : (b : Bool) → nat_lt n r ≡ b → n ≤ cond b r n
    here true less = omega (arith, ltb-true n r less)
    here false other = omega arith

greatest_grows : (n : ℕ) (es : List Entry) → n ≤ greatest_after n es
greatest_grows n [] = omega arith
greatest_grows n (e ∷ es) = omega (arith, grows n e, greatest_grows (greater n e) es)

reaches : (n r : ℕ) → r ≤ cond (nat_lt n r) r n
reaches n r = here (nat_lt n r) refl
  where
    here : (b : Bool) → nat_lt n r ≡ b → r ≤ cond b r n
    here true less = omega arith
    here false other = omega (arith, ltb-false n r other)

pub all_within : (n : ℕ) (es : List Entry) → AllByRecursion (λ d. d.0 < greatest_after n es + 1) (definitions_in es)
all_within n [] = tt
all_within n (Sample r t w ∷ es) = all_within n es
all_within n (Def r l ∷ es) = (omega (arith, reaches n r, greatest_grows (cond (nat_lt n r) r n) es), all_within (cond (nat_lt n r) r n) es)

-- ---- the entries of a map, and what it has of their keys

other_key : (k : ℕ) (o : Option TimeSeries) (es fs : Series) → AllByRecursion (λ y. nat_eq k y ≡ false) (keys_of fs) → AllByRecursion (λ e. lookup (nat_eq e.0) es ≡ Some e.1) fs
    → AllByRecursion (λ e. lookup (nat_eq e.0) ((k, o) ∷ es) ≡ Some e.1) fs
other_key k o es [] keys is = tt
other_key k o es (f ∷ fs) keys is = (
  ap (λ (b : Bool). cond b (Some o) (lookup (nat_eq f.0) es)) (ne_eqb f.0 k (λ same. let yes = eq-eqb k f.0 (sym same) in absurd (let no : nat_eq k f.0 ≡ false = keys.0 in cc))) ∙ is.0,
  other_key k o es fs keys.1 is.1,
)

each_found : (es : Series) → IsDistinct nat_eq (keys_of es) → AllByRecursion (λ e. lookup (nat_eq e.0) es ≡ Some e.1) es
unfolding IsDistinct
each_found [] apart = tt
each_found (e ∷ es) apart = (
  ap (λ (b : Bool). cond b (Some e.1) (lookup (nat_eq e.0) es)) (eq-eqb e.0 e.0 refl),
  other_key e.0 e.1 es es apart.0 (each_found es apart.1),
)

-- what is noted of a reference is one of the entries
IsEntry : Series → ℕ → Option TimeSeries → Type 0
IsEntry [] r o = ⊥
IsEntry (e ∷ es) r o = ((e.0 ≡ r) × (e.1 ≡ o)) ⊎ IsEntry es r o

is_entry : (es : Series) (r : ℕ) (o : Option TimeSeries) → lookup (nat_eq r) es ≡ Some o → IsEntry es r o
unfolding IsEntry
is_entry [] r o e = absurd (cc)
is_entry (x ∷ es) r o e = here (nat_eq r x.0) refl (λ is. is_entry es r o is) e
  where
    here : (b : Bool) → nat_eq r x.0 ≡ b → (lookup (nat_eq r) es ≡ Some o → IsEntry es r o) → cond b (Some x.1) (lookup (nat_eq r) es) ≡ Some o → ((x.0 ≡ r) × (x.1 ≡ o)) ⊎ IsEntry es r o
    here true same rest is = let set : x.1 ≡ o = cc in inl (sym (eqb-true r x.0 same), set)
    here false other rest is = inr (rest is)

one_entry : (P : ℕ → Option TimeSeries → Type 0) (es : Series) (r : ℕ) (o : Option TimeSeries) → AllByRecursion (λ e. P e.0 e.1) es → IsEntry es r o → P r o
unfolding IsEntry
one_entry P [] r o all one = absurd one
one_entry P (e ∷ es) r o all (inl same) = subst (P r) same.1 (subst (λ (n : ℕ). P n e.1) same.0 all.0)
one_entry P (e ∷ es) r o all (inr later) = one_entry P es r o all.1 later

-- ---- what is noted

-- a table with one more pair, or as it was
pair_kept : (n : ReferenceTable) (d : ℕ × Labels) (P : ReferenceTable → Type 0) → P n → P (record n { known = n.known ++ d ∷ [] }) → P (with_pair d n)
pair_kept n d P same more = by_test (list_any (λ p. labels_eq d.1 p.1) n.known)
  where
    by_test : (b : Bool) → P (cond b n (record n { known = n.known ++ d ∷ [] }))
    by_test true = same
    by_test false = more

note_kept : (n : ReferenceTable) (r : ℕ) (o : Option TimeSeries) (P : ReferenceTable → Type 0) → P n → ((s : TimeSeries) → o ≡ Some s → P (record n { known = n.known ++ (r, s.labels) ∷ [] })) → P (note_one n r o)
note_kept n r None P same more = same
note_kept n r (Some s) P same more = pair_kept n (r, s.labels) P same (more s refl)

-- each pair stands for its label set
noted_stands : (P : ℕ × Labels → Type 0) (n : ReferenceTable) (es : Series) → AllByRecursion P n.known → AllByRecursion (λ e. (s : TimeSeries) → e.1 ≡ Some s → P (e.0, s.labels)) es → AllByRecursion P (noted_from n es).known
noted_stands P n [] known each = known
noted_stands P n (e ∷ es) known each =
    noted_stands P (note_one n e.0 e.1) es
    (note_kept n e.0 e.1 (λ m. AllByRecursion P m.known) known (λ s is. all_both P n.known ((e.0, s.labels) ∷ []) known (each.0 s is, tt))) each.1

stays_noted : (n : ReferenceTable) (es : Series) (d : ℕ × Labels) → IsOneOf n.known d → IsOneOf (noted_from n es).known d
stays_noted n [] d one = one
stays_noted n (e ∷ es) d one =
    stays_noted (note_one n e.0 e.1) es d (note_kept n e.0 e.1 (λ m. IsOneOf m.known d) one (λ s is. one_left n.known ((e.0, s.labels) ∷ []) d one))

there_already : (l : Labels) (ps : Pairs) → list_any (λ p. labels_eq l p.1) ps ≡ true → (q : ℕ) × IsOneOf ps (q, l)
there_already l [] e = absurd (let no : false ≡ true = e in cc)
there_already l (p ∷ ps) e = here (labels_eq l p.1) refl (λ later. there_already l ps later) e
  where
    here : (b : Bool) → labels_eq l p.1 ≡ b → (list_any (λ p. labels_eq l p.1) ps ≡ true → (q : ℕ) × IsOneOf ps (q, l)) → (b || list_any (λ p. labels_eq l p.1) ps) ≡ true → (q : ℕ) × IsOneOf (p ∷ ps) (q, l)
    here true same rest is = (p.0, inl (ap (λ (m : Labels). (p.0, m)) (sym (same_if_equal l p.1 same))))
    here false other rest is = let found = rest is in (found.0, inr found.1)

-- a label set has a reference once it is noted
has_reference : (n : ReferenceTable) (d : ℕ × Labels) → (q : ℕ) × IsOneOf (with_pair d n).known (q, d.1)
has_reference n d = by_test (list_any (λ p. labels_eq d.1 p.1) n.known) refl
  where
    by_test : (b : Bool) → list_any (λ p. labels_eq d.1 p.1) n.known ≡ b → (q : ℕ) × IsOneOf (cond b n (record n { known = n.known ++ d ∷ [] })).known (q, d.1)
    by_test true is = there_already d.1 n.known is
    by_test false is = (d.0, one_right n.known (d ∷ []) d (inl refl))

HasOne : Pairs → Option TimeSeries → Type 0
HasOne known None = Unit {0}
HasOne known (Some s) = (q : ℕ) × IsOneOf known (q, s.labels)

one_now : (n : ReferenceTable) (r : ℕ) (o : Option TimeSeries) (es : Series) → HasOne (noted_from (note_one n r o) es).known o
unfolding HasOne
one_now n r None es = tt
one_now n r (Some s) es =
    let one = has_reference n (r, s.labels) in
    (one.0, stays_noted (with_pair (r, s.labels) n) es (one.0, s.labels) one.1)

all_have : (n : ReferenceTable) (es : Series) → AllByRecursion (λ e. HasOne (noted_from n es).known e.1) es
all_have n [] = tt
all_have n (e ∷ es) = (one_now n e.0 e.1 es, all_have (note_one n e.0 e.1) es)

-- ---- what may be noted

-- a series stands for labels that the log defines
stands_below : (taken : List Entry) (next r : ℕ) (s : TimeSeries) → AllByRecursion (λ d. d.0 < next) (definitions_in taken) → labels_of taken r (length taken) ≡ Some s.labels → r < next
stands_below taken next r s below e = one_of (λ d. d.0 < next) (definitions_in taken) (r, s.labels) below (is_definition taken r s.labels e)

-- no reference of the table is one of these
AreUnknown : Pairs → Series → Type 0
AreUnknown known es = AllByRecursion (λ e. AllByRecursion (λ p. p.0 ≢ e.0) known) es

unknown_next : (k : ℕ) (l : Labels) (known : Pairs) (es : Series) → AllByRecursion (λ y. nat_eq k y ≡ false) (keys_of es) → AreUnknown known es → AreUnknown (known ++ (k, l) ∷ []) es
unfolding AreUnknown
unknown_next k l known [] keys unknown = tt
unknown_next k l known (e ∷ es) keys unknown = (
  all_both (λ p. p.0 ≢ e.0) known ((k, l) ∷ []) unknown.0 (λ same. (let yes = eq-eqb k e.0 same in let no : nat_eq k e.0 ≡ false = keys.0 in absurd (cc)), tt),
  unknown_next k l known es keys.1 unknown.1,
)

can_note_one : (n : ReferenceTable) (r : ℕ) (o : Option TimeSeries) → n.fresh ≡ [] → AllByRecursion (λ p. p.0 ≢ r) n.known → ((s : TimeSeries) → o ≡ Some s → r < n.next) → CanNoteOne n r o
can_note_one n r None none unknown below = tt
can_note_one n r (Some s) none unknown below = (none, below s refl, unknown)

can_note : (n : ReferenceTable) (es : Series) → n.fresh ≡ [] → IsDistinct nat_eq (keys_of es) → AreUnknown n.known es → AllByRecursion (λ e. (s : TimeSeries) → e.1 ≡ Some s → e.0 < n.next) es → CanNote n es
unfolding IsDistinct AreUnknown
can_note n [] none apart unknown below = tt
can_note n (e ∷ es) none apart unknown below = (
  can_note_one n e.0 e.1 none unknown.0 below.0,
  can_note (note_one n e.0 e.1) es (note_kept n e.0 e.1 (λ m. m.fresh ≡ []) none (λ s is. none)) apart.1
      (note_kept n e.0 e.1 (λ m. AreUnknown m.known es) unknown.1 (λ s is. unknown_next e.0 s.labels n.known es apart.0 unknown.1))
      (note_kept n e.0 e.1 (λ m. AllByRecursion (λ e. (s : TimeSeries) → e.1 ≡ Some s → e.0 < m.next) es) below.1 (λ s is. below.1)),
)

-- ---- a log that is opened

stands_for : (taken : List Entry) (es : Series) → AreNames taken es → AllByRecursion (λ e. (s : TimeSeries) → e.1 ≡ Some s → labels_of taken e.0 (length taken) ≡ Some s.labels) es
stands_for taken es names =
    all_weaker (λ e. lookup (nat_eq e.0) es ≡ Some e.1) (λ e. (s : TimeSeries) → e.1 ≡ Some s → labels_of taken e.0 (length taken) ≡ Some s.labels) es
    (λ e found s is.
    subst (λ (o : Option (Option TimeSeries)). StandsFor Utf8 o (labels_of taken e.0 (length taken))) (found ∙ ap (λ (o : Option TimeSeries). Some o) is) (names.known e.0))
    (each_found es names.apart)

unknown_none : (es : Series) → AreUnknown [] es
unfolding AreUnknown
unknown_none [] = tt
unknown_none (e ∷ es) = (tt, unknown_none es)

pub can_note_log : (taken : List Entry) (es : Series) (next : ℕ) → AreNames taken es → next ≡ greatest_after 0 taken + 1 → CanNote (no_references next) es
can_note_log taken es next names is =
    let below : AllByRecursion (λ d. d.0 < next) (definitions_in taken) = subst (λ (n : ℕ). AllByRecursion (λ d. d.0 < n) (definitions_in taken)) (sym is) (all_within 0 taken) in
    can_note (no_references next) es refl names.apart (unknown_none es)
    (all_weaker (λ e. (s : TimeSeries) → e.1 ≡ Some s → labels_of taken e.0 (length taken) ≡ Some s.labels) (λ e. (s : TimeSeries) → e.1 ≡ Some s → e.0 < next) es
    (λ e stands s same. stands_below taken next e.0 s below (stands s same)) (stands_for taken es names))

same_next : (n : ReferenceTable) (es : Series) → (noted_from n es).next ≡ n.next
same_next n [] = refl
same_next n (e ∷ es) = same_next (note_one n e.0 e.1) es ∙ note_kept n e.0 e.1 (λ m. m.next ≡ n.next) refl (λ s is. refl)

pub none_fresh : (n : ReferenceTable) (es : Series) → n.fresh ≡ [] → (noted_from n es).fresh ≡ []
none_fresh n [] none = none
none_fresh n (e ∷ es) none = none_fresh (note_one n e.0 e.1) es (note_kept n e.0 e.1 (λ m. m.fresh ≡ []) none (λ s is. none))

all_stand : (taken : List Entry) (ps : Pairs) → AllByRecursion (λ p. labels_of taken p.0 (length taken) ≡ Some p.1) ps → StandFor taken ps
all_stand taken [] all = tt
all_stand taken (p ∷ ps) all = (all.0, all_stand taken ps all.1)

stand_all : (taken : List Entry) (ps : Pairs) → StandFor taken ps → AllByRecursion (λ p. labels_of taken p.0 (length taken) ≡ Some p.1) ps
stand_all taken [] all = tt
stand_all taken (p ∷ ps) all = (all.0, stand_all taken ps all.1)

-- a definition of a label set is known
known_one : (taken : List Entry) (es : Series) (known : Pairs) (r : ℕ) (l : Labels) (o : Option (Option TimeSeries)) → IsDefinedOnce taken → IsLabelSet Utf8 l → IsOneOf (definitions_in taken) (r, l)
    → StandFor taken known → AllByRecursion (λ e. HasOne known e.1) es → lookup (nat_eq r) es ≡ o → StandsFor Utf8 o (Some l) → IsOneOf known (r, l)
unfolding HasOne
known_one taken es known r l None once set one stand have is none = absurd (let e : Some l ≡ None = none in cc)
known_one taken es known r l (Some None) once set one stand have is bad =
    let same : bad.0 ≡ l = let e : Some l ≡ Some bad.0 = bad.1 in cc in
    let good : is_some (label_fault Utf8 bad.0) ≡ false = ap (λ (m : Labels). is_some (label_fault Utf8 m)) same ∙ ap is_some set in
    absurd (cc (bad.2, good))
known_one taken es known r l (Some (Some s)) once set one stand have is named =
    let same : s.labels ≡ l = let e : Some l ≡ Some s.labels = named in cc in
    let found = one_entry (λ q o. HasOne known o) es r (Some s) have (is_entry es r (Some s) is) in
    let there : IsOneOf known (found.0, l) = subst (λ (m : Labels). IsOneOf known (found.0, m)) same found.1 in
    let stands : labels_of taken found.0 (length taken) ≡ Some l = one_of (λ p. labels_of taken p.0 (length taken) ≡ Some p.1) known (found.0, l) (stand_all taken known stand) there in
    let place : found.0 ≡ r = same_reference (definitions_in taken) found.0 r l once (is_definition taken found.0 l stands) one in
    subst (λ (q : ℕ). IsOneOf known (q, l)) place there

pub noted_log : (taken : List Entry) (es : Series) (next : ℕ) → AreNames taken es → next ≡ greatest_after 0 taken + 1 → IsNoted taken (noted_from (no_references next) es)
noted_log taken es next names is =
    let n = noted_from (no_references next) es in
    let stand : StandFor taken (noted_from (no_references next) es).known =
    all_stand taken (noted_from (no_references next) es).known
    (noted_stands (λ p. labels_of taken p.0 (length taken) ≡ Some p.1) (no_references next) es tt (stands_for taken es names)) in
    record {
      stand = stand;
      below = subst (λ (k : ℕ). AllByRecursion (λ d. d.0 < k) (definitions_in taken)) (sym (same_next (no_references next) es ∙ is)) (all_within 0 taken);
      knows = λ once.
          all_weaker (IsOneOf (definitions_in taken)) (λ d. IsLabelSet Utf8 d.1 → IsOneOf (noted_from (no_references next) es).known d) (definitions_in taken)
          (λ d one set.
          known_one taken es (noted_from (no_references next) es).known d.0 d.1 (lookup (nat_eq d.0) es) once set one stand (all_have (no_references next) es) refl
          (subst (StandsFor Utf8 (lookup (nat_eq d.0) es)) (named_once taken d.0 d.1 once one) (names.known d.0)))
          (each_one (definitions_in taken));
    }

-- ---- series by series

pub can_one : (n : ReferenceTable) (es rest : Series) (r : ℕ) (s : TimeSeries) → CanNote n es → es ≡ (r, Some s) ∷ rest → (n.fresh ≡ []) × (r < n.next) × AllByRecursion (λ p. p.0 ≢ r) n.known
can_one n es rest r s can is = let both : CanNote n ((r, Some s) ∷ rest) = subst (CanNote n) is can in both.0

pub next_noted : (n new all : ReferenceTable) (es rest : Series) (r : ℕ) (s : TimeSeries) → CanNote n es → noted_from n es ≡ all → es ≡ (r, Some s) ∷ rest → new ≡ with_pair (r, s.labels) n
    → CanNote new rest × (noted_from new rest ≡ all)
next_noted n new all es rest r s can same is put =
    let both : CanNote n ((r, Some s) ∷ rest) = subst (CanNote n) is can in
    let later : noted_from n ((r, Some s) ∷ rest) ≡ all = subst (λ (x : Series). noted_from n x ≡ all) is same in
    subst (λ (m : ReferenceTable). CanNote m rest × (noted_from m rest ≡ all)) (sym put) (both.1, later)

pub next_skipped : (n all : ReferenceTable) (es rest : Series) (r : ℕ) → CanNote n es → noted_from n es ≡ all → es ≡ (r, None) ∷ rest → CanNote n rest × (noted_from n rest ≡ all)
next_skipped n all es rest r can same is =
    let both : CanNote n ((r, None) ∷ rest) = subst (CanNote n) is can in
    (both.1, subst (λ (x : Series). noted_from n x ≡ all) is same)
