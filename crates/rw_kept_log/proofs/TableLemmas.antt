-- The map that has the references of a table.
use Rattle.std.proofs.Common.{◌≡◌, ◌≢◌, inl, inr, ℕ, zero, suc, ◌+◌, ◌-◌, ◌^◌, ◌<◌, ◌≤◌, List, [], ◌∷◌, ◌++◌, length, map, take, drop, Bool, true, false, cond, ◌||◌, Option, Some, None, refl, sym, ap, ◌∙◌, subst, arith, append-nil, append_assoc, length-append, length-take, take-append-drop, eqb, eqb-true, eq-eqb, ne_eqb}
use Rattle.std.proofs.lemmas.List.{map-append, take-append-le, drop-append-le, take_all, length-drop}
use Rattle.std.proofs.Math.ListN.{drop_of_length-le}
use Rattle.std.specs.List.{AllByRecursion, slice_get, list_any}
use Rattle.std.specs.Prelude.{is_some}
use Rattle.std.specs.Map.{lookup}
use Rattle.indexmap.specs.IndexMap.{insert_entry}
use Rattle.rw_types.proofs.shared.OrderLemmas.{equal_if_same}
use Rattle.rw_types.specs.LabelOrder.{labels_eq}
use Rattle.rw_types.specs.Labels.{Labels, IsLabelSet}
use Rattle.rw_types.specs.inner.LabelOrder.{same_if_equal}
use Rattle.rw_types.specs.declared.names.Names.TheVariants.{Utf8}
use Rattle.rw_kept_log.specs.Definitions.{IsOther, AreApart, IsOneOf}
use Rattle.rw_kept_log.proofs.shared.DefinitionLemmas.{Pairs, all_weaker, all_front, all_both, all_zip, one_of, each_one, one_right, apart_front, apart_both}
use Rattle.rw_kept_log.proofs.ReferenceLemmas.{numbered_below, all_below}
use Rattle.rw_kept_log.proofs.PlaceLemmas.{numbered-push, pairs_more}
use Rattle.rw_kept_log.specs.References.{ReferenceTable, labels_in, labels_at, numbered, undefined, pairs_of, with_set, with_pair, only_defined, all_defined, IsTable}
use Rattle.rw_kept_log.specs.inner.References.{SetEntry, pair_of, set_of, table_of, HasTable}

abbrev Entries : Type 0
Entries = List SetEntry

-- ---- the references of a map

pub pairs_in : (es : Entries) (d next : ℕ) → HasTable es d next → pairs_of (table_of es d next) ≡ map pair_of es
pairs_in es d next h =
    ap (λ (ps : Pairs). map pair_of (take d es) ++ ps) (sym h.numbers) ∙ sym (map-append pair_of (take d es) (drop d es)) ∙ ap (map pair_of) (take-append-drop d es)

pub looked_up : (l : Labels) (es : Entries) (r : ℕ) → lookup (labels_eq l) es ≡ Some r → IsOneOf (map pair_of es) (r, l)
looked_up l [] r e = absurd (cc)
looked_up l (x ∷ es) r e = here (labels_eq l x.0) refl (λ is. looked_up l es r is) e
  where
    here : (b : Bool) → labels_eq l x.0 ≡ b → (lookup (labels_eq l) es ≡ Some r → IsOneOf (map pair_of es) (r, l)) → cond b (Some x.1) (lookup (labels_eq l) es) ≡ Some r → IsOneOf (map pair_of (x ∷ es)) (r, l)
    here true same rest is = let at : x.1 ≡ r = cc in inl (ap (λ (n : ℕ). (n, x.0)) at ∙ ap (λ (m : Labels). (r, m)) (sym (same_if_equal l x.0 same)))
    here false other rest is = inr (rest is)

pub is_there : (l : Labels) (es : Entries) (r : ℕ) → IsOneOf (map pair_of es) (r, l) → is_some (lookup (labels_eq l) es) ≡ true
is_there l [] r one = absurd one
is_there l (x ∷ es) r (inl same) =
    let alike : labels_eq l x.0 ≡ true = equal_if_same l x.0 (sym (ap (λ (p : ℕ × Labels). p.1) same)) in
    ap (λ (b : Bool). is_some (cond b (Some x.1) (lookup (labels_eq l) es))) alike
is_there l (x ∷ es) r (inr later) = here (labels_eq l x.0) (is_there l es r later)
  where
    here : (b : Bool) → is_some (lookup (labels_eq l) es) ≡ true → is_some (cond b (Some x.1) (lookup (labels_eq l) es)) ≡ true
    here true is = refl
    here false is = is

pub at_place : (es : Entries) (k r : ℕ) (l : Labels) → slice_get es k ≡ Some (l, r) → IsOneOf (map pair_of es) (r, l)
at_place [] k r l e = absurd (cc)
at_place (x ∷ es) zero r l e = let same : x ≡ (l, r) = cc in inl (ap pair_of same)
at_place (x ∷ es) (suc k) r l e = inr (at_place es k r l e)

-- a label set that is equal to the one at a place
pub equal_at : (es : Entries) (k r : ℕ) (x l : Labels) → slice_get es k ≡ Some (x, r) → labels_eq x l ≡ true → IsOneOf (map pair_of es) (r, l)
equal_at es k r x l at eq = subst (λ (m : Labels). IsOneOf (map pair_of es) (r, m)) (same_if_equal x l eq) (at_place es k r x at)

-- ---- the label set of a reference

pub named : (ps : Pairs) (r : ℕ) (l : Labels) → AreApart ps → IsOneOf ps (r, l) → labels_in ps r ≡ Some l
named [] r l apart one = absurd one
named (p ∷ ps) r l apart (inl same) =
    ap (λ (b : Bool). cond b (Some p.1) (labels_in ps r)) (eq-eqb p.0 r (ap (λ (x : ℕ × Labels). x.0) same)) ∙ ap (λ (x : ℕ × Labels). Some x.1) same
named (p ∷ ps) r l apart (inr later) =
    let other = (one_of (IsOther p) ps (r, l) apart.0 later).0 in
    ap (λ (b : Bool). cond b (Some p.1) (labels_in ps r)) (ne_eqb p.0 r other) ∙ named ps r l apart.1 later

pub is_one : (ps : Pairs) (r : ℕ) (l : Labels) → labels_in ps r ≡ Some l → IsOneOf ps (r, l)
is_one [] r l e = absurd (cc)
is_one (p ∷ ps) r l e = here (eqb p.0 r) refl (λ is. is_one ps r l is) e
  where
    here : (b : Bool) → eqb p.0 r ≡ b → (labels_in ps r ≡ Some l → IsOneOf ps (r, l)) → cond b (Some p.1) (labels_in ps r) ≡ Some l → IsOneOf (p ∷ ps) (r, l)
    here true same rest is = let set : p.1 ≡ l = cc in inl (ap (λ (n : ℕ). (n, p.1)) (eqb-true p.0 r same) ∙ ap (λ (m : Labels). (r, m)) set)
    here false other rest is = inr (rest is)

-- ---- an entry that is inserted

pub inserted_last : (es : Entries) (l : Labels) (r : ℕ) → is_some (lookup (labels_eq l) es) ≡ false → insert_entry labels_eq es l r ≡ es ++ (l, r) ∷ []
inserted_last [] l r none = refl
inserted_last (x ∷ es) l r none = here (labels_eq l x.0) (λ is. inserted_last es l r is) none
  where
    here : (b : Bool) → (is_some (lookup (labels_eq l) es) ≡ false → insert_entry labels_eq es l r ≡ es ++ (l, r) ∷ []) → is_some (cond b (Some x.1) (lookup (labels_eq l) es)) ≡ false
        → cond b ((x.0, r) ∷ es) (x ∷ insert_entry labels_eq es l r) ≡ (x ∷ es) ++ (l, r) ∷ []
    here true rest is = absurd (let t : true ≡ false = is in cc)
    here false rest is = ap (λ (ys : Entries). x ∷ ys) (rest is)

-- a label set that has no reference is not in the map
pub not_there : (es : Entries) (l : Labels) (b : Bool) → is_some (lookup (labels_eq l) es) ≡ b → ((r : ℕ) → IsOneOf (map pair_of es) (r, l) → ⊥) → b ≡ false
not_there es l b is none = here (lookup (labels_eq l) es) refl b is
  where
    here : (o : Option ℕ) → lookup (labels_eq l) es ≡ o → (b : Bool) → is_some o ≡ b → b ≡ false
    here None e b is = sym is
    here (Some r) e b is = absurd (none r (looked_up l es r e))

apart_push : (ps : Pairs) (p : ℕ × Labels) → AreApart ps → AllByRecursion (λ x. IsOther x p) ps → AreApart (ps ++ p ∷ [])
apart_push ps p apart others = apart_both ps (p ∷ []) apart (tt, tt) (all_weaker (λ x. IsOther x p) (λ x. AllByRecursion (IsOther x) (p ∷ [])) ps (λ x other. (other, tt)) others)

-- none of the label sets is this one
pub other_sets : (ps : Pairs) (l : Labels) → ((r : ℕ) → IsOneOf ps (r, l) → ⊥) → AllByRecursion (λ x. x.1 ≢ l) ps
other_sets ps l none = all_weaker (IsOneOf ps) (λ x. x.1 ≢ l) ps (λ x one same. none x.0 (subst (λ (m : Labels). IsOneOf ps (x.0, m)) same one)) (each_one ps)

apart_from : (ps : Pairs) (q : ℕ) (l : Labels) → AllByRecursion (λ p. p.0 ≢ q) ps → AllByRecursion (λ x. x.1 ≢ l) ps → AllByRecursion (λ x. IsOther x (q, l)) ps
apart_from ps q l refs sets = all_zip (λ p. p.0 ≢ q) (λ x. x.1 ≢ l) (λ x. IsOther x (q, l)) ps (λ x a b. (a, b)) refs sets

-- a label set that comes
pub table_more : (n : ReferenceTable) (l : Labels) → IsTable n → IsLabelSet Utf8 l → ((r : ℕ) → IsOneOf (pairs_of n) (r, l) → ⊥) → IsTable (with_set l n)
table_more n l t set none =
    let q = n.next + length n.fresh in
    let refs : AllByRecursion (λ p. p.0 ≢ n.next + length n.fresh) (pairs_of n) =
    all_both (λ p. p.0 ≢ n.next + length n.fresh) n.known (undefined n) (all_weaker (λ p. p.0 < n.next) (λ p. p.0 ≢ n.next + length n.fresh) n.known (λ p less same. omega (arith, less, same)) t.below)
    (all_weaker (λ p. p.0 < n.next + length n.fresh) (λ p. p.0 ≢ n.next + length n.fresh) (undefined n) (λ p less same. omega (arith, less, same)) (numbered_below n.next n.fresh)) in
    record {
      apart = subst AreApart (sym (pairs_more n l)) (apart_push (pairs_of n) (q, l) t.apart (apart_from (pairs_of n) q l refs (other_sets (pairs_of n) l none)));
      below = t.below;
      are = subst (AllByRecursion (λ p. IsLabelSet Utf8 p.1)) (sym (pairs_more n l)) (all_both (λ p. IsLabelSet Utf8 p.1) (pairs_of n) ((q, l) ∷ []) t.are (set, tt));
    }

-- the table of a map with one more entry
grown_is : (es : Entries) (d next q : ℕ) (l : Labels) → d ≤ length es → table_of (es ++ (l, q) ∷ []) d next ≡ with_set l (table_of es d next)
grown_is es d next q l le =
    ap (λ (ks : Entries). record { known = map pair_of ks; next = next; fresh = map set_of (drop d (es ++ (l, q) ∷ [])) }) (take-append-le d es ((l, q) ∷ []) le)
    ∙ ap (λ (fs : List Labels). record { known = map pair_of (take d es); next = next; fresh = fs }) (ap (map set_of) (drop-append-le d es ((l, q) ∷ []) le) ∙ map-append set_of (drop d es) ((l, q) ∷ []))

length-map_set : (es : Entries) → length (map set_of es) ≡ length es
length-map_set [] = refl
length-map_set (e ∷ es) = ap suc (length-map_set es)

pub grown : (es fs : Entries) (d next q : ℕ) (l : Labels) → HasTable es d next → IsLabelSet Utf8 l → ((r : ℕ) → IsOneOf (map pair_of es) (r, l) → ⊥) → q ≡ next + (length es - d) → fs ≡ es ++ (l, q) ∷ []
    → HasTable fs d next
grown es fs d next q l h set none at more =
    let place : q ≡ next + length (map set_of (drop d es)) = omega (arith, at, length-map_set (drop d es), length-drop d es) in
    subst (λ (x : Entries). HasTable x d next) (sym more) (record {
      within = omega (arith, h.within, length-append es ((l, q) ∷ []));
      bound = h.bound;
      numbers =
          ap (map pair_of) (drop-append-le d es ((l, q) ∷ []) h.within)
          ∙ map-append pair_of (drop d es) ((l, q) ∷ [])
          ∙ ap (λ (ps : Pairs). ps ++ (q, l) ∷ []) h.numbers
          ∙ ap (λ (k : ℕ). numbered next (map set_of (drop d es)) ++ (k, l) ∷ []) place
          ∙ sym (numbered-push next (map set_of (drop d es)) l)
          ∙ sym (ap (numbered next) (ap (map set_of) (drop-append-le d es ((l, q) ∷ []) h.within) ∙ map-append set_of (drop d es) ((l, q) ∷ [])));
      table =
          subst IsTable (sym (grown_is es d next q l h.within))
          (table_more (table_of es d next) l h.table set (λ r one. none r (subst (λ (ps : Pairs). IsOneOf ps (r, l)) (pairs_in es d next h) one)));
    })

pub grown_table : (es fs : Entries) (d next q : ℕ) (l : Labels) → HasTable es d next → fs ≡ es ++ (l, q) ∷ [] → table_of fs d next ≡ with_set l (table_of es d next)
grown_table es fs d next q l h more = ap (λ (x : Entries). table_of x d next) more ∙ grown_is es d next q l h.within

-- ---- references that the log defines

any_known : (l : Labels) (es : Entries) → list_any (λ p. labels_eq l p.1) (map pair_of es) ≡ is_some (lookup (labels_eq l) es)
any_known l [] = refl
any_known l (x ∷ es) = here (labels_eq l x.0) (any_known l es)
  where
    here : (b : Bool) → list_any (λ p. labels_eq l p.1) (map pair_of es) ≡ is_some (lookup (labels_eq l) es)
        → (b || list_any (λ p. labels_eq l p.1) (map pair_of es)) ≡ is_some (cond b (Some x.1) (lookup (labels_eq l) es))
    here true e = refl
    here false e = e

none_fresh : (es : Entries) (d : ℕ) → d ≤ length es → map set_of (drop d es) ≡ [] → length es ≤ d
none_fresh es d le none = omega (arith, le, sym (length-map_set (drop d es)), ap length none, length-drop d es)

known_any : (es : Entries) (d next : ℕ) (l : Labels) → HasTable es d next → map set_of (drop d es) ≡ []
    → list_any (λ p. labels_eq l p.1) (map pair_of (take d es)) ≡ is_some (lookup (labels_eq l) es)
known_any es d next l h none = ap (λ (ks : Entries). list_any (λ p. labels_eq l p.1) (map pair_of ks)) (take_all d es (none_fresh es d h.within none)) ∙ any_known l es

-- a label set that has a reference keeps it
pub noted_before : (es : Entries) (d next r : ℕ) (l : Labels) → HasTable es d next → map set_of (drop d es) ≡ [] → is_some (lookup (labels_eq l) es) ≡ true
    → table_of es d next ≡ with_pair (r, l) (table_of es d next)
noted_before es d next r l h none there =
    let n = table_of es d next in
    ap (λ (b : Bool). cond b (table_of es d next) (record { known = map pair_of (take d es) ++ (r, l) ∷ []; next = next; fresh = map set_of (drop d es) })) (sym (known_any es d next l h none ∙ there))

-- the table of a map whose label sets are all defined
all_known : (es : Entries) (len next : ℕ) → length es ≤ len → table_of es len next ≡ record { known = map pair_of es; next = next; fresh = [] }
all_known es len next le =
    ap (λ (ks : Entries). record { known = map pair_of ks; next = next; fresh = map set_of (drop len es) }) (take_all len es le)
    ∙ ap (λ (fs : Entries). record { known = map pair_of es; next = next; fresh = map set_of fs }) (drop_of_length-le es le)

no_numbers : (es : Entries) (len next : ℕ) → length es ≤ len → map pair_of (drop len es) ≡ numbered next (map set_of (drop len es))
no_numbers es len next le =
    let none : drop len es ≡ [] = drop_of_length-le es le in
    ap (map pair_of) none ∙ sym (ap (λ (x : Entries). numbered next (map set_of x)) none)

-- a table without new label sets
known_table : (ps : Pairs) (next : ℕ) → AreApart ps → AllByRecursion (λ p. p.0 < next) ps → AllByRecursion (λ p. IsLabelSet Utf8 p.1) ps → IsTable (record { known = ps; next = next; fresh = [] })
known_table ps next apart below are = record {
  apart = subst AreApart (sym (append-nil ps)) apart;
  below = below;
  are = subst (AllByRecursion (λ p. IsLabelSet Utf8 p.1)) (sym (append-nil ps)) are;
}

pub noted_table : (es fs : Entries) (d next r len : ℕ) (l : Labels) → HasTable es d next → map set_of (drop d es) ≡ [] → is_some (lookup (labels_eq l) es) ≡ false → fs ≡ insert_entry labels_eq es l r → len ≡ length es
    → table_of fs (len + 1) next ≡ with_pair (r, l) (table_of es d next)
noted_table es fs d next r len l h none absent put is =
    let more : fs ≡ es ++ (l, r) ∷ [] = put ∙ inserted_last es l r absent in
    let size : length fs ≤ len + 1 = omega (arith, is, ap length more, length-append es ((l, r) ∷ [])) in
    let whole : take d es ≡ es = take_all d es (none_fresh es d h.within none) in
    all_known fs (len + 1) next size
    ∙ ap (λ (ps : Pairs). record { known = ps; next = next; fresh = [] }) (ap (map pair_of) more ∙ map-append pair_of es ((l, r) ∷ []) ∙ ap (λ (x : Entries). map pair_of x ++ (r, l) ∷ []) (sym whole))
    ∙ ap (λ (ls : List Labels). record { known = map pair_of (take d es) ++ (r, l) ∷ []; next = next; fresh = ls }) (sym none)
    ∙ ap (λ (b : Bool). cond b (table_of es d next) (record { known = map pair_of (take d es) ++ (r, l) ∷ []; next = next; fresh = map set_of (drop d es) })) (sym (known_any es d next l h none ∙ absent))

pub noted : (es fs : Entries) (d next r len : ℕ) (l : Labels) → HasTable es d next → map set_of (drop d es) ≡ [] → r < next → AllByRecursion (λ p. p.0 ≢ r) (map pair_of (take d es)) → IsLabelSet Utf8 l
    → is_some (lookup (labels_eq l) es) ≡ false → fs ≡ insert_entry labels_eq es l r → len ≡ length es → HasTable fs (len + 1) next
noted es fs d next r len l h none less unknown set absent put is =
    let more : fs ≡ es ++ (l, r) ∷ [] = put ∙ inserted_last es l r absent in
    let size : length fs ≡ len + 1 = omega (arith, is, ap length more, length-append es ((l, r) ∷ [])) in
    let le : length fs ≤ len + 1 = omega (arith, size) in
    let whole : map pair_of (take d es) ≡ map pair_of es = ap (map pair_of) (take_all d es (none_fresh es d h.within none)) in
    let there = pairs_in es d next h in
    let apart : AreApart (map pair_of es) = subst AreApart there h.table.apart in
    let sets : AllByRecursion (λ x. x.1 ≢ l) (map pair_of es) = other_sets (map pair_of es) l (λ q one. let yes = is_there l es q one in absurd (cc)) in
    let refs : AllByRecursion (λ p. p.0 ≢ r) (map pair_of es) = subst (AllByRecursion (λ p. p.0 ≢ r)) whole unknown in
    let pairs : map pair_of fs ≡ map pair_of es ++ (r, l) ∷ [] = ap (map pair_of) more ∙ map-append pair_of es ((l, r) ∷ []) in
    record {
      within = omega (arith, size);
      bound = omega (arith, h.bound, h.within, is);
      numbers = no_numbers fs (len + 1) next le;
      table =
          subst IsTable (sym (all_known fs (len + 1) next le))
          (known_table (map pair_of fs) next (subst AreApart (sym pairs) (apart_push (map pair_of es) (r, l) apart (apart_from (map pair_of es) r l refs sets)))
          (subst (AllByRecursion (λ p. p.0 < next)) (sym pairs) (all_both (λ p. p.0 < next) (map pair_of es) ((r, l) ∷ []) (subst (AllByRecursion (λ p. p.0 < next)) whole h.table.below) (less, tt)))
          (subst (AllByRecursion (λ p. IsLabelSet Utf8 p.1)) (sym pairs)
          (all_both (λ p. IsLabelSet Utf8 p.1) (map pair_of es) ((r, l) ∷ []) (subst (AllByRecursion (λ p. IsLabelSet Utf8 p.1)) there h.table.are) (set, tt))));
    }

-- ---- all definitions are written, or none

pub committed_table : (es : Entries) (d next len later : ℕ) → HasTable es d next → len ≡ length es → later ≡ next + (len - d) → table_of es len later ≡ all_defined (table_of es d next)
committed_table es d next len later h is at =
    let place : later ≡ next + length (map set_of (drop d es)) = omega (arith, at, is, length-map_set (drop d es), length-drop d es) in
    all_known es len later (omega (arith, is))
    ∙ ap (λ (ps : Pairs). record { known = ps; next = later; fresh = [] }) (sym (pairs_in es d next h))
    ∙ ap (λ (k : ℕ). record { known = pairs_of (table_of es d next); next = k; fresh = [] }) place

pub committed : (es : Entries) (d next len later : ℕ) → HasTable es d next → len ≡ length es → later ≡ next + (len - d) → HasTable es len later
committed es d next len later h is at =
    let n = table_of es d next in
    let le : length es ≤ len = omega (arith, is) in
    let place : later ≡ next + length (map set_of (drop d es)) = omega (arith, at, is, length-map_set (drop d es), length-drop d es) in
    let there = pairs_in es d next h in
    let below : AllByRecursion (λ p. p.0 < later) (pairs_of (table_of es d next)) =
    subst (λ (k : ℕ). AllByRecursion (λ p. p.0 < k) (pairs_of (table_of es d next))) (sym place) (all_below (table_of es d next) (map pair_of (take d es)) h.table.below) in
    record {
      within = omega (arith, is);
      bound = omega (arith, at, is, h.bound, h.within);
      numbers = no_numbers es len later le;
      table =
          subst IsTable (sym (all_known es len later le))
          (known_table (map pair_of es) later (subst AreApart there h.table.apart) (subst (AllByRecursion (λ p. p.0 < later)) there below) (subst (AllByRecursion (λ p. IsLabelSet Utf8 p.1)) there h.table.are));
    }

pub aborted_table : (es fs : Entries) (d next : ℕ) → HasTable es d next → fs ≡ take d es → table_of fs d next ≡ only_defined (table_of es d next)
aborted_table es fs d next h is =
    let size : length fs ≤ d = omega (arith, ap length is, length-take d es) in
    all_known fs d next size ∙ ap (λ (x : Entries). record { known = map pair_of x; next = next; fresh = [] }) is

pub aborted : (es fs : Entries) (d next : ℕ) → HasTable es d next → fs ≡ take d es → HasTable fs d next
aborted es fs d next h is =
    let size : length fs ≡ d = omega (arith, ap length is, length-take d es, h.within) in
    let le : length fs ≤ d = omega (arith, size) in
    record {
      within = omega (arith, size);
      bound = h.bound;
      numbers = no_numbers fs d next le;
      table =
          subst IsTable (sym (aborted_table es fs d next h is))
          (known_table (map pair_of (take d es)) next (apart_front (map pair_of (take d es)) (numbered next (map set_of (drop d es))) h.table.apart) h.table.below
          (all_front (λ p. IsLabelSet Utf8 p.1) (map pair_of (take d es)) (numbered next (map set_of (drop d es))) h.table.are));
    }

pub begun : (es : Entries) (next : ℕ) → es ≡ [] → next ≤ 2 ^ 63 → HasTable es 0 next
begun es next none le = subst (λ (x : Entries). HasTable x 0 next) (sym none) (record {
  within = omega arith;
  bound = omega (arith, le);
  numbers = refl;
  table = known_table [] next tt tt tt;
})

-- ---- the table that contracts see

pub in_table : (es : Entries) (d next r : ℕ) (l : Labels) (n : ReferenceTable) → HasTable es d next → table_of es d next ≡ n → IsOneOf (map pair_of es) (r, l) → IsOneOf (pairs_of n) (r, l)
in_table es d next r l n h is one =
    subst (λ (m : ReferenceTable). IsOneOf (pairs_of m) (r, l)) is (subst (λ (ps : Pairs). IsOneOf ps (r, l)) (sym (pairs_in es d next h)) one)

pub out_table : (es : Entries) (d next r : ℕ) (l : Labels) (n : ReferenceTable) → HasTable es d next → table_of es d next ≡ n → IsOneOf (pairs_of n) (r, l) → IsOneOf (map pair_of es) (r, l)
out_table es d next r l n h is one =
    subst (λ (ps : Pairs). IsOneOf ps (r, l)) (pairs_in es d next h) (subst (λ (m : ReferenceTable). IsOneOf (pairs_of m) (r, l)) (sym is) one)

-- a label set that a look-up does not find has no reference
pub not_found : (es : Entries) (d next r : ℕ) (l : Labels) (n : ReferenceTable) → HasTable es d next → table_of es d next ≡ n → None ≡ lookup (labels_eq l) es → IsOneOf (pairs_of n) (r, l) → ⊥
not_found es d next r l n h is none one =
    let there = is_there l es r (out_table es d next r l n h is one) in
    let no : false ≡ is_some (lookup (labels_eq l) es) = ap is_some none in
    absurd (cc)

no_pair : (es : Entries) (d next : ℕ) (l : Labels) (n : ReferenceTable) → HasTable es d next → table_of es d next ≡ n → ((r : ℕ) → labels_at n r ≡ Some l → ⊥) → (r : ℕ) → IsOneOf (map pair_of es) (r, l) → ⊥
no_pair es d next l n h is none r one =
    none r (ap (λ (m : ReferenceTable). labels_at m r) (sym is) ∙ named (pairs_of (table_of es d next)) r l h.table.apart (in_table es d next r l (table_of es d next) h refl one))

pub is_last : (es fs : Entries) (d next q : ℕ) (l k : Labels) (n : ReferenceTable) → HasTable es d next → table_of es d next ≡ n → ((r : ℕ) → labels_at n r ≡ Some l → ⊥) → k ≡ l → fs ≡ insert_entry labels_eq es k q
    → fs ≡ es ++ (l, q) ∷ []
is_last es fs d next q l k n h is none same put =
    put ∙ ap (λ (x : Labels). insert_entry labels_eq es x q) same ∙ inserted_last es l q (not_there es l (is_some (lookup (labels_eq l) es)) refl (no_pair es d next l n h is none))

pub table_grown : (es fs : Entries) (d next len q : ℕ) (l k : Labels) (n : ReferenceTable) → HasTable es d next → table_of es d next ≡ n → IsLabelSet Utf8 l → ((r : ℕ) → labels_at n r ≡ Some l → ⊥) → k ≡ l
    → fs ≡ insert_entry labels_eq es k q → len ≡ length es → q ≡ next + (len - d) → HasTable fs d next
table_grown es fs d next len q l k n h is set none same put size at =
    grown es fs d next q l h set (no_pair es d next l n h is none) (at ∙ ap (λ (m : ℕ). next + (m - d)) size) (is_last es fs d next q l k n h is none same put)

pub last_named : (es fs : Entries) (d next q : ℕ) (l : Labels) → HasTable fs d next → fs ≡ es ++ (l, q) ∷ [] → labels_at (table_of fs d next) q ≡ Some l
last_named es fs d next q l h more =
    named (pairs_of (table_of fs d next)) q l h.table.apart
    (in_table fs d next q l (table_of fs d next) h refl
    (subst (λ (ps : Pairs). IsOneOf ps (q, l)) (sym (ap (map pair_of) more ∙ map-append pair_of es ((l, q) ∷ []))) (one_right (map pair_of es) ((q, l) ∷ []) (q, l) (inl refl))))

-- ---- loops

pub definitions_next : (old new : Pairs) (e : SetEntry) (before rest : Entries) (all : Pairs) → old ++ map pair_of before ≡ all → before ≡ e ∷ rest → new ≡ old ++ pair_of e ∷ [] → new ++ map pair_of rest ≡ all
definitions_next old new e before rest all is first more =
    ap (λ (ps : Pairs). ps ++ map pair_of rest) more
    ∙ append_assoc old (pair_of e ∷ []) (map pair_of rest)
    ∙ ap (λ (x : Entries). old ++ map pair_of x) (sym first)
    ∙ is
