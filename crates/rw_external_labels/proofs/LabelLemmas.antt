-- Labels that are added in their places.
use Rattle.std.proofs.Common.{◌≡◌, ℕ, Bool, true, false, List, [], ◌∷◌, Option, Some, None, refl, sym, ap, ◌∙◌, subst, ◌&&◌, if◌then◌else◌}
use Rattle.std.specs.Cmp.{nat_cmp_total}
use Rattle.std.specs.Cmp.Lexicographic.{slice_cmp, lists_total}
use Rattle.std.specs.Option.{option_or}
use Rattle.std.specs.Ordering.{nat_cmp, ordering_reverse, is_lt, is_eq}
use Rattle.std.specs.Str.{bytes_eq}
use Rattle.std.specs.declared.cmp.Ordering.{Ordering}
use Rattle.std.specs.declared.cmp.Ordering.TheVariants.{Less, Equal, Greater}
use Rattle.std.proofs.lemmas.Map.Lookups.{exact_bytes}
use Rattle.std.proofs.lemmas.Map.Text.{is_eq-slice_cmp}
use Rattle.std.proofs.lemmas.Slice.Eq.{bytes_eq-Decides}
use Rattle.rw_types.specs.Labels.{Label, Labels, are_sorted, rise}
use Rattle.rw_external_labels.specs.External.{placed_by, with_label, with_labels}
use Rattle.rw_external_labels.specs.Laws.{value_at}

-- the order of two names
abbrev order : List ℕ → List ℕ → Ordering
order a b = slice_cmp nat_cmp a b

and_parts : (a b : Bool) → (a && b) ≡ true → (a ≡ true) × (b ≡ true)
and_parts true b e = (refl, e)
and_parts false b e = absurd cc

and_both : (a b : Bool) → a ≡ true → b ≡ true → (a && b) ≡ true
and_both true b e f = f
and_both false b e f = absurd cc

turned : (a b : List ℕ) → order a b ≡ Greater → is_lt (order b a) ≡ true
turned a b e = ap is_lt ((lists_total nat_cmp_total).antisymm b a ∙ ap ordering_reverse e)

-- ---- labels stay sorted
tail_sorted : (l : Label) (ls : Labels) → are_sorted (l ∷ ls) ≡ true → are_sorted ls ≡ true
tail_sorted l [] e = refl
tail_sorted l (m ∷ ls) e = (and_parts (rise l m) (are_sorted (m ∷ ls)) e).1

-- a label after another one, in its place among those that follow
after_by : (r : Ordering) (x l m : Label) (ls : Labels) → order x.0 m.0 ≡ r → rise l x ≡ true → are_sorted (l ∷ m ∷ ls) ≡ true
    → (rise m x ≡ true → are_sorted (m ∷ ls) ≡ true → are_sorted (m ∷ with_label ls x) ≡ true)
    → are_sorted (l ∷ placed_by r x m ls (with_label ls x)) ≡ true
after_by Less x l m ls is up e next =
    let parts = and_parts (rise l m) (are_sorted (m ∷ ls)) e in
    and_both (rise l x) (rise x m && are_sorted (m ∷ ls)) up (and_both (rise x m) (are_sorted (m ∷ ls)) (ap is_lt is) parts.1)
after_by Equal x l m ls is up e next = e
after_by Greater x l m ls is up e next =
    let parts = and_parts (rise l m) (are_sorted (m ∷ ls)) e in
    and_both (rise l m) (are_sorted (m ∷ with_label ls x)) parts.0 (next (turned x.0 m.0 is) parts.1)

after : (x l : Label) (ls : Labels) → rise l x ≡ true → are_sorted (l ∷ ls) ≡ true → are_sorted (l ∷ with_label ls x) ≡ true
after x l [] up e = and_both (rise l x) true up refl
after x l (m ∷ ls) up e = after_by (order x.0 m.0) x l m ls refl up e (λ u d. after x m ls u d)

one_sorted_by : (r : Ordering) (x m : Label) (ls : Labels) → order x.0 m.0 ≡ r → are_sorted (m ∷ ls) ≡ true
    → are_sorted (placed_by r x m ls (with_label ls x)) ≡ true
one_sorted_by Less x m ls is e = and_both (rise x m) (are_sorted (m ∷ ls)) (ap is_lt is) e
one_sorted_by Equal x m ls is e = e
one_sorted_by Greater x m ls is e = after x m ls (turned x.0 m.0 is) e

one_sorted : (x : Label) (ls : Labels) → are_sorted ls ≡ true → are_sorted (with_label ls x) ≡ true
one_sorted x [] e = refl
one_sorted x (m ∷ ls) e = one_sorted_by (order x.0 m.0) x m ls refl e

pub are_sorted-with_labels : (external ls : Labels) → are_sorted ls ≡ true → are_sorted (with_labels external ls) ≡ true
are_sorted-with_labels [] ls e = e
are_sorted-with_labels (x ∷ external) ls e = are_sorted-with_labels external (with_label ls x) (one_sorted x ls e)

-- ---- the value at each name
is_less : (r : Ordering) → is_lt r ≡ true → r ≡ Less
is_less Less e = refl
is_less Equal e = absurd cc
is_less Greater e = absurd cc

rise_on : (l m n : Label) → rise l m ≡ true → rise m n ≡ true → rise l n ≡ true
rise_on l m n up on =
    ap is_lt ((lists_total nat_cmp_total).trans l.0 m.0 n.0 (is_less (order l.0 m.0) up) (is_less (order m.0 n.0) on))

-- a name that comes later is another one
later : (l m : Label) → rise l m ≡ true → bytes_eq m.0 l.0 ≡ false
later l m up =
    let less : order l.0 m.0 ≡ Less = is_less (order l.0 m.0) up in
    let greater : order m.0 l.0 ≡ Greater = (lists_total nat_cmp_total).antisymm m.0 l.0 ∙ ap ordering_reverse less in
    sym (is_eq-slice_cmp m.0 l.0) ∙ ap is_eq greater

value_after : (b : Bool) (v : List ℕ) (o : Option (List ℕ)) → b ≡ false → o ≡ None → (if b then Some v else o) ≡ None
value_after true v o e is = absurd cc
value_after false v o e is = is

absent : (x l : Label) (ls : Labels) → rise x l ≡ true → are_sorted (l ∷ ls) ≡ true → value_at (l ∷ ls) x.0 ≡ None
absent x l [] up e = value_after (bytes_eq l.0 x.0) l.1 None (later x l up) refl
absent x l (m ∷ ls) up e =
    let parts = and_parts (rise l m) (are_sorted (m ∷ ls)) e in
    value_after (bytes_eq l.0 x.0) l.1 (value_at (m ∷ ls) x.0) (later x l up) (absent x m ls (rise_on x l m up parts.0) parts.1)

or_none : (o : Option (List ℕ)) → o ≡ option_or o None
or_none None = refl
or_none (Some v) = refl

less_value : (b : Bool) (v : List ℕ) (o : Option (List ℕ)) → (b ≡ true → o ≡ None) → (if b then Some v else o) ≡ option_or o (if b then Some v else None)
less_value true v o none = sym (ap (λ p. option_or p (Some v)) (none refl))
less_value false v o none = or_none o

equal_value : (b c : Bool) (v w : List ℕ) (o : Option (List ℕ)) → c ≡ b
    → (if b then Some v else o) ≡ option_or (if b then Some v else o) (if c then Some w else None)
equal_value true c v w o e = refl
equal_value false true v w o e = absurd cc
equal_value false false v w o e = or_none o

greater_value : (b : Bool) (v : List ℕ) (o p q : Option (List ℕ)) → p ≡ option_or o q
    → (if b then Some v else p) ≡ option_or (if b then Some v else o) q
greater_value true v o p q e = refl
greater_value false v o p q e = e

one_value_by : (r : Ordering) (x m : Label) (ls : Labels) (name : List ℕ) → order x.0 m.0 ≡ r → are_sorted (m ∷ ls) ≡ true
    → value_at (with_label ls x) name ≡ option_or (value_at ls name) (value_at (x ∷ []) name)
    → value_at (placed_by r x m ls (with_label ls x)) name ≡ option_or (value_at (m ∷ ls) name) (value_at (x ∷ []) name)
one_value_by Less x m ls name is e next =
    less_value (bytes_eq x.0 name) x.1 (value_at (m ∷ ls) name)
    (λ same. subst (λ n. value_at (m ∷ ls) n ≡ None) ((bytes_eq-Decides x.0 name).0 same) (absent x m ls (ap is_lt is) e))
one_value_by Equal x m ls name is e next =
    equal_value (bytes_eq m.0 name) (bytes_eq x.0 name) m.1 x.1 (value_at ls name) (ap (λ n. bytes_eq n name) (exact_bytes x.0 m.0 is))
one_value_by Greater x m ls name is e next =
    greater_value (bytes_eq m.0 name) m.1 (value_at ls name) (value_at (with_label ls x) name) (value_at (x ∷ []) name) next

one_value : (x : Label) (ls : Labels) (name : List ℕ) → are_sorted ls ≡ true
    → value_at (with_label ls x) name ≡ option_or (value_at ls name) (value_at (x ∷ []) name)
one_value x [] name e = refl
one_value x (m ∷ ls) name e = one_value_by (order x.0 m.0) x m ls name refl e (one_value x ls name (tail_sorted m ls e))

first_of : (b : Bool) (v : List ℕ) (o p : Option (List ℕ)) → option_or (option_or o (if b then Some v else None)) p ≡ option_or o (if b then Some v else p)
first_of b v (Some w) p = refl
first_of true v None p = refl
first_of false v None p = refl

pub value_at-with_labels : (external ls : Labels) (name : List ℕ) → are_sorted ls ≡ true
    → value_at (with_labels external ls) name ≡ option_or (value_at ls name) (value_at external name)
value_at-with_labels [] ls name e = or_none (value_at ls name)
value_at-with_labels (x ∷ external) ls name e =
    value_at-with_labels external (with_label ls x) name (one_sorted x ls e)
    ∙ ap (λ o. option_or o (value_at external name)) (one_value x ls name e)
    ∙ first_of (bytes_eq x.0 name) x.1 (value_at ls name) (value_at external name)
