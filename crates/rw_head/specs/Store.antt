-- What a head holds: the samples of each label set, in order.
use Rattle.std.specs.Prelude.{◌≡◌, ◌≢◌, ℕ, List, [], ◌∷◌, length, sum_by, Some, unwrap_or}
use Rattle.std.specs.FinMap.{FinMap, get, insert, remove, entries, keys, values}
use Rattle.std.specs.List.{AllByRecursion}
use Rattle.rw_types.specs.Labels.{Labels}
use Rattle.rw_types.specs.LabelOrder.{labels_cmp}
use Rattle.rw_head.specs.Order.{Point}

-- no label set has the empty list: it is absent instead
abbrev pub Store : Type 0
Store = FinMap labels_cmp (List Point)

-- the samples of a label set; an absent one has none
abbrev pub list_of : Store → Labels → List Point
list_of store l = unwrap_or (get store l) []

-- the store with this list for the label set
abbrev pub with_list : Labels → List Point → Store → Store
with_list l [] store = remove store l
with_list l (x ∷ xs) store = insert store l (x ∷ xs)

-- all its samples
abbrev pub total : Store → ℕ
total store = sum_by length (values store)

-- those that have samples, by byte order of their lists of (name, value)
abbrev pub label_sets : Store → List Labels
label_sets store = keys store

-- the same with their samples
abbrev pub held_series : Store → List (Labels × List Point)
held_series store = entries store

-- each has the samples of its label set
abbrev pub AreListsOf : Store → List (Labels × List Point) → Type 0
AreListsOf store series = AllByRecursion (λ s. list_of store s.0 ≡ s.1) series

-- each label set in it has samples
abbrev pub HasNoEmptyList : Store → Type 0
HasNoEmptyList store = (l : Labels) → get store l ≢ Some []
