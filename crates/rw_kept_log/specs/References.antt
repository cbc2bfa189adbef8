-- References that stand for label sets in a log.
use Rattle.std.specs.Prelude.{◌≡◌, ◌⊎◌, ◌<◌, ℕ, suc, ◌+◌, ℤ, List, [], ◌∷◌, ◌++◌, length, Option, Some, None, ◌==◌, if◌then◌else◌}
use Rattle.std.specs.List.{AllByRecursion, list_any}
use Rattle.rw_types.specs.LabelOrder.{labels_eq}
use Rattle.rw_types.specs.Labels.{Labels, IsLabelSet}
use Rattle.rw_types.specs.declared.entry.Entry.{Entry}
use Rattle.rw_types.specs.declared.names.Names.TheVariants.{Utf8}
use Rattle.rw_wal_format.specs.Series.{has_labels, labels_of}
use Rattle.rw_kept_log.specs.Additions.{Point}
use Rattle.rw_kept_log.specs.Definitions.{definitions_in, AreApart, IsDefinedOnce, IsOneOf}

-- The references that a log defines, with their label sets; and label sets that have come since:
-- the log has no definition of them, and they have the references from the next one on.
pub record ReferenceTable : Type 0 where
  pub known : List (ℕ × List (List ℕ × List ℕ))
  pub next : ℕ
  pub fresh : List (List (List ℕ × List ℕ))

-- label sets with the references from one on
abbrev pub numbered : ℕ → List Labels → List (ℕ × Labels)
numbered r [] = []
numbered r (l ∷ ls) = (r, l) ∷ numbered (suc r) ls

-- the definitions that the log does not have
abbrev pub undefined : ReferenceTable → List (ℕ × Labels)
undefined n = numbered n.next n.fresh

-- each reference, with its label set
abbrev pub pairs_of : ReferenceTable → List (ℕ × Labels)
pairs_of n = n.known ++ undefined n

-- the label set of a reference
abbrev pub labels_in : List (ℕ × Labels) → ℕ → Option Labels
labels_in [] r = None
labels_in (p ∷ ps) r = if p.0 == r then Some p.1 else labels_in ps r

abbrev pub labels_at : ReferenceTable → ℕ → Option Labels
labels_at n r = labels_in (pairs_of n) r

-- the log defines one more reference, unless its label set has one already
abbrev pub with_pair : ℕ × Labels → ReferenceTable → ReferenceTable
with_pair d n = if list_any (λ p. labels_eq d.1 p.1) n.known then n else record n { known = n.known ++ d ∷ [] }

-- one more label set, which is not defined
abbrev pub with_set : Labels → ReferenceTable → ReferenceTable
with_set l n = record n { fresh = n.fresh ++ l ∷ [] }

-- this label set has come, or nothing has changed
abbrev pub Grows : Labels → ReferenceTable → ReferenceTable → Type 0
Grows l old new = (new ≡ old) ⊎ (new ≡ with_set l old)

-- those without a definition are removed
abbrev pub only_defined : ReferenceTable → ReferenceTable
only_defined n = record n { fresh = [] }

-- the log has all definitions
abbrev pub all_defined : ReferenceTable → ReferenceTable
all_defined n = record { known = pairs_of n; next = n.next + length n.fresh; fresh = [] }

-- No two references have the same label set, no label set has two, those that the log defines come
-- before the next one, and all label sets are such.
pub record IsTable (n : ReferenceTable) : Type 0 where
  pub apart : AreApart (pairs_of n)
  pub below : AllByRecursion (λ p. p.0 < n.next) n.known
  pub are : AllByRecursion (λ p. IsLabelSet Utf8 p.1) (pairs_of n)

-- after these entries, each of these references stands for its label set
abbrev pub StandFor : List Entry → List (ℕ × Labels) → Type 0
StandFor es [] = Unit {0}
StandFor es (p ∷ ps) = (labels_of es p.0 (length es) ≡ Some p.1) × StandFor es ps

-- each of these definitions of a label set is known
abbrev pub KnowsAll : List (ℕ × Labels) → List (ℕ × Labels) → Type 0
KnowsAll ds known = AllByRecursion (λ d. IsLabelSet Utf8 d.1 → IsOneOf known d) ds

-- The references of a log: they stand for their label sets, the log has none from the next one on,
-- and if it defines each label set once, all that it defines is known.
pub record IsNoted (es : List Entry) (n : ReferenceTable) : Type 0 where
  pub stand : StandFor es n.known
  pub below : AllByRecursion (λ d. d.0 < n.next) (definitions_in es)
  pub knows : IsDefinedOnce es → KnowsAll (definitions_in es) n.known

-- the reference of each sample is one of these
abbrev pub AreReferenced : ReferenceTable → List (ℕ × ℤ × ℕ) → Type 0
AreReferenced n [] = Unit {0}
AreReferenced n (s ∷ ss) = ((l : Labels) × (labels_at n s.0 ≡ Some l)) × AreReferenced n ss

-- those of a label set
abbrev pub points_of : ReferenceTable → Labels → List (ℕ × ℤ × ℕ) → List Point
points_of n l [] = []
points_of n l (s ∷ ss) = if has_labels l (labels_at n s.0) then (s.1, s.2) ∷ points_of n l ss else points_of n l ss
