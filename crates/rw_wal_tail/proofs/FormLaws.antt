-- Records whose form is judged: what is read is not kept.
use Rattle.std.proofs.Common.{◌≡◌, ℕ, suc, zero, ◌+◌, ◌-◌, ◌<◌, ◌≤◌, List, [], ◌∷◌, ◌++◌, length, Option, Some, None, ℤ, Bool, true, false, not, cond, ◌||◌, ◌==◌, is_some, subst, refl, sym, ap, ◌∙◌, arith}
use Rattle.std.specs.Int.{cast_signed, w64}
use Rattle.rw_types.specs.Labels.{Labels}
use Rattle.rw_types.specs.declared.entry.Entry.{Entry}
use Rattle.rw_wal_format.specs.Records.{◌then◌, all_of, label_at, label_list_at, definition_at, sample_at, series_entries, samples_at, sample_entries, eight_at, record_entries, is_skipped}
use Rattle.rw_wal_tail.specs.inner.Form.{Leaves, HasEntries}
use Rattle.rw_wal_tail.proofs.ItemLaws.{with_labels, labels_start, labels_step, labels_fail, labels_done, Left, left_start, left_step, left_done, left_fails}

-- some labels were read, and then those of the rest
abbrev pub LeftLabels : ℕ → ℕ → List ℕ → List ℕ → Type 0
LeftLabels n k bytes rest = (front : Labels) × (label_list_at n bytes ≡ with_labels front (label_list_at (n - k) rest))

pub skip_none : (n : ℕ) (bytes : List ℕ) → LeftLabels n 0 bytes bytes
skip_none n bytes = ([], labels_start [] n bytes refl)

pub skip_label : (n k : ℕ) (bytes bs rest : List ℕ) (x : List ℕ × List ℕ) → LeftLabels n k bytes bs → k < n → label_at bs ≡ Some (x, rest) → LeftLabels n (k + 1) bytes rest
skip_label n k bytes bs rest x l h e = (l.0 ++ x ∷ [], l.1 ∙ labels_step l.0 (l.0 ++ x ∷ []) n k bs rest x h e refl)

pub skip_fails : (n k : ℕ) (bytes bs : List ℕ) → LeftLabels n k bytes bs → k < n → label_at bs ≡ None → label_list_at n bytes ≡ None
skip_fails n k bytes bs l h e = l.1 ∙ labels_fail l.0 n k bs h e

pub skip_all : (n k : ℕ) (bytes bs : List ℕ) → LeftLabels n k bytes bs → n ≤ k → Leaves (label_list_at n bytes) bs
skip_all n k bytes bs l h = (l.0, l.1 ∙ labels_done l.0 n k bs h)

module _ (item : List ℕ → Option (Entry × List ℕ)) (bytes : List ℕ) where
  -- some entries were read, and then those of the rest
  abbrev pub LeftEntries : List ℕ → Type 0
  LeftEntries rest = (es : List Entry) × Left item bytes es rest

  pub pass_none : LeftEntries bytes
  pass_none = ([], left_start item bytes [] refl)

  pub pass_entry : (rest rest' : List ℕ) → LeftEntries rest → 0 < length rest → Leaves (item rest) rest' → length rest' < length rest → LeftEntries rest'
  pass_entry rest rest' l h e s = (l.0 ++ e.0 ∷ [], left_step item bytes l.0 (l.0 ++ e.0 ∷ []) e.0 rest rest' l.1 h e.1 s refl)

  pub pass_all : (rest : List ℕ) → LeftEntries rest → length rest ≡ 0 → true ≡ is_some (all_of item (length bytes) bytes)
  pass_all rest l h = ap is_some (sym (left_done item bytes l.0 rest l.1 h))

  pub pass_fails : (rest : List ℕ) → LeftEntries rest → 0 < length rest → item rest ≡ None → false ≡ is_some (all_of item (length bytes) bytes)
  pass_fails rest l h e = ap is_some (sym (left_fails item bytes l.0 rest l.1 h e))

-- ---- which records have entries

one_first : (x : Entry) (o : Option (List Entry)) (es : List Entry) → (o then λ more. Some (x ∷ more)) ≡ Some es → 0 < length es
one_first x None es e = absurd cc
one_first x (Some more) es e = let same : x ∷ more ≡ es = cc in subst (λ xs. 0 < length xs) same (omega arith)

some_first : (item : List ℕ → Option (Entry × List ℕ)) (k : ℕ) (o : Option (Entry × List ℕ)) (es : List Entry)
    → (o then λ first. all_of item k first.1 then λ more. Some (first.0 ∷ more)) ≡ Some es → 0 < length es
some_first item k None es e = absurd cc
some_first item k (Some x) es e = one_first x.0 (all_of item k x.1) es e

all_some : (item : List ℕ → Option (Entry × List ℕ)) (k : ℕ) (bs : List ℕ) (es : List Entry) → 0 < length bs → all_of item k bs ≡ Some es → 0 < length es
all_some item k [] es h e = absurd (omega arith)
all_some item zero (b ∷ bs) es h e = absurd cc
all_some item (suc k) (b ∷ bs) es h e = some_first item k (item (b ∷ bs)) es e

samples_some : (base : ℕ) (start : ℤ) (bs : List ℕ) (es : List Entry) → samples_at base start bs ≡ Some es → 0 < length es
samples_some base start [] es e = absurd cc
samples_some base start (b ∷ bs) es e = all_some (sample_at base start) (length (b ∷ bs)) (b ∷ bs) es (omega arith) e

started_some : (base : ℕ) (o : Option (ℕ × List ℕ)) (es : List Entry) → (o then λ start. samples_at base (cast_signed w64 start.0) start.1) ≡ Some es → 0 < length es
started_some base None es e = absurd cc
started_some base (Some x) es e = samples_some base (cast_signed w64 x.0) x.1 es e

based_some : (o : Option (ℕ × List ℕ)) (es : List Entry) → (o then λ base. eight_at base.1 then λ start. samples_at base.0 (cast_signed w64 start.0) start.1) ≡ Some es → 0 < length es
based_some None es e = absurd cc
based_some (Some x) es e = started_some x.0 (eight_at x.1) es e

entries_some : (bs : List ℕ) (es : List Entry) → 0 < length bs → sample_entries bs ≡ Some es → 0 < length es
entries_some [] es h e = absurd (omega arith)
entries_some (b ∷ bs) es h e = based_some (eight_at (b ∷ bs)) es e

kind_some : (kind : ℕ) (bs : List ℕ) (es : List Entry) (p q : Bool) → (kind == 1) ≡ p → (kind == 2) ≡ q → not (p || q) ≡ false → 0 < length bs
    → cond p (series_entries bs) (cond q (sample_entries bs) (Some [])) ≡ Some es → 0 < length es
kind_some kind bs es true q p' q' s h e = all_some definition_at (length bs) bs es h e
kind_some kind bs es false true p' q' s h e = entries_some bs es h e
kind_some kind bs es false false p' q' s h e = absurd cc

record_some : (d : List ℕ) (es : List Entry) → is_skipped d ≡ false → 1 < length d → record_entries d ≡ Some es → 0 < length es
unfolding record_entries
record_some [] es s h e = absurd (omega arith)
record_some (kind ∷ bs) es s h e = kind_some kind bs es (kind == 1) (kind == 2) refl refl s (omega arith) e

has_entries_by : (d : List ℕ) (o : Option (List Entry)) → record_entries d ≡ o → is_skipped d ≡ false → 1 < length d → is_some o ≡ true → HasEntries d
has_entries_by d None e s h i = absurd cc
has_entries_by d (Some es) e s h i = (es, e, record_some d es s h e)

-- a record of a known type has entries, if there are bytes after its type
pub has_entries : (d : List ℕ) → is_skipped d ≡ false → (length d ≡ 1 → ⊥) → is_some (record_entries d) ≡ true → HasEntries d
has_entries [] s h i = absurd cc
has_entries (kind ∷ []) s h i = absurd (h refl)
has_entries (kind ∷ b ∷ bs) s h i = has_entries_by (kind ∷ b ∷ bs) (record_entries (kind ∷ b ∷ bs)) refl s (omega arith) i

-- a record that is passed over has none
pub skipped_empty : (d : List ℕ) → is_skipped d ≡ true → record_entries d ≡ Some []
unfolding record_entries
skipped_empty [] s = refl
skipped_empty (kind ∷ bs) s = by_kind (kind == 1) (kind == 2) refl refl s
  where
    by_kind : (p q : Bool) → (kind == 1) ≡ p → (kind == 2) ≡ q → not (p || q) ≡ true → cond p (series_entries bs) (cond q (sample_entries bs) (Some [])) ≡ Some []
    by_kind true q p' q' s = absurd cc
    by_kind false true p' q' s = absurd cc
    by_kind false false p' q' s = refl

-- nor has one that is its type alone
pub lone_empty : (d : List ℕ) → length d ≡ 1 → record_entries d ≡ Some []
unfolding record_entries
lone_empty [] h = refl
lone_empty (kind ∷ []) h = by_kind (kind == 1) (kind == 2)
  where
    by_kind : (p q : Bool) → cond p (series_entries []) (cond q (sample_entries []) (Some [])) ≡ Some []
    by_kind true q = refl
    by_kind false true = refl
    by_kind false false = refl
lone_empty (kind ∷ b ∷ bs) h = absurd (omega arith)
