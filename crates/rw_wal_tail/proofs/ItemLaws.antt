-- Items read one after the other.
use Rattle.std.proofs.Common.{◌≡◌, Bool, true, false, ◌==◌, drop, get_or, ℕ, zero, suc, ◌+◌, ◌-◌, ◌<◌, ◌≤◌, List, [], ◌∷◌, ◌++◌, length, Option, Some, None, refl, sym, ap, ◌∙◌, arith, append_assoc, append-nil, length-append, length-drop, take, take_all}
use Rattle.std.proofs.lemmas.Bool.{ne_eqb}
use Rattle.std.proofs.Math.Dec.{eqb, eqb-suc-zero}
use Rattle.rw_wal_format.specs.Records.{◌then◌, all_of, label_at, label_list_at, series_entries, sample_entries, record_entries}
use Rattle.rw_wal_tail.specs.inner.Unread.{BadFormOnly}
use Rattle.rw_types.specs.declared.entry.Entry.{Entry}
use Rattle.rw_types.specs.Labels.{Labels}
use Rattle.rw_wal_tail.specs.declared.record.Unread.{Unread}
use Rattle.rw_wal_tail.specs.declared.record.Unread.TheVariants.{OutOfMemory, BadForm}

-- what was read, and then what is read of the rest
unfoldable pub prepend : {A : Type 0} → List A → Option (List A) → Option (List A)
prepend front None = None
prepend front (Some more) = Some (front ++ more)

pub prepend_none : {A : Type 0} (o : Option (List A)) → o ≡ prepend [] o
unfolding prepend
prepend_none None = refl
prepend_none (Some xs) = refl

prepend_two : {A : Type 0} (front : List A) (x : A) (o : Option (List A)) → prepend front (o then λ more. Some (x ∷ more)) ≡ prepend (front ++ x ∷ []) o
unfolding prepend
prepend_two front x None = refl
prepend_two front x (Some xs) = ap Some (sym (append_assoc front (x ∷ []) xs))

module _ {A : Type 0} (item : List ℕ → Option (A × List ℕ)) (front : List A) where
  pub prepend_step : (n : ℕ) (bs rest : List ℕ) (x : A) → 0 < length bs → length bs ≤ n → item bs ≡ Some (x, rest)
      → prepend front (all_of item n bs) ≡ prepend (front ++ x ∷ []) (all_of item (n - 1) rest)
  prepend_step n [] rest x h g e = absurd (omega arith)
  prepend_step zero (b ∷ bs) rest x h g e = absurd (omega arith)
  prepend_step (suc n) (b ∷ bs) rest x h g e =
      let k : suc n - 1 ≡ n = omega arith in
      rw k (ap (λ y. prepend front (y then λ first. all_of item n first.1 then λ more. Some (first.0 ∷ more))) e ∙ prepend_two front x (all_of item n rest))

  pub prepend_done : (n : ℕ) (bs : List ℕ) → length bs ≡ 0 → prepend front (all_of item n bs) ≡ Some front
  unfolding prepend
  prepend_done zero [] h = ap Some (append-nil front)
  prepend_done (suc n) [] h = ap Some (append-nil front)
  prepend_done n (b ∷ bs) h = absurd (omega arith)

  pub prepend_fails : (n : ℕ) (bs : List ℕ) → 0 < length bs → item bs ≡ None → prepend front (all_of item n bs) ≡ None
  unfolding prepend
  prepend_fails n [] h e = absurd (omega arith)
  prepend_fails zero (b ∷ bs) h e = refl
  prepend_fails (suc n) (b ∷ bs) h e = ap (λ y. prepend front (y then λ first. all_of item n first.1 then λ more. Some (first.0 ∷ more))) e

pub record Left (item : List ℕ → Option (Entry × List ℕ)) (bytes : List ℕ) (es : List Entry) (rest : List ℕ) : Type 0 where
  pub left : all_of item (length bytes) bytes ≡ prepend es (all_of item (length bytes - length es) rest)
  pub shorter : length rest ≤ length bytes - length es

module _ (item : List ℕ → Option (Entry × List ℕ)) (bytes : List ℕ) where
  pub left_start : (es : List Entry) → es ≡ [] → Left item bytes es bytes
  left_start [] e =
      let m : length bytes - 0 ≡ length bytes = omega arith in
      record { left = rw m (prepend_none (all_of item (length bytes) bytes)); shorter = omega arith }
  left_start (x ∷ es) e = absurd cc

  pub left_step : (es es' : List Entry) (x : Entry) (rest rest' : List ℕ) → Left item bytes es rest → 0 < length rest → item rest ≡ Some (x, rest') → length rest' < length rest → es' ≡ es ++ x ∷ []
      → Left item bytes es' rest'
  left_step es es' x rest rest' l h e s q =
      let n : length bytes - length (es ++ x ∷ []) ≡ length bytes - length es - 1 = omega (arith, length-append es (x ∷ [])) in
      rw q (record {
        left = rw n (l.left ∙ prepend_step item es (length bytes - length es) rest rest' (x) h l.shorter e);
        shorter = omega (arith, l.shorter, n);
      })

  pub left_done : (es : List Entry) (rest : List ℕ) → Left item bytes es rest → length rest ≡ 0 → all_of item (length bytes) bytes ≡ Some es
  left_done es rest l h = l.left ∙ prepend_done item es (length bytes - length es) rest h

  pub left_fails : (es : List Entry) (rest : List ℕ) → Left item bytes es rest → 0 < length rest → item rest ≡ None → all_of item (length bytes) bytes ≡ None
  left_fails es rest l h e = l.left ∙ prepend_fails item es (length bytes - length es) rest h e

pub bad_form : (e : Unread) (P Q : Type 0) → (P → Q) → BadFormOnly e P → BadFormOnly e Q
bad_form OutOfMemory P Q f h = tt
bad_form BadForm P Q f h = f h

-- ---- tests

pub not_empty : (bs : List ℕ) (b : Bool) → b ≡ (length bs == 0) → b ≡ false → 0 < length bs
not_empty [] b e h = absurd cc
not_empty (x ∷ xs) b e h = omega arith

pub is_empty : (bs : List ℕ) (b : Bool) → b ≡ (length bs == 0) → b ≡ true → length bs ≡ 0
is_empty [] b e h = refl
is_empty (x ∷ xs) b e h = let f : (suc (length xs) == 0) ≡ false = eqb-suc-zero (length xs) in absurd cc

-- ---- records

-- the bytes after the first one, as a slice has them
pub after_first : (bs : List ℕ) → take (length bs - 1) (drop 1 bs) ≡ drop 1 bs
after_first bs = take_all (length bs - 1) (drop 1 bs) (omega (arith, length-drop 1 bs))

pub of_series : (bs : List ℕ) → 0 < length bs → get_or bs 0 0 ≡ 1 → record_entries bs ≡ series_entries (take (length bs - 1) (drop 1 bs))
unfolding record_entries
of_series [] h e = absurd (omega arith)
of_series (b ∷ bs) h e = rw e (ap series_entries (sym (after_first (b ∷ bs))))

pub of_samples : (bs : List ℕ) → 0 < length bs → get_or bs 0 0 ≡ 2 → record_entries bs ≡ sample_entries (take (length bs - 1) (drop 1 bs))
unfolding record_entries
of_samples [] h e = absurd (omega arith)
of_samples (b ∷ bs) h e = rw e (ap sample_entries (sym (after_first (b ∷ bs))))

pub of_other : (bs : List ℕ) → 0 < length bs → (get_or bs 0 0 ≡ 1 → ⊥) → (get_or bs 0 0 ≡ 2 → ⊥) → record_entries bs ≡ Some []
unfolding record_entries
of_other [] h e f = absurd (omega arith)
of_other (b ∷ bs) h e f =
    let p : eqb b 1 ≡ false = ne_eqb b 1 e in
    let q : eqb b 2 ≡ false = ne_eqb b 2 f in
    rw (p, q) refl

pub of_empty : (bs : List ℕ) → length bs ≡ 0 → record_entries bs ≡ Some []
unfolding record_entries
of_empty [] e = refl
of_empty (b ∷ bs) e = absurd (omega arith)

-- ---- labels

unfoldable pub with_labels : Labels → Option (Labels × List ℕ) → Option (Labels × List ℕ)
with_labels front None = None
with_labels front (Some more) = Some (front ++ more.0, more.1)

pub with_labels_none : (o : Option (Labels × List ℕ)) → o ≡ with_labels [] o
unfolding with_labels
with_labels_none None = refl
with_labels_none (Some x) = refl

with_labels_two : (front : Labels) (x : List ℕ × List ℕ) (o : Option (Labels × List ℕ)) → with_labels front (o then λ more. Some (x ∷ more.0, more.1)) ≡ with_labels (front ++ x ∷ []) o
unfolding with_labels
with_labels_two front x None = refl
with_labels_two front x (Some m) = ap (λ (l : Labels). Some (l, m.1)) (sym (append_assoc front (x ∷ []) m.0))

pub labels_start : (front : Labels) (n : ℕ) (bs : List ℕ) → front ≡ [] → label_list_at n bs ≡ with_labels front (label_list_at (n - 0) bs)
labels_start front n bs e =
    let m : n - 0 ≡ n = omega arith in
    rw (m, e) (with_labels_none (label_list_at n bs))

pub labels_step : (front more : Labels) (n k : ℕ) (bs rest : List ℕ) (x : List ℕ × List ℕ) → k < n → label_at bs ≡ Some (x, rest) → more ≡ front ++ x ∷ []
    → with_labels front (label_list_at (n - k) bs) ≡ with_labels more (label_list_at (n - (k + 1)) rest)
labels_step front more n k bs rest x h e q =
    let m : n - k ≡ suc (n - (k + 1)) = omega arith in
    rw (m, q) (ap (λ y. with_labels front (y then λ label. label_list_at (n - (k + 1)) label.1 then λ more. Some (label.0 ∷ more.0, more.1))) e
    ∙ with_labels_two front x (label_list_at (n - (k + 1)) rest))

pub labels_fail : (front : Labels) (n k : ℕ) (bs : List ℕ) → k < n → label_at bs ≡ None → with_labels front (label_list_at (n - k) bs) ≡ None
unfolding with_labels
labels_fail front n k bs h e =
    let m : n - k ≡ suc (n - (k + 1)) = omega arith in
    rw m (ap (λ y. with_labels front (y then λ label. label_list_at (n - (k + 1)) label.1 then λ more. Some (label.0 ∷ more.0, more.1))) e)

pub labels_done : (front : Labels) (n k : ℕ) (bs : List ℕ) → n ≤ k → with_labels front (label_list_at (n - k) bs) ≡ Some (front, bs)
unfolding with_labels
labels_done front n k bs h =
    let m : n - k ≡ 0 = omega arith in
    rw m (ap (λ (l : Labels). Some (l, bs)) (append-nil front))
