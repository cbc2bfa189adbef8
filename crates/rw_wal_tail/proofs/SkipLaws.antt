-- Records that were passed over, counted by type.
use Rattle.std.proofs.Common.{◌≡◌, ℕ, ◌+◌, ◌<◌, ◌≤◌, List, [], ◌∷◌, ◌++◌, cond, ◌==◌, get_or, set, replicate, sym, ap, ◌∙◌, inl, inr, refl, arith, length-append}
use Rattle.std.specs.List.{count_by}
use Rattle.std.proofs.lemmas.Bool.Decides.{eqb_tells}
use Rattle.std.proofs.lemmas.List.{get_or-replicate, get_or-set_same, get_or-set_other, length-set}
use Rattle.std.proofs.lemmas.List.Sums.{fold_push, count_by-le-length}
use Rattle.rw_wal_format.specs.Skipped.{type_number}
use Rattle.rw_wal_format.specs.declared.skipped_type.SkippedType.{SkippedType}
use Rattle.rw_wal_tail.specs.inner.Skips.{AreCounted}

-- this many of the types have this number
abbrev numbered : ℕ → List SkippedType → ℕ
numbered n types = count_by (λ t. type_number t == n) types

pub counted_none : AreCounted [] 0 (replicate 11 0)
counted_none = record { all_are = refl; size = refl; each = λ n lt. get_or-replicate 11 n 0 0 lt }

numbered_push : (n : ℕ) (types : List SkippedType) (kind : SkippedType) → numbered n (types ++ kind ∷ []) ≡ numbered n types + cond (type_number kind == n) 1 0
numbered_push n types kind = fold_push (λ a t. a + cond (type_number t == n) 1 0) 0 types kind

-- one more record, which is counted under its type's number
pub counted_more : (types : List SkippedType) (all at : ℕ) (of_type : List ℕ) (kind : SkippedType) → AreCounted types all of_type → type_number kind < 11 → at ≡ get_or of_type (type_number kind) 0
    → AreCounted (types ++ kind ∷ []) (all + 1) (set of_type (type_number kind) (at + 1))
counted_more types all at of_type kind h lt is = record {
  all_are = omega (arith, h.all_are, length-append types (kind ∷ []));
  size = length-set of_type (type_number kind) (at + 1) ∙ h.size;
  each = λ n small. elim (eqb_tells (type_number kind) n) [
    | inl same ↦
        let c : ◌≡◌ {A = ℕ} (cond (type_number kind == n) 1 0) 1 = ap (λ b. cond b 1 0) same.0 in
        let q : get_or (set of_type (type_number kind) (at + 1)) n 0 ≡ at + 1 = ap (λ m. get_or (set of_type (type_number kind) (at + 1)) m 0) (sym same.1) ∙ get_or-set_same of_type (type_number kind) (at + 1) 0 (omega (arith, h.size, lt)) in
        let before : at ≡ numbered n types = is ∙ ap (λ m. get_or of_type m 0) same.1 ∙ h.each n small in
        omega (arith, q, c, before, numbered_push n types kind)
    | inr other ↦
        let c : ◌≡◌ {A = ℕ} (cond (type_number kind == n) 1 0) 0 = ap (λ b. cond b 1 0) other.0 in
        let q : get_or (set of_type (type_number kind) (at + 1)) n 0 ≡ get_or of_type n 0 = get_or-set_other of_type (type_number kind) n (at + 1) 0 (λ e. other.1 (sym e)) in
        omega (arith, q, c, h.each n small, numbered_push n types kind)
  ];
}

-- no type has more records than there are in all
pub counted_within : (types : List SkippedType) (all n : ℕ) (of_type : List ℕ) → AreCounted types all of_type → n < 11 → get_or of_type n 0 ≤ all
counted_within types all n of_type h lt = omega (arith, h.all_are, h.each n lt, count_by-le-length (λ t. type_number t == n) types)
