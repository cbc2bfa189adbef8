-- Labels are determined by their fields: two lists with the same spelling are the same.
use Rattle.std.proofs.Common.{◌≡◌, ℕ, ◌^◌, ◌<◌, Ok, List, [], ◌∷◌, ◌++◌, length, take, drop, refl, ap, ap₂, sym, subst, ◌∙◌, arith, append_assoc, length-append}
use Rattle.std.proofs.Math.Seq.{take-append_seam, drop-append_seam}
use Rattle.std.proofs.lemmas.Bool.Decides.{same_from_decides}
use Rattle.std.proofs.lemmas.List.{append-nil}
use Rattle.std.proofs.lemmas.Slice.Eq.{bytes_eq-Decides}
use Rattle.std.specs.Prelude.{Result}
use Rattle.std.specs.Str.{bytes_eq}
use Rattle.rw_codes.proofs.shared.VarintLaws.{uvarint_again}
use Rattle.rw_codes.specs.Varint.{uvarint, read_uvarint}
use Rattle.rw_codes.specs.declared.code_fault.CodeFault.{CodeFault}
use Rattle.rw_types.specs.LabelFields.{bytes_field, string_field, label, label_field, label_fields}
use Rattle.rw_types.specs.LabelOrder.{labels_eq}
use Rattle.rw_types.specs.Labels.{Label, Labels}
use Rattle.rw_types.proofs.shared.OrderLemmas.{equal_if_same, same_if_equal}

abbrev read : ℕ × List ℕ → Result (ℕ × List ℕ) CodeFault
read x = Ok x

abbrev IsShort : List ℕ → Type 0
IsShort bytes = length bytes < 2 ^ 64

-- the numbers at the front are the same if all bytes are, and so is what follows them
same_numbers : (m n : ℕ) (us vs : List ℕ) → m < 2 ^ 64 → n < 2 ^ 64 → uvarint m ++ us ≡ uvarint n ++ vs → (m ≡ n) × (us ≡ vs)
same_numbers m n us vs l k e =
    let both : read (m, us) ≡ read (n, vs) = sym (uvarint_again m us l) ∙ ap read_uvarint e ∙ uvarint_again n vs k in
    let p : (m, us) ≡ (n, vs) = cc in
    (ap (λ (x : ℕ × List ℕ). x.0) p, ap (λ (x : ℕ × List ℕ). x.1) p)

-- fronts of one length are the same if all bytes are, and so is what follows them
same_fronts : (xs ys us vs : List ℕ) → length xs ≡ length ys → xs ++ us ≡ ys ++ vs → (xs ≡ ys) × (us ≡ vs)
same_fronts xs ys us vs l e =
    (sym (take-append_seam xs us) ∙ ap₂ take l e ∙ take-append_seam ys vs, sym (drop-append_seam xs us) ∙ ap₂ drop l e ∙ drop-append_seam ys vs)

-- what a field holds is short if the whole is, and so is what follows it
parts_fit : (k : ℕ) (xs us : List ℕ) → length (bytes_field k xs ++ us) < 2 ^ 64 → (length xs < 2 ^ 64) × (length us < 2 ^ 64)
parts_fit k xs us l =
    let whole = length-append (uvarint (length xs) ++ xs) us in
    let field = length-append (uvarint (length xs)) xs in
    (omega (arith, whole, field), omega (arith, whole, field))

-- fields at the front hold the same if all bytes are the same, and what follows them is the same
same_fields : (k : ℕ) (xs ys us vs : List ℕ) → length (bytes_field k xs ++ us) < 2 ^ 64 → length (bytes_field k ys ++ vs) < 2 ^ 64
    → bytes_field k xs ++ us ≡ bytes_field k ys ++ vs → (xs ≡ ys) × (us ≡ vs)
same_fields k xs ys us vs l m e =
    let tails = sym (append_assoc (uvarint (length xs)) xs us) ∙ ap (drop 1) e ∙ append_assoc (uvarint (length ys)) ys vs in
    let same = same_numbers (length xs) (length ys) (xs ++ us) (ys ++ vs) (parts_fit k xs us l).0 (parts_fit k ys vs m).0 tails in
    same_fronts xs ys us vs same.0 same.1

-- strings are the same if their fields are; an empty one has none
same_strings : (k : ℕ) (xs ys : List ℕ) → length (string_field k xs) < 2 ^ 64 → length (string_field k ys) < 2 ^ 64 → string_field k xs ≡ string_field k ys → xs ≡ ys
same_strings k [] [] l m e = refl
same_strings k [] (y ∷ ys) l m e = absurd cc
same_strings k (x ∷ xs) [] l m e = absurd cc
same_strings k (x ∷ xs) (y ∷ ys) l m e =
    let left = sym (append-nil (bytes_field k (x ∷ xs))) in
    let right = sym (append-nil (bytes_field k (y ∷ ys))) in
    (same_fields k (x ∷ xs) (y ∷ ys) [] [] (subst IsShort left l) (subst IsShort right m) (sym left ∙ e ∙ right)).0

-- labels are the same if they are spelled alike; no value is spelled as a name
same_label : (a b : Label) → length (label a) < 2 ^ 64 → length (label b) < 2 ^ 64 → label a ≡ label b → a ≡ b
unfolding label
same_label ([], v) ([], w) l m e = ap (λ (x : List ℕ). ([], x)) (same_strings 2 v w l m e)
same_label ([], []) (y ∷ ys, w) l m e = absurd cc
same_label ([], c ∷ v) (y ∷ ys, w) l m e = absurd cc
same_label (x ∷ xs, v) ([], []) l m e = absurd cc
same_label (x ∷ xs, v) ([], c ∷ w) l m e = absurd cc
same_label (x ∷ xs, v) (y ∷ ys, w) l m e =
    let same = same_fields 1 (x ∷ xs) (y ∷ ys) (string_field 2 v) (string_field 2 w) l m e in
    let left = parts_fit 1 (x ∷ xs) (string_field 2 v) l in
    let right = parts_fit 1 (y ∷ ys) (string_field 2 w) m in
    ap₂ (λ (n u : List ℕ). (n, u)) same.0 (same_strings 2 v w left.1 right.1 same.1)

-- labels are determined by their fields
pub same_where_fields_are : (a b : Labels) → length (label_fields a) < 2 ^ 64 → length (label_fields b) < 2 ^ 64 → label_fields a ≡ label_fields b → a ≡ b
unfolding label_field
same_where_fields_are [] [] l m e = refl
same_where_fields_are [] (y ∷ ys) l m e = absurd cc
same_where_fields_are (x ∷ xs) [] l m e = absurd cc
same_where_fields_are (x ∷ xs) (y ∷ ys) l m e =
    let same = same_fields 1 (label x) (label y) (label_fields xs) (label_fields ys) l m e in
    let left = parts_fit 1 (label x) (label_fields xs) l in
    let right = parts_fit 1 (label y) (label_fields ys) m in
    ap₂ (λ (z : Label) (zs : Labels). z ∷ zs) (same_label x y left.0 right.0 same.0) (same_where_fields_are xs ys left.1 right.1 same.1)

-- two label sets have equal fields exactly if the order calls them equal
pub equal_fields : (a b : Labels) → length (label_fields a) < 2 ^ 64 → length (label_fields b) < 2 ^ 64 → bytes_eq (label_fields a) (label_fields b) ≡ labels_eq a b
equal_fields a b l m =
    same_from_decides _ _ (bytes_eq-Decides (label_fields a) (label_fields b))
    (λ e. ap label_fields (same_if_equal a b e), λ e. equal_if_same a b (same_where_fields_are a b l m e))
