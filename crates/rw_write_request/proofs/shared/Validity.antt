-- What a program holds can be spelled: its strings are UTF-8, and its numbers have 64 bits.
use Rattle.std.proofs.Common.{◌≡◌, ℕ, ◌+◌, ◌≤◌, ◌<◌, List, [], ◌∷◌, ◌++◌, length, take, map, get_or, true, ap, sym, subst, ◌∙◌, add-one}
use Rattle.std.specs.Prelude.{String}
use Rattle.std.specs.Global.{Global}
use Rattle.std.specs.List.{AllByRecursion, list_all}
use Rattle.std.specs.Str.{is_utf8}
use Rattle.std.proofs.Math.Seq.{take-suc}
use Rattle.std.proofs.lemmas.Bool.{and_parts}
use Rattle.std.proofs.lemmas.List.{map-id, take_all}
use Rattle.std.proofs.lemmas.Str.{IsUtf8-string_bytes, IsUtf8-from_is_utf8}
use Rattle.rw_types.specs.Labels.{Label, Labels, IsLabelSet, is_text, label_fault, text_label}
use Rattle.rw_types.specs.declared.names.Names.TheVariants.{Utf8}
use Rattle.rw_types.proofs.shared.AllLemmas.{AllByRecursion-append}
use Rattle.rw_types.proofs.shared.JudgeLemmas as judging
use Rattle.rw_write_request.specs.Valid.{IsLabel}

pub all_texts : (ls : List (String Global × String Global)) → AllByRecursion IsLabel (map text_label ls)
all_texts [] = tt
all_texts (l ∷ ls) = ((IsUtf8-string_bytes l.0, IsUtf8-string_bytes l.1), all_texts ls)

label_is : (l : Label) → is_text l ≡ true → IsLabel l
label_is l e =
    let both = and_parts (is_utf8 l.0) (is_utf8 l.1) e in
    (IsUtf8-from_is_utf8 l.0 both.0, IsUtf8-from_is_utf8 l.1 both.1)

labels_are : (ls : Labels) → list_all is_text ls ≡ true → AllByRecursion IsLabel ls
labels_are [] e = tt
labels_are (l ∷ ls) e =
    let both = and_parts (is_text l) (list_all is_text ls) e in
    (label_is l both.0, labels_are ls both.1)

-- so are the labels of a label set
pub set_texts : (ls : Labels) → IsLabelSet Utf8 ls → AllByRecursion IsLabel ls
set_texts ls set = labels_are ls (judging.all_texts Utf8 (λ l. l) ls (ap (label_fault Utf8) (map-id ls) ∙ set))

pub all_more : {X : Type 0} (P : X → Type 0) (xs : List X) (i : ℕ) (x : X) → i < length xs → x ≡ get_or xs i x → P x → AllByRecursion P (take i xs) → AllByRecursion P (take (i + 1) xs)
all_more P xs i x lt e p before =
    let next : take (i + 1) xs ≡ take i xs ++ x ∷ [] = ap (λ (k : ℕ). take k xs) (add-one i) ∙ take-suc xs i x lt ∙ ap (λ (y : _). take i xs ++ y ∷ []) (sym e) in
    subst (λ (ys : List _). AllByRecursion P ys) (sym next) (AllByRecursion-append P (take i xs) (x ∷ []) before (p, tt))

pub all_taken : {X : Type 0} (P : X → Type 0) (xs : List X) (i : ℕ) → length xs ≤ i → AllByRecursion P (take i xs) → AllByRecursion P xs
all_taken P xs i le h = subst (λ (ys : List _). AllByRecursion P ys) (take_all i xs le) h
