-- Numbers that have labels of their own.
use Rattle.std.proofs.Common.{◌≡◌, ℕ, suc, List, [], ◌∷◌, ◌++◌, map, nat_eq, eqb-true, eq-eqb, Bool, true, false, cond, ◌||◌, refl, sym, ◌∙◌, ap, ap₂, Option, Some, None, slice_get}
use Rattle.std.specs.List.{list_any}
use Rattle.std.specs.Option.{option_map}
use Rattle.std.proofs.lemmas.Bool.{both_ways}
use Rattle.std.proofs.lemmas.Option.{slice_get-map}
use Rattle.rw_types.specs.Labels.{Labels}
use Rattle.rw_types.specs.LabelOrder.{labels_eq}
use Rattle.rw_types.proofs.shared.OrderLemmas.{same_if_equal}
use Rattle.rw_write_request.specs.Message.{Sample}
use Rattle.rw_batch.specs.Grouping.{labels_of_series, with_sample, with_labels}
use Rattle.rw_batch.specs.Groups.{Groups, StandsFor, IsAlone, with_number}
use Rattle.rw_batch.proofs.KeysLemmas.{kept_or_pushed}
use Rattle.rw_batch.proofs.shared.LabelLemmas.{eq-self}
use Rattle.rw_batch.proofs.shared.MessageLemmas.{labels_of-with_sample}

number_at : (f : ℕ → Labels) (n : ℕ) (o : Option ℕ) → ((m : ℕ) → o ≡ Some m → f m ≡ f n → m ≡ n) → option_map f o ≡ Some (f n) → o ≡ Some n
number_at f n None alone e = absurd cc
number_at f n (Some m) alone e = let same : f m ≡ f n = cc in ap Some (alone m refl same)

pub stands_for_own : (f : ℕ → Labels) (n : ℕ) (g : Groups) → labels_of_series g.series ≡ map f g.numbers → IsAlone f n g.numbers → StandsFor n (f n) g
stands_for_own f n g e alone i =
    let at : slice_get (labels_of_series g.series) i ≡ option_map f (slice_get g.numbers i) = ap (λ ls. slice_get ls i) e ∙ slice_get-map f g.numbers i in
    (λ h. at ∙ ap (option_map f) h, λ h. number_at f n (slice_get g.numbers i) (alone i) (sym at ∙ h))

-- labels are the same if their numbers are
same_as_numbers_as : (f : ℕ → Labels) (n m : ℕ) (b c : Bool) → (f m ≡ f n → m ≡ n) → labels_eq (f n) (f m) ≡ b → nat_eq n m ≡ c → b ≡ c
same_as_numbers_as f n m true true alone e h = refl
same_as_numbers_as f n m false false alone e h = refl
same_as_numbers_as f n m true false alone e h = absurd (both_ways (nat_eq n m) h (eq-eqb n m (sym (alone (sym (same_if_equal (f n) (f m) e))))))
same_as_numbers_as f n m false true alone e h =
    absurd (both_ways (labels_eq (f n) (f m)) e (ap (λ k. labels_eq (f n) (f k)) (sym (eqb-true n m h)) ∙ eq-self (f n)))

found_as_numbers : (f : ℕ → Labels) (n : ℕ) (ns : List ℕ) → IsAlone f n ns → list_any (labels_eq (f n)) (map f ns) ≡ list_any (nat_eq n) ns
found_as_numbers f n [] alone = refl
found_as_numbers f n (m ∷ ns) alone =
    ap₂ (λ a b. a || b) (same_as_numbers_as f n m (labels_eq (f n) (f m)) (nat_eq n m) (alone 0 m refl) refl refl)
    (found_as_numbers f n ns (λ i k h. alone (suc i) k h))

pub labels_stay : (f : ℕ → Labels) (n : ℕ) (s : Sample) (g : Groups) → labels_of_series g.series ≡ map f g.numbers → IsAlone f n g.numbers
    → labels_of_series (with_sample (f n) s g.series) ≡ map f (with_number n g.numbers)
labels_stay f n s g e alone =
    labels_of-with_sample (f n) s g.series ∙ ap (with_labels (f n)) e
    ∙ ap (λ (b : Bool). cond b (map f g.numbers) (map f g.numbers ++ f n ∷ [])) (found_as_numbers f n g.numbers alone) ∙ kept_or_pushed f g.numbers n (list_any (nat_eq n) g.numbers)
