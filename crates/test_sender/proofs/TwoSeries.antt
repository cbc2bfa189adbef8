-- Which number stands for which labels while there are at most two series.
use Rattle.std.proofs.Common.{◌≡◌, ℕ, zero, suc, nat_eq, eq-eqb, List, [], ◌∷◌, Bool, false, cond, ◌||◌, refl, sym, ◌∙◌, ap, subst, ◌↔◌, Some, slice_get}
use Rattle.std.proofs.lemmas.Bool.{both_ways}
use Rattle.rw_types.specs.Labels.{Labels}
use Rattle.rw_types.specs.LabelOrder.{labels_eq}
use Rattle.rw_types.proofs.shared.OrderLemmas.{equal_if_same}
use Rattle.rw_write_request.specs.Message.{Sample}
use Rattle.rw_batch.specs.Grouping.{labels_of_series, with_labels, with_sample}
use Rattle.rw_batch.specs.Groups.{Groups, StandsFor, with_number}
use Rattle.rw_batch.proofs.shared.LabelLemmas.{eq-flip}
use Rattle.rw_batch.proofs.shared.MessageLemmas.{labels_of-with_sample}

-- the labels are where the number is
abbrev pub Together : ℕ → Labels → List ℕ → List Labels → Type 0
Together n l ns ls = (i : ℕ) → (slice_get ns i ≡ Some n) ↔ (slice_get ls i ≡ Some l)

apart : (a b : Labels) → labels_eq a b ≡ false → a ≡ b → ⊥
apart a b e same = both_ways (labels_eq a b) e (equal_if_same a b same)

at_second : (n m : ℕ) (a b : Labels) → (n ≡ m → ⊥) → labels_eq a b ≡ false → Together m b (n ∷ []) (a ∷ [])
at_second n m a b differ e zero = (λ (h : Some n ≡ Some m). absurd (differ cc), λ (h : Some a ≡ Some b). absurd (apart a b e cc))
at_second n m a b differ e (suc i) = (λ h. absurd cc, λ h. absurd cc)

at_first : (n m : ℕ) (a b : Labels) → (n ≡ m → ⊥) → labels_eq a b ≡ false → Together n a (n ∷ m ∷ []) (a ∷ b ∷ [])
at_first n m a b differ e zero = (λ h. refl, λ h. refl)
at_first n m a b differ e (suc zero) = (λ (h : Some m ≡ Some n). absurd (differ cc), λ (h : Some b ≡ Some a). absurd (apart a b e cc))
at_first n m a b differ e (suc (suc i)) = (λ h. absurd cc, λ h. absurd cc)

moved : (n : ℕ) (l : Labels) (ns ms : List ℕ) (ls ks : List Labels) → ns ≡ ms → ls ≡ ks → Together n l ms ks → Together n l ns ls
moved n l ns ms ls ks e f h =
    let P : List ℕ → Type 0 = λ x. Together n l x ls in
    let Q : List Labels → Type 0 = λ x. Together n l ms x in
    subst P (sym e) (subst Q (sym f) h)

-- the first series is there
pub record HasFirst (n : ℕ) (a : Labels) (g : Groups) : Type 0 where
  pub numbers : g.numbers ≡ n ∷ []
  pub labels : labels_of_series g.series ≡ a ∷ []

pub first_there : (n : ℕ) (a : Labels) (s : Sample) (before g : Groups) → before ≡ record { numbers = []; series = [] } → g.series ≡ with_sample a s before.series → g.numbers ≡ with_number n before.numbers → HasFirst n a g
first_there n a s before g e series numbers = record {
  numbers = numbers ∙ ap (λ (x : Groups). with_number n x.numbers) e;
  labels = ap labels_of_series series ∙ labels_of-with_sample a s before.series ∙ ap (λ (x : Groups). with_labels a (labels_of_series x.series)) e;
}

-- the number and the labels of the second series are new
pub second_is_new : (n m : ℕ) (a b : Labels) (g : Groups) → nat_eq m n ≡ false → labels_eq a b ≡ false → HasFirst n a g → StandsFor m b g
second_is_new n m a b g differ e h =
    moved m b g.numbers (n ∷ []) (labels_of_series g.series) (a ∷ []) h.numbers h.labels (at_second n m a b (λ same. both_ways (nat_eq m n) differ (eq-eqb m n (sym same))) e)

-- and then the first is found again
pub first_again : (n m : ℕ) (a b : Labels) (s : Sample) (before g : Groups) → nat_eq m n ≡ false → labels_eq b a ≡ false → HasFirst n a before
    → g.series ≡ with_sample b s before.series → g.numbers ≡ with_number m before.numbers → StandsFor n a g
first_again n m a b s before g differ e h series numbers =
    moved n a g.numbers (n ∷ m ∷ []) (labels_of_series g.series) (a ∷ b ∷ [])
    (numbers ∙ ap (with_number m) h.numbers ∙ ap (λ (t : Bool). cond (t || false) (n ∷ []) (n ∷ m ∷ [])) differ)
    (ap labels_of_series series ∙ labels_of-with_sample b s before.series ∙ ap (with_labels b) h.labels ∙ ap (λ (t : Bool). cond (t || false) (a ∷ []) (a ∷ b ∷ [])) e)
    (at_first n m a b (λ same. both_ways (nat_eq m n) differ (eq-eqb m n (sym same))) (eq-flip a b ∙ e))
