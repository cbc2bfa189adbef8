-- Label sets that the rules were asked of.
use Rattle.std.proofs.Common.{◌≡◌, ℕ, ◌+◌, List, [], ◌∷◌, ◌++◌, length, map, Bool, true, false, not, nat_lt, cond, ◌||◌, refl, sym, ◌∙◌, ap, subst, Some, None}
use Rattle.std.specs.Arc.{arc_value}
use Rattle.std.specs.List.{list_any, position, position_or_len}
use Rattle.rw_types.specs.Labels.{Labels, IsLabelSet}
use Rattle.rw_types.specs.LabelOrder.{labels_eq}
use Rattle.rw_types.specs.inner.LabelOrder.{same_if_equal}
use Rattle.rw_relabel.specs.Rules.{keeps}
use Rattle.rw_relabel.specs.declared.choice.Choice.{Choice}
use Rattle.rw_series_cache.specs.inner.Cached.{Shared, AllJudged, Judged, Judges, StandsFor}
use Rattle.rw_series_cache.specs.Known.{Standing, Kept, standing_of}
use Rattle.rw_series_cache.specs.Numbers.{number_of, HasNumber, with_series}
use Rattle.rw_series_cache.specs.declared.verdict.Verdict.TheVariants as verdict
use Rattle.rw_series_cache.proofs.shared.KnownLemmas.{kept_labels}
use Rattle.rw_series_cache.proofs.NumberLemmas.{has_number, new_number}

-- a test of a shared label set
abbrev pub is_same : Labels → Shared → Bool
is_same l s = labels_eq l (arc_value s)

any_of : (l : Labels) (sets : List Shared) → list_any (is_same l) sets ≡ list_any (labels_eq l) (map arc_value sets)
any_of l [] = refl
any_of l (s ∷ sets) = ap (λ b. labels_eq l (arc_value s) || b) (any_of l sets)

place_of : (l : Labels) (sets : List Shared) → position_or_len (is_same l) sets ≡ number_of (map arc_value sets) l
place_of l [] = refl
place_of l (s ∷ sets) = ap (λ n. cond (not (labels_eq l (arc_value s))) (1 + n) 0) (place_of l sets)

judged_by : (choice : Choice) (b : Bool) (s set : Shared) (same there : Bool) → labels_eq (arc_value s) (arc_value set) ≡ same → keeps choice.rules (arc_value s) ≡ b
    → (there ≡ true → keeps choice.rules (arc_value set) ≡ b) → cond same true there ≡ true → keeps choice.rules (arc_value set) ≡ b
judged_by choice b s set true there e k h c = ap (keeps choice.rules) (sym (same_if_equal (arc_value s) (arc_value set) e)) ∙ k
judged_by choice b s set false there e k h c = h c

-- one more label set is judged alike
pub judged_too : (choice : Choice) (b : Bool) (old new : List Shared) (s : Shared) → AllJudged choice b old → keeps choice.rules (arc_value s) ≡ b
    → ((q : Shared) → list_any (is_same (arc_value q)) new ≡ cond (labels_eq (arc_value s) (arc_value q)) true (list_any (is_same (arc_value q)) old)) → AllJudged choice b new
judged_too choice b old new s all k has set e =
    judged_by choice b s set (labels_eq (arc_value s) (arc_value set)) (list_any (is_same (arc_value set)) old) refl k (all set) (sym (has set) ∙ e)

known_series : (series : List Labels) (l : Labels) (is : Standing) → is ≡ Kept l → list_any (labels_eq l) series ≡ true → series ≡ with_series series is
known_series series l is e h = ap (λ b. cond b series (series ++ l ∷ [])) (sym h) ∙ ap (with_series series) (sym e)

new_series : (series : List Labels) (l : Labels) (is : Standing) → is ≡ Kept l → list_any (labels_eq l) series ≡ false → series ++ l ∷ [] ≡ with_series series is
new_series series l is e h = ap (λ b. cond b series (series ++ l ∷ [])) (sym h) ∙ ap (with_series series) (sym e)

stands_as : (series : List Labels) (l : Labels) (n : ℕ) (is : Standing) → is ≡ Kept l → HasNumber series l n → StandsFor series (Some (verdict.Kept n)) is
stands_as series l n is e h = subst (StandsFor series (Some (verdict.Kept n))) (sym e) h

-- the rules and the series that shared label sets are
abbrev pub judged_as : Choice → List Shared → Judged
judged_as choice sets = record { choice = choice; series = map arc_value sets }

placed : (b : Bool) (p n : ℕ) → Some n ≡ cond b (Some p) None → n ≡ p
placed true p n e = cc
placed false p n e = absurd cc

-- a label set that is one of the series
pub found_again : (choice : Choice) (sets : List Shared) (s : Shared) (l : Labels) (n : ℕ) → arc_value s ≡ l → IsLabelSet choice.names l → AllJudged choice true sets
    → Some n ≡ position (is_same (arc_value s)) sets → true ≡ list_any (is_same (arc_value s)) sets → Judges (judged_as choice sets) (judged_as choice sets) l (verdict.Kept n)
found_again choice sets s l n same fine all place there =
    let series = map arc_value sets in
    let any : list_any (labels_eq l) series ≡ true = ap (λ k. list_any (labels_eq k) series) (sym same) ∙ sym (any_of (arc_value s) sets) ∙ sym there in
    let is : standing_of choice (Some l) ≡ Kept l = kept_labels choice l fine (ap (keeps choice.rules) (sym same) ∙ all s (sym there)) in
    let number : n ≡ number_of series l =
    placed (nat_lt (position_or_len (is_same (arc_value s)) sets) (length sets)) (position_or_len (is_same (arc_value s)) sets) n place
    ∙ place_of (arc_value s) sets ∙ ap (number_of series) same in
    record {
      choice = refl;
      series = known_series series l (standing_of choice (Some l)) is any;
      verdict = stands_as series l n (standing_of choice (Some l)) is (subst (HasNumber series l) (sym number) (has_number series l any));
    }

push_of : (sets : List Shared) (s : Shared) → map arc_value (sets ++ s ∷ []) ≡ map arc_value sets ++ arc_value s ∷ []
push_of [] s = refl
push_of (x ∷ sets) s = ap (λ ls. arc_value x ∷ ls) (push_of sets s)

-- one that becomes the last of them
pub newly_kept : (choice : Choice) (sets new : List Shared) (s : Shared) (l : Labels) (n : ℕ) → arc_value s ≡ l → IsLabelSet choice.names l → keeps choice.rules (arc_value s) ≡ true
    → list_any (is_same (arc_value s)) sets ≡ false → new ≡ cond (list_any (is_same (arc_value s)) sets) sets (sets ++ s ∷ []) → n ≡ position_or_len (is_same (arc_value s)) sets
    → Judges (judged_as choice sets) (judged_as choice new) l (verdict.Kept n)
newly_kept choice sets new s l n same fine keep absent pushed place =
    let series = map arc_value sets in
    let none : list_any (labels_eq l) series ≡ false = ap (λ k. list_any (labels_eq k) series) (sym same) ∙ sym (any_of (arc_value s) sets) ∙ absent in
    let is : standing_of choice (Some l) ≡ Kept l = kept_labels choice l fine (ap (keeps choice.rules) (sym same) ∙ keep) in
    let now : map arc_value new ≡ series ++ l ∷ [] =
    ap (map arc_value) (pushed ∙ ap (λ b. cond b sets (sets ++ s ∷ [])) absent) ∙ push_of sets s ∙ ap (λ k. series ++ k ∷ []) same in
    let number : n ≡ number_of series l = place ∙ place_of (arc_value s) sets ∙ ap (number_of series) same in
    let numbered : HasNumber (series ++ l ∷ []) l n = subst (HasNumber (series ++ l ∷ []) l) (sym number) (new_number series l none) in
    record {
      choice = refl;
      series = now ∙ new_series series l (standing_of choice (Some l)) is none;
      verdict = stands_as (map arc_value new) l n (standing_of choice (Some l)) is (subst (λ ls. HasNumber ls l n) (sym now) numbered);
    }
