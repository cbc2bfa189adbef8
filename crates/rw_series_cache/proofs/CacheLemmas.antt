-- What a cache keeps, definition by definition.
use Rattle.std.proofs.Common.{◌≡◌, ℕ, List, [], ◌∷◌, ◌++◌, Bool, true, false, cond, nat_eq, refl, sym, ◌∙◌, ap, subst, Option, Some, None}
use Rattle.std.specs.List.{list_any}
use Rattle.rw_types.specs.Labels.{Labels}
use Rattle.rw_types.specs.LabelOrder.{labels_eq}
use Rattle.rw_types.specs.declared.entry.Entry.{Entry}
use Rattle.rw_types.specs.declared.entry.Entry.TheVariants.{Def}
use Rattle.rw_relabel.specs.declared.choice.Choice.{Choice}
use Rattle.rw_series_cache.specs.inner.Cached.{Judged, Judges, StandsFor, IsCache}
use Rattle.rw_series_cache.specs.Found.{IsLookedUp, IsOfSeries}
use Rattle.rw_series_cache.specs.Known.{Standing, Unknown, Bad, Filtered, Kept, known, standing_of, definitions_of}
use Rattle.rw_series_cache.specs.Numbers.{series_of, with_series}
use Rattle.rw_series_cache.specs.declared.known.Known.{Known}
use Rattle.rw_series_cache.specs.declared.verdict.Verdict.{Verdict}
use Rattle.rw_series_cache.specs.declared.verdict.Verdict.TheVariants as verdict
use Rattle.rw_series_cache.proofs.shared.KnownLemmas.{known-none, known-definition, known-definitions_of, series_of-none, series_of-push, series_of-definitions_of}
use Rattle.rw_series_cache.proofs.NumberLemmas.{number_stays}

-- before the first definition
pub nothing_defined : (choice : Choice) (definitions : List Entry) (verdict_of : ℕ → Option Verdict) (sets : List Labels) → definitions ≡ [] → ((r : ℕ) → verdict_of r ≡ None) → sets ≡ []
    → IsCache choice definitions verdict_of sets
nothing_defined choice definitions verdict_of sets e v s = record {
  verdicts = λ r.
      subst (λ o. StandsFor sets o (known choice definitions r)) (sym (v r))
      (subst (StandsFor sets None) (sym (ap (λ es. known choice es r) e ∙ known-none choice r)) tt);
  series = s ∙ sym (ap (series_of choice) e ∙ series_of-none choice);
}

-- only what is unknown has no verdict
pub unknown_without : (sets : List Labels) (v : Option Verdict) (is : Standing) → StandsFor sets v is → v ≡ None → is ≡ Unknown
unknown_without sets None Unknown h e = refl
unknown_without sets (Some v) is h e = absurd cc
unknown_without sets None _ h e = absurd h

stays_with : (sets : List Labels) (l : Labels) (b : Bool) (v : Option Verdict) (is : Standing) → StandsFor sets v is → StandsFor (cond b sets (sets ++ l ∷ [])) v is
stays_with sets l true v is h = h
stays_with sets l false None Unknown h = h
stays_with sets l false (Some (verdict.Bad f)) (Bad g) h = h
stays_with sets l false (Some verdict.Filtered) Filtered h = h
stays_with sets l false (Some (verdict.Kept n)) (Kept m) h = number_stays sets (l ∷ []) m n h
stays_with sets l false _ _ h = absurd h

-- verdicts are as more series come
verdict_stays : (sets : List Labels) (more : Standing) (v : Option Verdict) (is : Standing) → StandsFor sets v is → StandsFor (with_series sets more) v is
verdict_stays sets Unknown v is h = h
verdict_stays sets (Bad f) v is h = h
verdict_stays sets Filtered v is h = h
verdict_stays sets (Kept l) v is h = stays_with sets l (list_any (labels_eq l) sets) v is h

either_stands : (sets : List Labels) (b : Bool) (v w : Option Verdict) (x y : Standing) → StandsFor sets v x → StandsFor sets w y → StandsFor sets (cond b v w) (cond b x y)
either_stands sets true v w x y h k = h
either_stands sets false v w x y h k = k

-- one more definition
pub one_defined : (old new : Judged) (definitions now : List Entry) (verdict_of verdict_now : ℕ → Option Verdict) (reference : ℕ) (l : Labels) (v : Verdict)
    → IsCache old.choice definitions verdict_of old.series → Judges old new l v → now ≡ definitions ++ Def reference l ∷ []
    → ((r : ℕ) → verdict_now r ≡ cond (nat_eq reference r) (Some v) (verdict_of r)) → IsCache new.choice now verdict_now new.series
one_defined old new definitions now verdict_of verdict_now reference l v cache judges e vs =
    let is = standing_of old.choice (Some l) in
    let choice : old.choice ≡ new.choice = sym judges.choice in
    subst (λ rs. IsCache rs now verdict_now new.series) choice (record {
      verdicts = λ r.
          subst (λ o. StandsFor new.series o (known old.choice now r)) (sym (vs r))
          (subst (StandsFor new.series (cond (nat_eq reference r) (Some v) (verdict_of r))) (sym (ap (λ es. known old.choice es r) e ∙ known-definition old.choice definitions reference l r))
          (either_stands new.series (nat_eq reference r) (Some v) (verdict_of r) is (known old.choice definitions r) judges.verdict
          (subst (λ sets. StandsFor sets (verdict_of r) (known old.choice definitions r)) (sym judges.series) (verdict_stays old.series is (verdict_of r) (known old.choice definitions r) (cache.verdicts r)))));
      series =
          judges.series ∙ ap (λ sets. with_series sets is) cache.series
          ∙ sym (ap (series_of old.choice) e ∙ series_of-push old.choice definitions (Def reference l));
    })

-- what is known by the definitions is known after all entries
pub answers_after : (choice : Choice) (definitions entries : List Entry) (r : ℕ) (answer : Known) → definitions_of entries ≡ definitions → IsLookedUp choice definitions r answer → IsLookedUp choice entries r answer
answers_after choice definitions entries r answer e a = record {
  standing = a.standing ∙ ap (λ es. known choice es r) (sym e) ∙ known-definitions_of choice entries r;
  number = subst (λ sets. IsOfSeries sets answer) (ap (series_of choice) (sym e) ∙ series_of-definitions_of choice entries) a.number;
}
