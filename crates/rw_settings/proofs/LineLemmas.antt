-- The lines of a table, one after the other.
use Rattle.std.proofs.Common.{◌≡◌, ℕ, ◌+◌, ◌<◌, ◌≤◌, List, [], ◌∷◌, ◌++◌, map, length, get_or, drop, refl, sym, ap, ◌∙◌, append_assoc, append-nil}
use Rattle.std.specs.List.{concat}
use Rattle.std.proofs.lemmas.List.{drop_more, drop_all}
use Rattle.rw_settings.specs.Keys.{Row}
use Rattle.rw_settings.specs.inner.Keys.{row_of}
use Rattle.rw_settings.specs.SettingsText.{setting_value_text, pair_line, lines_of}
use Rattle.rw_settings.specs.inner.SettingsText.{setting_of}
use Rattle.rw_settings.specs.declared.keys.Key.{Key}
use Rattle.rw_settings.specs.declared.printed_values.Shown.{Shown}

no_line : (rows : List Row) → lines_of rows [] ≡ []
no_line [] = refl
no_line (row ∷ rows) = refl

module _ (keys : List Key) (values : List Shown) where
  -- the lines from this place on
  abbrev pub lines_from : ℕ → List (List ℕ)
  lines_from i = lines_of (map row_of (drop i keys)) (map setting_of (drop i values))

  next_line : (i : ℕ) (k : Key) (v : Shown) → i < length keys → i < length values → k ≡ get_or keys i k → v ≡ get_or values i v
      → lines_from i ≡ pair_line k.0.now (setting_value_text (setting_of v)) ∷ lines_from (i + 1)
  next_line i k v in_keys in_values key value =
      rw (drop_more keys i k in_keys, drop_more values i v in_values) (ap (λ l. pair_line l.0.now (setting_value_text (setting_of (get_or values i v))) ∷ lines_from (i + 1)) (sym key)
      ∙ ap (λ w. pair_line k.0.now (setting_value_text (setting_of w)) ∷ lines_from (i + 1)) (sym value))

  -- one more line
  pub line_pushed : (i : ℕ) (k : Key) (v : Shown) (before after whole : List ℕ) → i < length keys → i < length values → k ≡ get_or keys i k → v ≡ get_or values i v
      → after ≡ before ++ pair_line k.0.now (setting_value_text (setting_of v)) → before ++ concat (lines_from i) ≡ whole → after ++ concat (lines_from (i + 1)) ≡ whole
  line_pushed i k v before after whole in_keys in_values key value pushed so_far =
      let next = next_line i k v in_keys in_values key value in
      rw pushed (append_assoc before (pair_line k.0.now (setting_value_text (setting_of v))) (concat (lines_from (i + 1))) ∙ ap (λ ls. before ++ concat ls) (sym next) ∙ so_far)

  -- and there are no more
  pub all_pushed : (i : ℕ) (out whole : List ℕ) → length values ≤ i → out ++ concat (lines_from i) ≡ whole → out ≡ whole
  all_pushed i out whole ended so_far =
      let none : lines_from i ≡ [] = rw (drop_all i values ended) (no_line (map row_of (drop i keys))) in
      sym (append-nil out) ∙ ap (λ ls. out ++ concat ls) (sym none) ∙ so_far
