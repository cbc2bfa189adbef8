-- What is noted of each series decides which samples rise, entry by entry.
use Rattle.std.proofs.Common.{◌≡◌, ℕ, zero, suc, ◌≤◌, ℤ, pos, negsuc, int_lt, Bool, true, false, cond, ◌&&◌, List, [], ◌∷◌, ◌++◌, length, length-append, slice_get, Option, None, Some, ◌⊎◌, inl, inr, refl, sym, ap, ◌∙◌, subst, ltb, append_assoc, arith}
use Rattle.std.proofs.lemmas.List.Folds.{list_all-append}
use Rattle.std.specs.List.{list_any}
use Rattle.std.specs.Ordering.{nat_cmp}
use Rattle.std.specs.FinMap.{FinMap, empty, get, insert, get-empty}
use Rattle.std.proofs.lemmas.Bool.Decides.{nat_tests}
use Rattle.std.proofs.lemmas.Bool.{true≢false, and_parts}
use Rattle.std.proofs.lemmas.Option.{slice_get_within}
use Rattle.rw_types.specs.Labels.{Labels, label_fault}
use Rattle.rw_types.specs.LabelOrder.{labels_eq}
use Rattle.rw_types.specs.inner.LabelOrder.{same_if_equal}
use Rattle.rw_types.proofs.shared.OrderLemmas.{equal_if_same}
use Rattle.rw_types.specs.declared.entry.Entry.{Entry}
use Rattle.rw_types.specs.declared.entry.Entry.TheVariants.{Def, Sample}
use Rattle.rw_wal_format.specs.Series.{labels_of, has_labels, samples_after}
use Rattle.rw_relabel.specs.Rules.{keeps}
use Rattle.rw_relabel.specs.declared.choice.Choice.{Choice}
use Rattle.rw_series_cache.specs.Known.{Standing, Unknown, Bad, Filtered, Kept, known, standing_of}
use Rattle.rw_series_cache.specs.Numbers.{series_of, with_series, number_of, HasNumber}
use Rattle.rw_series_cache.specs.Points.{is_kept, kept_points}
use Rattle.rw_series_cache.specs.Rising.{is_after_all, rises, is_after, IsNoted}
use Rattle.rw_series_cache.proofs.shared.KnownLemmas.{kept_labels, series_of-none, series_of-push}
use Rattle.rw_series_cache.proofs.NumberLemmas.{has_number, number_stays, any_at}
use Rattle.rw_series_cache.proofs.shared.PointLemmas.{definition_gives_none, sample_is_kept, sample_is_other, has_labels-only, both_kept}
use Rattle.rw_series_cache.proofs.shared.SeriesLemmas.{kept_has_number, number_stays_on}
use Rattle.rw_series_cache.proofs.TimestampLemmas.{get_here, get_elsewhere}
use Rattle.rw_types.proofs.shared.TimeLemmas.{int_lt-trans}

-- the order of timestamps
after_later_ltb : (a t s : ℕ) → ltb a t ≡ false → ltb a s ≡ true → ltb t s ≡ true
after_later_ltb a t s f g = grind (arith, nat_tests)

after_later : (a t s : ℤ) → int_lt a t ≡ false → int_lt a s ≡ true → int_lt t s ≡ true
after_later (pos a) (pos t) (pos s) f g = after_later_ltb a t s f g
after_later (pos a) (pos t) (negsuc s) f g = absurd (true≢false (sym g))
after_later (pos a) (negsuc t) (pos s) f g = refl
after_later (pos a) (negsuc t) (negsuc s) f g = absurd (true≢false (sym g))
after_later (negsuc a) (pos t) s f g = absurd (true≢false f)
after_later (negsuc a) (negsuc t) (pos s) f g = refl
after_later (negsuc a) (negsuc t) (negsuc s) f g = earlier_ltb a t s f g
  where
    earlier_ltb : (a t s : ℕ) → ltb t a ≡ false → ltb s a ≡ true → ltb s t ≡ true
    earlier_ltb a t s f g = grind (arith, nat_tests)

abbrev Point : Type 0
Point = ℕ × ℤ × ℕ

true_after : (b : Bool) → (b && true) ≡ b
true_after true = refl
true_after false = refl

-- one more sample
pub is_after_all-push : (t : ℤ) (ps : List Point) (p : Point) → is_after_all t (ps ++ p ∷ []) ≡ (is_after_all t ps && int_lt p.1 t)
is_after_all-push t ps p = list_all-append (λ (q : Point). int_lt q.1 t) ps (p ∷ []) ∙ ap (λ b. is_after_all t ps && b) (true_after (int_lt p.1 t))

-- what is later than all samples is later than one that is not
past_falling : (ps : List Point) (t s : ℤ) → is_after_all t ps ≡ false → is_after_all s ps ≡ true → int_lt t s ≡ true
past_falling [] t s f g = absurd (true≢false f)
past_falling (p ∷ ps) t s f g = by_test (int_lt p.1 t) refl f (λ h. past_falling ps t s h (and_parts (int_lt p.1 s) (is_after_all s ps) g).1)
  where
    by_test : (b : Bool) → int_lt p.1 t ≡ b → (b && is_after_all t ps) ≡ false → (is_after_all t ps ≡ false → int_lt t s ≡ true) → int_lt t s ≡ true
    by_test true e h rest = rest h
    by_test false e h rest = after_later p.1 t s e (and_parts (int_lt p.1 s) (is_after_all s ps) g).0

-- what is later than a sample that is later than all is later than all
past_rising : (ps : List Point) (t s : ℤ) → is_after_all t ps ≡ true → int_lt t s ≡ true → is_after_all s ps ≡ true
past_rising [] t s f g = refl
past_rising (p ∷ ps) t s f g =
    let both = and_parts (int_lt p.1 t) (is_after_all t ps) f in
    ap (λ b. b && is_after_all s ps) (int_lt-trans p.1 t s both.0 g) ∙ past_rising ps t s both.1 g

-- so a sample that falls decides nothing, and one that rises decides all
falling_adds_none : (ps : List Point) (t s : ℤ) → is_after_all t ps ≡ false → (is_after_all s ps && int_lt t s) ≡ is_after_all s ps
falling_adds_none ps t s f = by_test (is_after_all s ps) refl
  where
    by_test : (b : Bool) → is_after_all s ps ≡ b → (b && int_lt t s) ≡ b
    by_test true e = past_falling ps t s f e
    by_test false e = refl

rising_decides : (ps : List Point) (t s : ℤ) → is_after_all t ps ≡ true → (is_after_all s ps && int_lt t s) ≡ int_lt t s
rising_decides ps t s f = by_test (int_lt t s) refl
  where
    by_test : (b : Bool) → int_lt t s ≡ b → (is_after_all s ps && b) ≡ b
    by_test true e = ap (λ b. b && true) (past_rising ps t s f e)
    by_test false e = never (is_after_all s ps)
      where
        never : (b : Bool) → (b && false) ≡ false
        never true = refl
        never false = refl

-- labels that are not of a series have no kept sample
unmet_after : (choice : Choice) (l : Labels) → label_fault choice.names l ≡ None → keeps choice.rules l ≡ true → (before es : List Entry) → list_any (labels_eq l) (series_of choice (before ++ es)) ≡ false
    → samples_after l before es ≡ []
unfolding known
unmet_after choice l fine keep before [] none = refl
unmet_after choice l fine keep before (Def r m ∷ es) none =
    unmet_after choice l fine keep (before ++ Def r m ∷ []) es (ap (λ b. list_any (labels_eq l) (series_of choice b)) (append_assoc before (Def r m ∷ []) es) ∙ none)
unmet_after choice l fine keep before (Sample r t w ∷ es) none =
    by_test (has_labels l (labels_of before r (length before))) refl
    (unmet_after choice l fine keep (before ++ Sample r t w ∷ []) es (ap (λ b. list_any (labels_eq l) (series_of choice b)) (append_assoc before (Sample r t w ∷ []) es) ∙ none))
  where
    by_test : (b : Bool) → has_labels l (labels_of before r (length before)) ≡ b → samples_after l (before ++ Sample r t w ∷ []) es ≡ []
        → cond b ((length before, t, w) ∷ samples_after l (before ++ Sample r t w ∷ []) es) (samples_after l (before ++ Sample r t w ∷ []) es) ≡ []
    by_test true e later =
        let is_known : known choice before r ≡ Kept l = ap (standing_of choice) (has_labels-only l (labels_of before r (length before)) e) ∙ kept_labels choice l fine keep in
        let number = kept_has_number choice before r l is_known in
        let stays = number_stays_on choice before (Sample r t w ∷ es) l number.0 number.1 in
        absurd (true≢false (sym (any_at (series_of choice (before ++ Sample r t w ∷ es)) number.0 l stays.stands) ∙ none))
    by_test false e later = later

unmet_has_none : (choice : Choice) (es : List Entry) (l : Labels) → list_any (labels_eq l) (series_of choice es) ≡ false → kept_points choice es l ≡ []
unmet_has_none choice es l none = by_test (is_kept choice l) refl
  where
    by_test : (b : Bool) → is_kept choice l ≡ b → cond b (samples_after l [] es) [] ≡ []
    by_test true e = let fine = both_kept (label_fault choice.names l) (keeps choice.rules l) e in unmet_after choice l fine.0 fine.1 [] es none
    by_test false e = refl

-- what rises after one more entry
rises_by : (choice : Choice) (es fs : List Entry) (l : Labels) (t : ℤ) → kept_points choice fs l ≡ kept_points choice es l → rises choice fs l t ≡ rises choice es l t
unfolding rises
rises_by choice es fs l t e = ap (is_after_all t) e

rises_more : (choice : Choice) (es : List Entry) (l : Labels) (r : ℕ) (t : ℤ) (w : ℕ) (s : ℤ) → known choice es r ≡ Kept l
    → rises choice (es ++ Sample r t w ∷ []) l s ≡ (rises choice es l s && int_lt t s)
unfolding rises
rises_more choice es l r t w s is = ap (is_after_all s) (sample_is_kept choice es l r t w is) ∙ is_after_all-push s (kept_points choice es l) (length es, t, w)

falls_alike : (choice : Choice) (es : List Entry) (l : Labels) (t s : ℤ) → rises choice es l t ≡ false → (rises choice es l s && int_lt t s) ≡ rises choice es l s
unfolding rises
falls_alike choice es l t s f = falling_adds_none (kept_points choice es l) t s f

rise_decides : (choice : Choice) (es : List Entry) (l : Labels) (t s : ℤ) → rises choice es l t ≡ true → (rises choice es l s && int_lt t s) ≡ int_lt t s
unfolding rises
rise_decides choice es l t s f = rising_decides (kept_points choice es l) t s f

first_rises : (choice : Choice) (es : List Entry) (l : Labels) (t : ℤ) → list_any (labels_eq l) (series_of choice es) ≡ false → rises choice es l t ≡ true
unfolding rises
first_rises choice es l t none = ap (is_after_all t) (unmet_has_none choice es l none)

-- before the first entry nothing is noted
pub noted_at_first : (choice : Choice) → IsNoted choice [] empty
noted_at_first choice = record {
  decides = λ l number t h. let no : None ≡ Some l = subst (λ (s : List Labels). slice_get s number ≡ Some l) (series_of-none choice) h.stands in absurd cc;
  none = λ number le. get-empty nat_cmp number;
}

-- a series has one number
same_number : (s : List Labels) (l : Labels) (n k : ℕ) → HasNumber s l n → HasNumber s l k → n ≡ k
same_number s l n k a b = a.numbered ∙ sym b.numbered

-- of a series that is added last
added_last : (s : List Labels) (k l : Labels) (number : ℕ) → HasNumber (s ++ k ∷ []) l number → HasNumber s l number ⊎ ((number ≡ length s) × (l ≡ k))
added_last s k l number h = by_place (slice_get s number) refl
  where
    at_last : (s : List Labels) (number : ℕ) → slice_get s number ≡ None → slice_get (s ++ k ∷ []) number ≡ Some l → (number ≡ length s) × (l ≡ k)
    at_last [] zero none e = (refl, cc)
    at_last [] (suc n) none e = absurd cc
    at_last (x ∷ xs) zero none e = absurd cc
    at_last (x ∷ xs) (suc n) none e = let rest = at_last xs n none e in (let same = rest.0 in omega arith, rest.1)

    before : (s : List Labels) (number : ℕ) (m : Labels) → slice_get s number ≡ Some m → slice_get (s ++ k ∷ []) number ≡ Some m
    before [] number m e = absurd cc
    before (x ∷ xs) zero m e = e
    before (x ∷ xs) (suc n) m e = before xs n m e

    by_place : (o : Option Labels) → slice_get s number ≡ o → HasNumber s l number ⊎ ((number ≡ length s) × (l ≡ k))
    by_place None e = inr (at_last s number e h.stands)
    by_place (Some m) e =
        let same : m ≡ l = let twice : Some m ≡ Some l = sym (before s number m e) ∙ h.stands in cc in
        let stands : slice_get s number ≡ Some l = e ∙ ap Some same in
        let first = has_number s l (any_at s number l stands) in
        let equal = same_number (s ++ k ∷ []) l (number_of s l) number (number_stays s (k ∷ []) l (number_of s l) first) h in
        inl (subst (HasNumber s l) equal first)

-- a definition notes nothing
pub noted_definition : (choice : Choice) (es : List Entry) (r : ℕ) (m : Labels) (noted : FinMap nat_cmp ℤ) → IsNoted choice es noted → IsNoted choice (es ++ Def r m ∷ []) noted
noted_definition choice es r m noted at = record {
  decides = λ l number t h. by_standing (standing_of choice (Some m)) l number t (subst (λ s. HasNumber s l number) (series_of-push choice es (Def r m)) h) ∙ sym (rises_by choice es (es ++ Def r m ∷ []) l t (definition_gives_none choice es l m r));
  none = λ number le. at.none number (let more = grows (standing_of choice (Some m)) in let same : length (series_of choice (es ++ Def r m ∷ [])) ≡ length (with_series (series_of choice es) (standing_of choice (Some m))) = ap length (series_of-push choice es (Def r m)) in omega arith);
}
  where
    by_any : (k l : Labels) (number : ℕ) (t : ℤ) (b : Bool) → list_any (labels_eq k) (series_of choice es) ≡ b → HasNumber (cond b (series_of choice es) (series_of choice es ++ k ∷ [])) l number → is_after (get noted number) t ≡ rises choice es l t
    by_any k l number t true e h = at.decides l number t h
    by_any k l number t false e h = elim (added_last (series_of choice es) k l number h) [
      | inl old ↦ at.decides l number t old
      | inr new ↦
          ap (λ o. is_after o t) (at.none number (let here = new.0 in omega arith))
          ∙ sym (first_rises choice es l t (ap (λ n. list_any (labels_eq n) (series_of choice es)) new.1 ∙ e))
    ]

    by_standing : (is : Standing) (l : Labels) (number : ℕ) (t : ℤ) → HasNumber (with_series (series_of choice es) is) l number → is_after (get noted number) t ≡ rises choice es l t
    by_standing Unknown l number t h = at.decides l number t h
    by_standing (Bad f) l number t h = at.decides l number t h
    by_standing Filtered l number t h = at.decides l number t h
    by_standing (Kept k) l number t h = by_any k l number t (list_any (labels_eq k) (series_of choice es)) refl h

    grows : (is : Standing) → length (series_of choice es) ≤ length (with_series (series_of choice es) is)
    grows Unknown = omega arith
    grows (Bad f) = omega arith
    grows Filtered = omega arith
    grows (Kept k) = by_test (list_any (labels_eq k) (series_of choice es))
      where
        by_test : (b : Bool) → length (series_of choice es) ≤ length (cond b (series_of choice es) (series_of choice es ++ k ∷ []))
        by_test true = omega arith
        by_test false = omega (arith, length-append (series_of choice es) (k ∷ []))

-- a sample of no kept series notes nothing
pub noted_other : (choice : Choice) (es : List Entry) (r : ℕ) (t : ℤ) (w : ℕ) (noted : FinMap nat_cmp ℤ) → ((l : Labels) → known choice es r ≡ Kept l → ⊥) → IsNoted choice es noted
    → IsNoted choice (es ++ Sample r t w ∷ []) noted
noted_other choice es r t w noted other at = record {
  decides = λ l number s h.
      at.decides l number s (subst (λ n. HasNumber n l number) (series_of-push choice es (Sample r t w)) h)
      ∙ sym (rises_by choice es (es ++ Sample r t w ∷ []) l s (sample_is_other choice es l r t w (other l)));
  none = λ number le. at.none number (subst (λ (n : List Labels). length n ≤ number) (series_of-push choice es (Sample r t w)) le);
}

-- another series than that of a sample
apart_kept : (choice : Choice) (es : List Entry) (r : ℕ) (l m : Labels) → known choice es r ≡ Kept l → labels_eq l m ≡ false → known choice es r ≡ Kept m → ⊥
apart_kept choice es r l m is e other = let same : l ≡ m = let twice : Kept l ≡ Kept m = sym is ∙ other in cc in absurd (true≢false (sym (equal_if_same l m same) ∙ e))

-- nor does one that does not rise
pub noted_falling : (choice : Choice) (es : List Entry) (r : ℕ) (t : ℤ) (w : ℕ) (l : Labels) (noted : FinMap nat_cmp ℤ) → known choice es r ≡ Kept l → rises choice es l t ≡ false → IsNoted choice es noted
    → IsNoted choice (es ++ Sample r t w ∷ []) noted
noted_falling choice es r t w l noted is falls at = record {
  decides = λ m number s h. let n = subst (λ (z : List Labels). HasNumber z m number) (series_of-push choice es (Sample r t w)) h in at.decides m number s n ∙ sym (by_test m s (labels_eq l m) refl);
  none = λ number le. at.none number (subst (λ (n : List Labels). length n ≤ number) (series_of-push choice es (Sample r t w)) le);
}
  where
    by_test : (m : Labels) (s : ℤ) (b : Bool) → labels_eq l m ≡ b → rises choice (es ++ Sample r t w ∷ []) m s ≡ rises choice es m s
    by_test m s true e = subst (λ n. rises choice (es ++ Sample r t w ∷ []) n s ≡ rises choice es n s) (same_if_equal l m e) (rises_more choice es l r t w s is ∙ falls_alike choice es l t s falls)
    by_test m s false e = rises_by choice es (es ++ Sample r t w ∷ []) m s (sample_is_other choice es m r t w (apart_kept choice es r l m is e))

-- one that rises is noted
pub noted_rising : (choice : Choice) (es : List Entry) (r : ℕ) (t : ℤ) (w : ℕ) (l : Labels) (number : ℕ) (noted : FinMap nat_cmp ℤ) → known choice es r ≡ Kept l → HasNumber (series_of choice es) l number
    → rises choice es l t ≡ true → IsNoted choice es noted → IsNoted choice (es ++ Sample r t w ∷ []) (insert noted number t)
noted_rising choice es r t w l number noted is numbered up at = record {
  decides = λ m n s h. by_test m n s (subst (λ (z : List Labels). HasNumber z m n) (series_of-push choice es (Sample r t w)) h) (labels_eq l m) refl;
  none = λ n le.
      let past : length (series_of choice es) ≤ n = subst (λ (z : List Labels). length z ≤ n) (series_of-push choice es (Sample r t w)) le in
      let here = slice_get_within (series_of choice es) number l numbered.stands in
      get_elsewhere noted number t n (λ e. omega arith) ∙ at.none n past;
}
  where
    by_test : (m : Labels) (n : ℕ) (s : ℤ) → HasNumber (series_of choice es) m n → (b : Bool) → labels_eq l m ≡ b → is_after (get (insert noted number t) n) s ≡ rises choice (es ++ Sample r t w ∷ []) m s
    by_test m n s h true e =
        let same = same_if_equal l m e in
        let place = same_number (series_of choice es) l n number (subst (λ k. HasNumber (series_of choice es) k n) (sym same) h) numbered in
        ap (λ o. is_after o s) (get_here noted number t n place)
        ∙ sym (rise_decides choice es l t s up) ∙ sym (rises_more choice es l r t w s is) ∙ ap (λ k. rises choice (es ++ Sample r t w ∷ []) k s) same
    by_test m n s h false e =
        ap (λ o. is_after o s) (get_elsewhere noted number t n (λ place. let twice : Some m ≡ Some l = sym h.stands ∙ ap (slice_get (series_of choice es)) place ∙ numbered.stands in let same : l ≡ m = cc in absurd (true≢false (sym (equal_if_same l m same) ∙ e))))
        ∙ at.decides m n s h
        ∙ sym (rises_by choice es (es ++ Sample r t w ∷ []) m s (sample_is_other choice es m r t w (apart_kept choice es r l m is e)))
