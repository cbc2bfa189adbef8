-- What each call on a folder adds to what was read of it.
use Rattle.std.proofs.Common.{◌≡◌, inr, ℕ, ◌==◌, ◌&&◌, Bool, true, true≢false, List, [], ◌∷◌, ◌++◌, Option, None, Some, Ok, Err, IfOk, OnOk, OnErr, is_some, string_len, take, append-nil, refl, sym, ap, ◌∙◌, subst, arith}
use Rattle.std.proofs.lemmas.Bool.Decides.{nat_tests}
use Rattle.std.proofs.lemmas.List.Sums.{fold_push}
use Rattle.std.specs.declared.result.Result.{Result}
use Rattle.std.specs.List.Sorted.{IsSortedBy}
use Rattle.rw_follow.specs.Meals.{Meal, read_by, with_piece}
use Rattle.rw_log_folder.specs.Folders.{comes_before}
use Rattle.rw_log_folder.specs.Reading.{Reading, is_named, is_next, key_of, meal_with, next_in, no_reading, reading_of, step}
use Rattle.rw_log_folder.specs.GrowingFolders.{FolderState, HasGiven, HasListed, HasOpened, IsBelow, IsByNumber, IsGapOf, due, next, reading, with_ahead, with_listing, with_read, with_taken}
use Rattle.rw_log_folder.proofs.LackLemmas.{missing_passed}
use Rattle.rw_log_folder.specs.declared.files.SegmentName.{SegmentName}
use Rattle.rw_log_folder.specs.declared.folder_call.FolderCall.{FolderCall}
use Rattle.rw_log_folder.specs.declared.folder_call.FolderCall.TheVariants.{Listed, Opened, TookOpen, Read}

pub reading_push : (s : FolderState) (c : FolderCall) → reading_of s.first s.early (s.calls ++ c ∷ []) ≡ step s.first s.early (reading s) c
reading_push s c = fold_push (step s.first s.early) no_reading s.calls c

-- ---- a gap is found before the first segment is there
pub gap_none : (s : FolderState) (g : Option ℕ) → is_some s.current ≡ true → IsGapOf s g → g ≡ None
gap_none s None some is = refl
gap_none s (Some n) some is = absurd (true≢false (sym some ∙ ap is_some is.0))

no_gap : (s : FolderState) (g : Option ℕ) → g ≡ None → IsGapOf s g
no_gap s g none = subst (IsGapOf s) (sym none) tt

-- ---- a listing
pub given_listed : (names : List SegmentName) (s : FolderState) (meal : Meal) → IsSortedBy comes_before names → s.gap ≡ None → HasGiven s meal → HasGiven (with_listing names s) meal
given_listed names s meal sorted none h =
    let e = reading_push s (Listed names) in
    record {
      given = h.given ∙ sym (ap (λ (r : Reading). r.meal) e);
      in_order = ap (λ (r : Reading). r.in_order) e ∙ h.in_order;
      by_number = subst (λ (r : Reading). IsByNumber r.listed) (sym e) sorted;
      known = h.known ∙ sym (ap (λ (r : Reading). r.current) e);
      seen = sym (ap (λ (r : Reading). next_in s.first s.current r.listed) e);
      in_advance = h.in_advance;
      gap = no_gap (with_listing names s) s.gap none;
    }

pub gap_listed : (s new : FolderState) → HasListed s new → new.gap ≡ s.gap
gap_listed s new is = ap (λ (t : FolderState). t.gap) is.is

pub seen_listed : (s new : FolderState) → HasListed s new → new.ahead ≡ next new
seen_listed s new is = subst (λ (t : FolderState). t.ahead ≡ next t) (sym is.is)
    (sym (ap (λ (r : Reading). next_in s.first s.current r.listed) (reading_push s (Listed is.names))))

by_number_listed : (s new : FolderState) → HasListed s new → IsByNumber (reading new).listed
by_number_listed s new is = subst (λ (t : FolderState). IsByNumber (reading t).listed) (sym is.is)
    (subst (λ (r : Reading). IsByNumber r.listed) (sym (reading_push s (Listed is.names))) is.by_number)

fresh_listed : (s new : FolderState) → HasListed s new → (reading new).is_fresh ≡ true
fresh_listed s new is = subst (λ (t : FolderState). (reading t).is_fresh ≡ true) (sym is.is) (ap (λ (r : Reading). r.is_fresh) (reading_push s (Listed is.names)))

pub given_seen : (s new : FolderState) (meal : Meal) → HasListed s new → s.gap ≡ None → HasGiven s meal → HasGiven new meal
given_seen s new meal is none h = subst (λ t. HasGiven t meal) (sym is.is) (given_listed is.names s meal is.by_number none h)

-- it may fail
pub given_sought : {X E : Type 0} (r : Result X E) (s new : FolderState) (meal : Meal) → OnOk r (HasListed s new) → OnErr r (new ≡ s) → s.gap ≡ None → HasGiven s meal → HasGiven new meal
given_sought (Ok x) s new meal ok err none h = given_seen s new meal ok none h
given_sought (Err e) s new meal ok err none h = subst (λ t. HasGiven t meal) (sym err) h

pub seen_sought : {X E : Type 0} (r : Result X E) (s new : FolderState) → OnOk r (HasListed s new) → OnOk r (new.ahead ≡ next new)
seen_sought (Ok x) s new ok = seen_listed s new ok
seen_sought (Err e) s new ok = tt

pub fresh_sought : {X E : Type 0} (r : Result X E) (s new : FolderState) → OnOk r (HasListed s new) → OnOk r ((reading new).is_fresh ≡ true)
fresh_sought (Ok x) s new ok = fresh_listed s new ok
fresh_sought (Err e) s new ok = tt

pub by_number_sought : {X E : Type 0} (r : Result X E) (s new : FolderState) → OnOk r (HasListed s new) → OnOk r (IsByNumber (reading new).listed)
by_number_sought (Ok x) s new ok = by_number_listed s new ok
by_number_sought (Err e) s new ok = tt

-- ---- the segment ahead is opened
named : (name : SegmentName) → is_named (key_of name) name ≡ true
named name = both name.number (string_len name.name)
  where
    both : (a b : ℕ) → ((a == a) && (b == b)) ≡ true
    both a b = grind (arith, nat_tests)

and_true : (a b : Bool) → a ≡ true → b ≡ true → (a && b) ≡ true
and_true a b e f = ap (λ x. x && b) e ∙ f

pub given_ahead : (name : SegmentName) (s : FolderState) (meal : Meal) → s.gap ≡ None → s.ahead ≡ Some name → HasGiven s meal → HasGiven (with_ahead name s) (meal_with s.current meal)
given_ahead name s meal none ahead h =
    let e = reading_push s (Opened name.number (string_len name.name)) in
    let due : next_in s.first (reading s).current (reading s).listed ≡ Some name =
    sym (ap (λ c. next_in s.first c (reading s).listed) h.known) ∙ sym h.seen ∙ ahead in
    record {
      given = ap (λ c. meal_with c meal) h.known ∙ ap (meal_with (reading s).current) h.given ∙ sym (ap (λ (r : Reading). r.meal) e);
      in_order = ap (λ (r : Reading). r.in_order) e
          ∙ and_true (reading s).in_order (is_next (key_of name) (next_in s.first (reading s).current (reading s).listed)) h.in_order (ap (is_next (key_of name)) due ∙ named name);
      by_number = subst (λ (r : Reading). IsByNumber r.listed) (sym e) tt;
      known = sym (ap (λ (r : Reading). r.current) e);
      seen = sym (ap (λ (r : Reading). next_in s.first (Some (key_of name)) r.listed) e);
      in_advance = λ some. ((h.in_advance some).0, refl);
      gap = no_gap (with_ahead name s) s.gap none;
    }

-- this may fail as well
pub given_opened : {X E : Type 0} (r : Result X E) (s new : FolderState) (meal : Meal) → OnOk r (HasOpened s new) → s.gap ≡ None → HasGiven s meal → OnOk r (HasGiven new (meal_with s.current meal))
given_opened (Ok x) s new meal ok none h = subst (λ t. HasGiven t (meal_with s.current meal)) (sym ok.is) (given_ahead ok.name s meal none ok.was_ahead h)
given_opened (Err e) s new meal ok none h = tt

-- ---- the first segment
pub given_cleared : (s : FolderState) (meal : Meal) → HasGiven s meal → HasGiven (record s { gap = None }) meal
given_cleared s meal h = record {
  given = h.given;
  in_order = h.in_order;
  by_number = h.by_number;
  known = h.known;
  seen = h.seen;
  in_advance = h.in_advance;
  gap = tt;
}

pub given_gap : (s new : FolderState) (meal : Meal) → HasListed (record s { gap = None }) new → s.current ≡ None → IsBelow new.first new.ahead
    → HasGiven s meal → HasGiven (record new { gap = Some new.first }) meal
given_gap s new meal is none below h0 =
    let h = given_seen (record s { gap = None }) new meal is refl (given_cleared s meal h0) in
    let bare : new.current ≡ None = ap (λ (t : FolderState). t.current) is.is ∙ none in
    record {
      given = h.given;
      in_order = h.in_order;
      by_number = h.by_number;
      known = h.known;
      seen = h.seen;
      in_advance = h.in_advance;
      gap = (bare, inr (missing_passed new new.first h.by_number (sym (ap (due new.first) bare), subst (IsBelow new.first) h.seen below)));
    }

pub given_first : {X E : Type 0} (r : Result X E) (s mid new : FolderState) (meal : Meal) → HasListed (record s { gap = None }) mid → OnOk r (HasOpened mid new) → OnErr r (new ≡ mid) → s.current ≡ None
    → HasGiven s meal → HasGiven new meal
given_first {X} {E} r s mid new meal is ok err none h0 = by_result r ok err
  where
    h : HasGiven mid meal
    h = given_seen (record s { gap = None }) mid meal is refl (given_cleared s meal h0)

    bare : mid.current ≡ None
    bare = ap (λ (t : FolderState). t.current) is.is ∙ none

    by_result : (r : Result X E) → OnOk r (HasOpened mid new) → OnErr r (new ≡ mid) → HasGiven new meal
    by_result (Ok x) ok err = subst (λ m. HasGiven new m) (ap (λ c. meal_with c meal) bare) (given_opened {E = E} (Ok x) mid new meal ok (gap_listed (record s { gap = None }) mid is) h)
    by_result (Err e) ok err = subst (λ t. HasGiven t meal) (sym err) h

-- ---- a file that was opened in advance is taken
pub given_taken : (name : SegmentName) (s : FolderState) (meal : Meal) → s.gap ≡ None → s.early ≡ true → meal ≡ (reading s).meal → (reading s).in_order ≡ true → s.current ≡ (reading s).current
    → HasGiven (with_taken name s) (meal_with s.current meal)
given_taken name s meal none early given in_order known =
    let e = reading_push s (TookOpen name.number (string_len name.name)) in
    record {
      given = ap (λ c. meal_with c meal) known ∙ ap (meal_with (reading s).current) given ∙ sym (ap (λ (r : Reading). r.meal) e);
      in_order = ap (λ (r : Reading). r.in_order) e ∙ and_true (reading s).in_order s.early in_order early;
      by_number = subst (λ (r : Reading). IsByNumber r.listed) (sym e) tt;
      known = sym (ap (λ (r : Reading). r.current) e);
      seen = sym (ap (λ (r : Reading). next_in s.first (Some (key_of name)) r.listed) e);
      in_advance = λ some. (early, refl);
      gap = no_gap (with_taken name s) s.gap none;
    }

-- ---- a read
pub given_read : (bytes : List ℕ) (s : FolderState) (meal : Meal) → is_some s.current ≡ true → HasGiven s meal → HasGiven (with_read bytes s) (with_piece meal bytes)
given_read bytes s meal some h =
    let e = reading_push s (Read bytes) in
    record {
      given = ap (λ m. with_piece m bytes) h.given ∙ sym (ap (λ (r : Reading). r.meal) e);
      in_order = ap (λ (r : Reading). r.in_order) e ∙ h.in_order;
      by_number = subst (λ (r : Reading). IsByNumber r.listed) (sym e) h.by_number;
      known = h.known ∙ sym (ap (λ (r : Reading). r.current) e);
      seen = h.seen ∙ sym (ap (λ (r : Reading). next_in s.first s.current r.listed) e);
      in_advance = h.in_advance;
      gap = no_gap (with_read bytes s) s.gap (gap_none s s.gap some h.gap);
    }

pub given_by : {E : Type 0} (r : Result ℕ E) (s : FolderState) (calls : List FolderCall) (buf : List ℕ) (meal : Meal) → is_some s.current ≡ true → IfOk r (λ n. calls ≡ s.calls ++ Read (take n buf) ∷ []) → OnErr r (calls ≡ s.calls)
    → HasGiven s meal → HasGiven (record s { calls = calls }) (read_by r buf meal)
given_by (Ok n) s calls buf meal some ok err h = subst (λ cs. HasGiven (record s { calls = cs }) (with_piece meal (take n buf))) (sym ok) (given_read (take n buf) s meal some h)
given_by (Err e) s calls buf meal some ok err h = subst (λ cs. HasGiven (record s { calls = cs }) meal) (sym err) h

-- and one that gives nothing
pub given_nothing : (bytes : List ℕ) (s : FolderState) (meal : Meal) → HasGiven s meal → HasGiven s (with_piece meal (take 0 bytes))
given_nothing bytes s meal h = subst (HasGiven s) (ap (λ b. record { whole = meal.whole; begun = b }) (sym (append-nil meal.begun))) h
