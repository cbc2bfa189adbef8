-- Each sample of a message that is taken is held.
use Rattle.std.proofs.Common.{◌≡◌, ℕ, zero, suc, List, [], ◌∷◌, ◌++◌, slice_get, Option, Some, None, is_some, Bool, true, false, ◌&&◌, ◌||◌, cond, eqb, eq-eqb, Result, Ok, Err, nat_lt, refl, sym, ◌∙◌, ap, subst, arith}
use Rattle.std.proofs.lemmas.Bool.Decides.{Decides-int_eq}
use Rattle.std.specs.Ordering.{int_eq}
use Rattle.std.proofs.lemmas.Bool.{or_right}
use Rattle.rw_types.specs.Beginnings.{Begins}
use Rattle.rw_types.specs.Labels.{label_fault}
use Rattle.rw_types.proofs.shared.OrderLemmas.{equal_if_same}
use Rattle.rw_write_request.specs.Message.{Sample, TimeSeries, WriteRequest}
use Rattle.rw_write_request.specs.Read.{read}
use Rattle.rw_head.specs.declared.verdict.Verdict.{Verdict}
use Rattle.rw_head.specs.declared.verdict.Verdict.TheVariants.{BadLabels, OverLimit}
use Rattle.rw_head.specs.Order.{Point, point_of, points, is_later, holds, accept_one, accept}
use Rattle.rw_head.specs.Store.{Store, list_of, with_list, HasNoEmptyList}
use Rattle.rw_head.specs.Verdicts.{LabelLimits, refusal, is_over_limits, accepted, taken_unless, taken, taken_all, judged}
use Rattle.rw_head.specs.Growth.{EachRises}
use Rattle.rw_head.specs.Head.{State, status_of, judged_body, answer_to, answer}
use Rattle.rw_head.proofs.shared.OrderLemmas.{accept-none}
use Rattle.rw_head.proofs.shared.StoreLemmas.{list_of-with_list}
use Rattle.rw_head.proofs.shared.VerdictLemmas.{taken_all-err}
use Rattle.rw_recv_head.specs.Seats.{store_after, head_after}
use Rattle.rw_recv_head.proofs.shared.StayingLemmas.{message_keeps, after_keeps, stays_stored}
use Rattle.rw_recv_head.proofs.StoredLemmas.{store_after-push}

or_more : (a b c : Bool) → (a || b) ≡ true → (b ≡ true → c ≡ true) → (a || c) ≡ true
or_more true b c h k = refl
or_more false b c h k = k h

holds_more : (p : Point) (xs ys : List Point) → holds p xs ≡ true → holds p (xs ++ ys) ≡ true
holds_more p [] ys h = absurd cc
holds_more p (x ∷ xs) ys h = or_more (int_eq x.0 p.0 && eqb x.1 p.1) (holds p xs) (holds p (xs ++ ys)) h (holds_more p xs ys)

holds_last : (p : Point) (xs : List Point) → holds p (xs ++ p ∷ []) ≡ true
holds_last p [] = ap (λ b. (b && eqb p.1 p.1) || false) ((Decides-int_eq p.0 p.0).1 refl) ∙ ap (λ b. b || false) (eq-eqb p.1 p.1 refl)
holds_last p (x ∷ xs) = or_right (int_eq x.0 p.0 && eqb x.1 p.1) (holds p (xs ++ p ∷ [])) (holds_last p xs)

holds_begun : (p : Point) (xs ys : List Point) → Begins xs ys → holds p xs ≡ true → holds p ys ≡ true
holds_begun p xs ys b h = subst (λ l. holds p l ≡ true) (sym b.1) (holds_more p xs b.0 h)

-- ---- the samples of a series
one_held : (p s : Point) (xs ys : List Point) (later stands : Bool) → holds s xs ≡ stands
    → cond later (Some (xs ++ s ∷ [])) (cond stands (Some xs) None) ≡ Some ys → (holds s ys ≡ true) × (holds p xs ≡ true → holds p ys ≡ true)
one_held p s xs ys true stands is e =
    let same : xs ++ s ∷ [] ≡ ys = cc in
    subst (λ l. (holds s l ≡ true) × (holds p xs ≡ true → holds p l ≡ true)) same (holds_last s xs, holds_more p xs (s ∷ []))
one_held p s xs ys false true is e =
    let same : xs ≡ ys = cc in
    subst (λ l. (holds s l ≡ true) × (holds p xs ≡ true → holds p l ≡ true)) same (is, λ h. h)
one_held p s xs ys false false is e = absurd cc

next_held : (p s : Point) (ss xs ys : List Point) (o : Option (List Point)) → accept_one xs s ≡ o
    → ((zs : List Point) → holds p zs ≡ true → accept (Some zs) ss ≡ Some ys → holds p ys ≡ true)
    → holds p xs ≡ true → accept o ss ≡ Some ys → holds p ys ≡ true
next_held p s ss xs ys None e further h rest = let none : accept None ss ≡ None = accept-none ss in absurd (cc (none, rest))
next_held p s ss xs ys (Some zs) e further h rest = further zs ((one_held p s xs zs (is_later s.0 xs) (holds s xs) refl e).1 h) rest

still_held : (p : Point) (ss xs ys : List Point) → holds p xs ≡ true → accept (Some xs) ss ≡ Some ys → holds p ys ≡ true
still_held p [] xs ys h e = let same : xs ≡ ys = cc in subst (λ l. holds p l ≡ true) same h
still_held p (s ∷ ss) xs ys h e = next_held p s ss xs ys (accept_one xs s) refl (λ zs. still_held p ss zs ys) h e

first_held : (s : Point) (ss xs ys : List Point) (o : Option (List Point)) → accept_one xs s ≡ o → accept o ss ≡ Some ys → holds s ys ≡ true
first_held s ss xs ys None e rest = let none : accept None ss ≡ None = accept-none ss in absurd (cc (none, rest))
first_held s ss xs ys (Some zs) e rest = still_held s ss zs ys (one_held s s xs zs (is_later s.0 xs) (holds s xs) refl e).0 rest

later_held : (s : Point) (ss xs ys : List Point) (p : Point) (o : Option (List Point)) → accept_one xs s ≡ o
    → ((zs : List Point) → accept (Some zs) ss ≡ Some ys → holds p ys ≡ true) → accept o ss ≡ Some ys → holds p ys ≡ true
later_held s ss xs ys p None e further rest = let none : accept None ss ≡ None = accept-none ss in absurd (cc (none, rest))
later_held s ss xs ys p (Some zs) e further rest = further zs rest

each_held : (ss : List Sample) (xs ys : List Point) (j : ℕ) (x : Sample) → slice_get ss j ≡ Some x → accept (Some xs) (points ss) ≡ Some ys → holds (point_of x) ys ≡ true
each_held [] xs ys j x at e = absurd cc
each_held (s ∷ ss) xs ys zero x at e =
    let same : s ≡ x = cc in
    subst (λ y. holds (point_of y) ys ≡ true) same (first_held (point_of s) (points ss) xs ys (accept_one xs (point_of s)) refl e)
each_held (s ∷ ss) xs ys (suc j) x at e =
    later_held (point_of s) (points ss) xs ys (point_of x) (accept_one xs (point_of s)) refl (λ zs. each_held ss zs ys j x at) e

-- ---- the series of a message
accepted_held : (s : TimeSeries) (store next : Store) (j : ℕ) (x : Sample) (o : Option (List Point)) → slice_get s.samples j ≡ Some x
    → accept (Some (list_of store s.labels)) (points s.samples) ≡ o → accepted s.labels store o ≡ Ok next → holds (point_of x) (list_of next s.labels) ≡ true
accepted_held s store next j x None at e given = absurd cc
accepted_held s store next j x (Some ys) at e given =
    let same : with_list s.labels ys store ≡ next = cc given in
    let here : list_of (with_list s.labels ys store) s.labels ≡ ys =
    list_of-with_list s.labels ys store s.labels ∙ ap (λ b. cond b ys (list_of store s.labels)) (equal_if_same s.labels s.labels refl) in
    subst (λ t. holds (point_of x) (list_of t s.labels) ≡ true) same (subst (λ l. holds (point_of x) l ≡ true) (sym here) (each_held s.samples (list_of store s.labels) ys j x at e))

unless_held : (s : TimeSeries) (store next : Store) (j : ℕ) (x : Sample) (r : Option Verdict) → slice_get s.samples j ≡ Some x
    → taken_unless r store s ≡ Ok next → holds (point_of x) (list_of next s.labels) ≡ true
unless_held s store next j x (Some v) at given = absurd cc
unless_held s store next j x None at given = accepted_held s store next j x (accept (Some (list_of store s.labels)) (points s.samples)) at refl given

module _ (limits : LabelLimits) where
  series_held : (t : TimeSeries) (ts : WriteRequest) (store next : Store) (i j : ℕ) (s : TimeSeries) (x : Sample) (r : Result Store Verdict)
      → ((mid : Store) (k : ℕ) → EachRises mid → HasNoEmptyList mid → slice_get ts k ≡ Some s → taken_all limits (Ok mid) ts ≡ Ok next → holds (point_of x) (list_of next s.labels) ≡ true)
      → EachRises store → HasNoEmptyList store → slice_get (t ∷ ts) i ≡ Some s → slice_get s.samples j ≡ Some x
      → taken limits store t ≡ r → taken_all limits r ts ≡ Ok next → holds (point_of x) (list_of next s.labels) ≡ true
  series_held t ts store next i j s x (Err v) further h k here at e rest = absurd (cc (taken_all-err limits v ts, rest))
  series_held t ts store next zero j s x (Ok mid) further h k here at e rest =
      let same : t ≡ s = cc in
      let one = message_keeps limits (t ∷ []) store mid h k e in
      let more = message_keeps limits ts mid next one.rises one.filled rest in
      holds_begun (point_of x) (list_of mid s.labels) (list_of next s.labels) (more.begins s.labels)
      (unless_held s store mid j x (refusal limits s.labels) at (subst (λ y. taken limits store y ≡ Ok mid) same e))
  series_held t ts store next (suc i) j s x (Ok mid) further h k here at e rest =
      let one = message_keeps limits (t ∷ []) store mid h k e in
      further mid i one.rises one.filled here rest

  message_held : (m : WriteRequest) (store next : Store) (i j : ℕ) (s : TimeSeries) (x : Sample) → EachRises store → HasNoEmptyList store
      → slice_get m i ≡ Some s → slice_get s.samples j ≡ Some x → taken_all limits (Ok store) m ≡ Ok next → holds (point_of x) (list_of next s.labels) ≡ true
  message_held [] store next i j s x h k here at e = absurd cc
  message_held (t ∷ ts) store next i j s x h k here at e =
      series_held t ts store next i j s x (taken limits store t) (λ mid n rises filled there rest. message_held ts mid next n j s x rises filled there at rest) h k here at refl e

  -- ---- a verdict that refuses is 400
  abbrev IsRefused : Result Store Verdict → Type 0
  IsRefused (Ok store) = Unit {0}
  IsRefused (Err v) = status_of v ≡ 400

  one_refused : (over bad : Bool) (store : Store) (s : TimeSeries) (o : Option (List Point))
      → IsRefused (taken_unless (cond bad (Some BadLabels) (cond over (Some OverLimit) None)) store s)
  one_refused over true store s o = refl
  one_refused true false store s o = refl
  one_refused false false store s o = by_list (accept (Some (list_of store s.labels)) (points s.samples))
    where
      by_list : (p : Option (List Point)) → IsRefused (accepted s.labels store p)
      by_list None = refl
      by_list (Some ys) = tt

  all_refused : (m : WriteRequest) (r : Result Store Verdict) → IsRefused r → IsRefused (taken_all limits r m)
  all_refused [] r h = h
  all_refused (s ∷ ss) (Err v) h = all_refused ss (Err v) h
  all_refused (s ∷ ss) (Ok store) h = all_refused ss (taken limits store s) (one_refused (is_over_limits limits s.labels) (is_some (label_fault limits.names s.labels)) store s None)

-- ---- an answer
answer_held : (head : State) (m : WriteRequest) (r : Result Store Verdict) (i j : ℕ) (s : TimeSeries) (x : Sample) → EachRises head.store → HasNoEmptyList head.store
    → slice_get m i ≡ Some s → slice_get s.samples j ≡ Some x → IsRefused head.limits r → status_of (judged head.store r).verdict ≡ 204
    → taken_all head.limits (Ok head.store) m ≡ r → holds (point_of x) (list_of (judged head.store r).store s.labels) ≡ true
answer_held head m (Err v) i j s x h k here at refused status e = absurd (omega (arith, refused, status))
answer_held head m (Ok next) i j s x h k here at refused status e = message_held head.limits m head.store next i j s x h k here at e

by_busy : (head : State) (m : WriteRequest) (i j : ℕ) (s : TimeSeries) (x : Sample) (busy : Bool) → EachRises head.store → HasNoEmptyList head.store
    → slice_get m i ≡ Some s → slice_get s.samples j ≡ Some x → nat_lt 0 head.busy ≡ busy → (answer_to head (Ok m)).status ≡ 204
    → holds (point_of x) (list_of (judged_body head (Ok m)).store s.labels) ≡ true
by_busy head m i j s x true h k here at e status = absurd (omega (arith, busy_status e, status))
  where
    busy_status : nat_lt 0 head.busy ≡ true → (answer_to head (Ok m)).status ≡ 429
    busy_status b = rw b refl
by_busy head m i j s x false h k here at e status =
    answer_held head m (taken_all head.limits (Ok head.store) m) i j s x h k here at (all_refused head.limits m (Ok head.store) tt) (free_status e status) refl
  where
    free_status : nat_lt 0 head.busy ≡ false → (answer_to head (Ok m)).status ≡ 204 → status_of (judged_body head (Ok m)).verdict ≡ 204
    free_status b = rw b (λ q. q)

pub what_is_answered : (head : State) (before bodies : List (List ℕ)) (busy : ℕ) (body : List ℕ) (m : WriteRequest) (i j : ℕ) (s : TimeSeries) (x : Sample)
    → EachRises head.store → HasNoEmptyList head.store → (answer (head_after head before busy) body).status ≡ 204 → read body ≡ Ok m
    → slice_get m i ≡ Some s → slice_get s.samples j ≡ Some x → Begins (before ++ body ∷ []) bodies
    → holds (point_of x) (list_of (store_after head bodies) s.labels) ≡ true
what_is_answered head before bodies busy body m i j s x h k status reads here at begins =
    let first = after_keeps head before h k in
    let told : (answer_to (head_after head before busy) (Ok m)).status ≡ 204 = subst (λ r. (answer_to (head_after head before busy) r).status ≡ 204) reads status in
    let now : holds (point_of x) (list_of (judged_body (head_after head before busy) (Ok m)).store s.labels) ≡ true =
    by_busy (head_after head before busy) m i j s x (nat_lt 0 busy) first.rises first.filled here at refl told in
    let same : store_after head (before ++ body ∷ []) ≡ (judged_body (head_after head before busy) (Ok m)).store =
    store_after-push head before body ∙ ap (λ r. (judged_body (record head { store = store_after head before }) r).store) reads in
    holds_begun (point_of x) (list_of (store_after head (before ++ body ∷ [])) s.labels) (list_of (store_after head bodies) s.labels)
    (stays_stored head (before ++ body ∷ []) bodies s.labels h k begins)
    (subst (λ t. holds (point_of x) (list_of t s.labels) ≡ true) (sym same) now)
