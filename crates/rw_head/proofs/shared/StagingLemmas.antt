-- Lists while a message is staged, and once it is kept or forgotten.
use Rattle.std.proofs.Common.{◌≡◌, ◌≢◌, ℕ, ◌+◌, ◌-◌, ◌<◌, ◌≤◌, ◌^◌, Result, Ok, Err, suc, zero, List, [], ◌∷◌, ◌++◌, length, take, set, get_or, nat_eq, eqb-true, eq-eqb, Option, Some, None, Bool, true, false, cond, lit≤, ⊎_elim, refl, sym, ◌∙◌, ap, subst, arith}
use Rattle.std.specs.BTreeMap.{get}
use Rattle.std.specs.List.{list_any}
use Rattle.std.specs.Map.{lookup}
use Rattle.std.specs.BTreeMap.{is_at}
use Rattle.std.specs.FinMap.{empty}
use Rattle.std.proofs.lemmas.Bool.{cases_lt, lt-ltb, le-ltb, true≢false}
use Rattle.std.proofs.lemmas.List.{get_or-set_same, get_or-set_other, length-set, length-take-le}
use Rattle.rw_types.specs.Labels.{Labels}
use Rattle.rw_types.specs.LabelOrder.{labels_cmp, labels_eq}
use Rattle.rw_write_request.specs.Message.{Sample, TimeSeries}
use Rattle.rw_head.specs.Order.{Point, point_of, points, is_later, holds, accept_one, accept}
use Rattle.rw_head.specs.Store.{Store, list_of, with_list, total, HasNoEmptyList}
use Rattle.rw_head.specs.declared.verdict.Verdict.{Verdict}
use Rattle.rw_head.specs.declared.verdict.Verdict.TheVariants.{NoMemory}
use Rattle.std.specs.Prelude.{OnOk, IfErr}
use Rattle.rw_head.specs.Verdicts.{LabelLimits, refusal, accepted, taken_unless, taken}
use Rattle.rw_head.specs.Lists.{Lists, no_lists, has_samples}
use Rattle.rw_head.specs.inner.Lists.{IsStagedAt, ListGives, StoreGives, AllSettled, IsSound, IsFresh, AllFilled, kept_store, staged_store, HasPlaces, Settled}
use Rattle.rw_head.specs.inner.Names.{below}
use Rattle.rw_head.proofs.shared.OrderLemmas.{accept-none}
use Rattle.rw_head.proofs.shared.StoreLemmas.{no_points, with_list-same, total-with_list, total-empty}
use Rattle.rw_head.proofs.NotedLemmas.{both_staged, AreNoted-none}
use Rattle.rw_head.proofs.PlaceLemmas.{at, Index, store_by, no_empty_list, same_lists, store-set, list_at_place, kept-set, HasPlaces-set, HasPlaces-len, staged-part, kept-staged}

-- ---- samples that are staged
total-longer : (l : Labels) (xs : List Point) (s : Store) → HasNoEmptyList s → length (list_of s l) ≤ length xs → total (with_list l xs s) + length (list_of s l) ≡ total s + length xs
total-longer l [] s h le =
    let none : list_of s l ≡ [] = no_points (list_of s l) le in
    let same : with_list l [] s ≡ s = ap (λ ys. with_list l ys s) (sym none) ∙ with_list-same l s h in
    omega (arith, ap total same, ap length none)
total-longer l (x ∷ xs) s h le = total-with_list l x xs s

-- how many samples are staged after a list grew
pub total-staged : (index : Index) (lists : List Lists) (l : Labels) (n : ℕ) (x : Lists) → HasPlaces index lists → get labels_cmp index l ≡ Some n
    → length (get_or lists n no_lists).staged ≤ length x.staged
    → total (staged_store index.entries (set lists n x)) + length (get_or lists n no_lists).staged ≡ total (staged_store index.entries lists) + length x.staged
unfolding staged_store
total-staged index lists l n x h e le =
    let s : Store = store_by (λ l. l.staged) index.entries lists in
    let here : list_of s l ≡ (get_or lists n no_lists).staged = list_at_place (λ l. l.staged) index lists l n e in
    let fits : length (list_of s l) ≤ length x.staged = omega (arith, ap length here) in
    omega (arith, ap total (store-set (λ l. l.staged) index lists l n x h e), ap length here, total-longer l x.staged s (no_empty_list (λ l. l.staged) index.entries lists) fits)

-- to stage no samples changes nothing
pub staged-same : (index : Index) (lists : List Lists) (l : Labels) → with_list l (list_of (staged_store index.entries lists) l) (staged_store index.entries lists) ≡ staged_store index.entries lists
unfolding staged_store
staged-same index lists l = with_list-same l (store_by (λ l. l.staged) index.entries lists) (no_empty_list (λ l. l.staged) index.entries lists)

pub no_samples : (l : Labels) (s : Store) (ss : List Sample) → true ≡ nat_eq (length ss) 0 → with_list l (list_of s l) s ≡ s → accepted l s (accept (Some (list_of s l)) (points ss)) ≡ Ok s
no_samples l s [] e same = ap Ok same
no_samples l s (x ∷ xs) e same = absurd (omega (arith, eqb-true (length (x ∷ xs)) 0 (sym e)))

-- what the order rule makes of a list is what it makes of the store
pub StoreGives-list : (r : Result (Unit {0}) Verdict) (l : Labels) (s t : Store) (given : Option (List Point)) (xs : List Point) → ListGives r given xs → t ≡ with_list l xs s → StoreGives r (accepted l s given) t
StoreGives-list (Ok u) l s t given xs h e = ap (accepted l s) h ∙ ap Ok (sym e)
StoreGives-list (Err v) l s t given xs h e = λ other. ap (accepted l s) (h other).1 ∙ ap Err (sym (h other).0)

-- and of a series whose labels are taken
pub taken_by : (r : Result (Unit {0}) Verdict) (limits : LabelLimits) (s t : Store) (x y : TimeSeries) → x ≡ y → refusal limits x.labels ≡ None
    → StoreGives r (accepted x.labels s (accept (Some (list_of s x.labels)) (points x.samples))) t → StoreGives r (taken limits s y) t
taken_by r limits s t x y same none h = subst (λ z. StoreGives r (taken limits s z) t) same (subst (λ o. StoreGives r (taken_unless o s x) t) (sym none) h)

-- a series without samples is judged by its labels alone
pub judged_alone : (r : Result (Unit {0}) Verdict) (limits : LabelLimits) (s : Store) (x y : TimeSeries) → x ≡ y → true ≡ nat_eq (length x.samples) 0
    → with_list x.labels (list_of s x.labels) s ≡ s → OnOk r (refusal limits x.labels ≡ None) → IfErr r (λ v. v ≢ NoMemory → refusal limits x.labels ≡ Some v)
    → StoreGives r (taken limits s y) s
judged_alone (Ok u) limits s x y same e unchanged ok err = taken_by (Ok u) limits s s x y same ok (no_samples x.labels s x.samples e unchanged)
judged_alone (Err v) limits s x y same e unchanged ok err = λ other. ap (taken limits s) (sym same) ∙ ap (λ o. taken_unless o s x) (err other)

kept_after : (lists : List Lists) (n m : ℕ) (x : Lists) → n < length lists → x.kept ≡ (get_or lists n no_lists).kept → (get_or (set lists n x) m no_lists).kept ≡ (get_or lists m no_lists).kept
kept_after lists n m x lt kept = by_test (nat_eq m n) refl
  where
    by_test : (b : Bool) → nat_eq m n ≡ b → (get_or (set lists n x) m no_lists).kept ≡ (get_or lists m no_lists).kept
    by_test true e =
        let same : m ≡ n = eqb-true m n e in
        ap (λ k. (get_or (set lists n x) k no_lists).kept) same ∙ ap (λ y. y.kept) (get_or-set_same lists n x no_lists lt) ∙ kept ∙ ap (λ k. (get_or lists k no_lists).kept) (sym same)
    by_test false e =
        let apart : m ≢ n = λ same. true≢false (sym (eq-eqb m n same) ∙ e) in
        ap (λ y. y.kept) (get_or-set_other lists n m x no_lists apart)

IsFresh-set : (index : Index) (lists : List Lists) (fresh : List Labels) (n : ℕ) (x : Lists) → IsFresh index lists fresh → n < length lists → x.kept ≡ (get_or lists n no_lists).kept
    → IsFresh index (set lists n x) fresh
IsFresh-set index lists fresh n x h lt kept =
    let len = length-set lists n x in
    record {
      few = omega (arith, h.few, len);
      named = λ q k e le. h.named q k e (omega (arith, le, len));
      last = λ q k any e. omega (arith, h.last q k any e, len);
      empty = λ k small le. kept_after lists n k x lt kept ∙ h.empty k (omega (arith, small, len)) (omega (arith, le, len));
      others = λ k small. ap has_samples (kept_after lists n k x lt kept) ∙ h.others k (omega (arith, small, len));
    }

pub longer_has : (xs ys : List Point) → length xs ≤ length ys → has_samples xs ≡ true → has_samples ys ≡ true
longer_has [] ys le e = absurd cc
longer_has (x ∷ xs) [] le e = absurd (omega arith)
longer_has (x ∷ xs) (y ∷ ys) le e = refl

AllFilled-set : (lists : List Lists) (n : ℕ) (x : Lists) → AllFilled lists → n < length lists → length (get_or lists n no_lists).staged ≤ length x.staged → AllFilled (set lists n x)
AllFilled-set lists n x h lt grown m small = by_test (nat_eq m n) refl
  where
    by_test : (b : Bool) → nat_eq m n ≡ b → has_samples (get_or (set lists n x) m no_lists).staged ≡ true
    by_test true e =
        let same : m ≡ n = eqb-true m n e in
        ap (λ k. has_samples (get_or (set lists n x) k no_lists).staged) same ∙ ap (λ y. has_samples y.staged) (get_or-set_same lists n x no_lists lt)
        ∙ longer_has (get_or lists n no_lists).staged x.staged grown (h n lt)
    by_test false e =
        let apart : m ≢ n = λ same. true≢false (sym (eq-eqb m n same) ∙ e) in
        ap (λ y. has_samples y.staged) (get_or-set_other lists n m x no_lists apart) ∙ h m (omega (arith, small, length-set lists n x))

-- lists of which one grew stay sound
pub IsSound-staged : (index : Index) (lists news : List Lists) (touched noted : List ℕ) (fresh : List Labels) (count staged staged_new : ℕ) (l : Labels) (n : ℕ)
    → IsSound index lists touched fresh count staged → get labels_cmp index l ≡ Some n → IsStagedAt lists news touched noted staged staged_new n
    → count + staged_new ≤ 2 ^ 60 → IsSound index news noted fresh count staged_new
IsSound-staged index lists news touched noted fresh count staged staged_new l n h e at few =
    let lt = h.places.within l n e in
    let x = get_or news n no_lists in
    let both = both_staged lists news touched noted staged staged_new n h.settled h.noted lt at in
    let same : set lists n x ≡ news = sym at.list in
    record {
      places = subst (HasPlaces index) same (HasPlaces-set index lists n x h.places);
      settled = both.0;
      noted = both.1;
      brought = subst (λ ls. IsFresh index ls fresh) same (IsFresh-set index lists fresh n x h.brought lt at.kept);
      filled = subst AllFilled same (AllFilled-set lists n x h.filled lt at.grown);
      counted = subst (λ ls. count ≡ total (kept_store index.entries ls)) same (h.counted ∙ ap total (sym (kept-set index lists l n x h.places e at.kept)));
      counted_staged = subst (λ ls. count + staged_new ≡ total (staged_store index.entries ls)) same (omega (arith, total-staged index lists l n x h.places e at.grown, at.counted, h.counted_staged));
      few = few;
    }

-- ---- all that is staged is kept, or forgotten
none_touched : (touched : List ℕ) (ls : List Lists) → touched ≡ [] → AllSettled ls → Settled touched ls
none_touched touched ls e h = subst (λ ts. Settled ts ls) (sym e) (record { within = λ k lt. absurd (omega arith); others = λ n lt none. h n lt })

none_fresh : (index : Index) (ls : List Lists) (fresh : List Labels) → HasPlaces index ls → fresh ≡ [] → ((n : ℕ) → n < length ls → has_samples (get_or ls n no_lists).kept ≡ true) → IsFresh index ls fresh
none_fresh index ls fresh places e filled =
    let made : IsFresh index ls [] = record {
      few = omega arith;
      named = λ l n k le. absurd (omega (arith, places.within l n k, le));
      last = λ l n any k. absurd cc;
      empty = λ n lt le. absurd (omega (arith, lt, le));
      others = λ n lt. filled n (omega (arith, lt));
    } in
    subst (IsFresh index ls) (sym e) made

pub committed : (index : Index) (ls ms : List Lists) → HasPlaces index ls → length ms ≡ length ls → AllSettled ms → ((n : ℕ) → (get_or ms n no_lists).staged ≡ (get_or ls n no_lists).staged)
    → (kept_store index.entries ms ≡ staged_store index.entries ls) × (staged_store index.entries ms ≡ staged_store index.entries ls)
committed index ls ms h len settled same =
    let places = HasPlaces-len index ls ms h len in
    (kept-staged index ms ls places (λ n lt. settled n lt ∙ same n), staged-part index ms ls places (λ n lt. same n))

pub IsSound-committed : (index : Index) (ls ms : List Lists) (old touched : List ℕ) (fresh named : List Labels) (count staged : ℕ) → IsSound index ls old fresh count staged → touched ≡ [] → named ≡ []
    → length ms ≡ length ls → AllSettled ms → ((n : ℕ) → (get_or ms n no_lists).staged ≡ (get_or ls n no_lists).staged) → IsSound index ms touched named (count + staged) 0
IsSound-committed index ls ms old touched fresh named count staged h none unnamed len settled same =
    let stores = committed index ls ms h.places len settled same in
    let places = HasPlaces-len index ls ms h.places len in
    let filled : AllFilled ms = λ n lt. ap has_samples (same n) ∙ h.filled n (omega (arith, lt, len)) in
    record {
      places = places;
      settled = none_touched touched ms none settled;
      noted = AreNoted-none touched ms none settled;
      brought = none_fresh index ms named places unnamed (λ n lt. ap has_samples (settled n lt) ∙ filled n lt);
      filled = filled;
      counted = h.counted_staged ∙ ap total (sym stores.0);
      counted_staged = omega (arith, h.counted_staged, ap total stores.1);
      few = omega (arith, h.few);
    }

-- the fresh label sets go, with their lists
get_or-first : (ls : List Lists) (k n : ℕ) → n < k → get_or (take k ls) n no_lists ≡ get_or ls n no_lists
get_or-first ls zero n lt = absurd (omega arith)
get_or-first [] (suc k) n lt = refl
get_or-first (x ∷ ls) (suc k) zero lt = refl
get_or-first (x ∷ ls) (suc k) (suc n) lt = get_or-first ls k n (omega arith)

abbrev pub TakesOut : Index → Index → List Labels → Type 0
TakesOut index new fresh = (q : Labels) → get labels_cmp new q ≡ cond (list_any (labels_eq q) fresh) None (get labels_cmp index q)

record Left (index : Index) (ls : List Lists) (fresh : List Labels) (q : Labels) (n : ℕ) : Type 0 where
  there : get labels_cmp index q ≡ Some n
  low : n + length fresh < length ls

left_of : (index : Index) (ls : List Lists) (fresh : List Labels) (q : Labels) (n : ℕ) (b : Bool) → IsFresh index ls fresh → list_any (labels_eq q) fresh ≡ b
    → cond b None (get labels_cmp index q) ≡ Some n → Left index ls fresh q n
left_of index ls fresh q n true h e k = absurd cc
left_of index ls fresh q n false h e k = record {
  there = k;
  low = ⊎_elim (λ lt. lt) (λ le. absurd (true≢false (sym (h.named q n k le) ∙ e))) (cases_lt (n + length fresh) (length ls));
}

left_kept : (index : Index) (ls ms ns : List Lists) (fresh : List Labels) (q : Labels) (b : Bool) (o : Option ℕ) → HasPlaces index ls → IsFresh index ls fresh
    → ((n : ℕ) → (get_or ms n no_lists).kept ≡ (get_or ls n no_lists).kept) → ((n : ℕ) → n + length fresh < length ls → get_or ns n no_lists ≡ get_or ms n no_lists)
    → list_any (labels_eq q) fresh ≡ b → get labels_cmp index q ≡ o → at (λ y. y.kept) ns (cond b None o) ≡ at (λ y. y.kept) ls o
left_kept index ls ms ns fresh q true None places h same front e k = refl
left_kept index ls ms ns fresh q true (Some n) places h same front e k = sym (h.empty n (places.within q n k) (h.last q n e k))
left_kept index ls ms ns fresh q false None places h same front e k = refl
left_kept index ls ms ns fresh q false (Some n) places h same front e k =
    let left : Left index ls fresh q n = left_of index ls fresh q n false h e k in
    ap (λ y. y.kept) (front n left.low) ∙ same n

-- what there is once all that was staged is forgotten
pub record Aborted (index new : Index) (ls ms ns : List Lists) (fresh : List Labels) : Type 0 where
  pub out : TakesOut index new fresh
  pub len : length ms ≡ length ls
  pub settled : AllSettled ms
  pub same : (n : ℕ) → (get_or ms n no_lists).kept ≡ (get_or ls n no_lists).kept
  pub front : ns ≡ take (length ms - length fresh) ms

first_same : (index new : Index) (ls ms ns : List Lists) (fresh : List Labels) → IsFresh index ls fresh → Aborted index new ls ms ns fresh → (n : ℕ) → n + length fresh < length ls
    → get_or ns n no_lists ≡ get_or ms n no_lists
first_same index new ls ms ns fresh h a n lt =
    ap (λ zs. get_or zs n no_lists) a.front ∙ get_or-first ms (length ms - length fresh) n (omega (arith, lt, a.len))

len_first : (index new : Index) (ls ms ns : List Lists) (fresh : List Labels) → IsFresh index ls fresh → Aborted index new ls ms ns fresh → length ns + length fresh ≡ length ls
len_first index new ls ms ns fresh h a =
    omega (arith, ap length a.front, length-take-le (length ms - length fresh) ms (omega arith), h.few, a.len)

pub aborted_kept : (index new : Index) (ls ms ns : List Lists) (fresh : List Labels) → HasPlaces index ls → IsFresh index ls fresh → Aborted index new ls ms ns fresh
    → kept_store new.entries ns ≡ kept_store index.entries ls
unfolding kept_store
aborted_kept index new ls ms ns fresh places h a =
    let f : Lists → List Point = λ y. y.kept in
    same_lists f f new.entries index.entries ns ls
    (λ q. ap (at f ns) (a.out q) ∙ left_kept index ls ms ns fresh q (list_any (labels_eq q) fresh) (get labels_cmp index q) places h a.same (first_same index new ls ms ns fresh h a) refl refl)

aborted_settled : (index new : Index) (ls ms ns : List Lists) (fresh : List Labels) → IsFresh index ls fresh → Aborted index new ls ms ns fresh → AllSettled ns
aborted_settled index new ls ms ns fresh h a n lt =
    let len = len_first index new ls ms ns fresh h a in
    let here : get_or ns n no_lists ≡ get_or ms n no_lists = first_same index new ls ms ns fresh h a n (omega (arith, lt, len)) in
    ap (λ y. y.kept) here ∙ a.settled n (omega (arith, lt, len, a.len)) ∙ sym (ap (λ y. y.staged) here)

aborted_places : (index new : Index) (ls ms ns : List Lists) (fresh : List Labels) → HasPlaces index ls → IsFresh index ls fresh → Aborted index new ls ms ns fresh → HasPlaces new ns
aborted_places index new ls ms ns fresh places h a =
    let left : (q : Labels) (n : ℕ) → get labels_cmp new q ≡ Some n → Left index ls fresh q n = λ q n e. left_of index ls fresh q n (list_any (labels_eq q) fresh) h refl (sym (a.out q) ∙ e) in
    record {
      within = λ q n e. omega (arith, (left q n e).low, len_first index new ls ms ns fresh h a);
      apart = λ p q n e k. places.apart p q n (left p n e).there (left q n k).there;
    }

pub aborted_staged : (index new : Index) (ls ms ns : List Lists) (fresh : List Labels) → HasPlaces index ls → IsFresh index ls fresh → Aborted index new ls ms ns fresh
    → staged_store new.entries ns ≡ kept_store index.entries ls
aborted_staged index new ls ms ns fresh places h a =
    sym (kept-staged new ns ns (aborted_places index new ls ms ns fresh places h a) (aborted_settled index new ls ms ns fresh h a)) ∙ aborted_kept index new ls ms ns fresh places h a

pub IsSound-aborted : (index new : Index) (ls ms ns : List Lists) (old touched : List ℕ) (fresh named : List Labels) (count staged : ℕ) → IsSound index ls old fresh count staged
    → Aborted index new ls ms ns fresh → touched ≡ [] → named ≡ [] → IsSound new ns touched named count 0
IsSound-aborted index new ls ms ns old touched fresh named count staged h a none unnamed =
    let places = aborted_places index new ls ms ns fresh h.places h.brought a in
    let settled = aborted_settled index new ls ms ns fresh h.brought a in
    let len = len_first index new ls ms ns fresh h.brought a in
    let filled : (n : ℕ) → n < length ns → has_samples (get_or ns n no_lists).kept ≡ true = λ n lt.
    let low : n + length fresh < length ls = omega (arith, lt, len) in
    ap (λ y. has_samples y.kept) (first_same index new ls ms ns fresh h.brought a n low) ∙ ap has_samples (a.same n) ∙ h.brought.others n low in
    record {
      places = places;
      settled = none_touched touched ns none settled;
      noted = AreNoted-none touched ns none settled;
      brought = none_fresh new ns named places unnamed filled;
      filled = λ n lt. ap has_samples (sym (settled n lt)) ∙ filled n lt;
      counted = h.counted ∙ ap total (sym (aborted_kept index new ls ms ns fresh h.places h.brought a));
      counted_staged = omega (arith, h.counted, ap total (aborted_staged index new ls ms ns fresh h.places h.brought a));
      few = omega (arith, h.few);
    }

-- ---- no lists
pub no_places : (places : List (Labels × ℕ)) (ls : List Lists) → places ≡ [] → (kept_store places ls ≡ empty) × (staged_store places ls ≡ empty)
unfolding kept_store staged_store
no_places places ls e = (ap (λ p. store_by (λ l. l.kept) p ls) e, ap (λ p. store_by (λ l. l.staged) p ls) e)

pub IsSound-empty : (index : Index) (ls : List Lists) (touched : List ℕ) (fresh : List Labels) → index.entries ≡ [] → ls ≡ [] → touched ≡ [] → fresh ≡ [] → IsSound index ls touched fresh 0 0
IsSound-empty index ls touched fresh e f g i =
    let nowhere : (l : Labels) → get labels_cmp index l ≡ None = λ l. ap (lookup (is_at (labels_cmp l))) e in
    let stores = no_places index.entries ls e in
    let places : HasPlaces index ls = record { within = λ l n k. absurd (differ n (sym (nowhere l) ∙ k)); apart = λ l m n k j. absurd (differ n (sym (nowhere l) ∙ k)) } in
    record {
      places = places;
      brought = none_fresh index ls fresh places i (λ n lt. absurd (omega (arith, lt, ap length f)));
      filled = λ n lt. absurd (omega (arith, lt, ap length f));
      settled = none_touched touched ls g (λ n lt. absurd (omega (arith, ap length f)));
      noted = AreNoted-none touched ls g (λ n lt. absurd (omega (arith, ap length f)));
      counted = sym (ap total stores.0 ∙ total-empty);
      counted_staged = sym (ap total stores.1 ∙ total-empty);
      few = lit≤ tt;
    }
  where
    differ : (n : ℕ) → (let no : Option ℕ = None in no ≡ Some n) → ⊥
    differ n e = cc e

-- ---- label sets that are taken out by their places
no_more : (b : Bool) → (let no : Option ℕ = None in no ≡ cond b None None)
no_more true = refl
no_more false = refl

out_below : (lists : List Lists) (index : Index) (fresh : List Labels) (keep : ℕ) (q : Labels) (o : Option ℕ) (b : Bool) → IsFresh index lists fresh → keep + length fresh ≡ length lists
    → get labels_cmp index q ≡ o → list_any (labels_eq q) fresh ≡ b → below keep o ≡ cond b None o
out_below lists index fresh keep q None b h e k any = no_more b
out_below lists index fresh keep q (Some n) true h e k any = ap (λ c. cond c (Some n) None) (le-ltb n keep (omega (arith, h.last q n any k, e)))
out_below lists index fresh keep q (Some n) false h e k any =
    ap (λ c. cond c (Some n) None) (lt-ltb n keep (⊎_elim (λ lt. lt) (λ le. absurd (true≢false (sym (h.named q n k (omega (arith, le, e))) ∙ any))) (cases_lt n keep)))

pub takes_out : (lists : List Lists) (index new : Index) (fresh : List Labels) (keep : ℕ) → IsFresh index lists fresh → keep + length fresh ≡ length lists
    → ((q : Labels) → get labels_cmp new q ≡ below keep (get labels_cmp index q)) → TakesOut index new fresh
takes_out lists index new fresh keep h e out q =
    out q ∙ out_below lists index fresh keep q (get labels_cmp index q) (list_any (labels_eq q) fresh) h e refl refl

-- ---- a list that takes samples has some
pub push_has : (xs : List Point) (p : Point) → has_samples (xs ++ p ∷ []) ≡ true
push_has [] p = refl
push_has (x ∷ xs) p = refl

still_has : (xs zs : List Point) (p : Point) (later stands : Bool) → has_samples xs ≡ true → cond later (Some (xs ++ p ∷ [])) (cond stands (Some xs) None) ≡ Some zs → has_samples zs ≡ true
still_has xs zs p true stands h e = let same : xs ++ p ∷ [] ≡ zs = cc in ap has_samples (sym same) ∙ push_has xs p
still_has xs zs p false true h e = let same : xs ≡ zs = cc in ap has_samples (sym same) ∙ h
still_has xs zs p false false h e = absurd cc

accept_has_next : (p : Point) (ps xs ys : List Point) (o : Option (List Point)) → ((zs : List Point) → has_samples zs ≡ true → accept (Some zs) ps ≡ Some ys → has_samples ys ≡ true)
    → has_samples xs ≡ true → accept_one xs p ≡ o → accept o ps ≡ Some ys → has_samples ys ≡ true
accept_has_next p ps xs ys None further h k e = let none : accept None ps ≡ None = accept-none ps in absurd (cc (none, e))
accept_has_next p ps xs ys (Some zs) further h k e = further zs (still_has xs zs p (is_later p.0 xs) (holds p xs) h k) e

accept_has : (ps xs ys : List Point) → has_samples xs ≡ true → accept (Some xs) ps ≡ Some ys → has_samples ys ≡ true
accept_has [] xs ys h e = let same : xs ≡ ys = cc in ap has_samples (sym same) ∙ h
accept_has (p ∷ ps) xs ys h e = accept_has_next p ps xs ys (accept_one xs p) (λ zs. accept_has ps zs ys) h refl e

pub accepted_has : (ss : List Sample) (xs : List Point) → false ≡ nat_eq (length ss) 0 → accept (Some []) (points ss) ≡ Some xs → has_samples xs ≡ true
accepted_has [] xs some e = absurd cc
accepted_has (s ∷ ss) xs some e = accept_has (points ss) (point_of s ∷ []) xs refl e
