-- A message that is taken adds samples, at most its own, and keeps each list in order.
use Rattle.std.proofs.Common.{◌≡◌, ℕ, ◌+◌, ◌-◌, ◌≤◌, nat_lt, List, [], ◌∷◌, ◌++◌, length, Option, Some, None, Bool, true, false, cond, Result, Ok, Err, refl, sym, ◌∙◌, ap, subst, arith}
use Rattle.std.specs.FinMap.{empty}
use Rattle.std.proofs.lemmas.List.{length_push, length-map}
use Rattle.std.proofs.lemmas.List.Sums.{sum_by-cons}
use Rattle.rw_types.specs.Beginnings.{Begins}
use Rattle.rw_types.proofs.shared.BeginningLemmas.{begins_itself, begins_twice}
use Rattle.rw_types.specs.Labels.{Labels}
use Rattle.rw_types.specs.LabelOrder.{labels_eq}
use Rattle.rw_types.specs.Rising.{Rises}
use Rattle.rw_write_request.specs.Message.{TimeSeries, WriteRequest}
use Rattle.rw_head.specs.declared.verdict.Verdict.{Verdict}
use Rattle.rw_head.specs.Order.{Point, point_of, points, is_later, holds, accept_one, accept}
use Rattle.rw_head.specs.Store.{Store, list_of, with_list, total, HasNoEmptyList}
use Rattle.rw_head.specs.Verdicts.{LabelLimits, judged, refusal, accepted, taken_unless, taken, taken_all}
use Rattle.rw_head.specs.Lists.{IsEarlier, has_samples}
use Rattle.rw_head.specs.inner.Lists.{Stores}
use Rattle.rw_head.specs.Head.{State, answered, judged_body, answer_to}
use Rattle.rw_write_request.specs.declared.fault.WireFault.{WireFault}
use Rattle.rw_head.specs.Growth.{sample_count, EachRises}
use Rattle.rw_head.specs.inner.Growth.{IsReady, HoldsNoneRefused}
use Rattle.rw_types.proofs.shared.OrderLemmas.{same_if_equal}
use Rattle.rw_head.specs.Blocks.{KeepsBlocks}
use Rattle.rw_head.proofs.BlockLemmas.{sealed_begins}
use Rattle.rw_head.proofs.shared.OrderLemmas.{Rises-later, accept-none}
use Rattle.rw_head.proofs.shared.StoreLemmas.{no_points, list_of-with_list, list_of-empty, HasNoEmptyList-empty, HasNoEmptyList-with_list, with_list-same, total-with_list}
use Rattle.rw_head.proofs.shared.VerdictLemmas.{taken_all-err}

-- at most n samples were appended, in order
pub record Extends (xs ys : List Point) (n : ℕ) : Type 0 where
  pub longer : length xs ≤ length ys
  pub few : length ys ≤ length xs + n
  pub rises : Rises IsEarlier xs → Rises IsEarlier ys
  pub begins : Begins xs ys

extends_one : (xs : List Point) (s : Point) (ys : List Point) (later stands : Bool) → is_later s.0 xs ≡ later
    → cond later (Some (xs ++ s ∷ [])) (cond stands (Some xs) None) ≡ Some ys → Extends xs ys 1
extends_one xs s ys true stands e given =
    let same : xs ++ s ∷ [] ≡ ys = cc given in
    subst (λ zs. Extends xs zs 1) same (record {
      longer = omega (arith, length_push xs s);
      few = omega (arith, length_push xs s);
      rises = λ h. Rises-later xs s.0 s.1 h e;
      begins = (s ∷ [], refl);
    })
extends_one xs s ys false true e given =
    let same : xs ≡ ys = cc given in
    subst (λ zs. Extends xs zs 1) same (record { longer = omega arith; few = omega arith; rises = λ h. h; begins = begins_itself xs })
extends_one xs s ys false false e given = absurd cc

chained : (xs ys zs : List Point) (m n k : ℕ) → k ≡ m + n → Extends xs ys m → Extends ys zs n → Extends xs zs k
chained xs ys zs m n k e a b = record {
  longer = omega (arith, a.longer, b.longer);
  few = omega (arith, a.few, b.few, e);
  rises = λ h. b.rises (a.rises h);
  begins = begins_twice xs ys zs a.begins b.begins;
}

extends_next : (s : Point) (ss xs ys : List Point) (o : Option (List Point))
    → ((zs : List Point) → accept (Some zs) ss ≡ Some ys → Extends zs ys (length ss))
    → accept_one xs s ≡ o → accept o ss ≡ Some ys → Extends xs ys (length (s ∷ ss))
extends_next s ss xs ys None further e rest = let none : accept None ss ≡ None = accept-none ss in absurd (cc (none, rest))
extends_next s ss xs ys (Some zs) further e rest =
    chained xs zs ys 1 (length ss) (length (s ∷ ss)) (omega arith) (extends_one xs s zs (is_later s.0 xs) (holds s xs) refl e) (further zs rest)

extends_all : (ss : List Point) (xs ys : List Point) → accept (Some xs) ss ≡ Some ys → Extends xs ys (length ss)
extends_all [] xs ys given =
    let same : xs ≡ ys = cc given in
    subst (λ zs. Extends xs zs 0) same (record { longer = omega arith; few = omega arith; rises = λ h. h; begins = begins_itself xs })
extends_all (s ∷ ss) xs ys given = extends_next s ss xs ys (accept_one xs s) (λ zs. extends_all ss zs ys) refl given

-- what became of a store: at most n samples were added, in order
pub record Grown (old new : Store) (n : ℕ) : Type 0 where
  pub more : total old ≤ total new
  pub few : total new ≤ total old + n
  pub rises : EachRises new
  pub filled : HasNoEmptyList new
  pub begins : (l : Labels) → Begins (list_of old l) (list_of new l)

EachRises-empty : EachRises empty
EachRises-empty l = subst (Rises IsEarlier) (sym (list_of-empty l)) tt

unchanged : (s : Store) (n : ℕ) → EachRises s → HasNoEmptyList s → Grown s s n
unchanged s n h k = record { more = omega arith; few = omega arith; rises = h; filled = k; begins = λ l. begins_itself (list_of s l) }

pub rises_at_each : (b : Bool) (ys zs : List Point) → Rises IsEarlier ys → Rises IsEarlier zs → Rises IsEarlier (cond b ys zs)
rises_at_each true ys zs h k = h
rises_at_each false ys zs h k = k

begins_at_each : (l q : Labels) (ys : List Point) (s : Store) (b : Bool) → labels_eq q l ≡ b → Begins (list_of s l) ys → Begins (list_of s q) (cond b ys (list_of s q))
begins_at_each l q ys s true e h = subst (λ p. Begins (list_of s p) ys) (sym (same_if_equal q l e)) h
begins_at_each l q ys s false e h = begins_itself (list_of s q)

put_grown : (l : Labels) (ys : List Point) (s : Store) (n : ℕ) → EachRises s → HasNoEmptyList s → Extends (list_of s l) ys n → Grown s (with_list l ys s) n
put_grown l [] s n h k e =
    let none : list_of s l ≡ [] = no_points (list_of s l) (omega (arith, e.longer)) in
    let same : with_list l [] s ≡ s = ap (λ xs. with_list l xs s) (sym none) ∙ with_list-same l s k in
    subst (λ t. Grown s t n) (sym same) (unchanged s n h k)
put_grown l (y ∷ ys) s n h k e = record {
  more = omega (arith, total-with_list l y ys s, e.longer);
  few = omega (arith, total-with_list l y ys s, e.few);
  rises = λ q. subst (Rises IsEarlier) (sym (list_of-with_list l (y ∷ ys) s q)) (rises_at_each (labels_eq q l) (y ∷ ys) (list_of s q) (e.rises (h l)) (h q));
  filled = HasNoEmptyList-with_list l (y ∷ ys) s k;
  begins = λ q. subst (Begins (list_of s q)) (sym (list_of-with_list l (y ∷ ys) s q)) (begins_at_each l q (y ∷ ys) s (labels_eq q l) refl e.begins);
}

accepted_grown : (l : Labels) (s next : Store) (n : ℕ) (o : Option (List Point)) → EachRises s → HasNoEmptyList s
    → ((ys : List Point) → o ≡ Some ys → Extends (list_of s l) ys n) → accepted l s o ≡ Ok next → Grown s next n
accepted_grown l s next n None h k longer given = absurd cc
accepted_grown l s next n (Some ys) h k longer given =
    let same : with_list l ys s ≡ next = cc given in
    subst (λ t. Grown s t n) same (put_grown l ys s n h k (longer ys refl))

length-points : (x : TimeSeries) → length (points x.samples) ≡ length x.samples
length-points x = length-map x.samples point_of

taken_unless_grown : (r : Option Verdict) (s next : Store) (x : TimeSeries) → EachRises s → HasNoEmptyList s
    → taken_unless r s x ≡ Ok next → Grown s next (length x.samples)
taken_unless_grown (Some v) s next x h k given = absurd cc
taken_unless_grown None s next x h k given =
    accepted_grown x.labels s next (length x.samples) (accept (Some (list_of s x.labels)) (points x.samples)) h k
    (λ ys e. subst (Extends (list_of s x.labels) ys) (length-points x) (extends_all (points x.samples) (list_of s x.labels) ys e))
    given

both_grown : (a b c : Store) (m n k : ℕ) → k ≡ m + n → Grown a b m → Grown b c n → Grown a c k
both_grown a b c m n k e g h = record {
  more = omega (arith, g.more, h.more);
  few = omega (arith, g.few, h.few, e);
  rises = h.rises;
  filled = h.filled;
  begins = λ l. begins_twice (list_of a l) (list_of b l) (list_of c l) (g.begins l) (h.begins l);
}

next_grown : (limits : LabelLimits) (x : TimeSeries) (xs : WriteRequest) (s next : Store) (r : Result Store Verdict) → EachRises s → HasNoEmptyList s
    → ((t : Store) → EachRises t → HasNoEmptyList t → taken_all limits (Ok t) xs ≡ Ok next → Grown t next (sample_count xs))
    → taken limits s x ≡ r → taken_all limits r xs ≡ Ok next → Grown s next (sample_count (x ∷ xs))
next_grown limits x xs s next (Err v) h k further e rest = absurd (cc (taken_all-err limits v xs, rest))
next_grown limits x xs s next (Ok t) h k further e rest =
    let first : Grown s t (length x.samples) = taken_unless_grown (refusal limits x.labels) s t x h k e in
    both_grown s t next (length x.samples) (sample_count xs) (sample_count (x ∷ xs)) (sum_by-cons (λ y. length y.samples) x xs)
    first (further t first.rises first.filled rest)

-- a message that is taken
taken_grown : (limits : LabelLimits) (m : WriteRequest) (s next : Store) → EachRises s → HasNoEmptyList s
    → taken_all limits (Ok s) m ≡ Ok next → Grown s next (sample_count m)
taken_grown limits [] s next h k given =
    let same : s ≡ next = cc given in
    subst (λ t. Grown s t 0) same (unchanged s 0 h k)
taken_grown limits (x ∷ xs) s next h k given =
    next_grown limits x xs s next (taken limits s x) h k (λ t. taken_grown limits xs t next) refl given

-- and kept
pub kept_grown : (limits : LabelLimits) (m : WriteRequest) (old : Stores) (staged kept : Store) → IsReady old
    → taken_all limits (Ok old.staged) m ≡ Ok staged → kept ≡ staged → Grown old.kept kept (sample_count m)
kept_grown limits m old staged kept ready given same =
    subst (λ t. Grown old.kept t (sample_count m)) (sym same)
    (taken_grown limits m old.kept staged ready.rises ready.filled (ap (λ (t : Store). taken_all limits (Ok t) m) (sym ready.settled) ∙ given))

pub ready_again : (old : Store) (n : ℕ) (stores : Stores) → Grown old stores.kept n → stores.staged ≡ stores.kept → stores.noted ≡ 0 → IsReady stores
ready_again old n stores g same none = record { settled = same; rises = g.rises; filled = g.filled; unnoted = none }

-- full blocks stay
pub blocks_kept : (old new : Store) (n : ℕ) → Grown old new n → KeepsBlocks old new
blocks_kept old new n g = λ l. sealed_begins (list_of old l) (list_of new l) (g.begins l)

pub blocks_same : (old new : Store) → new ≡ old → KeepsBlocks old new
blocks_same old new e = λ l. sealed_begins (list_of old l) (list_of new l) (subst (λ s. Begins (list_of old l) (list_of s l)) (sym e) (begins_itself (list_of old l)))

-- ---- no label set that is held is refused
none_refused_empty : (limits : LabelLimits) → HoldsNoneRefused limits empty
none_refused_empty limits l e = let none : has_samples (list_of empty l) ≡ false = ap has_samples (list_of-empty l) in absurd cc

-- a head begins so
pub ready_first : (limits : LabelLimits) (forgets : Bool) (stores : Stores) → stores ≡ record { kept = empty; staged = empty; added = []; noted = 0; placed = []; forgets = forgets }
    → IsReady stores × HoldsNoneRefused limits stores.kept
ready_first limits forgets stores e = (
  subst IsReady (sym e) (record { settled = refl; rises = EachRises-empty; filled = HasNoEmptyList-empty; unnoted = refl }),
  subst (λ (s : Stores). HoldsNoneRefused limits s.kept) (sym e) (none_refused_empty limits),
)

put_within : (limits : LabelLimits) (l q : Labels) (xs : List Point) (s : Store) (b : Bool) → HoldsNoneRefused limits s → refusal limits l ≡ None → labels_eq q l ≡ b
    → has_samples (cond b xs (list_of s q)) ≡ true → refusal limits q ≡ None
put_within limits l q xs s true h within e some = ap (refusal limits) (same_if_equal q l e) ∙ within
put_within limits l q xs s false h within e some = h q some

accepted_within : (limits : LabelLimits) (l : Labels) (s next : Store) (o : Option (List Point)) → HoldsNoneRefused limits s → refusal limits l ≡ None
    → accepted l s o ≡ Ok next → HoldsNoneRefused limits next
accepted_within limits l s next None h within e = absurd cc
accepted_within limits l s next (Some xs) h within e =
    let same : with_list l xs s ≡ next = cc in
    subst (HoldsNoneRefused limits) same
    (λ q some. put_within limits l q xs s (labels_eq q l) h within refl (ap has_samples (sym (list_of-with_list l xs s q)) ∙ some))

unless_within : (limits : LabelLimits) (s next : Store) (x : TimeSeries) (o : Option Verdict) → HoldsNoneRefused limits s → refusal limits x.labels ≡ o
    → taken_unless o s x ≡ Ok next → HoldsNoneRefused limits next
unless_within limits s next x (Some v) h e given = absurd cc
unless_within limits s next x None h e given = accepted_within limits x.labels s next (accept (Some (list_of s x.labels)) (points x.samples)) h e given

-- a series that is taken is not
pub taken_within : (limits : LabelLimits) (x : TimeSeries) (s next : Store) → HoldsNoneRefused limits s → taken limits s x ≡ Ok next → HoldsNoneRefused limits next
taken_within limits x s next h given = unless_within limits s next x (refusal limits x.labels) h refl given

-- ---- a head that answers keeps a prefix of each list

judged_begins : (limits : LabelLimits) (m : WriteRequest) (s : Store) (r : Result Store Verdict)
    (l : Labels) → EachRises s → HasNoEmptyList s → taken_all limits (Ok s) m ≡ r
    → Begins (list_of s l) (list_of (judged s r).store l)
judged_begins limits m s (Ok next) l h k e = (taken_grown limits m s next h k e).begins l
judged_begins limits m s (Err v) l h k e = begins_itself (list_of s l)

body_begins : (h : State) (found : Result WriteRequest WireFault) (l : Labels)
    → EachRises h.store → HasNoEmptyList h.store
    → Begins (list_of h.store l) (list_of (judged_body h found).store l)
body_begins h (Ok m) l rises filled =
    judged_begins h.limits m h.store (taken_all h.limits (Ok h.store) m) l rises filled refl
body_begins h (Err e) l rises filled = begins_itself (list_of h.store l)

pub answer_begins : (h : State) (found : Result WriteRequest WireFault) (l : Labels)
    → EachRises h.store → HasNoEmptyList h.store
    → Begins (list_of h.store l) (list_of (answer_to h found).head.store l)
answer_begins h found l rises filled = by_busy (nat_lt 0 h.busy)
  where
    by_busy : (b : Bool) → Begins (list_of h.store l) (list_of
        (cond b (record { status = 429; head = record h { busy = h.busy - 1 } })
        (answered h (judged_body h found))).head.store l)
    by_busy true = begins_itself (list_of h.store l)
    by_busy false = body_begins h found l rises filled

-- a message that was staged is forgotten
pub ready_still : (old staged new : Stores) → IsReady old → staged.kept ≡ old.kept → new.kept ≡ staged.kept → new.staged ≡ staged.kept
    → new.noted ≡ 0 → IsReady new
ready_still old staged new h e k s none =
    let same : old.kept ≡ new.kept = sym (k ∙ e) in
    record { settled = s ∙ sym k; rises = subst EachRises same h.rises; filled = subst HasNoEmptyList same h.filled; unnoted = none }
