-- What a head may hold, as it answers, and the logs that it writes.
use Rattle.std.proofs.Common.{◌≡◌, ℕ, ◌-◌, List, [], ◌∷◌, ◌++◌, Bool, true, false, cond, Option, Some, None, Result, Ok, Err, refl, sym, ap, ◌∙◌, subst}
use Rattle.std.specs.Prelude.{nat_lt}
use Rattle.rw_types.specs.Beginnings.{Begins}
use Rattle.rw_types.specs.Labels.{Labels}
use Rattle.rw_types.specs.LabelOrder.{labels_eq}
use Rattle.rw_types.specs.Rising.{Rises}
use Rattle.rw_types.proofs.shared.RisingLemmas.{Rises-left}
use Rattle.rw_write_request.specs.Message.{TimeSeries, WriteRequest}
use Rattle.rw_write_request.specs.Read.{read}
use Rattle.rw_write_request.specs.declared.fault.WireFault.{WireFault}
use Rattle.rw_head.specs.declared.verdict.Verdict.{Verdict}
use Rattle.rw_head.specs.Growth.{EachRises}
use Rattle.rw_head.specs.Head.{State, answered, judged_body, answer_to, answer}
use Rattle.rw_head.specs.Lists.{IsEarlier, has_samples}
use Rattle.rw_head.specs.Order.{Point, points, is_later, holds, accept_one, accept}
use Rattle.rw_head.specs.Store.{Store, list_of, with_list}
use Rattle.rw_head.specs.Verdicts.{LabelLimits, refusal, accepted, taken_unless, taken, taken_all, judged, apply}
use Rattle.rw_head.proofs.shared.GrowthLemmas.{taken_within, rises_at_each}
use Rattle.rw_head.proofs.shared.OrderLemmas.{Rises-later, accept-none}
use Rattle.rw_head.proofs.shared.StoreLemmas.{list_of-with_list}
use Rattle.rw_head.proofs.shared.VerdictLemmas.{taken_all-err}
use Rattle.rw_kept_log.specs.Journal.{Segments}
use Rattle.rw_kept_head.specs.Admitted.{MayHold, IsAdmitted}
use Rattle.rw_kept_head.specs.Kept.{SaysWhat, LiesBetween}

-- ---- lists that rise

pub rises_one : (xs : List Point) (s : Point) (ys : List Point) (later there : Bool) → is_later s.0 xs ≡ later → cond later (Some (xs ++ s ∷ [])) (cond there (Some xs) None) ≡ Some ys → Rises IsEarlier xs → Rises IsEarlier ys
rises_one xs s ys true there e given h =
    let same : xs ++ s ∷ [] ≡ ys = cc given in
    subst (Rises IsEarlier) same (Rises-later xs s.0 s.1 h e)
rises_one xs s ys false true e given h = let same : xs ≡ ys = cc given in subst (Rises IsEarlier) same h
rises_one xs s ys false false e given h = absurd cc

rises_next : (s : Point) (ss xs ys : List Point) (o : Option (List Point)) → ((zs : List Point) → accept (Some zs) ss ≡ Some ys → Rises IsEarlier zs → Rises IsEarlier ys)
    → accept_one xs s ≡ o → accept o ss ≡ Some ys → Rises IsEarlier xs → Rises IsEarlier ys
rises_next s ss xs ys None further e rest h = let none : accept None ss ≡ None = accept-none ss in absurd (cc (none, rest))
rises_next s ss xs ys (Some zs) further e rest h = further zs rest (rises_one xs s zs (is_later s.0 xs) (holds s xs) refl e h)

pub rises_all : (ss xs ys : List Point) → accept (Some xs) ss ≡ Some ys → Rises IsEarlier xs → Rises IsEarlier ys
rises_all [] xs ys given h = let same : xs ≡ ys = cc given in subst (Rises IsEarlier) same h
rises_all (s ∷ ss) xs ys given h = rises_next s ss xs ys (accept_one xs s) (λ zs. rises_all ss zs ys) refl given h

accepted_rises : (l : Labels) (s next : Store) (ss : List Point) (o : Option (List Point)) → EachRises s → accept (Some (list_of s l)) ss ≡ o → accepted l s o ≡ Ok next → EachRises next
accepted_rises l s next ss None h e given = absurd cc
accepted_rises l s next ss (Some ys) h e given =
    let same : with_list l ys s ≡ next = cc given in
    subst EachRises same (λ q. subst (Rises IsEarlier) (sym (list_of-with_list l ys s q)) (rises_at_each (labels_eq q l) ys (list_of s q) (rises_all ss (list_of s l) ys e (h l)) (h q)))

unless_rises : (o : Option Verdict) (s next : Store) (x : TimeSeries) → EachRises s → taken_unless o s x ≡ Ok next → EachRises next
unless_rises (Some v) s next x h given = absurd cc
unless_rises None s next x h given = accepted_rises x.labels s next (points x.samples) (accept (Some (list_of s x.labels)) (points x.samples)) h refl given

-- ---- what a head may hold, as it answers

one_held : (limits : LabelLimits) (x : TimeSeries) (s next : Store) → MayHold limits (list_of s) → taken limits s x ≡ Ok next → MayHold limits (list_of next)
one_held limits x s next h given = record {
  rises = unless_rises (refusal limits x.labels) s next x h.rises given;
  within = taken_within limits x s next h.within given;
}

next_held : (limits : LabelLimits) (x : TimeSeries) (xs : WriteRequest) (s next : Store) (r : Result Store Verdict) → MayHold limits (list_of s)
    → ((t : Store) → MayHold limits (list_of t) → taken_all limits (Ok t) xs ≡ Ok next → MayHold limits (list_of next)) → taken limits s x ≡ r → taken_all limits r xs ≡ Ok next → MayHold limits (list_of next)
next_held limits x xs s next (Err v) h further e rest = absurd (cc (taken_all-err limits v xs, rest))
next_held limits x xs s next (Ok t) h further e rest = further t (one_held limits x s t h e) rest

all_held : (limits : LabelLimits) (m : WriteRequest) (s next : Store) → MayHold limits (list_of s) → taken_all limits (Ok s) m ≡ Ok next → MayHold limits (list_of next)
all_held limits [] s next h given = let same : s ≡ next = cc given in subst (λ (t : Store). MayHold limits (list_of t)) same h
all_held limits (x ∷ xs) s next h given = next_held limits x xs s next (taken limits s x) h (λ t. all_held limits xs t next) refl given

judged_held : (limits : LabelLimits) (m : WriteRequest) (s : Store) (r : Result Store Verdict) → MayHold limits (list_of s) → taken_all limits (Ok s) m ≡ r → MayHold limits (list_of (judged s r).store)
judged_held limits m s (Ok next) h e = all_held limits m s next h e
judged_held limits m s (Err v) h e = h

pub applied_held : (limits : LabelLimits) (s : Store) (m : WriteRequest) → MayHold limits (list_of s) → MayHold limits (list_of (apply limits s m).store)
applied_held limits s m h = judged_held limits m s (taken_all limits (Ok s) m) h refl

body_held : (h : State) (found : Result WriteRequest WireFault) → MayHold h.limits (list_of h.store) → MayHold h.limits (list_of (judged_body h found).store)
body_held h (Ok m) holds = applied_held h.limits h.store m holds
body_held h (Err e) holds = holds

to_held : (h : State) (found : Result WriteRequest WireFault) → MayHold h.limits (list_of h.store) → MayHold h.limits (list_of (answer_to h found).head.store)
to_held h found holds = by_busy (nat_lt 0 h.busy)
  where
    by_busy : (b : Bool) → MayHold h.limits (list_of (cond b (record { status = 429; head = record h { busy = h.busy - 1 } }) (answered h (judged_body h found))).head.store)
    by_busy true = holds
    by_busy false = body_held h found holds

pub answer_held : (h : State) (body : List ℕ) → MayHold h.limits (list_of h.store) → MayHold h.limits (list_of (answer h body).head.store)
answer_held h body = to_held h (read body)

-- ---- logs

pub log_held : (limits : LabelLimits) (store : Store) (segments : Segments) → SaysWhat segments store → MayHold limits (list_of store) → IsAdmitted limits segments
log_held limits store segments says h = record {
  rises = λ l. subst (Rises IsEarlier) (says l) (h.rises l);
  within = λ l some. h.within l (ap has_samples (says l) ∙ some);
}

still_some : (xs more ys : List Point) → ys ≡ xs ++ more → has_samples xs ≡ true → has_samples ys ≡ true
still_some [] more ys e some = absurd cc
still_some (x ∷ xs) more ys e some = ap has_samples e

-- what begins lists that a head may hold
pub begin_held : (limits : LabelLimits) (xs ys : Labels → List Point) → ((l : Labels) → Begins (xs l) (ys l)) → MayHold limits ys → MayHold limits xs
begin_held limits xs ys b h = record {
  rises = λ l. Rises-left IsEarlier (xs l) (b l).0 (subst (Rises IsEarlier) (b l).1 (h.rises l));
  within = λ l some. h.within l (still_some (xs l) (b l).0 (ys l) (b l).1 some);
}

pub left_held : (limits : LabelLimits) (old new : Store) (left : Segments) → LiesBetween old new left → MayHold limits (list_of new) → IsAdmitted limits left
left_held limits old new left between h = begin_held limits _ (list_of new) (λ l. (between l).1) h
