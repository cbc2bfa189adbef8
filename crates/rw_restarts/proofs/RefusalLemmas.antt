-- What a receiver holds that refused messages.
use Rattle.std.proofs.Common.{◌≡◌, ⊎_elim, ℕ, zero, suc, ◌<◌, ◌≤◌, Bool, true, false, cond, List, [], ◌∷◌, ◌++◌, length, slice_get, append-nil, Option, Some, None, Ok, refl, sym, ◌∙◌, subst, arith}
use Rattle.std.specs.List.{AllByRecursion}
use Rattle.std.proofs.lemmas.Bool.{cases_lt}
use Rattle.rw_types.specs.Beginnings.{Begins}
use Rattle.rw_types.specs.Labels.{Labels}
use Rattle.rw_types.specs.Rising.{Rises}
use Rattle.rw_types.proofs.shared.AllLemmas.{AllByRecursion-weaker}
use Rattle.rw_types.proofs.shared.BeginningLemmas.{begins_itself, begins_twice}
use Rattle.rw_types.proofs.shared.RisingLemmas.{Rises-left}
use Rattle.rw_write_request.specs.Message.{WriteRequest}
use Rattle.rw_retry.specs.declared.judgement.Judgement.TheVariants.{Done, Again, Refused}
use Rattle.rw_head.specs.Growth.{EachRises}
use Rattle.rw_head.specs.Lists.{IsEarlier}
use Rattle.rw_head.specs.Order.{Point, accept, accept_one, holds, is_later}
use Rattle.rw_head.specs.Store.{Store, list_of}
use Rattle.rw_head.specs.Verdicts.{LabelLimits, taken_all}
use Rattle.rw_head.proofs.shared.OrderLemmas.{accept-none, Rises-later}
use Rattle.rw_restarts.specs.Parts.{points_in}
use Rattle.rw_restarts.specs.Runs.{SentMessage, SenderRun, IsSentBy}
use Rattle.rw_restarts.specs.Receivers.{ReceiverEvent, Answers, Restarts, RestartsDuring, ReceiverState, IsRestarted}
use Rattle.rw_restarts.specs.Refusals.{IsAnyReceiver, HoldsAcknowledged}
use Rattle.rw_head.proofs.shared.OrderRule.{holds_append, holds_right, holds_own}
use Rattle.rw_restarts.proofs.RunLemmas.{get_some, same_request}
use Rattle.rw_restarts.proofs.TakenLemmas.{taken_all-lists, answers-done, answers-again, answers-refused-same}

-- ---- one list
abbrev pub AreHeld : List Point → List Point → Type 0
AreHeld ss xs = AllByRecursion (λ (p : Point). holds p xs ≡ true) ss

pub held_further : (ss xs ys : List Point) → Begins xs ys → AreHeld ss xs → AreHeld ss ys
held_further ss xs ys b all =
    AllByRecursion-weaker (λ (p : Point). holds p xs ≡ true) (λ (p : Point). holds p ys ≡ true)
    (λ p h. subst (λ zs. holds p zs ≡ true) (sym b.1) (holds_append p xs b.0 h)) ss all

-- what a list has that took these samples
pub record Took (xs ss ys : List Point) : Type 0 where
  pub rises : Rises IsEarlier ys
  pub begins : Begins xs ys
  pub held : AreHeld ss ys

one_taken : (xs ys : List Point) (s : Point) → Rises IsEarlier xs → (later has : Bool) → is_later s.0 xs ≡ later → holds s xs ≡ has
    → cond later (Some (xs ++ s ∷ [])) (cond has (Some xs) None) ≡ Some ys → Took xs (s ∷ []) ys
one_taken xs ys s up true has l h e =
    let same : xs ++ s ∷ [] ≡ ys = cc (e) in record {
      rises = subst (Rises IsEarlier) same (Rises-later xs s.0 s.1 up l);
      begins = (s ∷ [], sym same);
      held = (subst (λ zs. holds s zs ≡ true) same (holds_right s xs (s ∷ []) (holds_own s [])), tt);
    }
one_taken xs ys s up false true l h e =
    let same : xs ≡ ys = cc (e) in record {
      rises = subst (Rises IsEarlier) same up;
      begins = ([], sym same ∙ sym (append-nil xs));
      held = (subst (λ zs. holds s zs ≡ true) same h, tt);
    }
one_taken xs ys s up false false l h e = absurd cc

list_taken : (ss xs ys : List Point) → Rises IsEarlier xs → accept (Some xs) ss ≡ Some ys → Took xs ss ys
list_taken [] xs ys up e =
    let same : xs ≡ ys = cc (e) in record { rises = subst (Rises IsEarlier) same up; begins = ([], sym same ∙ sym (append-nil xs)); held = tt }
list_taken (s ∷ ss) xs ys up e = by_first (accept_one xs s) refl e (λ zs. list_taken ss zs ys)
  where
    by_first : (o : Option (List Point)) → accept_one xs s ≡ o → accept o ss ≡ Some ys → ((zs : List Point) → Rises IsEarlier zs → accept (Some zs) ss ≡ Some ys → Took zs ss ys) → Took xs (s ∷ ss) ys
    by_first None first e more = absurd (none_some (sym (accept-none ss) ∙ e))
      where
        none_some : (let no : Option (List Point) = None in no ≡ Some ys) → ⊥
        none_some e = cc (e)
    by_first (Some zs) first e more =
        let one = one_taken xs zs s up (is_later s.0 xs) (holds s xs) refl refl first in
        let rest = more zs one.rises e in
        record { rises = rest.rises; begins = begins_twice xs zs ys one.begins rest.begins; held = ((held_further (s ∷ []) zs ys rest.begins one.held).0, rest.held) }

-- ---- a message
abbrev pub TookAll : Store → WriteRequest → Store → Type 0
TookAll store m next = (l : Labels) → Took (list_of store l) (points_in l m) (list_of next l)

pub message_took : (limits : LabelLimits) (m : WriteRequest) (store next : Store) → EachRises store → taken_all limits (Ok store) m ≡ Ok next → TookAll store m next
message_took limits m store next up e l = list_taken (points_in l m) (list_of store l) (list_of next l) (up l) (taken_all-lists limits m store next l e)

-- ---- many events
module _ (limits : LabelLimits) (runs : List SenderRun) (events : List ReceiverEvent) (states : ℕ → ReceiverState) (r : IsAnyReceiver limits runs events states) where
  pub record Inv (t : ℕ) : Type 0 where
    pub rises : EachRises (states t).store
    acknowledged : (l : Labels) → Begins (list_of (states t).acknowledged l) (list_of (states t).store l)
    stays : (l : Labels) → Begins (list_of (states 0).acknowledged l) (list_of (states t).acknowledged l)
    held : (s i n : ℕ) (run : SenderRun) (x : SentMessage) (l : Labels) → s < t → slice_get events s ≡ Some (Answers i n Done) → IsSentBy runs i n run x → AreHeld (points_in l x.message) (list_of (states t).acknowledged l)

  start : Inv 0
  start = record { rises = r.rises; acknowledged = r.acknowledged; stays = λ l. begins_itself (list_of (states 0).acknowledged l); held = λ s i n run x l lt e is. absurd (omega (arith, lt)) }

  module _ (t : ℕ) (inv : Inv t) where
    record Moved : Type 0 where
      rises : EachRises (states (suc t)).store
      acknowledged : (l : Labels) → Begins (list_of (states (suc t)).acknowledged l) (list_of (states (suc t)).store l)
      grown : (l : Labels) → Begins (list_of (states t).acknowledged l) (list_of (states (suc t)).acknowledged l)

    moved_again : (most : Store) → EachRises most → IsRestarted (states t) most (states (suc t)) → Moved
    moved_again most up again = record {
      rises = λ l. let b = again.at_most l in Rises-left IsEarlier (list_of (states (suc t)).store l) b.0 (subst (Rises IsEarlier) b.1 (up l));
      acknowledged = λ l. subst (λ (s : Store). Begins (list_of s l) (list_of (states (suc t)).store l)) (sym again.same) (again.least l);
      grown = λ l. subst (λ (s : Store). Begins (list_of (states t).acknowledged l) (list_of s l)) (sym again.same) (begins_itself (list_of (states t).acknowledged l));
    }

    moved_same : states (suc t) ≡ states t → Moved
    moved_same same = record {
      rises = subst (λ (h : ReceiverState). EachRises h.store) (sym same) inv.rises;
      acknowledged = λ l. subst (λ (h : ReceiverState). Begins (list_of h.acknowledged l) (list_of h.store l)) (sym same) (inv.acknowledged l);
      grown = λ l. subst (λ (h : ReceiverState). Begins (list_of (states t).acknowledged l) (list_of h.acknowledged l)) (sym same) (begins_itself (list_of (states t).acknowledged l));
    }

    moved_taken : (i n : ℕ) → slice_get events t ≡ Some (Answers i n Done) → Moved
    moved_taken i n e =
        let h = r.happens t (Answers i n Done) e in
        let done = answers-done limits h.x.message (states t) (states (suc t)) h.judged in
        let took = message_took limits h.x.message (states t).store (states (suc t)).store inv.rises done.0 in record {
          rises = λ l. (took l).rises;
          acknowledged = λ l. subst (λ (s : Store). Begins (list_of s l) (list_of (states (suc t)).store l)) (sym done.1) (begins_itself (list_of (states (suc t)).store l));
          grown = λ l. subst (λ (s : Store). Begins (list_of (states t).acknowledged l) (list_of s l)) (sym done.1)
              (begins_twice (list_of (states t).acknowledged l) (list_of (states t).store l) (list_of (states (suc t)).store l) (inv.acknowledged l) (took l).begins);
        }

    moved_broken : (i n : ℕ) → slice_get events t ≡ Some (RestartsDuring i n) → Moved
    moved_broken i n e =
        let h = r.happens t (RestartsDuring i n) e in
        let took = message_took limits h.x.message (states t).store h.most inv.rises h.judged in
        moved_again h.most (λ l. (took l).rises) h.restarted

    moved : (m : ReceiverEvent) → slice_get events t ≡ Some m → Moved
    moved (Answers i n Done) e = moved_taken i n e
    moved (Answers i n Again) e = let h = r.happens t (Answers i n Again) e in moved_same (answers-again limits h.x.message (states t) (states (suc t)) h.judged)
    moved (Answers i n Refused) e = let h = r.happens t (Answers i n Refused) e in moved_same (answers-refused-same limits h.x.message (states t) (states (suc t)) h.judged)
    moved Restarts e = moved_again (states t).store inv.rises (r.happens t Restarts e)
    moved (RestartsDuring i n) e = moved_broken i n e

    held_now : (i n : ℕ) (run : SenderRun) (x : SentMessage) (l : Labels) → slice_get events t ≡ Some (Answers i n Done) → IsSentBy runs i n run x → AreHeld (points_in l x.message) (list_of (states (suc t)).acknowledged l)
    held_now i n run x l e sent =
        let h = r.happens t (Answers i n Done) e in
        let done = answers-done limits h.x.message (states t) (states (suc t)) h.judged in
        let took = message_took limits h.x.message (states t).store (states (suc t)).store inv.rises done.0 in
        let one = same_request runs i n h.run run h.x x h.is sent in
        subst (λ (s : Store). AreHeld (points_in l x.message) (list_of s l)) (sym done.1)
        (subst (λ (y : SentMessage). AreHeld (points_in l y.message) (list_of (states (suc t)).store l)) one.1 (took l).held)

    step : (m : ReceiverEvent) → slice_get events t ≡ Some m → Inv (suc t)
    step m here =
        let next = moved m here in record {
          rises = next.rises;
          acknowledged = next.acknowledged;
          stays = λ l. begins_twice (list_of (states 0).acknowledged l) (list_of (states t).acknowledged l) (list_of (states (suc t)).acknowledged l) (inv.stays l) (next.grown l);
          held = λ s i n run x l lt e sent. ⊎_elim
              (λ early. held_further (points_in l x.message) (list_of (states t).acknowledged l) (list_of (states (suc t)).acknowledged l) (next.grown l) (inv.held s i n run x l early e sent))
              (λ le. held_now i n run x l (subst (λ q. slice_get events q ≡ Some (Answers i n Done)) (omega (arith, lt, le)) e) sent) (cases_lt s t);
        }

  pub after : (t : ℕ) → t ≤ length events → Inv t
  after zero le = start
  after (suc t) le = let found = get_some events t (omega (arith, le)) in step t (after t (omega (arith, le))) found.0 found.1

  pub acknowledged-stays : HoldsAcknowledged runs (states 0) (states (length events))
  acknowledged-stays =
      let last = after (length events) (omega arith) in record {
        in_order = last.rises;
        stays = λ l. begins_twice (list_of (states 0).acknowledged l) (list_of (states (length events)).acknowledged l) (list_of (states (length events)).store l) (last.stays l) (last.acknowledged l);
        taken = λ i n run x l sent judgement.
            let a = r.answers i n run x Done sent judgement in
            held_further (points_in l x.message) (list_of (states (length events)).acknowledged l) (list_of (states (length events)).store l) (last.acknowledged l) (last.held a.at i n run x l a.early a.is sent);
      }
