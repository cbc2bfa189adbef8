-- Label sets of which a receiver refuses no message.
use Rattle.std.proofs.Common.{◌≡◌, ◌≢◌, ⊎_elim, ℕ, zero, suc, ◌<◌, ◌≤◌, Bool, true, List, [], ◌∷◌, ◌++◌, length, slice_get, Some, Result, Ok, Err, refl, sym, ap, ◌∙◌, subst, arith}
use Rattle.std.proofs.lemmas.Bool.{cases_lt}
use Rattle.std.proofs.lemmas.Option.{slice_get_within}
use Rattle.rw_types.specs.Beginnings.{Begins}
use Rattle.rw_types.specs.Labels.{Labels}
use Rattle.rw_types.specs.Rising.{Rises}
use Rattle.rw_types.proofs.shared.BeginningLemmas.{begins_itself}
use Rattle.rw_retry.specs.declared.judgement.Judgement.TheVariants.{Refused}
use Rattle.rw_head.specs.declared.verdict.Verdict.{Verdict}
use Rattle.rw_head.specs.Lists.{IsEarlier}
use Rattle.rw_head.specs.Order.{Point}
use Rattle.rw_head.specs.Store.{Store, list_of}
use Rattle.rw_head.specs.Verdicts.{LabelLimits}
use Rattle.rw_restarts.specs.Parts.{points_in, IsNextPart, TakesAllPoints}
use Rattle.rw_restarts.specs.Runs.{SentMessage, SenderRun, AllSendNext, IsSentBy}
use Rattle.rw_restarts.specs.Receivers.{ReceiverEvent, Answers, ReceiverState, IsReceiverOf, HasOnly, CanBeTaken, IsRefusedForCause, AreNeverRefused}
use Rattle.rw_restarts.specs.Refusals.{IsAnyReceiver}
use Rattle.rw_restarts.proofs.PartLemmas.{next-part-accepted}
use Rattle.rw_restarts.proofs.RefusalLemmas as refusals
use Rattle.rw_restarts.proofs.RunLemmas.{by_empty, not_cons, IsUnrefusedAmong, Inv, after, next-part}

not_refused : (a : Store) (v : Verdict) → (let no : Result Store Verdict = Ok a in no ≡ Err v) → ⊥
not_refused a v e = cc e

-- the whole list, if samples come; else what is held
abbrev list_for : List Point → List Point → List Point → List Point
list_for [] held whole = held
list_for (x ∷ xs) held whole = whole

by_points : (P : List Point → Type 0) (xs held whole : List Point) → (xs ≡ [] → P held) → (xs ≢ [] → P whole) → P (list_for xs held whole)
by_points P [] held whole none some = none refl
by_points P (x ∷ xs) held whole none some = some (not_cons x xs)

module _ (limits : LabelLimits) (whole : Labels → List Point) (runs : List SenderRun) (events : List ReceiverEvent) (states : ℕ → ReceiverState) (among : Labels → Bool) (up : (l : Labels) → among l ≡ true → Rises IsEarlier (whole l)) (over : (l : Labels) → among l ≡ true → AllSendNext l (whole l) runs)
    (r : IsReceiverOf limits runs events states) (can : CanBeTaken limits runs events states among) (cause : IsRefusedForCause limits runs events states among) where
  any : IsAnyReceiver limits runs events states
  any = record {
    rises = λ l. subst (Rises IsEarlier) (sym (r.begins l).0) tt;
    acknowledged = λ l. subst (λ ys. Begins ys (list_of (states 0).store l)) (sym (r.begins l).1) (list_of (states 0).store l, refl);
    happens = r.happens;
    answers = r.answers.all;
  }

  abbrev NeverBefore : ℕ → Type 0
  NeverBefore t = (at i n : ℕ) (run : SenderRun) (x : SentMessage) → at < t → slice_get events at ≡ Some (Answers i n Refused) → IsSentBy runs i n run x → HasOnly among x → ⊥

  unrefused : (t : ℕ) → NeverBefore t → (l : Labels) → among l ≡ true → IsUnrefusedAmong runs events t l
  unrefused t never l own at i n run x lt e sent =
      by_empty (points_in l x.message ≡ []) (points_in l x.message) (λ none. none) (λ some. absurd (never at i n run x lt e sent (can.alone i n run x l sent own some)))

  -- ---- a message that comes after these events
  module _ (t : ℕ) (le : t ≤ length events) (never : NeverBefore t) (i n : ℕ) (here : slice_get events t ≡ Some (Answers i n Refused)) (run : SenderRun) (x : SentMessage) (sent : IsSentBy runs i n run x) (only : HasOnly among x) where
    abbrev store : Store
    store = (states t).store

    abbrev lists : Labels → List Point
    lists l = list_for (points_in l x.message) (list_of store l) (whole l)

    inv : (l : Labels) (own : among l ≡ true) → Inv limits l (whole l) runs events states (up l own) (over l own) r t (unrefused t never l own) (can.covered l own) t
    inv l own = after limits l (whole l) runs events states (up l own) (over l own) r t (unrefused t never l own) (can.covered l own) t (omega arith) le

    all_rise : (l : Labels) → Rises IsEarlier (lists l)
    all_rise l = by_points (Rises IsEarlier) (points_in l x.message) (list_of store l) (whole l) (λ _. (refusals.after limits runs events states any t le).rises l) (λ some. up l (only l some))

    all_begin : (l : Labels) → Begins (list_of store l) (lists l)
    all_begin l = by_points (Begins (list_of store l)) (points_in l x.message) (list_of store l) (whole l) (λ _. begins_itself (list_of store l)) (λ some. (inv l (only l some)).holds)

    all_next : (l : Labels) → IsNextPart (lists l) (list_of store l) (points_in l x.message)
    all_next l =
        by_points (λ ys. IsNextPart ys (list_of store l) (points_in l x.message)) (points_in l x.message) (list_of store l) (whole l)
        (λ none. record { before = []; more = list_of store l; place = sym (ap (λ ys. ys ++ list_of store l) none); reached = (list_of store l, refl) })
        (λ some. let own = only l some in next-part limits l (whole l) runs events states (up l own) (over l own) r t (unrefused t never l own) (can.covered l own) t (inv l own) (omega arith) (Answers i n Refused) here i n (refl, refl) run x sent some)

    takes : TakesAllPoints limits lists store x.message all_next
    takes = next-part-accepted limits lists store x.message all_rise all_begin (can.within i n run x sent only) all_next

    refused : ⊥
    refused = let why = cause t i n run x here sent only in not_refused takes.after why.0 (sym takes.taken ∙ why.1)

  never_so : (t : ℕ) → t ≤ length events → NeverBefore t
  never_so zero le at i n run x lt e sent only = absurd (omega (arith, lt))
  never_so (suc t) le at i n run x lt e sent only =
      ⊎_elim (λ early. never_so t (omega (arith, le)) at i n run x early e sent only)
      (λ last. refused t (omega (arith, le)) (never_so t (omega (arith, le))) i n (subst (λ q. slice_get events q ≡ Some (Answers i n Refused)) (omega (arith, lt, last)) e) run x sent only) (cases_lt at t)

  pub never-refused : AreNeverRefused runs events states among
  never-refused =
      let never = never_so (length events) (omega arith) in record {
        never = λ at i n run x e sent only. never at i n run x (slice_get_within events at (Answers i n Refused) e) e sent only;
        no_gap = λ l own. record {
          unrefused = λ at i n run x e sent. unrefused (length events) never l own at i n run x (slice_get_within events at (Answers i n Refused) e) e sent;
          covered = can.covered l own;
        };
      }
