-- A receiver of many runs of a sender.
use Rattle.std.proofs.Common.{◌≡◌, ◌≢◌, ⊎_elim, ℕ, zero, suc, ◌<◌, ◌≤◌, List, [], ◌∷◌, ◌++◌, length, take, slice_get, append-nil, append_assoc, Option, Some, None, Ok, refl, sym, ap, ◌∙◌, subst, arith}
use Rattle.std.proofs.lemmas.Bool.{cases_lt}
use Rattle.std.proofs.lemmas.List.{take_all}
use Rattle.std.proofs.lemmas.Option.{same_Some, slice_get_within}
use Rattle.rw_types.specs.Beginnings.{Begins}
use Rattle.rw_types.specs.Labels.{Labels}
use Rattle.rw_types.specs.Rising.{Rises}
use Rattle.rw_types.proofs.shared.BeginningLemmas.{begins_itself, begins_twice}
use Rattle.rw_retry.specs.declared.judgement.Judgement.{Judgement}
use Rattle.rw_retry.specs.declared.judgement.Judgement.TheVariants.{Done, Again, Refused}
use Rattle.rw_head.specs.Lists.{IsEarlier}
use Rattle.rw_head.specs.Order.{Point, accept}
use Rattle.rw_head.specs.Store.{Store, list_of}
use Rattle.rw_head.specs.Verdicts.{LabelLimits, taken_all}
use Rattle.rw_restarts.specs.Parts.{points_in, IsNextPart}
use Rattle.rw_restarts.specs.Runs.{SentMessage, SenderRun, acknowledged_by, acknowledged_in, acknowledged_before, NoneRefused, AllSendNext, IsSentBy}
use Rattle.rw_restarts.specs.Receivers.{ReceiverEvent, Answers, Restarts, RestartsDuring, ReceiverState, IsRestarted, Brings, IsAnsweredAmong, IsReceiverOf, IsCovered, HasNoGap, HoldsPrefix}
use Rattle.rw_restarts.proofs.PartLemmas.{becomes}
use Rattle.rw_restarts.proofs.TakenLemmas.{taken_all-lists, answers-done, answers-again, answers-refused-same}

-- ---- lists
pub get_some : {X : Type 0} (xs : List X) (n : ℕ) → n < length xs → (x : X) × (slice_get xs n ≡ Some x)
get_some [] n lt = absurd (omega arith)
get_some (x ∷ xs) zero lt = (x, refl)
get_some (x ∷ xs) (suc n) lt = get_some xs n (omega arith)

pub not_cons : (x : Point) (xs : List Point) → x ∷ xs ≡ [] → ⊥
not_cons x xs e = cc e

pub by_empty : (P : Type 0) (xs : List Point) → (xs ≡ [] → P) → (xs ≢ [] → P) → P
by_empty P [] none some = none refl
by_empty P (x ∷ xs) none some = some (not_cons x xs)

-- ---- what was acknowledged
answered_next : (l : Labels) (xs : List SentMessage) (k : ℕ) (y : SentMessage) → slice_get xs k ≡ Some y → acknowledged_in l (take (suc k) xs) ≡ acknowledged_in l (take k xs) ++ acknowledged_by l y.message y.judgement
answered_next l [] k y e = absurd cc
answered_next l (x ∷ xs) zero y e = append-nil (acknowledged_by l x.message x.judgement) ∙ ap (λ (z : SentMessage). acknowledged_by l z.message z.judgement) (same_Some x y e)
answered_next l (x ∷ xs) (suc k) y e =
    ap (λ ys. acknowledged_by l x.message x.judgement ++ ys) (answered_next l xs k y e) ∙ sym (append_assoc (acknowledged_by l x.message x.judgement) (acknowledged_in l (take k xs)) (acknowledged_by l y.message y.judgement))

reached_next : (run : SenderRun) (l : Labels) (k : ℕ) (y : SentMessage) → slice_get run.sent k ≡ Some y → acknowledged_before run l (suc k) ≡ acknowledged_before run l k ++ acknowledged_by l y.message y.judgement
reached_next run l k y e = ap (λ ys. run.earlier l ++ ys) (answered_next l run.sent k y e) ∙ sym (append_assoc (run.earlier l) (acknowledged_in l (take k run.sent)) (acknowledged_by l y.message y.judgement))

reached_same : (run : SenderRun) (l : Labels) (k : ℕ) (y : SentMessage) → slice_get run.sent k ≡ Some y → acknowledged_by l y.message y.judgement ≡ [] → acknowledged_before run l (suc k) ≡ acknowledged_before run l k
reached_same run l k y e none = reached_next run l k y e ∙ ap (λ ys. acknowledged_before run l k ++ ys) none ∙ append-nil (acknowledged_before run l k)

-- if any was acknowledged, a message of it was
record IsAcknowledgedBy (l : Labels) (sent : List SentMessage) : Type 0 where
  n : ℕ
  x : SentMessage
  is : slice_get sent n ≡ Some x
  done : x.judgement ≡ Some Done
  some : points_in l x.message ≢ []

acknowledged_some : (l : Labels) (xs : List SentMessage) → acknowledged_in l xs ≢ [] → IsAcknowledgedBy l xs
acknowledged_some l [] some = absurd (some refl)
acknowledged_some l (x ∷ xs) some = by_judgement (acknowledged_some l xs) x.judgement refl
  where
    later : (acknowledged_in l xs ≢ [] → IsAcknowledgedBy l xs) → acknowledged_by l x.message x.judgement ≡ [] → IsAcknowledgedBy l (x ∷ xs)
    later more none =
        let rest = more (λ e. some (ap (λ ys. ys ++ acknowledged_in l xs) none ∙ e)) in
        record { n = suc rest.n; x = rest.x; is = rest.is; done = rest.done; some = rest.some }

    by_judgement : (acknowledged_in l xs ≢ [] → IsAcknowledgedBy l xs) → (o : Option Judgement) → x.judgement ≡ o → IsAcknowledgedBy l (x ∷ xs)
    by_judgement more None e = later more (ap (acknowledged_by l x.message) e)
    by_judgement more (Some Again) e = later more (ap (acknowledged_by l x.message) e)
    by_judgement more (Some Refused) e = later more (ap (acknowledged_by l x.message) e)
    by_judgement more (Some Done) e =
        by_empty (IsAcknowledgedBy l (x ∷ xs)) (points_in l x.message)
        (λ none. later more (ap (acknowledged_by l x.message) e ∙ none)) (λ has. record { n = 0; x = x; is = refl; done = e; some = has })

-- one request has one place
pub same_request : (runs : List SenderRun) (i n : ℕ) (a b : SenderRun) (x y : SentMessage) → IsSentBy runs i n a x → IsSentBy runs i n b y → (a ≡ b) × (x ≡ y)
same_request runs i n a b x y s t =
    let one : a ≡ b = same_Some a b (sym s.exists ∙ t.exists) in
    (one, same_Some x y (sym s.is ∙ ap (λ (f : SenderRun). slice_get f.sent n) one ∙ t.is))

-- ---- one label set
-- no message with samples of it was refused by the first events
abbrev pub IsUnrefusedAmong : List SenderRun → List ReceiverEvent → ℕ → Labels → Type 0
IsUnrefusedAmong runs events first l =
    (at i n : ℕ) (run : SenderRun) (x : SentMessage) → at < first → slice_get events at ≡ Some (Answers i n Refused) → IsSentBy runs i n run x → points_in l x.message ≡ []

-- what a list was that took a message
pub record TookNext (held reached next whole xs : List Point) : Type 0 where
  pub grows : Begins held next
  pub within : Begins next whole
  pub has : xs ≢ [] → Begins (reached ++ xs) next

module _ (limits : LabelLimits) (l : Labels) (whole : List Point) (runs : List SenderRun) (events : List ReceiverEvent) (states : ℕ → ReceiverState) (up : Rises IsEarlier whole) (over : AllSendNext l whole runs) (r : IsReceiverOf limits runs events states)
    (first : ℕ) (fine : IsUnrefusedAmong runs events first l) (covered : IsCovered runs events states l) where
  -- what is true after the first t events
  pub record Inv (t : ℕ) : Type 0 where
    pub holds : Begins (list_of (states t).store l) whole
    pub acknowledged : Begins (list_of (states t).acknowledged l) (list_of (states t).store l)
    pub reached : (s i n : ℕ) (run : SenderRun) (x : SentMessage) → s < t → slice_get events s ≡ Some (Answers i n Done) → IsSentBy runs i n run x → points_in l x.message ≢ []
        → Begins (acknowledged_before run l n ++ points_in l x.message) (list_of (states t).acknowledged l)
    pub based : (s i n : ℕ) (m : ReceiverEvent) (run : SenderRun) (x : SentMessage) → s < t → slice_get events s ≡ Some m → Brings m i n → IsSentBy runs i n run x → points_in l x.message ≢ []
        → Begins (run.earlier l) (list_of (states t).acknowledged l)

  start : Inv 0
  start = record {
    holds = subst (λ ys. Begins ys whole) (sym (r.begins l).0) (whole, refl);
    acknowledged = subst (λ ys. Begins ys (list_of (states 0).store l)) (sym (r.begins l).1) (list_of (states 0).store l, refl);
    reached = λ s i n run x lt e is some. absurd (omega (arith, lt));
    based = λ s i n m run x lt e b is some. absurd (omega (arith, lt));
  }

  -- ---- what was acknowledged in a run is among what the receiver has acknowledged
  module _ (t : ℕ) (inv : Inv t) (i : ℕ) (run : SenderRun) (exists : slice_get runs i ≡ Some run) where
    -- one request more
    module _ (k : ℕ) (before : Begins (acknowledged_before run l k) (list_of (states t).acknowledged l)) (y : SentMessage) (is : slice_get run.sent k ≡ Some y)
        (judgement : (answer : Judgement) → IsSentBy runs i k run y → y.judgement ≡ Some answer → points_in l y.message ≢ [] → IsAnsweredAmong events t i k answer) where
      none_more : acknowledged_by l y.message y.judgement ≡ [] → Begins (acknowledged_before run l (suc k)) (list_of (states t).acknowledged l)
      none_more none = subst (λ ys. Begins ys (list_of (states t).acknowledged l)) (sym (reached_same run l k y is none)) before

      some_more : y.judgement ≡ Some Done → points_in l y.message ≢ [] → Begins (acknowledged_before run l (suc k)) (list_of (states t).acknowledged l)
      some_more taken some =
          let sent : IsSentBy runs i k run y = record { exists = exists; is = is } in
          let a = judgement Done sent taken some in
          subst (λ ys. Begins ys (list_of (states t).acknowledged l)) (sym (reached_next run l k y is ∙ ap (λ o. acknowledged_before run l k ++ acknowledged_by l y.message o) taken))
          (inv.reached a.at i k run y a.early a.is sent some)

      by_judgement : (o : Option Judgement) → y.judgement ≡ o → Begins (acknowledged_before run l (suc k)) (list_of (states t).acknowledged l)
      by_judgement None e = none_more (ap (acknowledged_by l y.message) e)
      by_judgement (Some Again) e = none_more (ap (acknowledged_by l y.message) e)
      by_judgement (Some Refused) e = none_more (ap (acknowledged_by l y.message) e)
      by_judgement (Some Done) e =
          by_empty (Begins (acknowledged_before run l (suc k)) (list_of (states t).acknowledged l)) (points_in l y.message)
          (λ none. none_more (ap (acknowledged_by l y.message) e ∙ none)) (some_more e)

    prefix : (n : ℕ) → n ≤ length run.sent → Begins (run.earlier l) (list_of (states t).acknowledged l)
        → ((k : ℕ) (y : SentMessage) (judgement : Judgement) → k < n → IsSentBy runs i k run y → y.judgement ≡ Some judgement → points_in l y.message ≢ [] → IsAnsweredAmong events t i k judgement)
        → Begins (acknowledged_before run l n) (list_of (states t).acknowledged l)
    prefix zero within base judgement = subst (λ ys. Begins ys (list_of (states t).acknowledged l)) (sym (append-nil (run.earlier l))) base
    prefix (suc k) within base judgement =
        let found = get_some run.sent k (omega (arith, within)) in
        by_judgement k (prefix k (omega (arith, within)) base (λ j y answer lt. judgement j y answer (omega (arith, lt)))) found.0 found.1
        (λ answer. judgement k found.0 answer (omega arith)) found.0.judgement refl

  -- ---- a request comes
  module _ (t : ℕ) (inv : Inv t) (early : t ≤ first) (m : ReceiverEvent) (here : slice_get events t ≡ Some m) (i n : ℕ) (brings : Brings m i n) (run : SenderRun) (x : SentMessage) (sent : IsSentBy runs i n run x) where
    unrefused : points_in l x.message ≢ [] → NoneRefused l n run.sent
    unrefused some k y lt is refused =
        by_empty (points_in l y.message ≡ []) (points_in l y.message) (λ none. none)
        (λ has.
        let before : IsSentBy runs i k run y = record { exists = sent.exists; is = is } in
        let a = r.answers.before t m i k n run y x Refused l here brings sent before lt refused has some in
        let was = a.early in
        fine a.at i k run y (omega (arith, was, early)) a.is before)

    reached_acknowledged : points_in l x.message ≢ [] → Begins (acknowledged_before run l n) (list_of (states t).acknowledged l)
    reached_acknowledged some =
        prefix t inv i run sent.exists n (omega (arith, slice_get_within run.sent n x sent.is)) (covered t m i n run x here brings sent some)
        (λ k y judgement lt was said has. r.answers.before t m i k n run y x judgement l here brings sent was lt said has some)

    -- what it has of the label set comes next
    pub next-part : points_in l x.message ≢ [] → IsNextPart whole (list_of (states t).store l) (points_in l x.message)
    next-part some =
        let b : Begins (acknowledged_before run l n ++ points_in l x.message) whole = over i run sent.exists n x sent.is (unrefused some) in record {
          before = acknowledged_before run l n;
          more = b.0;
          place = b.1 ∙ append_assoc (acknowledged_before run l n) (points_in l x.message) b.0;
          reached = begins_twice (acknowledged_before run l n) (list_of (states t).acknowledged l) (list_of (states t).store l) (reached_acknowledged some) inv.acknowledged;
        }

    -- what the list is once the head has taken the message
    took : (next : Store) → taken_all limits (Ok (states t).store) x.message ≡ Ok next → TookNext (list_of (states t).store l) (acknowledged_before run l n) (list_of next l) whole (points_in l x.message)
    unfolding next-part
    took next taken =
        let lists = taken_all-lists limits x.message (states t).store next l taken in
        by_empty (TookNext (list_of (states t).store l) (acknowledged_before run l n) (list_of next l) whole (points_in l x.message)) (points_in l x.message)
        (λ none.
        let same : list_of (states t).store l ≡ list_of next l = same_Some (list_of (states t).store l) (list_of next l) (sym (ap (accept (Some (list_of (states t).store l))) none) ∙ lists) in record {
          grows = subst (Begins (list_of (states t).store l)) same (begins_itself (list_of (states t).store l));
          within = subst (λ ys. Begins ys whole) same inv.holds;
          has = λ some. absurd (some none);
        })
        (λ some.
        let made = becomes whole (list_of (states t).store l) (points_in l x.message) up inv.holds (next-part some) in
        let same : made.next ≡ list_of next l = same_Some made.next (list_of next l) (sym made.gives ∙ lists) in record {
          grows = subst (Begins (list_of (states t).store l)) same made.longer.grows;
          within = subst (λ ys. Begins ys whole) same made.longer.within;
          has = λ _. subst (Begins (acknowledged_before run l n ++ points_in l x.message)) same made.longer.has;
        })

  -- ---- one event
  record Moved (t : ℕ) : Type 0 where
    holds : Begins (list_of (states (suc t)).store l) whole
    acknowledged : Begins (list_of (states (suc t)).acknowledged l) (list_of (states (suc t)).store l)
    grown : Begins (list_of (states t).acknowledged l) (list_of (states (suc t)).acknowledged l)

  module _ (t : ℕ) (inv : Inv t) (early : t < first) where
    is_early : t ≤ first
    is_early = omega (arith, early)

    moved_taken : (i n : ℕ) → slice_get events t ≡ Some (Answers i n Done) → Moved t
    moved_taken i n e =
        let h = r.happens t (Answers i n Done) e in
        let done = answers-done limits h.x.message (states t) (states (suc t)) h.judged in
        let all = took t inv is_early (Answers i n Done) e i n (refl, refl) h.run h.x h.is (states (suc t)).store done.0 in
        record {
          holds = all.within;
          acknowledged = subst (λ (s : Store). Begins (list_of s l) (list_of (states (suc t)).store l)) (sym done.1) (begins_itself (list_of (states (suc t)).store l));
          grown = subst (λ (s : Store). Begins (list_of (states t).acknowledged l) (list_of s l)) (sym done.1)
              (begins_twice (list_of (states t).acknowledged l) (list_of (states t).store l) (list_of (states (suc t)).store l) inv.acknowledged all.grows);
        }

    moved_later : states (suc t) ≡ states t → Moved t
    moved_later same = record {
      holds = subst (λ (h : ReceiverState). Begins (list_of h.store l) whole) (sym same) inv.holds;
      acknowledged = subst (λ (h : ReceiverState). Begins (list_of h.acknowledged l) (list_of h.store l)) (sym same) inv.acknowledged;
      grown = subst (λ (h : ReceiverState). Begins (list_of (states t).acknowledged l) (list_of h.acknowledged l)) (sym same) (begins_itself (list_of (states t).acknowledged l));
    }

    moved_again : (most : Store) → Begins (list_of most l) whole → IsRestarted (states t) most (states (suc t)) → Moved t
    moved_again most within again = record {
      holds = begins_twice (list_of (states (suc t)).store l) (list_of most l) whole (again.at_most l) within;
      acknowledged = subst (λ (s : Store). Begins (list_of s l) (list_of (states (suc t)).store l)) (sym again.same) (again.least l);
      grown = subst (λ (s : Store). Begins (list_of (states t).acknowledged l) (list_of s l)) (sym again.same) (begins_itself (list_of (states t).acknowledged l));
    }

    moved_broken : (i n : ℕ) → slice_get events t ≡ Some (RestartsDuring i n) → Moved t
    moved_broken i n e =
        let h = r.happens t (RestartsDuring i n) e in
        moved_again h.most (took t inv is_early (RestartsDuring i n) e i n (refl, refl) h.run h.x h.is h.most h.judged).within h.restarted

    moved : (m : ReceiverEvent) → slice_get events t ≡ Some m → Moved t
    moved (Answers i n Done) e = moved_taken i n e
    moved (Answers i n Again) e = let h = r.happens t (Answers i n Again) e in moved_later (answers-again limits h.x.message (states t) (states (suc t)) h.judged)
    moved (Answers i n Refused) e = let h = r.happens t (Answers i n Refused) e in moved_later (answers-refused-same limits h.x.message (states t) (states (suc t)) h.judged)
    moved Restarts e = moved_again (states t).store inv.holds (r.happens t Restarts e)
    moved (RestartsDuring i n) e = moved_broken i n e

    reached_now : (i n : ℕ) (run : SenderRun) (x : SentMessage) → slice_get events t ≡ Some (Answers i n Done) → IsSentBy runs i n run x → points_in l x.message ≢ []
        → Begins (acknowledged_before run l n ++ points_in l x.message) (list_of (states (suc t)).acknowledged l)
    reached_now i n run x e sent some =
        let h = r.happens t (Answers i n Done) e in
        let done = answers-done limits h.x.message (states t) (states (suc t)) h.judged in
        let one = same_request runs i n h.run run h.x x h.is sent in
        let given : taken_all limits (Ok (states t).store) x.message ≡ Ok (states (suc t)).store = subst (λ (y : SentMessage). taken_all limits (Ok (states t).store) y.message ≡ Ok (states (suc t)).store) one.1 done.0 in
        subst (λ (s : Store). Begins (acknowledged_before run l n ++ points_in l x.message) (list_of s l)) (sym done.1)
        ((took t inv is_early (Answers i n Done) e i n (refl, refl) run x sent (states (suc t)).store given).has some)

    step : (m : ReceiverEvent) → slice_get events t ≡ Some m → Inv (suc t)
    step m here =
        let next = moved m here in record {
          holds = next.holds;
          acknowledged = next.acknowledged;
          reached = λ s i n run x lt e sent some. ⊎_elim
              (λ early. begins_twice (acknowledged_before run l n ++ points_in l x.message) (list_of (states t).acknowledged l) (list_of (states (suc t)).acknowledged l) (inv.reached s i n run x early e sent some) next.grown)
              (λ le. reached_now i n run x (subst (λ q. slice_get events q ≡ Some (Answers i n Done)) (omega (arith, lt, le)) e) sent some) (cases_lt s t);
          based = λ s i n m' run x lt e b sent some. ⊎_elim
              (λ early. begins_twice (run.earlier l) (list_of (states t).acknowledged l) (list_of (states (suc t)).acknowledged l) (inv.based s i n m' run x early e b sent some) next.grown)
              (λ le. begins_twice (run.earlier l) (list_of (states t).acknowledged l) (list_of (states (suc t)).acknowledged l) (covered t m' i n run x (subst (λ q. slice_get events q ≡ Some m') (omega (arith, lt, le)) e) b sent some) next.grown) (cases_lt s t);
        }

  -- ---- all these events
  pub after : (t : ℕ) → t ≤ first → t ≤ length events → Inv t
  after zero early le = start
  after (suc t) early le = let found = get_some events t (omega (arith, le)) in step t (after t (omega (arith, early)) (omega (arith, le))) (omega (arith, early)) found.0 found.1

module _ (limits : LabelLimits) (whole : List Point) (runs : List SenderRun) (events : List ReceiverEvent) (states : ℕ → ReceiverState) (l : Labels) (up : Rises IsEarlier whole) (over : AllSendNext l whole runs) (r : IsReceiverOf limits runs events states) (no_gap : HasNoGap runs events states l) where
  fine : IsUnrefusedAmong runs events (length events) l
  fine at i n run x lt = no_gap.unrefused at i n run x

  last : Inv limits l whole runs events states up over r (length events) fine no_gap.covered (length events)
  last = after limits l whole runs events states up over r (length events) fine no_gap.covered (length events) (omega arith) (omega arith)

  abbrev acknowledged : List Point
  acknowledged = list_of (states (length events)).acknowledged l

  at_end : (ys : List Point) → Begins ys acknowledged → Begins ys (list_of (states (length events)).store l)
  at_end ys b = begins_twice ys acknowledged (list_of (states (length events)).store l) b last.acknowledged

  up_to : (i : ℕ) (run : SenderRun) → slice_get runs i ≡ Some run → (n : ℕ) → n ≤ length run.sent → Begins (run.earlier l) acknowledged → Begins (acknowledged_before run l n) acknowledged
  up_to i run exists n le base =
      prefix limits l whole runs events states up over r (length events) fine no_gap.covered (length events) last i run exists n le base
      (λ k y judgement lt was said has. r.answers.all i k run y judgement was said)

  all_taken : (i n : ℕ) (run : SenderRun) (x : SentMessage) → IsSentBy runs i n run x → x.judgement ≡ Some Done → points_in l x.message ≢ [] → Begins (acknowledged_before run l n ++ points_in l x.message) (list_of (states (length events)).store l)
  all_taken i n run x sent taken some =
      let a = r.answers.all i n run x Done sent taken in
      at_end (acknowledged_before run l n ++ points_in l x.message)
      (subst (λ ys. Begins ys acknowledged) (reached_next run l n x sent.is ∙ ap (λ o. acknowledged_before run l n ++ acknowledged_by l x.message o) taken)
      (up_to i run sent.exists (suc n) (slice_get_within run.sent n x sent.is) (last.based a.at i n (Answers i n Done) run x a.early a.is (refl, refl) sent some)))

  all_complete : (i : ℕ) (run : SenderRun) → slice_get runs i ≡ Some run → Begins (run.earlier l) acknowledged → Begins (run.earlier l ++ acknowledged_in l run.sent) (list_of (states (length events)).store l)
  all_complete i run exists base =
      at_end (run.earlier l ++ acknowledged_in l run.sent)
      (subst (λ ys. Begins ys acknowledged) (ap (λ xs. run.earlier l ++ acknowledged_in l xs) (take_all (length run.sent) run.sent (omega arith)))
      (up_to i run exists (length run.sent) (omega arith) base))

  all_based : (i : ℕ) (run : SenderRun) → slice_get runs i ≡ Some run → acknowledged_in l run.sent ≢ [] → Begins (run.earlier l) acknowledged
  all_based i run exists some =
      let own = acknowledged_some l run.sent some in
      let sent : IsSentBy runs i own.n run own.x = record { exists = exists; is = own.is } in
      let a = r.answers.all i own.n run own.x Done sent own.done in
      last.based a.at i own.n (Answers i own.n Done) run own.x a.early a.is (refl, refl) sent own.some

pub many-runs : (limits : LabelLimits) (whole : List Point) (runs : List SenderRun) (events : List ReceiverEvent) (states : ℕ → ReceiverState) (l : Labels) → Rises IsEarlier whole → AllSendNext l whole runs → IsReceiverOf limits runs events states → HasNoGap runs events states l
    → HoldsPrefix whole runs (states (length events)) l
many-runs limits whole runs events states l up over r no_gap = record {
  in_order = (last limits whole runs events states l up over r no_gap).holds;
  taken = all_taken limits whole runs events states l up over r no_gap;
  complete = all_complete limits whole runs events states l up over r no_gap;
  based = all_based limits whole runs events states l up over r no_gap;
}
