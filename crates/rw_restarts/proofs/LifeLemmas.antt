-- A receiver over its lives and those of its sender, of one label set.
use Rattle.std.proofs.Common.{◌≡◌, ◌≢◌, ⊎_elim, ℕ, zero, suc, ◌<◌, ◌≤◌, List, [], ◌∷◌, ◌++◌, length, take, slice_get, append-nil, append_assoc, Option, Some, None, refl, sym, ap, ◌∙◌, subst, arith}
use Rattle.std.proofs.lemmas.Bool.{cases_lt}
use Rattle.std.proofs.lemmas.List.{take_all}
use Rattle.std.proofs.lemmas.Option.{same_Some, slice_get_within}
use Rattle.rw_types.specs.Beginnings.{Begins}
use Rattle.rw_types.specs.Labels.{Labels}
use Rattle.rw_types.specs.Rising.{Rises}
use Rattle.rw_types.specs.declared.entry.Entry.{Entry}
use Rattle.rw_types.proofs.shared.BeginningLemmas.{begins_itself, begins_twice}
use Rattle.rw_relabel.specs.declared.choice.Choice.{Choice}
use Rattle.rw_retry.specs.declared.judgement.Judgement.{Judgement}
use Rattle.rw_retry.specs.declared.judgement.Judgement.TheVariants.{Done, Again, Refused}
use Rattle.rw_shard_core.specs.declared.outcome.Outcome.TheVariants.{Complete}
use Rattle.rw_head.specs.Lists.{IsEarlier}
use Rattle.rw_head.specs.Order.{Point, accept}
use Rattle.rw_restarts.specs.Lives.{LifeMessage, SenderLife, if_done, all_done, NoneIsRefused, IsMessageOf, Holding, LivesAgain, IsHistoryOf}
use Rattle.rw_restarts.specs.Owed.{owed_of}
use Rattle.rw_restarts.specs.Parts.{IsNextPart}
use Rattle.rw_restarts.specs.Receivers.{ReceiverEvent, Answers, Restarts, RestartsDuring, Brings, IsAnsweredAmong}
use Rattle.rw_restarts.proofs.PartLemmas.{becomes}
use Rattle.rw_restarts.proofs.RunLemmas.{TookNext, by_empty, get_some}

-- ---- what was acknowledged
-- the earlier samples, and those that were acknowledged of the first n messages
abbrev reached_by : SenderLife → ℕ → List Point
reached_by life n = life.earlier ++ all_done (take n life.sent)

done_next : (xs : List LifeMessage) (k : ℕ) (y : LifeMessage) → slice_get xs k ≡ Some y → all_done (take (suc k) xs) ≡ all_done (take k xs) ++ if_done y.judgement y.samples
done_next [] k y e = absurd cc
done_next (x ∷ xs) zero y e = append-nil (if_done x.judgement x.samples) ∙ ap (λ (z : LifeMessage). if_done z.judgement z.samples) (same_Some x y e)
done_next (x ∷ xs) (suc k) y e = ap (λ ys. if_done x.judgement x.samples ++ ys) (done_next xs k y e) ∙ sym (append_assoc (if_done x.judgement x.samples) (all_done (take k xs)) (if_done y.judgement y.samples))

reached_next : (life : SenderLife) (k : ℕ) (y : LifeMessage) → slice_get life.sent k ≡ Some y → reached_by life (suc k) ≡ reached_by life k ++ if_done y.judgement y.samples
reached_next life k y e = ap (λ ys. life.earlier ++ ys) (done_next life.sent k y e) ∙ sym (append_assoc life.earlier (all_done (take k life.sent)) (if_done y.judgement y.samples))

reached_same : (life : SenderLife) (k : ℕ) (y : LifeMessage) → slice_get life.sent k ≡ Some y → if_done y.judgement y.samples ≡ [] → reached_by life (suc k) ≡ reached_by life k
reached_same life k y e none = reached_next life k y e ∙ ap (λ ys. reached_by life k ++ ys) none ∙ append-nil (reached_by life k)

-- if any was acknowledged, a message of it was
record IsDoneBy (sent : List LifeMessage) : Type 0 where
  n : ℕ
  x : LifeMessage
  is : slice_get sent n ≡ Some x
  done : x.judgement ≡ Some Done
  some : x.samples ≢ []

done_some : (xs : List LifeMessage) → all_done xs ≢ [] → IsDoneBy xs
done_some [] some = absurd (some refl)
done_some (x ∷ xs) some = by_judgement (done_some xs) x.judgement refl
  where
    later : (all_done xs ≢ [] → IsDoneBy xs) → if_done x.judgement x.samples ≡ [] → IsDoneBy (x ∷ xs)
    later more none =
        let rest = more (λ e. some (ap (λ ys. ys ++ all_done xs) none ∙ e)) in
        record { n = suc rest.n; x = rest.x; is = rest.is; done = rest.done; some = rest.some }

    by_judgement : (all_done xs ≢ [] → IsDoneBy xs) → (o : Option Judgement) → x.judgement ≡ o → IsDoneBy (x ∷ xs)
    by_judgement more None e = later more (ap (λ o. if_done o x.samples) e)
    by_judgement more (Some Again) e = later more (ap (λ o. if_done o x.samples) e)
    by_judgement more (Some Refused) e = later more (ap (λ o. if_done o x.samples) e)
    by_judgement more (Some Done) e =
        by_empty (IsDoneBy (x ∷ xs)) x.samples
        (λ none. later more (ap (λ o. if_done o x.samples) e ∙ none)) (λ has. record { n = 0; x = x; is = refl; done = e; some = has })

-- one message has one place
same_message : (lives : List SenderLife) (i n : ℕ) (a b : SenderLife) (x y : LifeMessage) → IsMessageOf lives i n a x → IsMessageOf lives i n b y → (a ≡ b) × (x ≡ y)
same_message lives i n a b x y s t =
    let one : a ≡ b = same_Some a b (sym s.lived ∙ t.lived) in
    (one, same_Some x y (sym s.is ∙ ap (λ (f : SenderLife). slice_get f.sent n) one ∙ t.is))

module _ (choice : Choice) (log : List Entry) (l : Labels) (lives : List SenderLife) (events : List ReceiverEvent) (states : ℕ → Holding) (up : Rises IsEarlier (owed_of choice log l)) (h : IsHistoryOf choice log l lives events states) where
  abbrev whole : List Point
  whole = owed_of choice log l

  -- what is true after the first t events
  record Inv (t : ℕ) : Type 0 where
    within : Begins (states t).held whole
    acknowledged : Begins (states t).acknowledged (states t).held
    reached : (s i n : ℕ) (life : SenderLife) (x : LifeMessage) → s < t → slice_get events s ≡ Some (Answers i n Done) → IsMessageOf lives i n life x → x.samples ≢ []
        → Begins (reached_by life n ++ x.samples) (states t).acknowledged
    based : (s i n : ℕ) (m : ReceiverEvent) (life : SenderLife) (x : LifeMessage) → s < t → slice_get events s ≡ Some m → Brings m i n → IsMessageOf lives i n life x → x.samples ≢ []
        → Begins life.earlier (states t).acknowledged

  start : Inv 0
  start = record {
    within = subst (λ ys. Begins ys whole) (sym h.begins.0) (whole, refl);
    acknowledged = subst (λ ys. Begins ys (states 0).held) (sym h.begins.1) ((states 0).held, refl);
    reached = λ s i n life x lt e is some. absurd (omega (arith, lt));
    based = λ s i n m life x lt e b is some. absurd (omega (arith, lt));
  }

  -- ---- what was acknowledged in a life is among what the receiver has acknowledged
  module _ (t : ℕ) (inv : Inv t) (i : ℕ) (life : SenderLife) (lived : slice_get lives i ≡ Some life) where
    -- one message more
    module _ (k : ℕ) (before : Begins (reached_by life k) (states t).acknowledged) (y : LifeMessage) (is : slice_get life.sent k ≡ Some y)
        (answered : (judgement : Judgement) → IsMessageOf lives i k life y → y.judgement ≡ Some judgement → y.samples ≢ [] → IsAnsweredAmong events t i k judgement) where
      none_more : if_done y.judgement y.samples ≡ [] → Begins (reached_by life (suc k)) (states t).acknowledged
      none_more none = subst (λ ys. Begins ys (states t).acknowledged) (sym (reached_same life k y is none)) before

      some_more : y.judgement ≡ Some Done → y.samples ≢ [] → Begins (reached_by life (suc k)) (states t).acknowledged
      some_more done some =
          let sent : IsMessageOf lives i k life y = record { lived = lived; is = is } in
          let a = answered Done sent done some in
          subst (λ ys. Begins ys (states t).acknowledged) (sym (reached_next life k y is ∙ ap (λ o. reached_by life k ++ if_done o y.samples) done))
          (inv.reached a.at i k life y a.early a.is sent some)

      by_judgement : (o : Option Judgement) → y.judgement ≡ o → Begins (reached_by life (suc k)) (states t).acknowledged
      by_judgement None e = none_more (ap (λ o. if_done o y.samples) e)
      by_judgement (Some Again) e = none_more (ap (λ o. if_done o y.samples) e)
      by_judgement (Some Refused) e = none_more (ap (λ o. if_done o y.samples) e)
      by_judgement (Some Done) e =
          by_empty (Begins (reached_by life (suc k)) (states t).acknowledged) y.samples
          (λ none. none_more (ap (λ o. if_done o y.samples) e ∙ none)) (some_more e)

    prefix : (n : ℕ) → n ≤ length life.sent → Begins life.earlier (states t).acknowledged
        → ((k : ℕ) (y : LifeMessage) (judgement : Judgement) → k < n → IsMessageOf lives i k life y → y.judgement ≡ Some judgement → y.samples ≢ [] → IsAnsweredAmong events t i k judgement)
        → Begins (reached_by life n) (states t).acknowledged
    prefix zero within base answered = subst (λ ys. Begins ys (states t).acknowledged) (sym (append-nil life.earlier)) base
    prefix (suc k) within base answered =
        let found = get_some life.sent k (omega (arith, within)) in
        by_judgement k (prefix k (omega (arith, within)) base (λ j y judgement lt. answered j y judgement (omega (arith, lt)))) found.0 found.1
        (λ judgement. answered k found.0 judgement (omega arith)) found.0.judgement refl

  -- ---- a message comes
  module _ (t : ℕ) (inv : Inv t) (m : ReceiverEvent) (here : slice_get events t ≡ Some m) (i n : ℕ) (brings : Brings m i n) (life : SenderLife) (x : LifeMessage) (sent : IsMessageOf lives i n life x) where
    unrefused : x.samples ≢ [] → NoneIsRefused n life.sent
    unrefused some k y lt is refused =
        by_empty (y.samples ≡ []) y.samples (λ none. none)
        (λ has.
        let before : IsMessageOf lives i k life y = record { lived = sent.lived; is = is } in
        let a = h.before t m i k n life y x Refused here brings sent before lt refused has some in
        h.unrefused a.at i k life y a.is before)

    reached_acknowledged : x.samples ≢ [] → Begins (reached_by life n) (states t).acknowledged
    reached_acknowledged some =
        prefix t inv i life sent.lived n (omega (arith, slice_get_within life.sent n x sent.is)) (h.covered t m i n life x here brings sent some)
        (λ k y judgement lt was said has. h.before t m i k n life y x judgement here brings sent was lt said has some)

    -- what it has comes next
    comes_next : x.samples ≢ [] → IsNextPart whole (states t).held x.samples
    comes_next some =
        let b : Begins (reached_by life n ++ x.samples) whole = (h.over i life sent.lived).sends n x sent.is (unrefused some) in record {
          before = reached_by life n;
          more = b.0;
          place = b.1 ∙ append_assoc (reached_by life n) x.samples b.0;
          reached = begins_twice (reached_by life n) (states t).acknowledged (states t).held (reached_acknowledged some) inv.acknowledged;
        }

    -- what the list is once the receiver has taken the message
    took : (next : List Point) → accept (Some (states t).held) x.samples ≡ Some next → TookNext (states t).held (reached_by life n) next whole x.samples
    unfolding comes_next
    took next taken =
        by_empty (TookNext (states t).held (reached_by life n) next whole x.samples) x.samples
        (λ none.
        let same : (states t).held ≡ next = same_Some (states t).held next (sym (ap (accept (Some (states t).held)) none) ∙ taken) in record {
          grows = subst (Begins (states t).held) same (begins_itself (states t).held);
          within = subst (λ ys. Begins ys whole) same inv.within;
          has = λ some. absurd (some none);
        })
        (λ some.
        let made = becomes whole (states t).held x.samples up inv.within (comes_next some) in
        let same : made.next ≡ next = same_Some made.next next (sym made.gives ∙ taken) in record {
          grows = subst (Begins (states t).held) same made.longer.grows;
          within = subst (λ ys. Begins ys whole) same made.longer.within;
          has = λ _. subst (Begins (reached_by life n ++ x.samples)) same made.longer.has;
        })

  -- ---- one event
  record Moved (t : ℕ) : Type 0 where
    within : Begins (states (suc t)).held whole
    acknowledged : Begins (states (suc t)).acknowledged (states (suc t)).held
    grown : Begins (states t).acknowledged (states (suc t)).acknowledged

  module _ (t : ℕ) (inv : Inv t) where
    moved_taken : (i n : ℕ) → slice_get events t ≡ Some (Answers i n Done) → Moved t
    moved_taken i n e =
        let f = h.happens t (Answers i n Done) e in
        let all = took t inv (Answers i n Done) e i n (refl, refl) f.0 f.1 f.2 (states (suc t)).held f.3 in
        record {
          within = all.within;
          acknowledged = subst (λ ys. Begins ys (states (suc t)).held) (sym f.4) (begins_itself (states (suc t)).held);
          grown = subst (Begins (states t).acknowledged) (sym f.4) (begins_twice (states t).acknowledged (states t).held (states (suc t)).held inv.acknowledged all.grows);
        }

    moved_later : states (suc t) ≡ states t → Moved t
    moved_later same = record {
      within = subst (λ (s : Holding). Begins s.held whole) (sym same) inv.within;
      acknowledged = subst (λ (s : Holding). Begins s.acknowledged s.held) (sym same) inv.acknowledged;
      grown = subst (λ (s : Holding). Begins (states t).acknowledged s.acknowledged) (sym same) (begins_itself (states t).acknowledged);
    }

    moved_again : (most : List Point) → Begins most whole → LivesAgain (states t) most (states (suc t)) → Moved t
    moved_again most within again = record {
      within = begins_twice (states (suc t)).held most whole again.at_most within;
      acknowledged = subst (λ ys. Begins ys (states (suc t)).held) (sym again.same) again.least;
      grown = subst (Begins (states t).acknowledged) (sym again.same) (begins_itself (states t).acknowledged);
    }

    moved_broken : (i n : ℕ) → slice_get events t ≡ Some (RestartsDuring i n) → Moved t
    moved_broken i n e =
        let f = h.happens t (RestartsDuring i n) e in
        moved_again f.2 (took t inv (RestartsDuring i n) e i n (refl, refl) f.0 f.1 f.3 f.2 f.4).within f.5

    moved : (m : ReceiverEvent) → slice_get events t ≡ Some m → Moved t
    moved (Answers i n Done) e = moved_taken i n e
    moved (Answers i n Again) e = moved_later (h.happens t (Answers i n Again) e)
    moved (Answers i n Refused) e = moved_later (h.happens t (Answers i n Refused) e)
    moved Restarts e = moved_again (states t).held inv.within (h.happens t Restarts e)
    moved (RestartsDuring i n) e = moved_broken i n e

    reached_now : (i n : ℕ) (life : SenderLife) (x : LifeMessage) → slice_get events t ≡ Some (Answers i n Done) → IsMessageOf lives i n life x → x.samples ≢ []
        → Begins (reached_by life n ++ x.samples) (states (suc t)).acknowledged
    reached_now i n life x e sent some =
        let f = h.happens t (Answers i n Done) e in
        let one = same_message lives i n f.0 life f.1 x f.2 sent in
        let given : accept (Some (states t).held) x.samples ≡ Some (states (suc t)).held = subst (λ (y : LifeMessage). accept (Some (states t).held) y.samples ≡ Some (states (suc t)).held) one.1 f.3 in
        subst (Begins (reached_by life n ++ x.samples)) (sym f.4)
        ((took t inv (Answers i n Done) e i n (refl, refl) life x sent (states (suc t)).held given).has some)

    step : (m : ReceiverEvent) → slice_get events t ≡ Some m → Inv (suc t)
    step m here =
        let next = moved m here in record {
          within = next.within;
          acknowledged = next.acknowledged;
          reached = λ s i n life x lt e sent some. ⊎_elim
              (λ early. begins_twice (reached_by life n ++ x.samples) (states t).acknowledged (states (suc t)).acknowledged (inv.reached s i n life x early e sent some) next.grown)
              (λ le. reached_now i n life x (subst (λ q. slice_get events q ≡ Some (Answers i n Done)) (omega (arith, lt, le)) e) sent some) (cases_lt s t);
          based = λ s i n m' life x lt e b sent some. ⊎_elim
              (λ early. begins_twice life.earlier (states t).acknowledged (states (suc t)).acknowledged (inv.based s i n m' life x early e b sent some) next.grown)
              (λ le. begins_twice life.earlier (states t).acknowledged (states (suc t)).acknowledged (h.covered t m' i n life x (subst (λ q. slice_get events q ≡ Some m') (omega (arith, lt, le)) e) b sent some) next.grown) (cases_lt s t);
        }

  -- ---- all events
  after : (t : ℕ) → t ≤ length events → Inv t
  after zero le = start
  after (suc t) le = let found = get_some events t (omega (arith, le)) in step t (after t (omega (arith, le))) found.0 found.1

  last : Inv (length events)
  last = after (length events) (omega arith)

  pub in-order : Begins (states (length events)).held (owed_of choice log l)
  in-order = last.within

  -- ---- a life that reported `complete`
  module _ (i : ℕ) (life : SenderLife) (lived : slice_get lives i ≡ Some life) where
    none_refused : NoneIsRefused (length life.sent) life.sent
    none_refused k y lt is refused =
        by_empty (y.samples ≡ []) y.samples (λ none. none)
        (λ has.
        let sent : IsMessageOf lives i k life y = record { lived = lived; is = is } in
        let a = h.given i k life y Refused sent refused has in h.unrefused a.at i k life y a.is sent)

    all_based : all_done life.sent ≢ [] → Begins life.earlier (states (length events)).acknowledged
    all_based some =
        let own = done_some life.sent some in
        let sent : IsMessageOf lives i own.n life own.x = record { lived = lived; is = own.is } in
        let a = h.given i own.n life own.x Done sent own.done own.some in
        last.based a.at i own.n (Answers i own.n Done) life own.x a.early a.is (refl, refl) sent own.some

    all_held : all_done life.sent ≢ [] → Begins (life.earlier ++ all_done life.sent) (states (length events)).held
    all_held some =
        begins_twice (life.earlier ++ all_done life.sent) (states (length events)).acknowledged (states (length events)).held
        (subst (λ ys. Begins ys (states (length events)).acknowledged) (ap (λ xs. life.earlier ++ all_done xs) (take_all (length life.sent) life.sent (omega arith)))
        (prefix (length events) last i life lived (length life.sent) (omega arith) (all_based some) (λ k y judgement lt was said has. h.given i k life y judgement was said has)))
        last.acknowledged

    pub all-of-complete : (end : ℕ) → life.outcome ≡ Some (Complete end) → owed_of choice life.fed l ≢ [] → Begins (life.earlier ++ owed_of choice life.fed l) (states (length events)).held
    all-of-complete end is some =
        let all = (h.over i life lived).complete end is none_refused in
        subst (λ ys. Begins (life.earlier ++ ys) (states (length events)).held) all (all_held (λ none. some (sym all ∙ none)))
