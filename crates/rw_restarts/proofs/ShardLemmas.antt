-- The workers of all epochs together send what the log owes.
use Rattle.std.proofs.Common.{◌≡◌, ◌⊎◌, inl, inr, ℕ, ℤ, zero, suc, ◌+◌, ◌<◌, ◌≤◌, ◌==◌, Bool, true, false, cond, List, [], ◌∷◌, ◌++◌, length, map, filter, take, slice_get, append-nil, append_assoc, Option, Some, None, refl, sym, ap, ◌∙◌, subst, arith}
use Rattle.std.specs.List.{AllByRecursion}
use Rattle.std.proofs.lemmas.Bool.Decides.{nat_tests}
use Rattle.std.proofs.lemmas.Bool.{eqb-true, cond-true, cond-false}
use Rattle.std.proofs.lemmas.Option.{same_Some}
use Rattle.rw_types.specs.Beginnings.{Begins}
use Rattle.rw_types.proofs.shared.AllLemmas.{AllByRecursion-left, AllByRecursion-right}
use Rattle.rw_types.proofs.shared.BeginningLemmas.{begins_twice}
use Rattle.rw_types.specs.Gathering.{gather_from}
use Rattle.rw_types.specs.Labels.{Labels}
use Rattle.rw_types.specs.LabelOrder.{labels_eq}
use Rattle.rw_types.proofs.shared.OrderLemmas.{same_if_equal}
use Rattle.rw_types.specs.declared.entry.Entry.{Entry}
use Rattle.rw_types.specs.declared.entry.Entry.TheVariants.{Def, Sample}
use Rattle.rw_relabel.specs.declared.choice.Choice.{Choice}
use Rattle.rw_retry.specs.declared.judgement.Judgement.{Judgement}
use Rattle.rw_retry.specs.declared.judgement.Judgement.TheVariants.{Done, Again, Refused}
use Rattle.rw_series_cache.specs.Fates.{fate_by, kept_fate}
use Rattle.rw_series_cache.specs.Known.{Standing, Unknown, Bad, Filtered, Kept, known}
use Rattle.rw_series_cache.specs.Numbers.{series_of, number_of}
use Rattle.rw_series_cache.specs.Rising.{rises}
use Rattle.rw_series_cache.proofs.shared.SeriesLemmas.{kept_has_number, number_stays_on}
use Rattle.rw_plain_queue.specs.Items.{Placed, samples_in}
use Rattle.rw_plain_queue.proofs.shared.Histories.{samples_in-append}
use Rattle.rw_worker.specs.Setups.{WorkerSetup, start_of}
use Rattle.rw_worker.specs.Steps.{Step, AreSteps, items_of}
use Rattle.rw_fleet.specs.ShardHistories.{ShardHistory}
use Rattle.rw_sender.specs.Logs.{Sent, sent, sent_of, sent_by_fate}
use Rattle.rw_sender.specs.Placement.{of_shard, shard_of, samples_put, IsDealt, Places}
use Rattle.rw_head.specs.Order.{Point}
use Rattle.rw_restarts.specs.Owed.{owed_of}
use Rattle.rw_restarts.specs.Parts.{points_in}
use Rattle.rw_restarts.specs.Runs.{SentMessage, acknowledged_by, acknowledged_in, NoneRefused}
use Rattle.rw_restarts.specs.Workers.{samples_in_batch, SendsSamples, HasResolvedAll, NeverRefused, WorkerSendsSamples}
use Rattle.rw_restarts.specs.Senders.{samples_sent}
use Rattle.rw_restarts.specs.Shards.{HasNone, HasMadeSteps, HaveMadeSteps, AreDone, AreMessagesOfShards, AreMessagesOfEpochs, HaveRun, AreAllDone, IsRunOfEpochs}
use Rattle.rw_restarts.proofs.RelayLemmas.{no_samples}
use Rattle.rw_restarts.proofs.LogLemmas.{Begins-after}
use Rattle.rw_restarts.proofs.SenderLemmas.{samples_sent-append, same_samples}

-- ---- messages of one label set
-- each message has what comes next of the list, unless one was refused
abbrev SendsList : Labels → List Point → List SentMessage → Type 0
SendsList l whole sent = (n : ℕ) (x : SentMessage) → slice_get sent n ≡ Some x → NoneRefused l n sent → Begins (acknowledged_in l (take n sent) ++ points_in l x.message) whole

none_at : (n : ℕ) (x : SentMessage) → (let none : List SentMessage = [] in slice_get none n ≡ Some x) → ⊥
none_at n x e = cc (e)

no_acknowledged : (l : Labels) (x : SentMessage) (j : Option Judgement) → points_in l x.message ≡ [] → acknowledged_by l x.message j ≡ []
no_acknowledged l x None e = refl
no_acknowledged l x (Some Done) e = e
no_acknowledged l x (Some Again) e = refl
no_acknowledged l x (Some Refused) e = refl

-- what an answer acknowledges is a prefix of the samples of its message
acknowledged_few : (l : Labels) (x : SentMessage) (j : Option Judgement) (p whole : List Point) → Begins (p ++ points_in l x.message) whole → Begins (p ++ acknowledged_by l x.message j) whole
acknowledged_few l x None p whole b = prefix_of p (points_in l x.message) whole b
  where
    prefix_of : (p xs whole : List Point) → Begins (p ++ xs) whole → Begins (p ++ []) whole
    prefix_of p xs whole b = (xs ++ b.0, b.1 ∙ append_assoc p xs b.0 ∙ ap (λ ys. ys ++ (xs ++ b.0)) (sym (append-nil p)))
acknowledged_few l x (Some Done) p whole b = b
acknowledged_few l x (Some Again) p whole b = (points_in l x.message ++ b.0, b.1 ∙ append_assoc p (points_in l x.message) b.0 ∙ ap (λ ys. ys ++ (points_in l x.message ++ b.0)) (sym (append-nil p)))
acknowledged_few l x (Some Refused) p whole b = (points_in l x.message ++ b.0, b.1 ∙ append_assoc p (points_in l x.message) b.0 ∙ ap (λ ys. ys ++ (points_in l x.message ++ b.0)) (sym (append-nil p)))

later_unrefused : (l : Labels) (x : SentMessage) (n : ℕ) (xs : List SentMessage) → NoneRefused l (suc n) (x ∷ xs) → NoneRefused l n xs
later_unrefused l x n xs fine k y lt = fine (suc k) y (omega (arith, lt))

first_unrefused : (l : Labels) (x : SentMessage) (n : ℕ) (xs : List SentMessage) → (x.judgement ≡ Some Refused → points_in l x.message ≡ []) → NoneRefused l n xs → NoneRefused l (suc n) (x ∷ xs)
first_unrefused l x n xs own fine zero y lt is refused = ap (λ (z : SentMessage). points_in l z.message) (sym (same_Some x y is)) ∙ own (ap (λ (z : SentMessage). z.judgement) (same_Some x y is) ∙ refused)
first_unrefused l x n xs own fine (suc k) y lt is refused = fine k y (omega (arith, lt)) is refused

none_before : (l : Labels) (xs : List SentMessage) → NoneRefused l 0 xs
none_before l xs k y lt = absurd (omega (arith, lt))

-- ---- silent messages
silent_acknowledged : (l : Labels) (n : ℕ) (xs : List SentMessage) → HasNone l xs → acknowledged_in l (take n xs) ≡ []
silent_acknowledged l zero xs all = refl
silent_acknowledged l (suc n) [] all = refl
silent_acknowledged l (suc n) (x ∷ xs) all = ap (λ ys. ys ++ acknowledged_in l (take n xs)) (no_acknowledged l x x.judgement all.0) ∙ silent_acknowledged l n xs all.1

silent_whole : (l : Labels) (xs : List SentMessage) → HasNone l xs → acknowledged_in l xs ≡ []
silent_whole l [] all = refl
silent_whole l (x ∷ xs) all = ap (λ ys. ys ++ acknowledged_in l xs) (no_acknowledged l x x.judgement all.0) ∙ silent_whole l xs all.1

pub silent_at : (l : Labels) (n : ℕ) (x : SentMessage) (xs : List SentMessage) → HasNone l xs → slice_get xs n ≡ Some x → points_in l x.message ≡ []
silent_at l n x [] all e = absurd (none_at n x e)
silent_at l zero x (y ∷ ys) all e = ap (λ (z : SentMessage). points_in l z.message) (sym (same_Some y x e)) ∙ all.0
silent_at l (suc n) x (y ∷ ys) all e = silent_at l n x ys all.1 e

-- messages that send nothing of a label set are silent
silent_if_none : (l : Labels) (xs : List SentMessage) → SendsList l [] xs → HasNone l xs
silent_if_none l [] s = tt
silent_if_none l (x ∷ xs) s =
    let own : points_in l x.message ≡ [] = no_samples (points_in l x.message) (s 0 x refl (none_before l (x ∷ xs))) in (
      own,
      silent_if_none l xs (λ n y is fine.
          subst (λ ys. Begins ((ys ++ acknowledged_in l (take n xs)) ++ points_in l y.message) []) (no_acknowledged l x x.judgement own)
          (s (suc n) y is (first_unrefused l x n xs (λ _. own) fine))),
    )

-- ---- messages one after the other
before_silent : (l : Labels) (whole : List Point) (xs ys : List SentMessage) → HasNone l xs → SendsList l whole ys → SendsList l whole (xs ++ ys)
before_silent l whole [] ys all s n y is fine = s n y is fine
before_silent l whole (x ∷ xs) ys all s zero y is fine = subst (λ (z : SentMessage). Begins (points_in l z.message) whole) (same_Some x y is) (subst (λ ps. Begins ps whole) (sym all.0) (whole, refl))
before_silent l whole (x ∷ xs) ys all s (suc n) y is fine =
    subst (λ ps. Begins ((ps ++ acknowledged_in l (take n (xs ++ ys))) ++ points_in l y.message) whole) (sym (no_acknowledged l x x.judgement all.0))
    (before_silent l whole xs ys all.1 s n y is (later_unrefused l x n (xs ++ ys) fine))

-- the same after samples that were acknowledged before
abbrev SendsAfter : Labels → List Point → List Point → List SentMessage → Type 0
SendsAfter l p whole sent = (n : ℕ) (x : SentMessage) → slice_get sent n ≡ Some x → NoneRefused l n sent → Begins ((p ++ acknowledged_in l (take n sent)) ++ points_in l x.message) whole

next_after : (l : Labels) (p whole : List Point) (x : SentMessage) (xs : List SentMessage) → (x.judgement ≡ Some Refused → points_in l x.message ≡ []) → SendsAfter l p whole (x ∷ xs) → SendsAfter l (p ++ acknowledged_by l x.message x.judgement) whole xs
next_after l p whole x xs own s n y is fine =
    subst (λ ps. Begins (ps ++ points_in l y.message) whole) (sym (append_assoc p (acknowledged_by l x.message x.judgement) (acknowledged_in l (take n xs))))
    (s (suc n) y is (first_unrefused l x n xs own fine))

then_silent : (l : Labels) (whole p : List Point) (xs ys : List SentMessage) → Begins p whole → HasNone l ys → SendsAfter l p whole xs → SendsAfter l p whole (xs ++ ys)
then_silent l whole p [] ys b all s n y is fine =
    subst (λ ps. Begins (ps ++ points_in l y.message) whole) (sym (ap (λ ps. p ++ ps) (silent_acknowledged l n ys all) ∙ append-nil p))
    (subst (λ ps. Begins (p ++ ps) whole) (sym (silent_at l n y ys all is)) (subst (λ ps. Begins ps whole) (sym (append-nil p)) b))
then_silent l whole p (x ∷ xs) ys b all s zero y is fine =
    subst (λ (z : SentMessage). Begins ((p ++ []) ++ points_in l z.message) whole) (same_Some x y is) (s 0 x refl (none_before l (x ∷ xs)))
then_silent l whole p (x ∷ xs) ys b all s (suc n) y is fine =
    let own : x.judgement ≡ Some Refused → points_in l x.message ≡ [] = fine 0 x (omega arith) refl in
    let q : List Point = p ++ acknowledged_by l x.message x.judgement in
    let here : Begins (p ++ points_in l x.message) whole = subst (λ ps. Begins (ps ++ points_in l x.message) whole) (append-nil p) (s 0 x refl (none_before l (x ∷ xs))) in
    let rest = then_silent l whole q xs ys (acknowledged_few l x x.judgement p whole here) all (next_after l p whole x xs own s) n y is (later_unrefused l x n (xs ++ ys) fine) in
    subst (λ ps. Begins (ps ++ points_in l y.message) whole) (append_assoc p (acknowledged_by l x.message x.judgement) (acknowledged_in l (take n (xs ++ ys)))) rest

after_silent : (l : Labels) (whole : List Point) (xs ys : List SentMessage) → HasNone l ys → SendsList l whole xs → SendsList l whole (xs ++ ys)
after_silent l whole xs ys all s = then_silent l whole [] xs ys (whole, refl) all s

pub acknowledged_in-append : (l : Labels) (xs ys : List SentMessage) → acknowledged_in l (xs ++ ys) ≡ acknowledged_in l xs ++ acknowledged_in l ys
acknowledged_in-append l [] ys = refl
acknowledged_in-append l (x ∷ xs) ys = ap (λ ps. acknowledged_by l x.message x.judgement ++ ps) (acknowledged_in-append l xs ys) ∙ sym (append_assoc (acknowledged_by l x.message x.judgement) (acknowledged_in l xs) (acknowledged_in l ys))

-- ---- the samples of a label set are of one series
abbrev IsNumbered : Choice → List Entry → Sent → Type 0
IsNumbered choice log s = s.series ≡ number_of (series_of choice log) s.labels

module _ (choice : Choice) where
  fate_numbered : (before more : List Entry) (r : ℕ) (t : ℤ) (w : ℕ) (m : Labels) (b : Bool) → known choice before r ≡ Kept m → AllByRecursion (IsNumbered choice (before ++ more)) (sent_by_fate choice before t w (kept_fate b m))
  fate_numbered before more r t w m false e = tt
  fate_numbered before more r t w m true e =
      let has = kept_has_number choice before r m e in
      let stays = number_stays_on choice before more m has.0 has.1 in
      (sym has.1.numbered ∙ stays.numbered, tt)

  sample_numbered : (before more : List Entry) (r : ℕ) (t : ℤ) (w : ℕ) (s : Standing) → known choice before r ≡ s → AllByRecursion (IsNumbered choice (before ++ more)) (sent_by_fate choice before t w (fate_by choice before t s))
  sample_numbered before more r t w Unknown e = tt
  sample_numbered before more r t w (Bad f) e = tt
  sample_numbered before more r t w Filtered e = tt
  sample_numbered before more r t w (Kept m) e = fate_numbered before more r t w m (rises choice before m t) e

  entry_numbered : (before more : List Entry) (e : Entry) → AllByRecursion (IsNumbered choice (before ++ more)) (sent_of choice before e)
  entry_numbered before more (Def r m) = tt
  entry_numbered before more (Sample r t w) = sample_numbered before more r t w (known choice before r) refl

  both : (log : List Entry) (xs ys : List Sent) → AllByRecursion (IsNumbered choice log) xs → AllByRecursion (IsNumbered choice log) ys → AllByRecursion (IsNumbered choice log) (xs ++ ys)
  both log [] ys a b = b
  both log (x ∷ xs) ys a b = (a.0, both log xs ys a.1 b)

  all_numbered : (before es : List Entry) → AllByRecursion (IsNumbered choice (before ++ es)) (gather_from (sent_of choice) before es)
  all_numbered before [] = tt
  all_numbered before (e ∷ es) =
      both (before ++ e ∷ es) (sent_of choice before e) (gather_from (sent_of choice) (before ++ e ∷ []) es) (entry_numbered before (e ∷ es) e)
      (subst (λ log. AllByRecursion (IsNumbered choice log) (gather_from (sent_of choice) (before ++ e ∷ []) es)) (append_assoc before (e ∷ []) es) (all_numbered (before ++ e ∷ []) es))

-- ---- the samples of a shard
module _ (choice : Choice) (log : List Entry) (n : ℕ) (l : Labels) where
  -- the shard of the label set
  abbrev own : ℕ
  own = shard_of n (number_of (series_of choice log) l)

  share_of : (k : ℕ) (ss : List Sent) → AllByRecursion (IsNumbered choice log) ss → samples_sent l (of_shard n k ss) ≡ cond (own == k) (samples_sent l ss) []
  share_of k [] all = nothing (own == k)
    where
      nothing : (b : Bool) → ◌≡◌ {A = List Point} [] (cond b [] [])
      nothing true = refl
      nothing false = refl
  share_of k (s ∷ ss) all = by_label (labels_eq l s.labels) refl (shard_of n s.series == k) refl (share_of k ss all.1)
    where
      mine : List Sent
      mine = filter (λ (x : Sent). labels_eq l x.labels) (of_shard n k ss)

      theirs : List Sent
      theirs = filter (λ (x : Sent). labels_eq l x.labels) ss

      point : Sent → Point
      point x = (x.t, x.word)

      same_shard : labels_eq l s.labels ≡ true → (shard_of n s.series == k) ≡ (own == k)
      same_shard e = ap (λ (i : ℕ). shard_of n i == k) (all.0 ∙ ap (number_of (series_of choice log)) (sym (same_if_equal l s.labels e)))

      pushed : (c : Bool) (xs ys : List Point) (p : Point) → xs ≡ cond c ys [] → cond c (p ∷ xs) xs ≡ cond c (p ∷ ys) []
      pushed true xs ys p e = ap (λ ps. p ∷ ps) e
      pushed false xs ys p e = e

      by_label : (a : Bool) → labels_eq l s.labels ≡ a → (b : Bool) → (shard_of n s.series == k) ≡ b → samples_sent l (of_shard n k ss) ≡ cond (own == k) (samples_sent l ss) []
          → samples_sent l (cond b (s ∷ of_shard n k ss) (of_shard n k ss)) ≡ cond (own == k) (map point (cond a (s ∷ theirs) theirs)) []
      by_label true e true f h =
          ap (λ a. map point (cond a (s ∷ mine) mine)) e
          ∙ ap (λ ps. (s.t, s.word) ∷ ps) (h ∙ cond-true (own == k) (samples_sent l ss) [] (sym (same_shard e) ∙ f))
          ∙ sym (cond-true (own == k) (map point (s ∷ theirs)) [] (sym (same_shard e) ∙ f))
      by_label true e false f h = h ∙ cond-false (own == k) (samples_sent l ss) [] (sym (same_shard e) ∙ f) ∙ sym (cond-false (own == k) (map point (s ∷ theirs)) [] (sym (same_shard e) ∙ f))
      by_label false e true f h = ap (λ a. map point (cond a (s ∷ mine) mine)) e ∙ h
      by_label false e false f h = h

not_equal : (a b : ℕ) → (a ≡ b → ⊥) → (a == b) ≡ false
not_equal a b differ = by_test (a == b) refl
  where
    by_test : (c : Bool) → (a == b) ≡ c → c ≡ false
    by_test true e = absurd (differ (eqb-true a b e))
    by_test false e = refl

above : (a b : ℕ) → (a == b) ≡ false → b ≤ a → suc b ≤ a
above a b e le = grind (arith, nat_tests)

-- ---- the shards together
-- a fact about each shard, by its number
abbrev AllFrom : (ℕ → ShardHistory → Type 0) → ℕ → List ShardHistory → Type 0
AllFrom P k [] = Unit {0}
AllFrom P k (x ∷ xs) = P k x × AllFrom P (suc k) xs

all_from_each : (P : ℕ → ShardHistory → Type 0) (k : ℕ) (xs : List ShardHistory) → ((j : ℕ) (x : ShardHistory) → slice_get xs j ≡ Some x → P (k + j) x) → AllFrom P k xs
all_from_each P k [] each = tt
all_from_each P k (x ∷ xs) each = (
  subst (λ i. P i x) (omega arith) (each 0 x refl),
  all_from_each P (suc k) xs (λ j y e. subst (λ i. P i y) (omega arith) (each (suc j) y e)),
)

module _ (choice : Choice) (log : List Entry) (all_sent : List Sent) (numbered : AllByRecursion (IsNumbered choice log) all_sent) (n : ℕ) (steps : ℕ → List Step) where
  -- the samples of a label set that these shards were put
  abbrev share : ℕ → List ShardHistory → Labels → List Point
  share k [] l = []
  share k (x ∷ xs) l = samples_sent l (of_shard n k all_sent) ++ share (suc k) xs l

  share_is : (k : ℕ) (l : Labels) → samples_sent l (of_shard n k all_sent) ≡ cond (own choice log n l == k) (samples_sent l all_sent) []
  share_is k l = share_of choice log n l k all_sent numbered

  no_share : (k : ℕ) (xs : List ShardHistory) (l : Labels) → own choice log n l < k → share k xs l ≡ []
  no_share k [] l lt = refl
  no_share k (x ∷ xs) l lt =
      ap (λ ps. ps ++ share (suc k) xs l) (share_is k l ∙ cond-false (own choice log n l == k) (samples_sent l all_sent) [] (not_equal (own choice log n l) k (λ e. omega (arith, e, lt))))
      ∙ no_share (suc k) xs l (omega (arith, lt))

  own_share : (k : ℕ) (xs : List ShardHistory) (l : Labels) → k ≤ own choice log n l → own choice log n l < k + length xs → share k xs l ≡ samples_sent l all_sent
  own_share k [] l le lt = absurd (omega (arith, le, lt))
  own_share k (x ∷ xs) l le lt = by_shard (own choice log n l == k) refl (λ up. own_share (suc k) xs l up (omega (arith, lt)))
    where
      by_shard : (b : Bool) → (own choice log n l == k) ≡ b → (suc k ≤ own choice log n l → share (suc k) xs l ≡ samples_sent l all_sent) → share k (x ∷ xs) l ≡ samples_sent l all_sent
      by_shard true e further =
          let same : own choice log n l ≡ k = eqb-true (own choice log n l) k e in
          ap (λ ps. ps ++ share (suc k) xs l) (share_is k l ∙ cond-true (own choice log n l == k) (samples_sent l all_sent) [] e)
          ∙ ap (λ ps. samples_sent l all_sent ++ ps) (no_share (suc k) xs l (omega (arith, same))) ∙ append-nil (samples_sent l all_sent)
      by_shard false e further =
          ap (λ ps. ps ++ share (suc k) xs l) (share_is k l ∙ cond-false (own choice log n l == k) (samples_sent l all_sent) [] e)
          ∙ further (above (own choice log n l) k e le)

  -- what a shard was put, and what its worker did
  record IsWorking (k : ℕ) (x : ShardHistory) : Type 0 where
    put : samples_put x ≡ of_shard n k all_sent
    made : HasMadeSteps x (steps k)

  abbrev IsDone : ℕ → ShardHistory → Type 0
  IsDone k x = (items_of (steps k) ≡ x.put) × HasResolvedAll x.setup (steps k)

  record Joins (k : ℕ) (xs : List ShardHistory) : Type 0 where
    messages : List SentMessage
    exchanges : AreMessagesOfShards k xs steps messages
    sends : (l : Labels) → SendsList l (share k xs l) messages
    done : AllFrom IsDone k xs → (l : Labels) → NeverRefused l messages → acknowledged_in l messages ≡ share k xs l

  module _ (worker : (setup : WorkerSetup) (ss : List Step) → AreSteps (start_of setup) ss → WorkerSendsSamples setup ss) (more_put : (taken more : List Placed) (xs : List SentMessage) → SendsSamples taken xs → SendsSamples (taken ++ more) xs) where
    put_is : (k : ℕ) (x : ShardHistory) (l : Labels) → IsWorking k x → samples_in_batch l (samples_in x.put) ≡ samples_sent l (of_shard n k all_sent)
    put_is k x l w = same_samples l (samples_in x.put) ∙ ap (samples_sent l) w.put

    one_sends : (k : ℕ) (x : ShardHistory) (w : IsWorking k x) (l : Labels) → SendsList l (samples_sent l (of_shard n k all_sent)) (worker x.setup (steps k) w.made.allowed).sent
    one_sends k x w l m y is fine =
        let own_run = worker x.setup (steps k) w.made.allowed in
        let all_put : samples_in x.put ≡ samples_in (items_of (steps k)) ++ samples_in w.made.taken.0 = ap samples_in w.made.taken.1 ∙ samples_in-append (items_of (steps k)) w.made.taken.0 in
        subst (Begins (acknowledged_in l (take m own_run.sent) ++ points_in l y.message)) (ap (samples_in_batch l) (sym all_put) ∙ put_is k x l w)
        (more_put (samples_in (items_of (steps k))) (samples_in w.made.taken.0) own_run.sent own_run.sends m y l is fine)

    join : (k : ℕ) (x : ShardHistory) (xs : List ShardHistory) → IsWorking k x → Joins (suc k) xs → Joins k (x ∷ xs)
    join k x xs w rest =
        let own_run = worker x.setup (steps k) w.made.allowed in
        record {
          messages = own_run.sent ++ rest.messages;
          exchanges = (own_run.sent, rest.messages, refl, own_run.messages, rest.exchanges, λ l. apart l (own choice log n l == k) refl);
          sends = λ l. by_shard l (own choice log n l == k) refl;
          done = λ is l fine.
              acknowledged_in-append l own_run.sent rest.messages
              ∙ ap (λ ps. ps ++ acknowledged_in l rest.messages) (own_run.done is.0.1 l (AllByRecursion-left (λ (y : SentMessage). y.judgement ≡ Some Refused → points_in l y.message ≡ []) own_run.sent rest.messages fine) ∙ ap (λ items. samples_in_batch l (samples_in items)) is.0.0 ∙ put_is k x l w)
              ∙ ap (λ ps. samples_sent l (of_shard n k all_sent) ++ ps) (rest.done is.1 l (AllByRecursion-right (λ (y : SentMessage). y.judgement ≡ Some Refused → points_in l y.message ≡ []) own_run.sent rest.messages fine));
        }
      where
        own_sent : List SentMessage
        own_sent = (worker x.setup (steps k) w.made.allowed).sent

        first : Labels → List Point
        first l = samples_sent l (of_shard n k all_sent)

        apart : (l : Labels) (b : Bool) → (own choice log n l == k) ≡ b → HasNone l own_sent ⊎ HasNone l rest.messages
        apart l true e =
            let same : own choice log n l ≡ k = eqb-true (own choice log n l) k e in
            inr (silent_if_none l rest.messages (subst (λ ps. SendsList l ps rest.messages) (no_share (suc k) xs l (omega (arith, same))) (rest.sends l)))
        apart l false e =
            let none : first l ≡ [] = share_is k l ∙ cond-false (own choice log n l == k) (samples_sent l all_sent) [] e in
            inl (silent_if_none l own_sent (subst (λ ps. SendsList l ps own_sent) none (one_sends k x w l)))

        by_shard : (l : Labels) (b : Bool) → (own choice log n l == k) ≡ b → SendsList l (first l ++ share (suc k) xs l) (own_sent ++ rest.messages)
        by_shard l true e =
            let same : own choice log n l ≡ k = eqb-true (own choice log n l) k e in
            let none : share (suc k) xs l ≡ [] = no_share (suc k) xs l (omega (arith, same)) in
            subst (λ ps. SendsList l ps (own_sent ++ rest.messages)) (sym (append-nil (first l)) ∙ ap (λ ps. first l ++ ps) (sym none))
            (after_silent l (first l) own_sent rest.messages (silent_if_none l rest.messages (subst (λ ps. SendsList l ps rest.messages) none (rest.sends l))) (one_sends k x w l))
        by_shard l false e =
            let none : first l ≡ [] = share_is k l ∙ cond-false (own choice log n l == k) (samples_sent l all_sent) [] e in
            subst (λ ps. SendsList l (ps ++ share (suc k) xs l) (own_sent ++ rest.messages)) (sym none)
            (before_silent l (share (suc k) xs l) own_sent rest.messages (silent_if_none l own_sent (subst (λ ps. SendsList l ps own_sent) none (one_sends k x w l))) (rest.sends l))

    joins : (k : ℕ) (xs : List ShardHistory) → AllFrom IsWorking k xs → Joins k xs
    joins k [] all = record { messages = []; exchanges = refl; sends = λ l m y is fine. absurd (none_at m y is); done = λ is l fine. refl }
    joins k (x ∷ xs) all = join k x xs all.0 (joins (suc k) xs all.1)

-- ---- all shards of an epoch
all_shares : (choice : Choice) (log : List Entry) (part : List Sent) (numbered : AllByRecursion (IsNumbered choice log) part) (epoch : ℕ) (shards : List ShardHistory) (steps : ℕ → List Step) (l : Labels) → IsDealt epoch shards part
    → share choice log part numbered (length shards) steps 0 shards l ≡ samples_sent l part
all_shares choice log part numbered epoch [] steps l d = sym (ap (samples_sent l) (d.none refl))
all_shares choice log part numbered epoch (x ∷ xs) steps l d = own_share choice log part numbered (length (x ∷ xs)) steps 0 (x ∷ xs) l (omega arith) (omega arith)

-- ---- epoch after epoch
then_next : (l : Labels) (p one two : List Point) (xs ys : List SentMessage) → SendsAfter l p one xs → (NeverRefused l xs → p ++ acknowledged_in l xs ≡ one) → SendsList l two ys → SendsAfter l p (one ++ two) (xs ++ ys)
then_next l p one two [] ys s all next n y is fine =
    let same : one ≡ p = sym (sym (append-nil p) ∙ all tt) in
    subst (λ ps. Begins ((p ++ acknowledged_in l (take n ys)) ++ points_in l y.message) (ps ++ two)) (sym same)
    (Begins-after p (acknowledged_in l (take n ys)) (points_in l y.message) two (next n y is fine))
then_next l p one two (x ∷ xs) ys s all next zero y is fine =
    begins_twice ((p ++ []) ++ points_in l y.message) one (one ++ two)
    (subst (λ (z : SentMessage). Begins ((p ++ []) ++ points_in l z.message) one) (same_Some x y is) (s 0 x refl (none_before l (x ∷ xs)))) (two, refl)
then_next l p one two (x ∷ xs) ys s all next (suc n) y is fine =
    let own : x.judgement ≡ Some Refused → points_in l x.message ≡ [] = fine 0 x (omega arith) refl in
    let q : List Point = p ++ acknowledged_by l x.message x.judgement in
    let rest = then_next l q one two xs ys (next_after l p one x xs own s) (λ never. append_assoc p (acknowledged_by l x.message x.judgement) (acknowledged_in l xs) ∙ all (own, never)) next n y is (later_unrefused l x n (xs ++ ys) fine) in
    subst (λ ps. Begins (ps ++ points_in l y.message) (one ++ two)) (append_assoc p (acknowledged_by l x.message x.judgement) (acknowledged_in l (take n (xs ++ ys)))) rest

module _ (choice : Choice) (log : List Entry) (steps : ℕ → ℕ → List Step)
    (worker : (setup : WorkerSetup) (ss : List Step) → AreSteps (start_of setup) ss → WorkerSendsSamples setup ss)
    (more_put : (taken more : List Placed) (xs : List SentMessage) → SendsSamples taken xs → SendsSamples (taken ++ more) xs) where
  -- what the shards of these epochs sent of the samples that they were put
  record Epochs (e : ℕ) (epochs : List (List ShardHistory)) (samples : List Sent) : Type 0 where
    messages : List SentMessage
    exchanges : AreMessagesOfEpochs e epochs steps messages
    sends : (l : Labels) → SendsList l (samples_sent l samples) messages
    done : AreAllDone e epochs steps → (l : Labels) → NeverRefused l messages → acknowledged_in l messages ≡ samples_sent l samples

  record OneEpoch (e : ℕ) (shards : List ShardHistory) (part : List Sent) : Type 0 where
    messages : List SentMessage
    exchanges : AreMessagesOfShards 0 shards (steps e) messages
    sends : (l : Labels) → SendsList l (samples_sent l part) messages
    done : AreDone shards (steps e) → (l : Labels) → NeverRefused l messages → acknowledged_in l messages ≡ samples_sent l part

  one_epoch : (e : ℕ) (shards : List ShardHistory) (part : List Sent) → AllByRecursion (IsNumbered choice log) part → IsDealt e shards part → HaveMadeSteps shards (steps e) → OneEpoch e shards part
  one_epoch e shards part numbered d made =
      let n : ℕ = length shards in
      let all = joins choice log part numbered n (steps e) worker more_put 0 shards
      (all_from_each (IsWorking choice log part numbered n (steps e)) 0 shards (λ j x at. subst (λ i. IsWorking choice log part numbered n (steps e) i x) (omega arith) (record { put = (d.each j x at).2; made = made j x at }))) in
      record {
        messages = all.messages;
        exchanges = all.exchanges;
        sends = λ l. subst (λ ps. SendsList l ps all.messages) (all_shares choice log part numbered e shards (steps e) l d) (all.sends l);
        done = λ is l fine.
            all.done (all_from_each (IsDone choice log part numbered n (steps e)) 0 shards (λ j x at. subst (λ i. IsDone choice log part numbered n (steps e) i x) (omega arith) (is j x at))) l fine
            ∙ all_shares choice log part numbered e shards (steps e) l d;
      }

  -- an epoch, and those after it
  turn : (e : ℕ) (shards : List ShardHistory) (later : List (List ShardHistory)) (samples first rest : List Sent) → samples ≡ first ++ rest → AreDone shards (steps e) → OneEpoch e shards first → Epochs (suc e) later rest → Epochs e (shards ∷ later) samples
  turn e shards later samples first rest is was one next =
      record {
        messages = one.messages ++ next.messages;
        exchanges = (one.messages, next.messages, refl, one.exchanges, next.exchanges);
        sends = λ l.
            subst (λ ps. SendsList l ps (one.messages ++ next.messages)) (sym (parts l))
            (then_next l [] (samples_sent l first) (samples_sent l rest) one.messages next.messages (one.sends l) (one.done was l) (next.sends l));
        done = λ all l fine.
            acknowledged_in-append l one.messages next.messages
            ∙ ap (λ ps. ps ++ acknowledged_in l next.messages) (one.done all.0 l (AllByRecursion-left (λ (y : SentMessage). y.judgement ≡ Some Refused → points_in l y.message ≡ []) one.messages next.messages fine))
            ∙ ap (λ ps. samples_sent l first ++ ps) (next.done all.1 l (AllByRecursion-right (λ (y : SentMessage). y.judgement ≡ Some Refused → points_in l y.message ≡ []) one.messages next.messages fine))
            ∙ sym (parts l);
      }
    where
      parts : (l : Labels) → samples_sent l samples ≡ samples_sent l first ++ samples_sent l rest
      parts l = ap (samples_sent l) is ∙ samples_sent-append l first rest

  last_turn : (e : ℕ) (shards : List ShardHistory) (samples first rest : List Sent) → samples ≡ first ++ rest → rest ≡ [] → OneEpoch e shards first → Epochs e (shards ∷ []) samples
  last_turn e shards samples first rest is none one =
      let same : first ≡ samples = sym (is ∙ ap (λ ss. first ++ ss) none ∙ append-nil first) in
      record {
        messages = one.messages;
        exchanges = (one.messages, [], sym (append-nil one.messages), one.exchanges, refl);
        sends = λ l. subst (λ ss. SendsList l (samples_sent l ss) one.messages) same (one.sends l);
        done = λ all l fine. one.done all.0 l fine ∙ ap (samples_sent l) same;
      }

  epochs_send : (e : ℕ) (epochs : List (List ShardHistory)) (samples : List Sent) → AllByRecursion (IsNumbered choice log) samples → Places e epochs samples → HaveRun e epochs steps → Epochs e epochs samples
  epochs_send e [] samples numbered p r = record { messages = []; exchanges = refl; sends = λ l m y is fine. absurd (none_at m y is); done = λ is l fine. sym (ap (samples_sent l) p) }
  epochs_send e (shards ∷ []) samples numbered p r =
      let numbered_here = subst (AllByRecursion (IsNumbered choice log)) p.2 numbered in
      last_turn e shards samples p.0 p.1 p.2 p.4 (one_epoch e shards p.0 (AllByRecursion-left (IsNumbered choice log) p.0 p.1 numbered_here) p.3 r)
  epochs_send e (shards ∷ next ∷ later) samples numbered p r =
      let numbered_here = subst (AllByRecursion (IsNumbered choice log)) p.2 numbered in
      turn e shards (next ∷ later) samples p.0 p.1 p.2 r.1 (one_epoch e shards p.0 (AllByRecursion-left (IsNumbered choice log) p.0 p.1 numbered_here) p.3 r.0)
      (epochs_send (suc e) (next ∷ later) p.1 (AllByRecursion-right (IsNumbered choice log) p.0 p.1 numbered_here) p.4 r.2)

pub sender-is-run : ((choice : Choice) (log : List Entry) (l : Labels) → samples_sent l (sent choice log) ≡ owed_of choice log l)
    → ((setup : WorkerSetup) (ss : List Step) → AreSteps (start_of setup) ss → WorkerSendsSamples setup ss)
    → ((taken more : List Placed) (xs : List SentMessage) → SendsSamples taken xs → SendsSamples (taken ++ more) xs)
    → (choice : Choice) (log : List Entry) (epochs : List (List ShardHistory)) (steps : ℕ → ℕ → List Step) → Places 0 epochs (sent choice log) → HaveRun 0 epochs steps
    → IsRunOfEpochs choice log epochs steps
sender-is-run put_owed worker more_put choice log epochs steps p r =
    let all = epochs_send choice log steps worker more_put 0 epochs (sent choice log) (all_numbered choice [] log) p r in
    record {
      sent = all.messages;
      messages = all.exchanges;
      sends = λ m y l is fine. subst (Begins (acknowledged_in l (take m all.messages) ++ points_in l y.message)) (put_owed choice log l) (all.sends l m y is fine);
      done = λ is l fine. all.done is l fine ∙ put_owed choice log l;
    }
