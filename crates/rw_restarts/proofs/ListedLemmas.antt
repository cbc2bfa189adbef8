-- What a shipper that was stopped placed, and its report does not list, was acknowledged.
use Rattle.std.proofs.Common.{◌≡◌, ◌⊎◌, inl, inr, ℕ, zero, suc, ◌+◌, ◌<◌, ◌≤◌, ◌==◌, ◌||◌, Bool, true, false, true≢false, List, [], ◌∷◌, ◌++◌, length, map, take, drop, append-nil, append_assoc, Some, slice_get, refl, sym, ap, ◌∙◌, subst, arith}
use Rattle.std.specs.Prelude.{fold}
use Rattle.std.specs.List.{Contains, list_any}
use Rattle.std.specs.Ordering.{nat_cmp}
use Rattle.std.specs.FinMap.{FinMap, empty, insert}
use Rattle.std.proofs.Math.Bool.{or-true}
use Rattle.std.proofs.lemmas.List.{length-take-le, nil_from_length}
use Rattle.std.proofs.lemmas.List.Elements.{Contains-append_left, Contains-append_right}
use Rattle.std.proofs.lemmas.List.Folds.{list_any-append}
use Rattle.std.proofs.lemmas.List.Sums.{fold-append}
use Rattle.std.proofs.lemmas.Bool.{cases_lt, eq-eqb}
use Rattle.std.proofs.lemmas.Option.{none-some, same_Some, slice_get_within}
use Rattle.rw_types.specs.Gathering.{gather_from}
use Rattle.rw_types.specs.Labels.{Labels}
use Rattle.rw_types.specs.declared.place.Place.{Place}
use Rattle.rw_types.specs.declared.entry.Entry.{Entry}
use Rattle.rw_types.specs.declared.entry.Entry.TheVariants as entry
use Rattle.rw_types.proofs.shared.AllLemmas.{AllByRecursion-get}
use Rattle.rw_series_cache.specs.Fates.{fate, fate_by, kept_fate}
use Rattle.rw_series_cache.specs.Rising.{rises}
use Rattle.rw_ledger.specs.declared.ledger.Reason.{Reason}
use Rattle.rw_ledger.specs.declared.ledger.Reason.TheVariants.{NotRising}
use Rattle.rw_plain_queue.specs.Items.{Placed, samples_in, places_in}
use Rattle.rw_plain_queue.specs.declared.item.Item.{Item}
use Rattle.rw_plain_queue.specs.declared.item.Item.TheVariants.{Sample, Flush, End}
use Rattle.rw_plain_queue.proofs.shared.Histories.{samples_in-append}
use Rattle.rw_shard_core.specs.Shard.{pending}
use Rattle.rw_shard_core.specs.declared.outcome.Outcome.{Outcome}
use Rattle.rw_shard_core.specs.declared.outcome.Outcome.TheVariants as outcome
use Rattle.rw_worker.specs.Setups.{WorkerSetup, start_of}
use Rattle.rw_worker.specs.Steps.{Step, AreSteps, after, items_of}
use Rattle.rw_worker.specs.Transcript.{Exchange}
use Rattle.rw_fleet.specs.ShardHistories.{ShardHistory}
use Rattle.rw_fleet.specs.Work.{AreResolved, AreWorked, IsWorked, lane_of, positions_in, put_of}
use Rattle.rw_fleet.specs.declared.joined.StoppedShard.{StoppedShard}
use Rattle.rw_sender.specs.Logs.{Sent, dropped_by_fate, dropped_of, kept_sample, named, sent, sent_by_fate, sent_of, with_name}
use Rattle.rw_sender.specs.Placement.{as_sent, joined_epochs, samples_put}
use Rattle.rw_sender.specs.Reports.{abandoned_in, part_of, parts_of}
use Rattle.rw_sender.specs.Shipping.{Shipping, HasStopped, HasEndedAs}
use Rattle.rw_sender.specs.declared.report.Report.{Report}
use Rattle.rw_sender.proofs.shared.ListingLemmas.{resolved_left}
use Rattle.rw_sender.proofs.shared.SpreadLemmas.{none_below, placed_spread}
use Rattle.rw_restarts.specs.Listed.{is_left, IsNamedIn}
use Rattle.rw_restarts.proofs.shared.ListLemmas.{get-first, get-within, get_map, map_get}
use Rattle.rw_head.specs.Order.{Point, holds}
use Rattle.rw_head.proofs.shared.OrderRule.{holds_append, holds_right}
use Rattle.rw_restarts.specs.Runs.{SentMessage, acknowledged_in}
use Rattle.rw_restarts.specs.Workers.{AreMessagesOfWorker, HasName, IsAcknowledged, IsSettledSample, WorkerSendsSamples}
use Rattle.rw_restarts.specs.Shards.{AreMessagesOfEpochs, AreMessagesOfShards}
use Rattle.rw_restarts.specs.Stopped.{IsUnlisted, first_of_epoch, steps_at, steps_reported}
use Rattle.rw_restarts.proofs.ShardLemmas.{acknowledged_in-append}
use Rattle.rw_restarts.proofs.TurnLemmas.{resolved-first}
use Rattle.rw_restarts.proofs.WorkerLemmas.{name_own, name_stays}

-- ---- the shards of all epochs in a row
pub get_right : {X : Type 0} (xs ys : List X) (n : ℕ) (y : X) → slice_get ys n ≡ Some y → slice_get (xs ++ ys) (length xs + n) ≡ Some y
get_right [] ys n y e = let same : n ≡ 0 + n = omega arith in subst (λ i. slice_get ys i ≡ Some y) same e
get_right (x ∷ xs) ys n y e =
    let same : suc (length xs + n) ≡ length (x ∷ xs) + n = omega arith in
    subst (λ i. slice_get (x ∷ (xs ++ ys)) i ≡ Some y) same (get_right xs ys n y e)

pub joined_at : (epochs : List (List ShardHistory)) (e k : ℕ) (lanes : List ShardHistory) (lane : ShardHistory) → slice_get epochs e ≡ Some lanes → slice_get lanes k ≡ Some lane
    → slice_get (joined_epochs epochs) (first_of_epoch epochs e + k) ≡ Some lane
joined_at [] e k lanes lane at here = absurd (none-some lanes at)
joined_at (x ∷ xs) zero k lanes lane at here =
    subst (λ n. slice_get (x ++ joined_epochs xs) n ≡ Some lane) (omega arith) (get-first x (joined_epochs xs) k lane (subst (λ ls. slice_get ls k ≡ Some lane) (sym (same_Some x lanes at)) here))
joined_at (x ∷ xs) (suc e) k lanes lane at here =
    subst (λ n. slice_get (x ++ joined_epochs xs) n ≡ Some lane) (omega arith) (get_right x (joined_epochs xs) (first_of_epoch xs e + k) lane (joined_at xs e k lanes lane at here))

-- an element of a list is of its first part, or of its second one
pub get_parts : {X : Type 0} (xs ys : List X) (n : ℕ) (z : X) → slice_get (xs ++ ys) n ≡ Some z → (slice_get xs n ≡ Some z) ⊎ ((m : ℕ) × (slice_get ys m ≡ Some z) × (length xs + m ≡ n))
get_parts [] ys n z e = inr (n, e, omega arith)
get_parts (x ∷ xs) ys zero z e = inl e
get_parts (x ∷ xs) ys (suc n) z e = elim (get_parts xs ys n z e) [ inl here ↦ inl here | inr there ↦ inr (there.0, there.1, (let sum = there.2 in omega arith)) ]

-- the epoch and the number of a shard
abbrev IsOfEpoch : List (List ShardHistory) → ℕ → ShardHistory → Type 0
IsOfEpoch epochs n lane = (e : ℕ) × (k : ℕ) × (lanes : List ShardHistory) × (slice_get epochs e ≡ Some lanes) × (slice_get lanes k ≡ Some lane) × (first_of_epoch epochs e + k ≡ n)

epoch_of : (epochs : List (List ShardHistory)) (n : ℕ) (lane : ShardHistory) → slice_get (joined_epochs epochs) n ≡ Some lane → IsOfEpoch epochs n lane
epoch_of [] n lane at = absurd (none-some lane at)
epoch_of (x ∷ xs) n lane at = elim (get_parts x (joined_epochs xs) n lane at) [
  | inl here ↦ (0, n, x, refl, here, omega arith)
  | inr there ↦ (let further = epoch_of xs there.0 lane there.1 in (suc further.0, further.1, further.2, further.3, further.4, (let a = further.5 in let b = there.2 in omega arith)))
]

-- ---- what an entry gives
record GivesAt {A : Type 0} (f : List Entry → Entry → List A) (before es : List Entry) (p : ℕ) (e : Entry) : Type 0 where
  front : List A
  back : List A
  is : gather_from f before es ≡ front ++ (f (before ++ take p es) e ++ back)

gives_at : {A : Type 0} (f : List Entry → Entry → List A) (before es : List Entry) (p : ℕ) (e : Entry) → slice_get es p ≡ Some e → GivesAt f before es p e
gives_at f before [] p e at = absurd (none-some e at)
gives_at f before (x ∷ xs) zero e at = record {
  front = [];
  back = gather_from f (before ++ x ∷ []) xs;
  is = ap (λ b. f b x ++ gather_from f (before ++ x ∷ []) xs) (sym (append-nil before)) ∙ ap (λ y. f (before ++ []) y ++ gather_from f (before ++ x ∷ []) xs) (same_Some x e at);
}
gives_at f before (x ∷ xs) (suc p) e at =
    let further = gives_at f (before ++ x ∷ []) xs p e at in record {
      front = f before x ++ further.front;
      back = further.back;
      is = ap (λ ys. f before x ++ ys) further.is ∙ sym (append_assoc (f before x) further.front (f ((before ++ x ∷ []) ++ take p xs) e ++ further.back))
          ∙ ap (λ b. (f before x ++ further.front) ++ (f b e ++ further.back)) (append_assoc before (x ∷ []) (take p xs));
    }

names_stay : (ds : List (ℕ × Reason)) (names : FinMap nat_cmp Reason) (p : ℕ) → HasName names p → HasName (fold with_name names ds) p
names_stay [] names p h = h
names_stay (d ∷ ds) names p h = names_stay ds (insert names d.0 d.1) p (name_stays names d.0 d.1 p h)

named_at : (front back : List (ℕ × Reason)) (p : ℕ) (reason : Reason) → HasName (named (front ++ (p, reason) ∷ back)) p
named_at front back p reason =
    subst (λ (names : FinMap nat_cmp Reason). HasName names p) (sym (fold-append with_name empty front ((p, reason) ∷ back)))
    (names_stay back (insert (fold with_name empty front) p reason) p (name_own (fold with_name empty front) p reason))

-- ---- where a sample was put
contains_at : {X : Type 0} (xs : List X) (x : X) → Contains xs x → (k : ℕ) × (slice_get xs k ≡ Some x)
contains_at [] x h = absurd (none_below h.0 h.1)
contains_at (y ∷ ys) x (zero, lt, e) = (0, ap Some e)
contains_at (y ∷ ys) x (suc k, lt, e) = let further = contains_at ys x (k, omega arith, e) in (suc further.0, further.1)

place_at : (items : List Item) (i : ℕ) (y : Placed) → slice_get (samples_in items) i ≡ Some y → slice_get (places_in items) i ≡ Some y.place
place_at [] i y at = absurd (none-some y at)
place_at (Sample place t word labels ∷ xs) zero y at = ap (λ (z : Placed). Some z.place) (same_Some (record { place = place; t = t; word = word; labels = labels.value }) y at)
place_at (Sample place t word labels ∷ xs) (suc i) y at = place_at xs i y at
place_at (Flush ∷ xs) i y at = place_at xs i y at
place_at (End kind ∷ xs) i y at = place_at xs i y at

-- ---- what is left
abbrev is_in : ℕ → List ℕ → Bool
is_in p xs = list_any (λ (q : ℕ). q == p) xs

in_at : (xs : List ℕ) (i p : ℕ) → slice_get xs i ≡ Some p → is_in p xs ≡ true
in_at [] i p at = absurd (none-some p at)
in_at (x ∷ xs) zero p at = ap (λ b. b || is_in p xs) (eq-eqb x p (same_Some x p at))
in_at (x ∷ xs) (suc i) p at = ap (λ b. (x == p) || b) (in_at xs i p at) ∙ or-true (x == p)

in_rest : (n : ℕ) (xs : List ℕ) (i p : ℕ) → slice_get xs i ≡ Some p → n ≤ i → is_in p (drop n xs) ≡ true
in_rest zero xs i p at le = in_at xs i p at
in_rest (suc n) [] i p at le = absurd (none-some p at)
in_rest (suc n) (x ∷ xs) zero p at le = absurd (omega (arith, le))
in_rest (suc n) (x ∷ xs) (suc i) p at le = in_rest n xs i p at (omega (arith, le))

module _ {T : Type 0} where
  in_abandoned : (js : List (StoppedShard T)) (n : ℕ) (j : StoppedShard T) (p : ℕ) → slice_get js n ≡ Some j → is_in p j.abandoned.items ≡ true → is_in p (abandoned_in js) ≡ true
  in_abandoned [] n j p at h = absurd (none-some j at)
  in_abandoned (x ∷ xs) zero j p at h =
      list_any-append (λ (q : ℕ). q == p) x.abandoned.items (abandoned_in xs)
      ∙ ap (λ b. b || is_in p (abandoned_in xs)) (ap (λ (y : StoppedShard T). is_in p y.abandoned.items) (same_Some x j at) ∙ h)
  in_abandoned (x ∷ xs) (suc n) j p at h =
      list_any-append (λ (q : ℕ). q == p) x.abandoned.items (abandoned_in xs)
      ∙ ap (λ b. is_in p x.abandoned.items || b) (in_abandoned xs n j p at h) ∙ or-true (is_in p x.abandoned.items)

  none_left : (js : List (StoppedShard T)) (p : ℕ) → AreResolved js → is_in p (abandoned_in js) ≡ true → ⊥
  none_left js p done h = true≢false (sym h ∙ ap (is_in p) (nil_from_length (abandoned_in js) (resolved_left js done)))

  left_is_listed : (s : Shipping T) (js : List (StoppedShard T)) (o : Outcome) (p : ℕ) → HasEndedAs s js o → is_in p (abandoned_in js) ≡ true → is_left o p ≡ false → ⊥
  left_is_listed s js (outcome.Complete end) p h at none = none_left js p h.2 at
  left_is_listed s js (outcome.Abandoned placed samples) p h at none = true≢false (sym at ∙ ap (is_in p) (sym h.1) ∙ none)
  left_is_listed s js (outcome.Damaged f) p h at none = none_left js p h.1 at

-- ---- the messages of a worker among those of all
record HasMessages (setup : WorkerSetup) (ss : List Step) (all : List SentMessage) : Type 0 where
  own : List SentMessage
  by : AreMessagesOfWorker setup ss own
  within : (y : Placed) → IsAcknowledged own y → IsAcknowledged all y

in_front : (y : Placed) (xs ys all : List SentMessage) → all ≡ xs ++ ys → IsAcknowledged xs y → IsAcknowledged all y
in_front y xs ys all is h =
    subst (λ zs. IsAcknowledged zs y) (sym is)
    (ap (holds (y.t, y.word)) (acknowledged_in-append y.labels xs ys) ∙ holds_append (y.t, y.word) (acknowledged_in y.labels xs) (acknowledged_in y.labels ys) h)

in_back : (y : Placed) (xs ys all : List SentMessage) → all ≡ xs ++ ys → IsAcknowledged ys y → IsAcknowledged all y
in_back y xs ys all is h =
    subst (λ zs. IsAcknowledged zs y) (sym is)
    (ap (holds (y.t, y.word)) (acknowledged_in-append y.labels xs ys) ∙ holds_right (y.t, y.word) (acknowledged_in y.labels xs) (acknowledged_in y.labels ys) h)

shard_messages : (first : ℕ) (shards : List ShardHistory) (steps : ℕ → List Step) (all : List SentMessage) → AreMessagesOfShards first shards steps all → (k : ℕ) (lane : ShardHistory) → slice_get shards k ≡ Some lane → HasMessages lane.setup (steps (first + k)) all
shard_messages first [] steps all m k lane at = absurd (none-some lane at)
shard_messages first (x ∷ xs) steps all m zero lane at = record {
  own = m.0;
  by = subst (λ (y : ShardHistory). AreMessagesOfWorker y.setup (steps (first + 0)) m.0) (same_Some x lane at) (subst (λ i. AreMessagesOfWorker x.setup (steps i) m.0) (omega arith) m.3);
  within = λ y h. in_front y m.0 m.1 all m.2 h;
}
shard_messages first (x ∷ xs) steps all m (suc k) lane at =
    let further = shard_messages (suc first) xs steps m.1 m.4 k lane at in record {
      own = further.own;
      by = subst (λ i. AreMessagesOfWorker lane.setup (steps i) further.own) (omega arith) further.by;
      within = λ y h. in_back y m.0 m.1 all m.2 (further.within y h);
    }

epoch_messages : (first : ℕ) (epochs : List (List ShardHistory)) (steps : ℕ → ℕ → List Step) (all : List SentMessage) → AreMessagesOfEpochs first epochs steps all
    → (e k : ℕ) (lanes : List ShardHistory) (lane : ShardHistory) → slice_get epochs e ≡ Some lanes → slice_get lanes k ≡ Some lane → HasMessages lane.setup (steps (first + e) k) all
epoch_messages first [] steps all m e k lanes lane at here = absurd (none-some lanes at)
epoch_messages first (x ∷ xs) steps all m zero k lanes lane at here =
    let own = shard_messages 0 x (steps first) m.0 m.3 k lane (subst (λ ls. slice_get ls k ≡ Some lane) (sym (same_Some x lanes at)) here) in record {
      own = own.own;
      by = subst (λ i. AreMessagesOfWorker lane.setup (steps i k) own.own) (omega arith) (subst (λ i. AreMessagesOfWorker lane.setup (steps first i) own.own) (omega arith) own.by);
      within = λ y h. in_front y m.0 m.1 all m.2 (own.within y h);
    }
epoch_messages first (x ∷ xs) steps all m (suc e) k lanes lane at here =
    let further = epoch_messages (suc first) xs steps m.1 m.4 e k lanes lane at here in record {
      own = further.own;
      by = subst (λ i. AreMessagesOfWorker lane.setup (steps i k) further.own) (omega arith) further.by;
      within = λ y h. in_back y m.0 m.1 all m.2 (further.within y h);
    }

-- ---- a shipper that was stopped
module _ {T : Type 0} (tells : T → Type 0) (seen : T → List Exchange) (is_for : ℕ → ℕ → T → Type 0) where
  -- what is known of the shard at this place
  pub record WorkedAt (js : List (StoppedShard T)) (worked : AreWorked tells seen is_for js) (n : ℕ) (j : StoppedShard T) : Type 0 where
    pub is : IsWorked tells seen is_for j
    pub steps_are : steps_at tells seen is_for js worked n ≡ is.report.steps

  pub worked_at : (js : List (StoppedShard T)) (worked : AreWorked tells seen is_for js) (n : ℕ) (j : StoppedShard T) → slice_get js n ≡ Some j → WorkedAt js worked n j
  worked_at [] worked n j at = absurd (none-some j at)
  worked_at (x ∷ xs) worked zero j at = subst (λ (y : StoppedShard T). WorkedAt (x ∷ xs) worked zero y) (same_Some x j at) (record { is = worked.0; steps_are = refl })
  worked_at (x ∷ xs) worked (suc n) j at = let further = worked_at xs worked.1 n j at in record { is = further.is; steps_are = further.steps_are }

  module _ (s : Shipping T) (r : Report T) (h : HasStopped tells seen is_for s r) where
    -- a position that a part of the report names
    own_named : (p : ℕ) → HasName h.own.names p → (reason : Reason) × IsNamedIn (parts_of r) p reason
    own_named p name = (name.0, (0, h.own, ap (λ ps. slice_get ps 0) h.parts, name.1))

    part_named : (n : ℕ) (j : StoppedShard T) (p : ℕ) → slice_get h.joined n ≡ Some j → HasName j.part.names p → (reason : Reason) × IsNamedIn (parts_of r) p reason
    part_named n j p at name = (name.0, (suc n, j.part, ap (λ ps. slice_get ps (suc n)) h.parts ∙ get_map part_of h.joined n j at, name.1))

    module _ (p : ℕ) (x : Point) (l : Labels) (u : IsUnlisted s r p x l) where
      abbrev before : List Entry
      before = take p s.log.placed

      abbrev the_entry : Entry
      the_entry = entry.Sample u.reference x.0 x.1

      abbrev the_sample : Sent
      the_sample = kept_sample s.log.choice before x.0 x.1 l

      length_is : length before ≡ p
      length_is = length-take-le p s.log.placed (let lt = slice_get_within s.log.placed p the_entry u.placed in omega arith)

      fate_is : (b : Bool) → rises s.log.choice before l x.0 ≡ b → fate s.log.choice before u.reference x.0 ≡ kept_fate b l
      fate_is b e = ap (fate_by s.log.choice before x.0) u.kept ∙ ap (λ c. kept_fate c l) e

      -- it rises, since else the report would list it
      was_sent : (b : Bool) → rises s.log.choice before l x.0 ≡ b → Contains (sent s.log.choice s.log.placed) the_sample
      was_sent true e =
          let at = gives_at (sent_of s.log.choice) [] s.log.placed p the_entry u.placed in
          let one : sent_of s.log.choice before the_entry ≡ the_sample ∷ [] = ap (sent_by_fate s.log.choice before x.0 x.1) (fate_is true e) in
          subst (λ ys. Contains ys the_sample) (sym (at.is ∙ ap (λ ys. at.front ++ (ys ++ at.back)) one))
          (Contains-append_right at.front (the_sample ∷ at.back) the_sample (Contains-append_left (the_sample ∷ []) at.back the_sample (0, omega arith, refl)))
      was_sent false e =
          let at = gives_at (dropped_of s.log.choice) [] s.log.placed p the_entry u.placed in
          let one : dropped_of s.log.choice before the_entry ≡ (p, NotRising) ∷ [] = ap (dropped_by_fate (length before)) (fate_is false e) ∙ ap (λ n. (n, NotRising) ∷ []) length_is in
          let has : HasName h.own.names p = subst (λ (names : FinMap nat_cmp Reason). HasName names p)
          (sym (h.names ∙ ap named (at.is ∙ ap (λ ys. at.front ++ (ys ++ at.back)) one))) (named_at at.front at.back p NotRising) in
          let listed = own_named p has in
          absurd (u.not_dropped listed.0 listed.1)

      -- the shard that it was put into, and where
      record IsPut : Type 0 where
        n : ℕ
        j : StoppedShard T
        at : slice_get h.joined n ≡ Some j
        i : ℕ
        y : Placed
        here : slice_get (samples_in (put_of j.finished.ends)) i ≡ Some y
        is : as_sent y ≡ the_sample

      was_put : IsPut
      was_put =
          let spread = placed_spread (map lane_of h.joined) s.log.choice s.log.placed h.samples in
          let where_is = spread.2.each the_sample (was_sent (rises s.log.choice before l x.0) refl) in
          let n : ℕ = first_of_epoch spread.0 where_is.0 + where_is.1 in
          let lane_at : slice_get (map lane_of h.joined) n ≡ Some where_is.3 = ap (λ ls. slice_get ls n) spread.1 ∙ joined_at spread.0 where_is.0 where_is.1 where_is.2 where_is.3 where_is.4.0 where_is.4.1 in
          let shard = map_get lane_of h.joined n where_is.3 lane_at in
          let among = contains_at (samples_put (lane_of shard.0)) the_sample (subst (λ (lane : ShardHistory). Contains (samples_put lane) the_sample) (sym shard.2) where_is.5) in
          let found = map_get as_sent (samples_in (put_of shard.0.finished.ends)) among.0 the_sample among.1 in
          record { n = n; j = shard.0; at = shard.1; i = among.0; y = found.0; here = found.1; is = found.2 }

      module _ (put : IsPut) where
        pos_is : put.y.place.pos ≡ p
        pos_is = ap (λ (z : Sent). z.pos) put.is ∙ length_is

        w : WorkedAt h.joined h.worked put.n put.j
        w = worked_at h.joined h.worked put.n put.j put.at

        -- it is resolved, since else it would be left
        resolved_at : put.i < put.j.finished.resolved
        resolved_at = elim (cases_lt put.i put.j.finished.resolved) [
          | inl lt ↦ lt
          | inr le ↦ absurd (left_is_listed s h.joined r.outcome p h.ends
              (in_abandoned h.joined put.n put.j p put.at (ap (is_in p) w.is.abandoned
              ∙ in_rest put.j.finished.resolved (positions_in (put_of put.j.finished.ends)) put.i p
              (get_map (λ (o : Place). o.pos) (places_in (put_of put.j.finished.ends)) put.i put.y.place (place_at (put_of put.j.finished.ends) put.i put.y put.here) ∙ ap Some pos_is) le)) u.not_left)
        ]

        abbrev resolved : List Placed
        resolved = (after (start_of put.j.worker.value) w.is.report.steps).core.resolved

        abbrev unresolved : List Placed
        unresolved = pending (after (start_of put.j.worker.value) w.is.report.steps).core ++ samples_in w.is.begins.0

        put_is : samples_in (put_of put.j.finished.ends) ≡ resolved ++ unresolved
        put_is =
            ap samples_in (w.is.begins.1 ∙ ap (λ items. items ++ w.is.begins.0) (w.is.taken ∙ sym w.is.report.made.items))
            ∙ samples_in-append (items_of w.is.report.steps) w.is.begins.0
            ∙ ap (λ ys. ys ++ samples_in w.is.begins.0) (resolved-first put.j.worker.value w.is.report.steps w.is.report.made.allowed)
            ∙ append_assoc resolved (pending (after (start_of put.j.worker.value) w.is.report.steps).core) (samples_in w.is.begins.0)

        among_resolved : slice_get resolved put.i ≡ Some put.y
        among_resolved =
            get-within resolved unresolved put.i put.y (sym (ap (λ ys. slice_get ys put.i) put_is) ∙ put.here)
            (let lt = resolved_at in let same : put.j.finished.resolved ≡ length resolved = w.is.report.counted in omega (arith, lt, same))

        -- so an answer acknowledged it, since else the worker's part of the report would list it
        own_acknowledged : (own : List SentMessage) → AreMessagesOfWorker put.j.worker.value w.is.report.steps own → IsAcknowledged own put.y
        own_acknowledged own by = elim (AllByRecursion-get (IsSettledSample own (after (start_of put.j.worker.value) w.is.report.steps).ledger.names) resolved put.i put.y by.resolved among_resolved) [
          | inl acknowledged ↦ acknowledged
          | inr name ↦ (
              let has : HasName put.j.part.names p = subst (λ (names : FinMap nat_cmp Reason). HasName names p) (sym w.is.report.names) (subst (HasName (after (start_of put.j.worker.value) w.is.report.steps).ledger.names) pos_is name) in
              let listed = part_named put.n put.j p put.at has in
              absurd (u.not_dropped listed.0 listed.1))
        ]

        as_sample : (all : List SentMessage) → IsAcknowledged all put.y → holds x (acknowledged_in l all) ≡ true
        as_sample all h = subst (λ (z : Sent). holds (z.t, z.word) (acknowledged_in z.labels all) ≡ true) put.is h

        module _ (epochs : List (List ShardHistory)) (shards : map lane_of h.joined ≡ joined_epochs epochs) (all : List SentMessage) (messages : AreMessagesOfEpochs 0 epochs (steps_reported tells seen is_for epochs h.joined h.worked) all) where
          own_messages : HasMessages put.j.worker.value w.is.report.steps all
          own_messages =
              let lane_at : slice_get (joined_epochs epochs) put.n ≡ Some (lane_of put.j) = sym (ap (λ ls. slice_get ls put.n) shards) ∙ get_map lane_of h.joined put.n put.j put.at in
              let of = epoch_of epochs put.n (lane_of put.j) lane_at in
              subst (λ ss. HasMessages put.j.worker.value ss all) w.steps_are
              (subst (λ i. HasMessages put.j.worker.value (steps_at tells seen is_for h.joined h.worked i) all) of.5
              (subst (λ e. HasMessages put.j.worker.value (steps_reported tells seen is_for epochs h.joined h.worked e of.1) all) (omega arith)
              (epoch_messages 0 epochs (steps_reported tells seen is_for epochs h.joined h.worked) all messages of.0 of.1 of.2 (lane_of put.j) of.3 of.4)))

          acknowledged_as : holds x (acknowledged_in l all) ≡ true
          acknowledged_as = as_sample all (own_messages.within put.y (own_acknowledged own_messages.own own_messages.by))

    -- a worker that was acknowledged a sample, and its messages
    pub record IsAcknowledgedBy (x : Point) (l : Labels) : Type 0 where
      pub n : ℕ
      pub j : StoppedShard T
      pub at : slice_get h.joined n ≡ Some j
      pub is : IsWorked tells seen is_for j
      pub steps_are : steps_at tells seen is_for h.joined h.worked n ≡ is.report.steps
      pub own : List SentMessage
      pub by : AreMessagesOfWorker j.worker.value is.report.steps own
      pub has : holds x (acknowledged_in l own) ≡ true

    pub unlisted-worker : ((setup : WorkerSetup) (steps : List Step) → AreSteps (start_of setup) steps → WorkerSendsSamples setup steps) → (p : ℕ) (x : Point) (l : Labels) → IsUnlisted s r p x l → IsAcknowledgedBy x l
    unlisted-worker sends p x l u = by_place (was_put p x l u)
      where
        by_place : IsPut p x l u → IsAcknowledgedBy x l
        by_place put =
            let known_of = w p x l u put in
            let messages = sends put.j.worker.value known_of.is.report.steps known_of.is.report.made.allowed in record {
              n = put.n;
              j = put.j;
              at = put.at;
              is = known_of.is;
              steps_are = known_of.steps_are;
              own = messages.sent;
              by = messages.messages;
              has = as_sample p x l u put messages.sent (own_acknowledged p x l u put messages.sent messages.messages);
            }

    pub unlisted-acknowledged : (epochs : List (List ShardHistory)) → map lane_of h.joined ≡ joined_epochs epochs → (all : List SentMessage) → AreMessagesOfEpochs 0 epochs (steps_reported tells seen is_for epochs h.joined h.worked) all
        → (p : ℕ) (x : Point) (l : Labels) → IsUnlisted s r p x l → holds x (acknowledged_in l all) ≡ true
    unlisted-acknowledged epochs shards all messages p x l u = acknowledged_as p x l u (was_put p x l u) epochs shards all messages
