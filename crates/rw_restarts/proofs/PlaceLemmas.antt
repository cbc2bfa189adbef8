-- Which of the messages of a run is that of an exchange of one of its workers.
use Rattle.std.proofs.Common.{◌≡◌, ◌≢◌, ◌⊎◌, inl, inr, ℕ, zero, suc, ◌+◌, ◌<◌, ◌≤◌, List, [], ◌∷◌, ◌++◌, length, length-append, Some, slice_get, refl, sym, ap, ◌∙◌, subst, arith}
use Rattle.std.proofs.lemmas.Bool.{cases_lt}
use Rattle.std.proofs.lemmas.Option.{none-some, same_Some}
use Rattle.rw_types.specs.Labels.{Labels}
use Rattle.rw_shard_core.specs.declared.config.Target.{Target}
use Rattle.rw_worker.specs.Steps.{Step, exchanges_of}
use Rattle.rw_worker.specs.Transcript.{Exchange}
use Rattle.rw_fleet.specs.ShardHistories.{ShardHistory}
use Rattle.rw_restarts.proofs.shared.ListLemmas.{get-first, get-within}
use Rattle.rw_restarts.specs.Parts.{points_in}
use Rattle.rw_restarts.specs.Runs.{SentMessage}
use Rattle.rw_restarts.specs.Workers.{AreExchangesOfMessages, IsExchangeOfMessage}
use Rattle.rw_restarts.specs.Shards.{AreMessagesOfEpochs, AreMessagesOfShards}
use Rattle.rw_restarts.specs.WireReceivers.{exchanges_before, exchanges_before_epoch}
use Rattle.rw_restarts.proofs.AdditionLemmas.{exchange_of_message, message_of_exchange}
use Rattle.rw_restarts.proofs.ListedLemmas.{get_parts, get_right}
use Rattle.rw_restarts.proofs.ShardLemmas.{silent_at}

-- ---- one worker
same_length : (target : Target) (es : List Exchange) (ms : List SentMessage) → AreExchangesOfMessages target es ms → length ms ≡ length es
same_length target [] [] of = refl
same_length target [] (m ∷ ms) of = absurd of
same_length target (e ∷ es) [] of = absurd of
same_length target (e ∷ es) (m ∷ ms) of = ap suc (same_length target es ms of.1)

-- the message with this number is that of the exchange
pub record IsMessageAt (target : Target) (e : Exchange) (sent : List SentMessage) (n : ℕ) : Type 0 where
  pub x : SentMessage
  pub at : slice_get sent n ≡ Some x
  pub carries : IsExchangeOfMessage target e x

get_back : {X : Type 0} (xs ys : List X) (n : ℕ) (y : X) → slice_get (xs ++ ys) (length xs + n) ≡ Some y → slice_get ys n ≡ Some y
get_back [] ys n y e = let same : 0 + n ≡ n = omega arith in subst (λ i. slice_get ys i ≡ Some y) same e
get_back (x ∷ xs) ys n y e =
    let same : length (x ∷ xs) + n ≡ suc (length xs + n) = omega arith in
    get_back xs ys n y (subst (λ i. slice_get (x ∷ (xs ++ ys)) i ≡ Some y) same e)

-- ---- the shards of one epoch
pub length_of_shards : (first : ℕ) (shards : List ShardHistory) (steps : ℕ → List Step) (sent : List SentMessage) → AreMessagesOfShards first shards steps sent → length sent ≡ exchanges_before first steps (length shards)
length_of_shards first [] steps sent m = ap length m
length_of_shards first (s ∷ ss) steps sent m =
    let own : length m.0 ≡ length (exchanges_of (steps first)) = same_length s.setup.target (exchanges_of (steps first)) m.0 m.3.exchanges in
    let further : length m.1 ≡ exchanges_before (suc first) steps (length ss) = length_of_shards (suc first) ss steps m.1 m.4 in
    let sum : length sent ≡ length m.0 + length m.1 = ap length m.2 ∙ length-append m.0 m.1 in
    omega (arith, own, further, sum)

in_first : (s shard : ShardHistory) (steps : ℕ → List Step) (first q : ℕ) (e : Exchange) (one rest sent : List SentMessage) → sent ≡ one ++ rest → AreExchangesOfMessages s.setup.target (exchanges_of (steps first)) one → s ≡ shard
    → slice_get (exchanges_of (steps first)) q ≡ Some e → IsMessageAt shard.setup.target e sent (exchanges_before first steps zero + q)
in_first s shard steps first q e one rest sent is of same at =
    let found = message_of_exchange s.setup.target (exchanges_of (steps first)) one of q e at in
    let number : q ≡ exchanges_before first steps zero + q = omega arith in
    subst (λ i. IsMessageAt shard.setup.target e sent i) number
    (record {
      x = found.0;
      at = ap (λ xs. slice_get xs q) is ∙ get-first one rest q found.0 found.1;
      carries = subst (λ (y : ShardHistory). IsExchangeOfMessage y.setup.target e found.0) same found.2;
    })

pub in_shards : (first : ℕ) (shards : List ShardHistory) (steps : ℕ → List Step) (sent : List SentMessage) → AreMessagesOfShards first shards steps sent
    → (k q j : ℕ) (shard : ShardHistory) (e : Exchange) → first + k ≡ j → slice_get shards k ≡ Some shard → slice_get (exchanges_of (steps j)) q ≡ Some e
    → IsMessageAt shard.setup.target e sent (exchanges_before first steps k + q)
in_shards first [] steps sent m k q j shard e j_is here at = absurd (none-some shard here)
in_shards first (s ∷ ss) steps sent m zero q j shard e j_is here at =
    let same : j ≡ first = omega (arith, j_is) in
    in_first s shard steps first q e m.0 m.1 sent m.2 m.3.exchanges (same_Some s shard here) (subst (λ i. slice_get (exchanges_of (steps i)) q ≡ Some e) same at)
in_shards first (s ∷ ss) steps sent m (suc k) q j shard e j_is here at =
    let further = in_shards (suc first) ss steps m.1 m.4 k q j shard e (omega (arith, j_is)) here at in
    let own : length m.0 ≡ length (exchanges_of (steps first)) = same_length s.setup.target (exchanges_of (steps first)) m.0 m.3.exchanges in
    let number : length m.0 + (exchanges_before (suc first) steps k + q) ≡ exchanges_before first steps (suc k) + q = omega (arith, own) in
    record {
      x = further.x;
      at = ap (λ xs. slice_get xs (exchanges_before first steps (suc k) + q)) m.2 ∙ subst (λ i. slice_get (m.0 ++ m.1) i ≡ Some further.x) number (get_right m.0 m.1 (exchanges_before (suc first) steps k + q) further.x further.at);
      carries = further.carries;
    }

-- the shard that sent a message
pub record IsOfShard (first : ℕ) (shards : List ShardHistory) (steps : ℕ → List Step) (n : ℕ) (x : SentMessage) : Type 0 where
  pub k : ℕ
  pub q : ℕ
  pub j : ℕ
  pub shard : ShardHistory
  pub e : Exchange
  pub j_is : first + k ≡ j
  pub here : slice_get shards k ≡ Some shard
  pub at : slice_get (exchanges_of (steps j)) q ≡ Some e
  pub number : exchanges_before first steps k + q ≡ n
  pub carries : IsExchangeOfMessage shard.setup.target e x

pub of_shards : (first : ℕ) (shards : List ShardHistory) (steps : ℕ → List Step) (sent : List SentMessage) → AreMessagesOfShards first shards steps sent → (n : ℕ) (x : SentMessage) → slice_get sent n ≡ Some x → IsOfShard first shards steps n x
of_shards first [] steps sent m n x is = absurd (none-some x (sym (ap (λ xs. slice_get xs n) m) ∙ is))
of_shards first (s ∷ ss) steps sent m n x is = elim (get_parts m.0 m.1 n x (sym (ap (λ xs. slice_get xs n) m.2) ∙ is)) [
  | inl own ↦ (
      let found = exchange_of_message s.setup.target (exchanges_of (steps first)) m.0 m.3.exchanges n x own in
      record { k = 0; q = n; j = first; shard = s; e = found.0; j_is = omega arith; here = refl; at = found.1; number = omega arith; carries = found.2 })
  | inr there ↦ (
      let further = of_shards (suc first) ss steps m.1 m.4 there.0 x there.1 in
      let own : length m.0 ≡ length (exchanges_of (steps first)) = same_length s.setup.target (exchanges_of (steps first)) m.0 m.3.exchanges in
      let sum : length m.0 + there.0 ≡ n = there.2 in
      let j_was : suc first + further.k ≡ further.j = further.j_is in
      let was : exchanges_before (suc first) steps further.k + further.q ≡ there.0 = further.number in
      record { k = suc further.k; q = further.q; j = further.j; shard = further.shard; e = further.e; j_is = omega (arith, j_was); here = further.here; at = further.at; number = omega (arith, own, sum, was); carries = further.carries })
]

-- messages of two shards have no label set in common
pub apart_in_shards : (first : ℕ) (shards : List ShardHistory) (steps : ℕ → List Step) (sent : List SentMessage) → AreMessagesOfShards first shards steps sent
    → (k q n j r : ℕ) (shard : ShardHistory) (x y : SentMessage) (l : Labels) → first + k ≡ n → k < j → slice_get shards k ≡ Some shard → q < length (exchanges_of (steps n))
    → slice_get sent (exchanges_before first steps k + q) ≡ Some x → slice_get sent (exchanges_before first steps j + r) ≡ Some y → points_in l x.message ≢ [] → points_in l y.message ≢ [] → ⊥
apart_in_shards first [] steps sent m k q n j r shard x y l n_is lt here within x_is y_is xs ys = none-some shard here
apart_in_shards first (s ∷ ss) steps sent m zero q n zero r shard x y l n_is lt here within x_is y_is xs ys = absurd (omega (arith, lt))
apart_in_shards first (s ∷ ss) steps sent m (suc k) q n zero r shard x y l n_is lt here within x_is y_is xs ys = absurd (omega (arith, lt))
apart_in_shards first (s ∷ ss) steps sent m zero q n (suc j) r shard x y l n_is lt here within x_is y_is xs ys =
    let own : length m.0 ≡ length (exchanges_of (steps first)) = same_length s.setup.target (exchanges_of (steps first)) m.0 m.3.exchanges in
    let same : length (exchanges_of (steps n)) ≡ length (exchanges_of (steps first)) = ap (λ i. length (exchanges_of (steps i))) (omega (arith, n_is)) in
    let x_number : exchanges_before first steps zero + q ≡ q = omega arith in
    let y_number : exchanges_before first steps (suc j) + r ≡ length m.0 + (exchanges_before (suc first) steps j + r) = omega (arith, own) in
    let x_at : slice_get m.0 q ≡ Some x =
    get-within m.0 m.1 q x (sym (ap (λ zs. slice_get zs q) m.2) ∙ subst (λ i. slice_get sent i ≡ Some x) x_number x_is) (omega (arith, own, same, within)) in
    let y_at : slice_get m.1 (exchanges_before (suc first) steps j + r) ≡ Some y =
    get_back m.0 m.1 (exchanges_before (suc first) steps j + r) y (sym (ap (λ zs. slice_get zs (length m.0 + (exchanges_before (suc first) steps j + r))) m.2) ∙ subst (λ i. slice_get sent i ≡ Some y) y_number y_is) in
    elim (m.5 l) [
      | inl none ↦ xs (silent_at l q x m.0 none x_at)
      | inr none ↦ ys (silent_at l (exchanges_before (suc first) steps j + r) y m.1 none y_at)
    ]
apart_in_shards first (s ∷ ss) steps sent m (suc k) q n (suc j) r shard x y l n_is lt here within x_is y_is xs ys =
    let own : length m.0 ≡ length (exchanges_of (steps first)) = same_length s.setup.target (exchanges_of (steps first)) m.0 m.3.exchanges in
    let x_number : exchanges_before first steps (suc k) + q ≡ length m.0 + (exchanges_before (suc first) steps k + q) = omega (arith, own) in
    let y_number : exchanges_before first steps (suc j) + r ≡ length m.0 + (exchanges_before (suc first) steps j + r) = omega (arith, own) in
    let x_at : slice_get m.1 (exchanges_before (suc first) steps k + q) ≡ Some x =
    get_back m.0 m.1 (exchanges_before (suc first) steps k + q) x (sym (ap (λ zs. slice_get zs (length m.0 + (exchanges_before (suc first) steps k + q))) m.2) ∙ subst (λ i. slice_get sent i ≡ Some x) x_number x_is) in
    let y_at : slice_get m.1 (exchanges_before (suc first) steps j + r) ≡ Some y =
    get_back m.0 m.1 (exchanges_before (suc first) steps j + r) y (sym (ap (λ zs. slice_get zs (length m.0 + (exchanges_before (suc first) steps j + r))) m.2) ∙ subst (λ i. slice_get sent i ≡ Some y) y_number y_is) in
    apart_in_shards (suc first) ss steps m.1 m.4 k q n j r shard x y l (omega (arith, n_is)) (omega (arith, lt)) here within x_at y_at xs ys

-- ---- the order of numbers
grows_by_shard : (first : ℕ) (steps : ℕ → List Step) (k m j : ℕ) → first + k ≡ j → k < m → exchanges_before first steps k + length (exchanges_of (steps j)) ≤ exchanges_before first steps m
grows_by_shard first steps zero zero j j_is lt = absurd (omega (arith, lt))
grows_by_shard first steps (suc k) zero j j_is lt = absurd (omega (arith, lt))
grows_by_shard first steps zero (suc m) j j_is lt =
    let same : length (exchanges_of (steps j)) ≡ length (exchanges_of (steps first)) = ap (λ i. length (exchanges_of (steps i))) (omega (arith, j_is)) in
    omega (arith, same)
grows_by_shard first steps (suc k) (suc m) j j_is lt =
    let further = grows_by_shard (suc first) steps k m j (omega (arith, j_is)) (omega (arith, lt)) in omega (arith, further)

-- the number of an exchange is less than how many exchanges there are
pub within_epoch : (steps : ℕ → List Step) (k q m : ℕ) → k < m → q < length (exchanges_of (steps k)) → exchanges_before 0 steps k + q < exchanges_before 0 steps m
within_epoch steps k q m lt within = let grows = grows_by_shard 0 steps k m k (omega arith) lt in omega (arith, grows, within)

pub grows_by_epoch : (first : ℕ) (epochs : List (List ShardHistory)) (steps : ℕ → ℕ → List Step) (e m j : ℕ) (shards : List ShardHistory) → first + e ≡ j → slice_get epochs e ≡ Some shards → e < m
    → exchanges_before_epoch first epochs steps e + exchanges_before 0 (steps j) (length shards) ≤ exchanges_before_epoch first epochs steps m
grows_by_epoch first [] steps e m j shards j_is here lt = absurd (none-some shards here)
grows_by_epoch first (s ∷ later) steps zero zero j shards j_is here lt = absurd (omega (arith, lt))
grows_by_epoch first (s ∷ later) steps (suc e) zero j shards j_is here lt = absurd (omega (arith, lt))
grows_by_epoch first (s ∷ later) steps zero (suc m) j shards j_is here lt =
    let same : exchanges_before 0 (steps j) (length shards) ≡ exchanges_before 0 (steps first) (length s) =
    ap (λ i. exchanges_before 0 (steps i) (length shards)) (omega (arith, j_is)) ∙ ap (λ (ss : List ShardHistory). exchanges_before 0 (steps first) (length ss)) (sym (same_Some s shards here)) in
    omega (arith, same)
grows_by_epoch first (s ∷ later) steps (suc e) (suc m) j shards j_is here lt =
    let further = grows_by_epoch (suc first) later steps e m j shards (omega (arith, j_is)) here (omega (arith, lt)) in omega (arith, further)

-- of two exchanges of one epoch with numbers in order
abbrev pub InOrder : ℕ → ℕ → ℕ → ℕ → Type 0
InOrder k q j r = (k < j) ⊎ ((k ≡ j) × (q < r))

pub order_in_epoch : (steps : ℕ → List Step) (k q j r : ℕ) → r < length (exchanges_of (steps j)) → exchanges_before 0 steps k + q < exchanges_before 0 steps j + r → InOrder k q j r
order_in_epoch steps k q j r within lt = elim (cases_lt k j) [
  | inl less ↦ inl less
  | inr le ↦ elim (cases_lt j k) [
    | inl more ↦ absurd (let past = within_epoch steps j r k more within in omega (arith, past, lt))
    | inr ge ↦ (let same : k ≡ j = omega (arith, le, ge) in let equal : exchanges_before 0 steps k ≡ exchanges_before 0 steps j = ap (exchanges_before 0 steps) same in inr (same, omega (arith, equal, lt)))
  ]
]

-- ---- all epochs
-- the messages of an epoch among all
pub record EpochPart (first : ℕ) (epochs : List (List ShardHistory)) (steps : ℕ → ℕ → List Step) (sent : List SentMessage) (e j : ℕ) (shards : List ShardHistory) : Type 0 where
  pub part : List SentMessage
  pub messages : AreMessagesOfShards 0 shards (steps j) part
  pub there : (n : ℕ) (x : SentMessage) → slice_get part n ≡ Some x → slice_get sent (exchanges_before_epoch first epochs steps e + n) ≡ Some x
  pub back : (n : ℕ) (x : SentMessage) → n < length part → slice_get sent (exchanges_before_epoch first epochs steps e + n) ≡ Some x → slice_get part n ≡ Some x

first_part : (first : ℕ) (s : List ShardHistory) (later : List (List ShardHistory)) (steps : ℕ → ℕ → List Step) (sent one rest : List SentMessage) → sent ≡ one ++ rest → AreMessagesOfShards 0 s (steps first) one → EpochPart first (s ∷ later) steps sent zero first s
first_part first s later steps sent one rest is of = record {
  part = one;
  messages = of;
  there = λ n x at. subst (λ i. slice_get sent i ≡ Some x) (omega arith) (ap (λ xs. slice_get xs n) is ∙ get-first one rest n x at);
  back = λ n x lt at. get-within one rest n x (sym (ap (λ xs. slice_get xs n) is) ∙ subst (λ i. slice_get sent i ≡ Some x) (omega arith) at) lt;
}

pub part_of_epoch : (first : ℕ) (epochs : List (List ShardHistory)) (steps : ℕ → ℕ → List Step) (sent : List SentMessage) → AreMessagesOfEpochs first epochs steps sent
    → (e j : ℕ) (shards : List ShardHistory) → first + e ≡ j → slice_get epochs e ≡ Some shards → EpochPart first epochs steps sent e j shards
part_of_epoch first [] steps sent m e j shards j_is here = absurd (none-some shards here)
part_of_epoch first (s ∷ later) steps sent m zero j shards j_is here =
    let same : first ≡ j = omega (arith, j_is) in
    subst (λ i. EpochPart first (s ∷ later) steps sent zero i shards) same
    (subst (λ (ss : List ShardHistory). EpochPart first (s ∷ later) steps sent zero first ss) (same_Some s shards here) (first_part first s later steps sent m.0 m.1 m.2 m.3))
part_of_epoch first (s ∷ later) steps sent m (suc e) j shards j_is here =
    let further = part_of_epoch (suc first) later steps m.1 m.4 e j shards (omega (arith, j_is)) here in
    let own : length m.0 ≡ exchanges_before 0 (steps first) (length s) = length_of_shards 0 s (steps first) m.0 m.3 in
    record {
      part = further.part;
      messages = further.messages;
      there = λ n x at.
          let number : length m.0 + (exchanges_before_epoch (suc first) later steps e + n) ≡ exchanges_before_epoch first (s ∷ later) steps (suc e) + n = omega (arith, own) in
          ap (λ xs. slice_get xs (exchanges_before_epoch first (s ∷ later) steps (suc e) + n)) m.2
          ∙ subst (λ i. slice_get (m.0 ++ m.1) i ≡ Some x) number (get_right m.0 m.1 (exchanges_before_epoch (suc first) later steps e + n) x (further.there n x at));
      back = λ n x lt at.
          let number : exchanges_before_epoch first (s ∷ later) steps (suc e) + n ≡ length m.0 + (exchanges_before_epoch (suc first) later steps e + n) = omega (arith, own) in
          further.back n x lt (get_back m.0 m.1 (exchanges_before_epoch (suc first) later steps e + n) x
          (sym (ap (λ xs. slice_get xs (length m.0 + (exchanges_before_epoch (suc first) later steps e + n))) m.2) ∙ subst (λ i. slice_get sent i ≡ Some x) number at));
    }

-- the exchange of a message
pub record IsOfEpoch (first : ℕ) (epochs : List (List ShardHistory)) (steps : ℕ → ℕ → List Step) (n : ℕ) (x : SentMessage) : Type 0 where
  pub e : ℕ
  pub i : ℕ
  pub k : ℕ
  pub q : ℕ
  pub shards : List ShardHistory
  pub shard : ShardHistory
  pub exchange : Exchange
  pub i_is : first + e ≡ i
  pub epoch : slice_get epochs e ≡ Some shards
  pub here : slice_get shards k ≡ Some shard
  pub at : slice_get (exchanges_of (steps i k)) q ≡ Some exchange
  pub number : exchanges_before_epoch first epochs steps e + (exchanges_before 0 (steps i) k + q) ≡ n
  pub carries : IsExchangeOfMessage shard.setup.target exchange x

pub of_epochs : (first : ℕ) (epochs : List (List ShardHistory)) (steps : ℕ → ℕ → List Step) (sent : List SentMessage) → AreMessagesOfEpochs first epochs steps sent → (n : ℕ) (x : SentMessage) → slice_get sent n ≡ Some x → IsOfEpoch first epochs steps n x
of_epochs first [] steps sent m n x is = absurd (none-some x (sym (ap (λ xs. slice_get xs n) m) ∙ is))
of_epochs first (s ∷ later) steps sent m n x is = elim (get_parts m.0 m.1 n x (sym (ap (λ xs. slice_get xs n) m.2) ∙ is)) [
  | inl own ↦ (
      let found = of_shards 0 s (steps first) m.0 m.3 n x own in
      let same : found.j ≡ found.k = (let was : 0 + found.k ≡ found.j = found.j_is in omega (arith, was)) in
      let was : exchanges_before 0 (steps first) found.k + found.q ≡ n = found.number in
      record {
        e = 0;
        i = first;
        k = found.k;
        q = found.q;
        shards = s;
        shard = found.shard;
        exchange = found.e;
        i_is = omega arith;
        epoch = refl;
        here = found.here;
        at = subst (λ j. slice_get (exchanges_of (steps first j)) found.q ≡ Some found.e) same found.at;
        number = omega (arith, was);
        carries = found.carries;
      })
  | inr there ↦ (
      let further = of_epochs (suc first) later steps m.1 m.4 there.0 x there.1 in
      let own : length m.0 ≡ exchanges_before 0 (steps first) (length s) = length_of_shards 0 s (steps first) m.0 m.3 in
      let sum : length m.0 + there.0 ≡ n = there.2 in
      let i_was : suc first + further.e ≡ further.i = further.i_is in
      let was : exchanges_before_epoch (suc first) later steps further.e + (exchanges_before 0 (steps further.i) further.k + further.q) ≡ there.0 = further.number in
      record {
        e = suc further.e;
        i = further.i;
        k = further.k;
        q = further.q;
        shards = further.shards;
        shard = further.shard;
        exchange = further.exchange;
        i_is = omega (arith, i_was);
        epoch = further.epoch;
        here = further.here;
        at = further.at;
        number = omega (arith, own, sum, was);
        carries = further.carries;
      })
]
