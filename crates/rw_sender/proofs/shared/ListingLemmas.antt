-- How many samples of shards are not resolved, and the room to list them.
use Rattle.std.proofs.Common.{◌≡◌, ℕ, zero, suc, ◌+◌, ◌<◌, ◌≤◌, List, [], ◌∷◌, ◌++◌, length, map, take, refl, sym, ap, ◌∙◌, subst, append_assoc, append-nil, length-append, arith}
use Rattle.std.specs.Global.{Global}
use Rattle.std.specs.Prelude.{◌*◌, ◌==◌, ◌&&◌, Vec, vec_len, vec_capacity, Bool, true, false, Some, None, Result, Ok, is_ok, if◌then◌else◌, get_or}
use Rattle.std.proofs.Math.Nat.{suc-mul, zero-mul, mul-le-mul_right}
use Rattle.std.proofs.lemmas.List.{length-map}
use Rattle.std.proofs.lemmas.Bool.Decides.{nat_tests}
use Rattle.rw_shard_core.specs.declared.config.ConfigFields.{ConfigFields}
use Rattle.rw_worker.specs.Transcript.{Exchange}
use Rattle.rw_fleet.specs.ShardHistories.{AreSame, AreSetUp}
use Rattle.rw_fleet.specs.Work.{lane_of, is_compared, is_resolved, AreResolved, AreWorked}
use Rattle.rw_fleet.specs.Fleets.{Shards, AreAll, HasClosed}
use Rattle.rw_fleet.specs.declared.joined.StoppedShard.{StoppedShard}
use Rattle.rw_fleet.specs.Loads.{window_of}
use Rattle.rw_fleet.proofs.shared.LaneLemmas.{same_length}
use Rattle.rw_fleet.specs.Stopped.{abandoned_in}
use Rattle.rw_sender.specs.inner.Reports.{IsRoomFor}

module _ {T : Type 0} where
  pub abandoned_append : (xs ys : List (StoppedShard T)) → abandoned_in (xs ++ ys) ≡ abandoned_in xs ++ abandoned_in ys
  abandoned_append [] ys = refl
  abandoned_append (x ∷ xs) ys = ap (λ l. x.abandoned.items ++ l) (abandoned_append xs ys) ∙ sym (append_assoc x.abandoned.items (abandoned_in xs) (abandoned_in ys))

  -- in each shard no more wait than its window
  few_in : (tells : T → Type 0) (seen : T → List Exchange) (is_for : ℕ → ℕ → T → Type 0) (config : ConfigFields) (js : List (StoppedShard T)) → AreWorked tells seen is_for js → AreSetUp config (map lane_of js) → length (abandoned_in js) ≤ length js * window_of config
  few_in tells seen is_for config [] w a = omega arith
  few_in tells seen is_for config (j ∷ js) w a =
      let rest = few_in tells seen is_for config js w.1 a.1 in
      let one = w.0.few in
      let batch = a.0.1 in
      let capacity = a.0.2 in
      let all = length-append j.abandoned.items (abandoned_in js) in
      let sum = suc-mul (length js) (window_of config) in
      omega arith

  worked_behind : (tells : T → Type 0) (seen : T → List Exchange) (is_for : ℕ → ℕ → T → Type 0) (xs ys : List (StoppedShard T)) → AreWorked tells seen is_for (xs ++ ys) → AreWorked tells seen is_for ys
  worked_behind tells seen is_for [] ys h = h
  worked_behind tells seen is_for (x ∷ xs) ys h = worked_behind tells seen is_for xs ys h.1

  set_up_behind : (config : ConfigFields) (xs ys : List (StoppedShard T)) → AreSetUp config (map lane_of (xs ++ ys)) → AreSetUp config (map lane_of ys)
  set_up_behind config [] ys h = h
  set_up_behind config (x ∷ xs) ys h = set_up_behind config xs ys h.1

  -- what waits if all have ended
  all_left : (tells : T → Type 0) (seen : T → List Exchange) (is_for : ℕ → ℕ → T → Type 0) (s : Shards T) (js : List (StoppedShard T)) → AreAll s js → AreWorked tells seen is_for js → AreSetUp s.config (map lane_of js)
      → length (abandoned_in js) ≤ length (abandoned_in s.ended) + length s.current * window_of s.config
  all_left tells seen is_for s js all worked setup =
      let more = all.0 in
      let few = few_in tells seen is_for s.config more (worked_behind tells seen is_for s.ended more (subst (AreWorked tells seen is_for) all.1 worked)) (set_up_behind s.config s.ended more (subst (λ (l : List (StoppedShard T)). AreSetUp s.config (map lane_of l)) all.1 setup)) in
      let same : length more * window_of s.config ≡ length s.current * window_of s.config = ap (λ n. n * window_of s.config) (sym (length-map more lane_of) ∙ same_length s.current (map lane_of more) all.2) in
      let len = ap (λ (l : List (StoppedShard T)). length (abandoned_in l)) all.1 ∙ ap length (abandoned_append s.ended more) in
      let sum = length-append (abandoned_in s.ended) (abandoned_in more) in
      omega arith

  nothing_left : (j : StoppedShard T) → is_resolved j ≡ true → length j.abandoned.items ≡ 0
  nothing_left j h = both_true (is_compared j.finished.ends) (length j.abandoned.items) h
    where
      both_true : (b : Bool) (n : ℕ) → (b && (n == 0)) ≡ true → n ≡ 0
      both_true true n e = grind (arith, nat_tests)
      both_true false n e = absurd (cc)

  pub resolved_left : (js : List (StoppedShard T)) → AreResolved js → length (abandoned_in js) ≡ 0
  resolved_left [] h = refl
  resolved_left (j ∷ js) h =
      let one = nothing_left j (h zero j refl) in
      let rest = resolved_left js (λ k i at. h (suc k) i at) in
      let all = length-append j.abandoned.items (abandoned_in js) in
      omega arith

  pub resolved_none : (js : List (StoppedShard T)) → js ≡ [] → AreResolved js
  resolved_none js is = subst (λ (xs : List (StoppedShard T)). AreResolved xs) (sym is) (λ k j at. absurd (let none : None ≡ Some j = at in cc))

  -- no shard is at work
  pub room_begun : (s : Shards T) (a : Vec ℕ Global) → s.ended ≡ [] → s.current ≡ [] → vec_len a ≡ 0 → IsRoomFor s a
  room_begun s a ended current none =
      let c : length s.current ≡ 0 = ap length current in
      let f : length (abandoned_in s.ended) ≡ 0 = ap (λ (js : List (StoppedShard T)). length (abandoned_in js)) ended in
      let d : length s.current * window_of s.config ≡ 0 = ap (λ n. n * window_of s.config) c ∙ zero-mul (window_of s.config) in
      (none, omega arith)

  -- there may be more room
  pub room_grown : (s : Shards T) (a b : Vec ℕ Global) → IsRoomFor s a → vec_len b ≡ vec_len a → vec_capacity a ≤ vec_capacity b → IsRoomFor s b
  room_grown s a b h len more = let room = h.1 in (len ∙ h.0, omega arith)

  -- the shards of the next epoch
  pub room_opened : (was now : Shards T) (a b : Vec ℕ Global) (shards : ℕ) → IsRoomFor was a → now ≡ record was { current = now.current } → AreResolved was.ended → length now.current ≤ shards
      → vec_len b ≡ vec_len a → vec_len b + shards * window_of was.config ≤ vec_capacity b → IsRoomFor now b
  room_opened was now a b shards h is resolved most len more =
      let left : length (abandoned_in now.ended) ≡ length (abandoned_in was.ended) = ap (λ (s : Shards T). length (abandoned_in s.ended)) is in
      let all = resolved_left was.ended resolved in
      let windows : length now.current * window_of now.config ≡ length now.current * window_of was.config = ap (λ (s : Shards T). length now.current * window_of s.config) is in
      let wide : length now.current * window_of was.config ≤ shards * window_of was.config = mul-le-mul_right (window_of was.config) most in
      (len ∙ h.0, omega arith)

  -- as many shards are at work
  pub room_still : (was now : Shards T) (a : Vec ℕ Global) → IsRoomFor was a → now ≡ record was { current = now.current } → length now.current ≡ length was.current → IsRoomFor now a
  room_still was now a h is same =
      let left : length (abandoned_in now.ended) ≡ length (abandoned_in was.ended) = ap (λ (s : Shards T). length (abandoned_in s.ended)) is in
      let windows : length now.current * window_of now.config ≡ length was.current * window_of was.config = λ i. same i * window_of (is i).config in
      let room = h.1 in
      (h.0, omega arith)

  pub room_same : (was now : Shards T) (a : Vec ℕ Global) → IsRoomFor was a → now ≡ record was { current = now.current } → AreSame was.current now.current → IsRoomFor now a
  room_same was now a h is same = room_still was now a h is (same_length was.current now.current same)

  -- and what was put is handed over
  pub room_handed : (was now new : Shards T) (a : Vec ℕ Global) → IsRoomFor was a → new ≡ now → now ≡ record was { current = now.current } → length now.current ≡ length was.current → IsRoomFor new a
  room_handed was now new a h e is same = subst (λ (s : Shards T). IsRoomFor s a) (sym e) (room_still was now a h is same)

  -- all shards have ended
  pub room_closed : (tells : T → Type 0) (seen : T → List Exchange) (is_for : ℕ → ℕ → T → Type 0) (was now : Shards T) (a : Vec ℕ Global) → IsRoomFor was a → HasClosed was now → AreWorked tells seen is_for now.ended → AreSetUp now.config (map lane_of now.ended) → IsRoomFor now a
  room_closed tells seen is_for was now a h shut worked setup =
      let none : length now.current ≡ 0 = ap length shut.2 in
      let windows : length now.current * window_of now.config ≡ 0 = ap (λ k. k * window_of now.config) none ∙ zero-mul (window_of now.config) in
      let left = all_left tells seen is_for was now.ended shut.3 worked (subst (λ (c : ConfigFields). AreSetUp c (map lane_of now.ended)) shut.0 setup) in
      let room = h.1 in
      (h.0, omega arith)

  -- there is room for all samples that the shards have left
  pub room_all : (tells : T → Type 0) (seen : T → List Exchange) (is_for : ℕ → ℕ → T → Type 0) (s : Shards T) (a : Vec ℕ Global) (js : List (StoppedShard T)) (left : List ℕ) → IsRoomFor s a → AreAll s js → AreWorked tells seen is_for js → AreSetUp s.config (map lane_of js)
      → left ≡ abandoned_in js → vec_len a + length left ≤ vec_capacity a
  room_all tells seen is_for s a js left h all worked setup is =
      let few = all_left tells seen is_for s js all worked setup in
      let len = ap length is in
      let none = h.0 in
      let room = h.1 in
      omega arith

  abandoned_suc : (js : List (StoppedShard T)) (n : ℕ) (j : StoppedShard T) → n < length js → j ≡ get_or js n j → abandoned_in (take (suc n) js) ≡ abandoned_in (take n js) ++ j.abandoned.items
  abandoned_suc [] n j below is = absurd (omega arith)
  abandoned_suc (x ∷ xs) zero j below is = append-nil x.abandoned.items ∙ ap (λ (y : StoppedShard T). y.abandoned.items) (sym is)
  abandoned_suc (x ∷ xs) (suc n) j below is =
      ap (λ l. x.abandoned.items ++ l) (abandoned_suc xs n j (omega arith) is) ∙ sym (append_assoc x.abandoned.items (abandoned_in (take n xs)) j.abandoned.items)

  -- the samples of the first shards, and then those of one more
  pub abandoned_more : (js : List (StoppedShard T)) (n : ℕ) (j : StoppedShard T) → n < length js → j ≡ get_or js n j → abandoned_in (take (n + 1) js) ≡ abandoned_in (take n js) ++ j.abandoned.items
  abandoned_more js n j below is =
      let up : n + 1 ≡ suc n = omega arith in
      ap (λ k. abandoned_in (take k js)) up ∙ abandoned_suc js n j below is

  -- they are no more than those of all
  pub abandoned_within : (js : List (StoppedShard T)) (n : ℕ) (j : StoppedShard T) → n < length js → j ≡ get_or js n j → length (abandoned_in (take n js)) + length j.abandoned.items ≤ length (abandoned_in js)
  abandoned_within [] n j below is = absurd (omega arith)
  abandoned_within (x ∷ xs) zero j below is =
      let one = ap (λ (y : StoppedShard T). length y.abandoned.items) is in
      let all = length-append x.abandoned.items (abandoned_in xs) in
      omega arith
  abandoned_within (x ∷ xs) (suc n) j below is =
      let rest = abandoned_within xs n j (omega arith) is in
      let first = length-append x.abandoned.items (abandoned_in (take n xs)) in
      let all = length-append x.abandoned.items (abandoned_in xs) in
      omega arith

module _ {A E : Type 0} where
  -- what a call that went well appended
  pub appended : (r : Result A E) (u : A) (new old other xs : List ℕ) → r ≡ Ok u → new ≡ (if is_ok r then old ++ other else old) → other ≡ xs → new ≡ old ++ xs
  appended r u new old other xs is n o = n ∙ ap (λ (x : Result A E). if is_ok x then old ++ other else old) is ∙ ap (λ l. old ++ l) o

  pub longer : (r : Result A E) (u : A) (new old : ℕ) (other xs : List ℕ) → r ≡ Ok u → new ≡ (if is_ok r then old + length other else old) → other ≡ xs → new ≡ old + length xs
  longer r u new old other xs is n o = n ∙ ap (λ (x : Result A E). if is_ok x then old + length other else old) is ∙ ap (λ l. old + length l) o
