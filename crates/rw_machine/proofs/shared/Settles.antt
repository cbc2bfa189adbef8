-- `settle` comes to a report.
use Rattle.std.proofs.Common.{◌≡◌, ℕ, zero, suc, ◌+◌, ◌-◌, ◌*◌, ◌<◌, ◌≤◌, ◌==◌, Bool, true, false, cond, List, [], ◌∷◌, ◌++◌, length, take, filter, Option, Some, None, is_some, slice_get, refl, sym, ap, ◌∙◌, subst, ◌||◌, ◌&&◌, not, nat_le, nat_lt, arith, ℤ}
use Rattle.std.specs.List.{list_all, position_or_len}
use Rattle.std.proofs.Math.Nat.{mod-lt}
use Rattle.std.proofs.lemmas.Bool.{leb-true, lt-ltb, ltb-true, true≢false, or_right, not-true, not-false, cond-false, cond-true, and_parts, and_from}
use Rattle.std.proofs.lemmas.Bool.Decides.{Decides-eqb}
use Rattle.rw_machine.proofs.shared.Steps.{unless}
use Rattle.rw_machine.proofs.shared.Classes.{classes}
use Rattle.rw_machine.proofs.shared.Runs.{holds_at_end, all_of_it}
use Rattle.rw_machine.proofs.shared.Others.{nil_of, others}
use Rattle.rw_machine.proofs.Invariant.{Inv, by_bool}
use Rattle.rw_machine.proofs.shared.Places.{get_some}
use Rattle.rw_machine.proofs.Closed.{finished_end, Shape}
use Rattle.rw_machine.proofs.Live.{Live, live_act, live_at}
use Rattle.rw_machine.proofs.Measure.{shards_work, drain_work, work, new_work}
use Rattle.rw_machine.proofs.Rounds.{Round, acts, single, place_round, send_round, exchange_round, shard_round, frozen_less, taken_less, flush_less}
use Rattle.rw_machine.specs.declared.event.Event.TheVariants as event
use Rattle.rw_wal_format.specs.Pieces.{entries, fault}
use Rattle.rw_machine.specs.Promises.{CanWork, HasOneClassEach, HoldsAll, HoldsNothingElse, IsSettled, SettleEnds}
use Rattle.rw_series_cache.specs.Fates.{kept_fate}
use Rattle.rw_machine.specs.Settling.{at_first, can_place, can_place_as, can_place_entry, can_place_known, exchange_at, first_of_these, made_at, next_events, room_at, settle_world, settle_events, settle_from, settle_if}
use Rattle.rw_machine.specs.Shards.{Shard, has_room, is_drained, pending_in_shard, samples_waiting, shard_freeze, shard_take}
use Rattle.rw_machine.specs.Steps.{close, flush_shard, happens, restart_as, run, shard_of_labels, unless_over}
use Rattle.rw_machine.specs.Worlds.{Setup, World, all_drained, ended_as, is_closed_at, is_finished, is_over, is_pending, log, new_shards, report, start, up_to}
use Rattle.rw_shard_core.specs.Endings.{Abandoned, Ending}
use Rattle.rw_machine.specs.declared.event.Event.{Event}
use Rattle.rw_shard_core.specs.Shard.{can_take, is_due, is_empty}
use Rattle.rw_series_cache.specs.Known.{Bad, Filtered, Kept, Standing, Unknown, known}
use Rattle.rw_series_cache.specs.Rising.{rises}
use Rattle.rw_series_cache.specs.Numbers.{number_of}
use Rattle.rw_types.specs.Labels.{Labels}
use Rattle.rw_types.specs.declared.entry.Entry.{Entry}
use Rattle.rw_types.specs.declared.entry.Entry.TheVariants.{Def, Sample}
use Rattle.rw_types.proofs.shared.Booleans.{either}

-- the first shard that passes
pub hit : (p : Shard → Bool) (ss : List Shard) → position_or_len p ss < length ss → (s : Shard) × (slice_get ss (position_or_len p ss) ≡ Some s) × (p s ≡ true)
hit p [] lt = absurd (omega arith)
hit p (x ∷ ss) lt = by_test (p x) refl lt (hit p ss)
  where
    by_test : (b : Bool) → p x ≡ b → cond (not b) (1 + position_or_len p ss) 0 < suc (length ss) → (position_or_len p ss < length ss → (s : Shard) × (slice_get ss (position_or_len p ss) ≡ Some s) × (p s ≡ true)) → (s : Shard) × (slice_get (x ∷ ss) (cond (not (p x)) (1 + position_or_len p ss) 0) ≡ Some s) × (p s ≡ true)
    by_test true e lt rest = (x, ap (λ (b : Bool). slice_get (x ∷ ss) (cond (not b) (1 + position_or_len p ss) 0)) e, e)
    by_test false e lt rest =
        let r = rest (let z : 1 + position_or_len p ss < suc (length ss) = lt in omega arith) in
        (r.0, ap (λ (b : Bool). slice_get (x ∷ ss) (cond (not b) (1 + position_or_len p ss) 0)) e ∙ ap (slice_get (x ∷ ss)) (let z : 1 + position_or_len p ss ≡ suc (position_or_len p ss) = omega arith in z) ∙ r.1, r.2)

-- or none passes
miss : (p : Shard → Bool) (ss : List Shard) → (position_or_len p ss < length ss → ⊥) → (i : ℕ) (s : Shard) → slice_get ss i ≡ Some s → p s ≡ false
miss p [] none i s e = let never : None ≡ Some s → ⊥ = λ h. cc in absurd (never e)
miss p (x ∷ ss) none i s e = by_test (p x) refl none i e (miss p ss)
  where
    by_test : (b : Bool) → p x ≡ b → (cond (not b) (1 + position_or_len p ss) 0 < suc (length ss) → ⊥) → (i : ℕ) → slice_get (x ∷ ss) i ≡ Some s → ((position_or_len p ss < length ss → ⊥) → (i : ℕ) (s : Shard) → slice_get ss i ≡ Some s → p s ≡ false) → p s ≡ false
    by_test true e none i at rest = absurd (none (let z : 0 < suc (length ss) = omega arith in z))
    by_test false e none zero at rest = let same : x ≡ s = cc in ap p (sym same) ∙ e
    by_test false e none (suc i) at rest = rest (λ lt. none (let z : 1 + position_or_len p ss < suc (length ss) = omega arith in z)) i s at

-- a fact of the first choice, or of the rest if no shard passes
by_first : (P : List Event → Type 0) (w : World) (p : Shard → Bool) (make : ℕ → List Event) (rest : List Event) → ((i : ℕ) (s : Shard) → slice_get w.shards i ≡ Some s → p s ≡ true → P (make i)) → (((i : ℕ) (s : Shard) → slice_get w.shards i ≡ Some s → p s ≡ false) → P rest) → P (first_of_these (at_first p make w) rest)
by_first P w p make rest some none = either (λ o. P (first_of_these (made_at make o) rest)) (nat_lt (position_or_len p w.shards) (length w.shards)) (Some (position_or_len p w.shards)) None
    (λ h. let at = hit p w.shards (ltb-true (position_or_len p w.shards) (length w.shards) h) in some (position_or_len p w.shards) at.0 at.1 at.2)
    (λ h. none (miss p w.shards (λ lt. absurd (true≢false (sym (lt-ltb (position_or_len p w.shards) (length w.shards) lt) ∙ h)))))

all_from : (p : Shard → Bool) (ss : List Shard) → ((i : ℕ) (s : Shard) → slice_get ss i ≡ Some s → p s ≡ true) → list_all p ss ≡ true
all_from p [] h = refl
all_from p (x ∷ ss) h = and_from (p x) (list_all p ss) (h zero x refl) (all_from p ss (λ i s e. h (suc i) s e))

and_false : (a b : Bool) → a ≡ true → (a && b) ≡ false → b ≡ false
and_false true b x h = h
and_false false b x h = absurd (true≢false (sym x))

and_false_left : (a b : Bool) → b ≡ true → (a && b) ≡ false → a ≡ false
and_false_left true b x h = absurd (true≢false (sym x ∙ h))
and_false_left false b x h = refl

or_false_left : (a b : Bool) → (a || b) ≡ false → a ≡ false
or_false_left true b h = absurd (true≢false h)
or_false_left false b h = refl

or_false_right : (a b : Bool) → (a || b) ≡ false → b ≡ false
or_false_right true b h = absurd (true≢false h)
or_false_right false b h = h

-- no step of `settle_world` can be made but a restart
module _ (c : Setup) (w : World) (can : CanWork c) (at : Live c w) (end : ℕ) (shut : w.closed ≡ Some end) (over : is_over w ≡ false)
    (no_place : can_place c w ≡ false)
    (no_open : (i : ℕ) (s : Shard) → slice_get w.shards i ≡ Some s → not (is_empty s.core.batch) ≡ false)
    (no_freeze : (i : ℕ) (s : Shard) → slice_get w.shards i ≡ Some s → (is_due s.core && not (is_empty s.core.builder)) ≡ false)
    (no_take : (i : ℕ) (s : Shard) → slice_get w.shards i ≡ Some s → (can_take s.core && not (is_empty s.queue)) ≡ false) where
  undue : (i : ℕ) (s : Shard) → slice_get w.shards i ≡ Some s → is_due s.core ≡ false
  undue i s e = by_bool (is_due s.core ≡ false) (is_due s.core) (λ h. absurd (due h)) (λ h. h)
    where
      due : is_due s.core ≡ true → ⊥
      due h = by_full (nat_le s.core.full (length s.core.builder)) refl h
        where
          no_builder : is_empty s.core.builder ≡ true
          no_builder = not-false (is_empty s.core.builder) (and_false (is_due s.core) (not (is_empty s.core.builder)) h (no_freeze i s e))

          by_full : (b : Bool) → nat_le s.core.full (length s.core.builder) ≡ b → (b || s.core.marked) ≡ true → ⊥
          by_full true z k = let le : s.core.full ≤ length s.core.builder = leb-true s.core.full (length s.core.builder) z in let is : s.core.full ≡ c.batch = (at.going i s e).full_is in let none : length s.core.builder ≡ 0 = ap length (nil_of s.core.builder no_builder) in let some : 1 ≤ c.batch = can.batch in omega arith
          by_full false z k = absurd (true≢false (sym no_builder ∙ (at.going i s e).held k))

  no_queue : (i : ℕ) (s : Shard) → slice_get w.shards i ≡ Some s → s.queue ≡ []
  no_queue i s e = nil_of s.queue (not-false (is_empty s.queue) (and_false (can_take s.core) (not (is_empty s.queue)) (and_from (not s.core.killed) (is_empty s.core.batch && not (is_due s.core)) (ap not (at.going i s e).alive) (and_from (is_empty s.core.batch) (not (is_due s.core)) (not-false (is_empty s.core.batch) (no_open i s e)) (ap not (undue i s e)))) (no_take i s e)))

  has_space : (i : ℕ) (s : Shard) → slice_get w.shards i ≡ Some s → has_room c.capacity s ≡ true
  has_space i s e = lt-ltb (length s.queue) c.capacity (let none : length s.queue ≡ 0 = ap length (no_queue i s e) in let some : 1 ≤ c.capacity = can.capacity in omega arith)

  -- what is left to place can be placed
  ending : (is_finished w || is_some w.draining) ≡ true
  ending = by_bool ((is_finished w || is_some w.draining) ≡ true) (is_finished w || is_some w.draining) (λ h. h) (λ h. absurd (stuck (or_false_left (is_finished w) (is_some w.draining) h) (or_false_right (is_finished w) (is_some w.draining) h)))
    where
      space : (l : Labels) → room_at c (slice_get w.shards (shard_of_labels w l)) ≡ true
      space l = by_some (get_some w.shards (shard_of_labels w l) (mod-lt (number_of w.series l) (let le : 1 ≤ length w.shards = at.wide in omega arith)))
        where
          by_some : (s : Shard) × (slice_get w.shards (shard_of_labels w l) ≡ Some s) → room_at c (slice_get w.shards (shard_of_labels w l)) ≡ true
          by_some h = ap (room_at c) h.1 ∙ has_space (shard_of_labels w l) h.0 h.1

      by_rising : (l : Labels) (b : Bool) → can_place_as c w (kept_fate b l) ≡ true
      by_rising l true = space l
      by_rising l false = refl

      by_known : (t : ℤ) (k : Standing) → can_place_known c w t k ≡ true
      by_known t Unknown = refl
      by_known t (Bad f) = refl
      by_known t Filtered = refl
      by_known t (Kept l) = by_rising l (rises c.choice (take w.placed (log w)) l t)

      by_entry : (e : Entry) → can_place_entry c w (Some e) ≡ true
      by_entry (Def r l) = refl
      by_entry (Sample r t word) = by_known t (known c.choice (take w.placed (log w)) r)

      stuck : is_finished w ≡ false → is_some w.draining ≡ false → ⊥
      stuck f d =
          let long : length (log w) ≡ end = at.ends.at_close end shut in
          let apart : w.placed ≡ end → ⊥ = λ h. absurd (true≢false (sym (ap (is_closed_at w.placed) shut ∙ (Decides-eqb w.placed end).1 h) ∙ f)) in
          let le : w.placed ≤ length (log w) = at.placed_in in
          let lt : w.placed < length (log w) = below (length (log w)) w.placed end long apart le in
          let next = get_some (log w) w.placed lt in
          absurd (true≢false (sym (and_from (not (is_some w.draining)) (can_place_entry c w (slice_get (log w) w.placed)) (ap not d) (ap (can_place_entry c w) next.1 ∙ by_entry next.0)) ∙ no_place))
        where
          below : (m n e : ℕ) → m ≡ e → (n ≡ e → ⊥) → n ≤ m → n < m
          below m n e h apart le = by_test (nat_lt n m) refl
            where
              by_test : (b : Bool) → nat_lt n m ≡ b → n < m
              by_test true z = ltb-true n m z
              by_test false z = absurd (apart (let never : n < m → ⊥ = λ lt. absurd (true≢false (sym (lt-ltb n m lt) ∙ z)) in omega arith))

  module _ (no_end : (i : ℕ) (s : Shard) → slice_get w.shards i ≡ Some s → (not s.end_put && has_room c.capacity s) ≡ false) where
    drained : (i : ℕ) (s : Shard) → slice_get w.shards i ≡ Some s → is_drained s ≡ true
    drained i s e = and_from s.core.ended (length s.core.resolved == length s.put) ended ((Decides-eqb (length s.core.resolved) (length s.put)).1 even)
      where
        put : s.end_put ≡ true
        put = not-false s.end_put (and_false_left (not s.end_put) (has_room c.capacity s) (has_space i s e) (no_end i s e))

        by_shape : (b : Bool) → Shape true b [] → b ≡ true
        by_shape true h = refl
        by_shape false h = absurd h

        ended : s.core.ended ≡ true
        ended = by_shape s.core.ended (subst (Shape true s.core.ended) (no_queue i s e) (subst (λ (b : Bool). Shape b s.core.ended s.queue) put ((at.ends.shapes i s e).0)))

        no_builder : s.core.builder ≡ []
        no_builder = nil_of s.core.builder (by_bool (is_empty s.core.builder ≡ true) (is_empty s.core.builder) (λ h. h) (λ h. absurd (true≢false (sym (or_right (nat_le s.core.full (length s.core.builder)) s.core.marked ((at.going i s e).closes ended h)) ∙ undue i s e))))

        nothing : pending_in_shard s ≡ []
        nothing = (λ j. (nil_of s.core.batch (not-false (is_empty s.core.batch) (no_open i s e)) j ++ no_builder j) ++ samples_waiting (no_queue i s e j))

        even : length s.core.resolved ≡ length s.put
        even = let count : length s.put ≡ length s.core.resolved + length (pending_in_shard s) = (at.going i s e).counted in let none : length (pending_in_shard s) ≡ 0 = ap length nothing in omega arith

    restart_round : Round w (restart_as c w w.draining)
    restart_round = by_draining w.draining refl draining
      where
        all : all_drained w ≡ true
        all = all_from is_drained w.shards drained

        unfinished : is_finished w ≡ false
        unfinished = and_false_left (is_finished w) (all_drained w) all (or_false_right w.killed (is_finished w && all_drained w) over)

        draining : is_some w.draining ≡ true
        draining = ap (λ (b : Bool). b || is_some w.draining) (sym unfinished) ∙ ending

        sum : (e s n b d : ℕ) → d ≡ 5 * n + 1 → e + 5 * n + 0 + b < e + s + d + b
        sum e s n b d h = omega arith

        by_draining : (o : Option ℕ) → w.draining ≡ o → is_some o ≡ true → Round w (restart_as c w o)
        by_draining None e h = absurd (true≢false (sym h))
        by_draining (Some n) e h = subst (Round w) (sym (cond-true (not (is_finished w) && all_drained w) (record w { epoch = suc w.epoch; shards = new_shards c (suc w.epoch) 0 n; draining = None }) w (and_from (not (is_finished w)) (all_drained w) (ap not unfinished) all))) (record {
          lower = subst (λ (m : ℕ). 5 * (length (log w) - w.placed) + m + 0 + 2 * w.head.busy < work w) (sym (new_work c (suc w.epoch) 0 n)) (sum (5 * (length (log w) - w.placed)) (shards_work w.shards) n (2 * w.head.busy) (drain_work w.draining) (ap drain_work e));
          same = record { killed = refl; pieces = refl; closed = refl };
        })

-- a round leaves less work
pub round : (c : Setup) (w : World) → CanWork c → Live c w → (end : ℕ) → w.closed ≡ Some end → is_over w ≡ false → Round w (run c (next_events c w) w)
round c w can at end shut over =
    let P : List Event → Type 0 = λ es. Round w (run c es w) in
    either P (can_place c w) (event.Place ∷ []) _ (λ h. single c w event.Place over (place_round c w h)) (λ no_place.
    by_first P w (λ s. not (is_empty s.core.batch)) (λ i. exchange_at w i (slice_get w.shards i)) _ (λ i s e h. open_round i s e (not-true (is_empty s.core.batch) h)) (λ no_open.
    by_first P w (λ s. is_due s.core && not (is_empty s.core.builder)) (λ i. event.Freeze i ∷ []) _ (λ i s e h. single c w (event.Freeze i) over (shard_round w i shard_freeze s e (frozen_less s (at.going i s e).alive (not-false (is_empty s.core.batch) (no_open i s e)) (not-true (is_empty s.core.builder) (and_parts (is_due s.core) (not (is_empty s.core.builder)) h).1)))) (λ no_freeze.
    by_first P w (λ s. can_take s.core && not (is_empty s.queue)) (λ i. event.Take i ∷ []) _ (λ i s e h. single c w (event.Take i) over (shard_round w i shard_take s e (taken_less s (and_parts (can_take s.core) (not (is_empty s.queue)) h).0 (not-true (is_empty s.queue) (and_parts (can_take s.core) (not (is_empty s.queue)) h).1)))) (λ no_take.
    subst P (ap (λ (o : Option (List Event)). first_of_these o (event.Restart ∷ [])) (sym (cond-true (is_finished w || is_some w.draining) (at_first (λ s. not s.end_put && has_room c.capacity s) (λ i. event.Flush i ∷ []) w) None (ending c w can at end shut over no_place no_open no_freeze no_take))))
    (by_first P w (λ s. not s.end_put && has_room c.capacity s) (λ i. event.Flush i ∷ []) (event.Restart ∷ []) (λ i s e h. single c w (event.Flush i) over (shard_round w i (flush_shard c w) s e (flush_less c w s (ending c w can at end shut over no_place no_open no_freeze no_take) (not-true s.end_put (and_parts (not s.end_put) (has_room c.capacity s) h).0) (and_parts (not s.end_put) (has_room c.capacity s) h).1))) (λ no_end.
    single c w event.Restart over (restart_round c w can at end shut over no_place no_open no_freeze no_take no_end)))))))
  where
    open_round : (i : ℕ) (s : Shard) → slice_get w.shards i ≡ Some s → is_empty s.core.batch ≡ false → Round w (run c (exchange_at w i (slice_get w.shards i)) w)
    open_round i s e full = subst (λ (o : Option Shard). Round w (run c (exchange_at w i o) w)) (sym e) (either (λ es. Round w (run c es w)) s.core.waiting _ (event.Send i ∷ []) (λ h. exchange_round c w i s e over (at.going i s e) full h) (λ h. single c w (event.Send i) over (send_round w i s e (at.going i s e).alive full h)))

pub run_append : (c : Setup) (xs ys : List Event) (w : World) → run c (xs ++ ys) w ≡ run c ys (run c xs w)
run_append c [] ys w = refl
run_append c (x ∷ xs) ys w = run_append c xs ys (happens c w x)

settle_from_runs : (c : Setup) (n : ℕ) (w : World) (b : Bool) → settle_if c n w b ≡ run c (settle_from c n w b) w
settle_from_runs c n w true = refl
settle_from_runs c zero w false = refl
settle_from_runs c (suc n) w false =
    let next : World = run c (next_events c w) w in
    settle_from_runs c n next (is_over next) ∙ sym (run_append c (next_events c w) (settle_from c n next (is_over next)) w)

pub settle_runs : (c : Setup) (n : ℕ) (w : World) → settle_world c n w ≡ run c (settle_events c n w) w
settle_runs c n w = settle_from_runs c n (happens c w event.Close) (is_over (happens c w event.Close))

live_run : (c : Setup) (events : List Event) (w : World) → Live c w → Live c (run c events w)
live_run c [] w at = at
live_run c (e ∷ es) w at = live_run c es (happens c w e) (unless (Live c) c w e (is_over w) at (live_act c w e at))

record Through (c : Setup) (w v : World) : Type 0 where
  over : is_over v ≡ true
  live : Live c v
  killed : v.killed ≡ w.killed
  pieces : v.pieces ≡ w.pieces

rounds : (c : Setup) (n : ℕ) (w : World) → CanWork c → Live c w → (is_over w ≡ false → (end : ℕ) × (w.closed ≡ Some end)) → work w ≤ n → Through c w (settle_if c n w (is_over w))
rounds c zero w can at shut le = by_over (is_over w) refl
  where
    by_over : (b : Bool) → is_over w ≡ b → Through c w (settle_if c zero w b)
    by_over true e = record { over = e; live = at; killed = refl; pieces = refl }
    by_over false e = let r = round c w can at (shut e).0 (shut e).1 e in let lt : work (run c (next_events c w) w) < work w = r.lower in absurd (omega arith)
rounds c (suc m) w can at shut le = by_over (rounds c m (run c (next_events c w) w) can (live_run c (next_events c w) w at)) (is_over w) refl
  where
    by_over : ((is_over (run c (next_events c w) w) ≡ false → (end : ℕ) × ((run c (next_events c w) w).closed ≡ Some end)) → work (run c (next_events c w) w) ≤ m → Through c (run c (next_events c w) w) (settle_if c m (run c (next_events c w) w) (is_over (run c (next_events c w) w)))) → (b : Bool) → is_over w ≡ b → Through c w (settle_if c (suc m) w b)
    by_over rest true e = record { over = e; live = at; killed = refl; pieces = refl }
    by_over rest false e =
        let r = round c w can at (shut e).0 (shut e).1 e in
        let lt : work (run c (next_events c w) w) < work w = r.lower in
        let t = rest (λ _. ((shut e).0, r.same.closed ∙ (shut e).1)) (omega arith) in
        record { over = t.over; live = t.live; killed = t.killed ∙ r.same.killed; pieces = t.pieces ∙ r.same.pieces }

-- event.Close changes nothing but its note
record Closes (w u : World) : Type 0 where
  killed : u.killed ≡ w.killed
  pieces : u.pieces ≡ w.pieces
  shut : is_over u ≡ false → (end : ℕ) × (u.closed ≡ Some end)

closes : (c : Setup) (w : World) → Closes w (happens c w event.Close)
closes c w = by_over (is_over w) refl
  where
    by_note : (o : Option ℕ) → w.closed ≡ o → is_some o ≡ true → (end : ℕ) × (w.closed ≡ Some end)
    by_note None e h = absurd (true≢false (sym h))
    by_note (Some end) e h = (end, e)

    noted : Closes w (close w)
    noted = either (Closes w) (is_some w.closed) w (record w { closed = Some (length (log w)) }) (λ h. record { killed = refl; pieces = refl; shut = λ _. by_note w.closed refl h }) (λ _. record { killed = refl; pieces = refl; shut = λ _. (length (log w), refl) })

    by_over : (b : Bool) → is_over w ≡ b → Closes w (happens c w event.Close)
    by_over true e = subst (Closes w) (sym (ap (unless_over c w event.Close) e)) (record { killed = refl; pieces = refl; shut = λ h. absurd (true≢false (sym e ∙ h)) })
    by_over false e = subst (Closes w) (sym (acts c w event.Close e)) noted

reported : (v : World) → is_over v ≡ true → (o : Ending) × (report v ≡ Some o)
reported v over = by_killed v.killed refl over
  where
    by_killed : (b : Bool) → v.killed ≡ b → (b || (is_finished v && all_drained v)) ≡ true → (o : Ending) × (report v ≡ Some o)
    by_killed true e h = (Abandoned v.placed (filter (is_pending v) (up_to v.placed)), cond-true v.killed (Some (Abandoned v.placed (filter (is_pending v) (up_to v.placed)))) _ e)
    by_killed false e h = (ended_as (fault v.pieces) v.placed, cond-false v.killed (Some (Abandoned v.placed (filter (is_pending v) (up_to v.placed)))) (cond (is_finished v && all_drained v) (Some (ended_as (fault v.pieces) v.placed)) None) e ∙ cond-true (is_finished v && all_drained v) (Some (ended_as (fault v.pieces) v.placed)) None h)

report_ended : (v : World) → v.killed ≡ false → (is_finished v && all_drained v) ≡ true → report v ≡ Some (ended_as (fault v.pieces) v.placed)
report_ended v e h = cond-false v.killed (Some (Abandoned v.placed (filter (is_pending v) (up_to v.placed)))) (cond (is_finished v && all_drained v) (Some (ended_as (fault v.pieces) v.placed)) None) e ∙ cond-true (is_finished v && all_drained v) (Some (ended_as (fault v.pieces) v.placed)) None h

-- once there is a report, more rounds add no event
pub settle_from_more : (c : Setup) (n k : ℕ) (w : World) → is_over (settle_if c n w (is_over w)) ≡ true → settle_from c (k + n) w (is_over w) ≡ settle_from c n w (is_over w)
settle_from_more c zero k w done = by_over (is_over w) refl done
  where
    by_over : (b : Bool) → is_over w ≡ b → is_over (settle_if c zero w b) ≡ true → settle_from c (k + zero) w b ≡ settle_from c zero w b
    by_over true e h = refl
    by_over false e h = absurd (true≢false (sym h ∙ e))
settle_from_more c (suc n) k w done = by_over (settle_from_more c n k (run c (next_events c w) w)) (is_over w) done
  where
    by_over : (is_over (settle_if c n (run c (next_events c w) w) (is_over (run c (next_events c w) w))) ≡ true → settle_from c (k + n) (run c (next_events c w) w) (is_over (run c (next_events c w) w)) ≡ settle_from c n (run c (next_events c w) w) (is_over (run c (next_events c w) w))) → (b : Bool) → is_over (settle_if c (suc n) w b) ≡ true → settle_from c (k + suc n) w b ≡ settle_from c (suc n) w b
    by_over rest true h = refl
    by_over rest false h = ap (λ (m : ℕ). settle_from c m w false) (let z : k + suc n ≡ suc (k + n) = omega arith in z) ∙ ap (λ es. next_events c w ++ es) (rest h)

pub settle_ends : (c : Setup) (events : List Event) → CanWork c → SettleEnds c (run c events (start c))
settle_ends c events can = (work u, λ n le. (settled n (rounds c n u can live (closes c w).shut le), same n le))
  where
    w : World
    w = run c events (start c)

    u : World
    u = happens c w event.Close

    live : Live c u
    live = unless (Live c) c w event.Close (is_over w) (live_at c can.shards events) (live_act c w event.Close (live_at c can.shards events))

    same : (n : ℕ) → work u ≤ n → settle_events c n w ≡ settle_events c (work u) w
    same n le = ap (λ (m : ℕ). settle_events c m w) (let z : n ≡ (n - work u) + work u = omega arith in z) ∙ ap (λ es. event.Close ∷ es) (settle_from_more c (work u) (n - work u) u (rounds c (work u) u can live (closes c w).shut (omega arith)).over)

    settled : (n : ℕ) → Through c u (settle_if c n u (is_over u)) → IsSettled c w (settle_world c n w)
    settled n t = record {
      reports = reported v t.over;
      same_log = log_is;
      ending = λ alive. report_ended v (killed_is alive) (end_is alive) ∙ (λ i. Some (ended_as (fault (pieces_are i)) (place_is alive i)));
      holds = λ alive l. subst (λ (m : ℕ). HoldsAll c v m l) (place_is alive) (all_there (and_parts (is_finished v) (all_drained v) (end_is alive)).1 l);
    }
      where
        v : World
        v = settle_world c n w

        pieces_are : v.pieces ≡ w.pieces
        pieces_are = t.pieces ∙ (closes c w).pieces

        log_is : log v ≡ log w
        log_is = ap (λ ps. entries ps) pieces_are

        killed_is : w.killed ≡ false → v.killed ≡ false
        killed_is alive = t.killed ∙ (closes c w).killed ∙ alive

        end_is : w.killed ≡ false → (is_finished v && all_drained v) ≡ true
        end_is alive = ap (λ (b : Bool). b || (is_finished v && all_drained v)) (sym (killed_is alive)) ∙ t.over

        place_is : w.killed ≡ false → v.placed ≡ length (log w)
        place_is alive = sym (finished_end v t.live.ends (and_parts (is_finished v) (all_drained v) (end_is alive)).0) ∙ ap length log_is

        later : List Event
        later = events ++ settle_events c n w

        whole : run c later (start c) ≡ v
        whole = run_append c events (settle_events c n w) (start c) ∙ sym (settle_runs c n w)

        all_there : all_drained v ≡ true → (l : Labels) → HoldsAll c v v.placed l
        all_there all l = all_of_it c v (subst (Inv c) whole (holds_at_end c later)) (subst (HasOneClassEach c) whole (classes c later)) (subst (HoldsNothingElse c) whole (others c later)) all l
