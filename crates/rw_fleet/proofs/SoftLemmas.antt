-- The last item of a queue, and what it says of the worker.
use Rattle.std.proofs.Common.{◌≡◌, ◌⊎◌, inl, inr, ℕ, zero, suc, ◌+◌, ◌<◌, below_more, Bool, true, false, List, [], ◌∷◌, ◌++◌, length, map, Option, Some, None, refl, sym, ap, ◌∙◌, subst, drop, length-drop, arith, eq-eqb}
use Rattle.std.specs.Prelude.{slice_get, ◌==◌, ◌&&◌, IsSome}
use Rattle.std.proofs.lemmas.List.{map-append}
use Rattle.rw_plain_queue.specs.Items.{samples_in, is_end}
use Rattle.rw_plain_queue.specs.declared.item.Item.{Item}
use Rattle.rw_plain_queue.specs.declared.item.Item.TheVariants as item
use Rattle.rw_plain_queue.specs.declared.item.Kind.{Kind}
use Rattle.rw_plain_queue.specs.declared.item.Kind.TheVariants.{Orderly, Reshard, Hard}
use Rattle.rw_worker.specs.Report.{is_hard, drain_of, IsOrderly, StopsAtHard, IsReport}
use Rattle.rw_worker.specs.Setups.{WorkerSetup}
use Rattle.rw_worker.specs.Steps.{Step, Takes, Freezes, Sends, Waits, items_of}
use Rattle.rw_worker.specs.Transcript.{Exchange}
use Rattle.rw_worker.specs.declared.report.TakingEnd.{TakingEnd}
use Rattle.rw_worker.specs.declared.report.TakingEnd.TheVariants as taking
use Rattle.rw_worker.specs.declared.report.WorkerReport.{WorkerReport}
use Rattle.rw_fleet.specs.declared.ends.Ends.{Ends}
use Rattle.rw_fleet.specs.declared.ends.Ends.TheVariants.{Compared, Apart}
use Rattle.rw_fleet.specs.declared.joined.StoppedShard.{StoppedShard}
use Rattle.rw_fleet.specs.ShardHistories.{ShardHistory, put_into}
use Rattle.rw_fleet.specs.Work.{put_of, taken_of, positions_in, lane_of, is_compared, is_resolved, put_by, finished_of, IsSoft, IsEndedBy, AreEndedBy, IsWorked, AreWorked, HasCut}
use Rattle.rw_fleet.specs.inner.Work.{AreSoft, IsUnended, IsEndTaken, HasUnresolved}

abbrev last_of : Item → List Item → Item
last_of x [] = x
last_of x (y ∷ ys) = last_of y ys

last_snoc : (d : Item) (xs : List Item) (x : Item) → last_of d (xs ++ x ∷ []) ≡ x
last_snoc d [] x = refl
last_snoc d (y ∷ ys) x = last_snoc y ys x

same_last : (xs ys : List Item) (x y : Item) → xs ++ x ∷ [] ≡ ys ++ y ∷ [] → x ≡ y
same_last xs ys x y e = sym (last_snoc x xs x) ∙ ap (last_of x) e ∙ last_snoc x ys y

no_last : (xs : List Item) (x : Item) → [] ≡ xs ++ x ∷ [] → ⊥
no_last [] x e = cc
no_last (y ∷ ys) x e = cc

pub unended_nil : (xs : List Item) → xs ≡ [] → IsUnended xs
unended_nil xs is = λ kind before e. no_last before (item.End kind) (sym is ∙ e)

pub unended_push : (xs zs : List Item) (x : Item) → zs ≡ xs ++ x ∷ [] → is_end x ≡ false → IsUnended zs
unended_push xs zs x is bare = λ kind before e.
    let last : x ≡ item.End kind = same_last xs before x (item.End kind) (sym is ∙ e) in
    let end : true ≡ false = subst (λ y. is_end y ≡ false) last bare in
    absurd (cc)

pub unended_same : (xs zs : List Item) → zs ≡ xs → IsUnended xs → IsUnended zs
unended_same xs zs is bare = subst IsUnended (sym is) bare

kind_is : (a b : Kind) → item.End a ≡ item.End b → a ≡ b
kind_is a b e = cc

-- an End was put
pub ended_push : (kind : Kind) (xs zs : List Item) → zs ≡ xs ++ item.End kind ∷ [] → IsEndedBy kind zs
ended_push kind xs zs is = λ other before e. sym (kind_is kind other (same_last xs before (item.End kind) (item.End other) (sym is ∙ e)))

-- none could be put
pub ended_none : (kind : Kind) (xs zs : List Item) → zs ≡ xs → IsUnended xs → IsEndedBy kind zs
ended_none kind xs zs is bare = λ other before e. absurd (bare other before (sym is ∙ e))

ended_append : (kind : Kind) (xs ys : List (List Item)) → AreEndedBy kind xs → AreEndedBy kind ys → AreEndedBy kind (xs ++ ys)
ended_append kind [] ys h a = a
ended_append kind (x ∷ xs) ys h a = (h.0, ended_append kind xs ys h.1 a)

pub ended_more : (kind : Kind) (ls after : List ShardHistory) (l : ShardHistory) → after ≡ ls ++ l ∷ [] → AreEndedBy kind (map put_into ls) → IsEndedBy kind l.put → AreEndedBy kind (map put_into after)
ended_more kind ls after l is h a = subst (AreEndedBy kind) (sym (ap (map put_into) is ∙ map-append put_into ls (l ∷ []))) (ended_append kind (map put_into ls) (l.put ∷ []) h (a, tt))

pub ended_nil : (kind : Kind) (ls : List ShardHistory) → ls ≡ [] → AreEndedBy kind (map put_into ls)
ended_nil kind ls is = subst (λ l. AreEndedBy kind (map put_into l)) (sym is) tt

ended_soft : (kind : Kind) (put : List Item) → is_hard kind ≡ false → IsEndedBy kind put → IsSoft put
ended_soft kind put soft h = λ before e. let hard : true ≡ false = ap is_hard (h Hard before e) ∙ soft in absurd (cc)

-- an End that is not hard asks for all
pub soft_all : (kind : Kind) (ls : List ShardHistory) → is_hard kind ≡ false → AreEndedBy kind (map put_into ls) → AreSoft ls
soft_all kind [] soft h = tt
soft_all kind (l ∷ ls) soft h = (ended_soft kind l.put soft h.0, soft_all kind ls soft h.1)

pub soft_append : (ls ms : List ShardHistory) → AreSoft ls → AreSoft ms → AreSoft (ls ++ ms)
soft_append [] ms h a = a
soft_append (x ∷ xs) ms h a = (h.0, soft_append xs ms h.1 a)

pub soft_none : (ls : List ShardHistory) → ls ≡ [] → AreSoft ls
soft_none ls is = subst AreSoft (sym is) tt

items_snoc : (ss : List Step) (x : Item) → items_of (ss ++ Takes x ∷ []) ≡ items_of ss ++ x ∷ []
items_snoc [] x = refl
items_snoc (Takes y ∷ ss) x = ap (λ l. y ∷ l) (items_snoc ss x)
items_snoc (Freezes ∷ ss) x = items_snoc ss x
items_snoc (Sends e ∷ ss) x = items_snoc ss x
items_snoc (Waits ∷ ss) x = items_snoc ss x

-- an End that was taken, and is not hard, asks for all
orderly_of : (e : TakingEnd) (steps : List Step) (put : List Item) → IsEndTaken e → StopsAtHard e steps → items_of steps ≡ put → IsSoft put → IsOrderly e
orderly_of (taking.Ended Orderly d) steps put ended hard items soft = tt
orderly_of (taking.Ended Reshard d) steps put ended hard items soft = tt
orderly_of (taking.Ended Hard d) steps put ended hard items soft = absurd (soft (items_of hard.0) (sym items ∙ ap items_of hard.1 ∙ items_snoc hard.0 (item.End Hard)))
orderly_of (taking.Killed d) steps put ended hard items soft = absurd ended

positions_samples : (xs : List Item) → length (positions_in xs) ≡ length (samples_in xs)
positions_samples [] = refl
positions_samples (item.Sample p t w l ∷ xs) = ap suc (positions_samples xs)
positions_samples (item.Flush ∷ xs) = positions_samples xs
positions_samples (item.End kind ∷ xs) = positions_samples xs

cut_cases : {A B : Type 0} (compared : Bool) (stopped : Option B) (resolved : Bool) → (compared ≡ false → A) → (compared ≡ true → stopped ≡ None → resolved ≡ true) → resolved ≡ false → A ⊎ IsSome stopped
cut_cases false stopped resolved apart h e = inl (apart refl)
cut_cases true (Some flag) resolved apart h e = inr refl
cut_cases true None resolved apart h e = let all : resolved ≡ true = h refl refl in absurd (cc)

module _ {T : Type 0} where
  pub soft_closed : (was now more : List (StoppedShard T)) (ending : List ShardHistory) → AreSoft (map lane_of was) → AreSoft ending → now ≡ was ++ more → map lane_of more ≡ ending → AreSoft (map lane_of now)
  soft_closed was now more ending a b is lanes =
      subst AreSoft (sym (ap (map lane_of) is ∙ map-append lane_of was more)) (soft_append (map lane_of was) (map lane_of more) a (subst AreSoft (sym lanes) b))

  ended_lanes : (js : List (StoppedShard T)) → map put_by (map finished_of js) ≡ map put_into (map lane_of js)
  ended_lanes [] = refl
  ended_lanes (j ∷ js) = ap (λ l. put_of j.finished.ends ∷ l) (ended_lanes js)

  -- the shards after those that had ended got this End
  pub ended_closed : (kind : Kind) (was now more : List (StoppedShard T)) (ending : List ShardHistory) → now ≡ was ++ more → map lane_of more ≡ ending → AreEndedBy kind (map put_into ending) → AreEndedBy kind (drop (length was) (map put_by (map finished_of now)))
  ended_closed kind was now more ending is lanes h = subst (λ js. AreEndedBy kind (drop (length was) (map put_by (map finished_of js)))) (sym is) (go was)
    where
      go : (js : List (StoppedShard T)) → AreEndedBy kind (drop (length js) (map put_by (map finished_of (js ++ more))))
      go [] = subst (AreEndedBy kind) (sym (ended_lanes more ∙ ap (map put_into) lanes)) h
      go (x ∷ xs) = go xs

  joined_is : (a b : StoppedShard T) → Some a ≡ Some b → a ≡ b
  joined_is a b e = cc

  pub resolved_more : (js : List (StoppedShard T)) (n : ℕ) (x : StoppedShard T) → slice_get js n ≡ Some x → is_resolved x ≡ true → ((k : ℕ) → k < n → (j : StoppedShard T) → slice_get js k ≡ Some j → is_resolved j ≡ true)
      → (k : ℕ) → k < n + 1 → (j : StoppedShard T) → slice_get js k ≡ Some j → is_resolved j ≡ true
  resolved_more js n x here is all =
      below_more (λ k. (j : StoppedShard T) → slice_get js k ≡ Some j → is_resolved j ≡ true) n all (λ j at. subst (λ (y : StoppedShard T). is_resolved y ≡ true) (joined_is x j (sym here ∙ at)) is)

  soft_at : (js : List (StoppedShard T)) (k : ℕ) (j : StoppedShard T) → AreSoft (map lane_of js) → slice_get js k ≡ Some j → IsSoft (put_of j.finished.ends)
  soft_at [] k j h at = absurd (let at' : None ≡ Some j = at in cc)
  soft_at (x ∷ xs) zero j h at = subst (λ (y : StoppedShard T). IsSoft (put_of y.finished.ends)) (joined_is x j at) h.0
  soft_at (x ∷ xs) (suc k) j h at = soft_at xs k j h.1 at

module _ {T : Type 0} (tells : T → Type 0) (seen : T → List Exchange) (is_for : ℕ → ℕ → T → Type 0) where
  -- a worker that took the End, which was not hard, and did not stop, has resolved all
  pub report_done : (setup : WorkerSetup) (begun : T) (r : WorkerReport T) (ends : Ends) (left : List ℕ) → IsReport tells seen setup begun r → taken_of ends ≡ (drain_of r.end).taken → (is_compared ends ≡ true → IsEndTaken r.end)
      → left ≡ drop r.resolved (positions_in (put_of ends)) → is_compared ends ≡ true → r.stopped ≡ None → IsSoft (put_of ends) → (is_compared ends && (length left == 0)) ≡ true
  report_done setup begun r (Apart f e) left h taken ended is compared live soft = absurd (cc)
  report_done setup begun r (Compared w) left h taken ended is compared live soft =
      let orderly = orderly_of r.end h.steps w.items (ended refl) h.hard (h.made.items ∙ sym taken) soft in
      let whole = h.whole live orderly in
      let count : r.resolved ≡ length (positions_in w.items) = h.counted ∙ ap length whole ∙ ap (λ xs. length (samples_in xs)) (sym taken) ∙ sym (positions_samples w.items) in
      let len = ap length is ∙ length-drop r.resolved (positions_in w.items) in
      let none : length left ≡ 0 = omega arith in
      eq-eqb (length left) 0 none

  worked_at : (js : List (StoppedShard T)) (k : ℕ) (j : StoppedShard T) → AreWorked tells seen is_for js → slice_get js k ≡ Some j → IsWorked tells seen is_for j
  worked_at [] k j h at = absurd (let at' : None ≡ Some j = at in cc)
  worked_at (x ∷ xs) zero j h at = subst (IsWorked tells seen is_for) (joined_is x j at) h.0
  worked_at (x ∷ xs) (suc k) j h at = worked_at xs k j h.1 at

  -- a shard that is not resolved was cut
  pub has_cut : (js : List (StoppedShard T)) → AreWorked tells seen is_for js → AreSoft (map lane_of js) → HasUnresolved js → HasCut js
  has_cut js worked soft u =
      let w = worked_at js u.0 u.1 worked u.2 in
      (u.0, u.1, u.2, cut_cases (is_compared u.1.finished.ends) u.1.finished.stopped (is_resolved u.1) w.apart (λ compared live. w.done compared live (soft_at js u.0 u.1 soft u.2)) u.3)
