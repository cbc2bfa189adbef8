-- How many shards each epoch has, while their number changes.
use Rattle.std.proofs.Common.{◌≡◌, ◌≢◌, ◌⊎◌, inl, inr, ℕ, suc, ◌+◌, ◌-◌, ◌≤◌, ◌<◌, Bool, true, false, List, [], ◌∷◌, ◌++◌, length, map, Some, Result, Ok, Err, cond, refl, sym, ap, ◌∙◌, subst, length-append, arith}
use Rattle.std.specs.Prelude.{◌==◌, ◌*◌, max, nat_lt, if◌then◌else◌, filter, slice_get, OnOk, is_err}
use Rattle.std.specs.Int.{div_ceil, abs_diff}
use Rattle.std.proofs.Math.Nat.{eq-or-lt_of_le, le-max_left, le-min, min-le_right}
use Rattle.std.proofs.lemmas.Bool.{eq-eqb, eqb-true, false_from_ne_true}
use Rattle.std.proofs.lemmas.List.{map-append}
use Rattle.std.proofs.lemmas.List.Elements.{filter-append}
use Rattle.rw_reshard.specs.Wanted.{desired, if_far, wanted, within}
use Rattle.rw_fleet.specs.Fleets.{Shards, AreAll}
use Rattle.rw_fleet.specs.ShardHistories.{ShardHistory, AreFresh, AreSame}
use Rattle.rw_fleet.specs.Work.{AreResolved, lane_of}
use Rattle.rw_fleet.specs.declared.load.Load.{Load}
use Rattle.rw_sender.specs.Feeders.{Sorting}
use Rattle.rw_sender.specs.Shipping.{Shipping, HasCompared, PlacesAll}
use Rattle.rw_sender.specs.declared.shipper.FeedFault.{FeedFault}
use Rattle.rw_send.proofs.StepLemmas.{between}
use Rattle.rw_send.specs.EpochSizes.{shards_in, IsEpochSize, HasEpochSizes}
use Rattle.rw_send.specs.inner.EpochSizes.{KeepsEpochSizes}
use Rattle.rw_send.specs.Steps.{IsNextEpoch, IsSet, StaysOpen, wanted_since, wanted_under}

-- ---- how many shards an epoch had

abbrev is_of : ℕ → ShardHistory → Bool
is_of epoch l = l.setup.queue.epoch == epoch

one_or_none : (b : Bool) (x : ShardHistory) → length (cond b (x ∷ []) []) ≡ cond b 1 0
one_or_none true x = refl
one_or_none false x = refl

in_first : (epoch : ℕ) (l : ShardHistory) (ls : List ShardHistory) → shards_in epoch (l ∷ ls) ≡ cond (is_of epoch l) 1 0 + shards_in epoch ls
in_first epoch l ls =
    ap length (filter-append (is_of epoch) (l ∷ []) ls) ∙ length-append (filter (is_of epoch) (l ∷ [])) (filter (is_of epoch) ls)
    ∙ ap (λ n. n + shards_in epoch ls) (one_or_none (is_of epoch l) l)

in_both : (epoch : ℕ) (xs ys : List ShardHistory) → shards_in epoch (xs ++ ys) ≡ shards_in epoch xs + shards_in epoch ys
in_both epoch xs ys = ap length (filter-append (is_of epoch) xs ys) ∙ length-append (filter (is_of epoch) xs) (filter (is_of epoch) ys)

in_same : (epoch : ℕ) (ps qs : List ShardHistory) → AreSame ps qs → shards_in epoch qs ≡ shards_in epoch ps
in_same epoch [] [] h = refl
in_same epoch [] (q ∷ qs) h = absurd h
in_same epoch (p ∷ ps) [] h = absurd h
in_same epoch (p ∷ ps) (q ∷ qs) h =
    in_first epoch q qs ∙ (λ i. cond ((h.0 i).queue.epoch == epoch) 1 0 + in_same epoch ps qs h.2 i) ∙ sym (in_first epoch p ps)

-- these shards are of one epoch
abbrev pub AreOf : ℕ → List ShardHistory → Type 0
AreOf epoch lanes = (k : ℕ) (l : ShardHistory) → slice_get lanes k ≡ Some l → l.setup.queue.epoch ≡ epoch

in_its_own : (epoch : ℕ) (lanes : List ShardHistory) → AreOf epoch lanes → shards_in epoch lanes ≡ length lanes
in_its_own epoch [] h = refl
in_its_own epoch (l ∷ ls) h =
    let later = in_its_own epoch ls (λ k m at. h (suc k) m at) in
    let first = in_first epoch l ls ∙ ap (λ b. cond b 1 0 + shards_in epoch ls) (eq-eqb l.setup.queue.epoch epoch (h 0 l refl)) in
    omega (arith, first, later)

in_another : (epoch own : ℕ) (lanes : List ShardHistory) → AreOf own lanes → own ≢ epoch → shards_in epoch lanes ≡ 0
in_another epoch own [] h other = refl
in_another epoch own (l ∷ ls) h other =
    let later = in_another epoch own ls (λ k m at. h (suc k) m at) other in
    let no = false_from_ne_true (is_of epoch l) (λ yes. other (sym (h 0 l refl) ∙ eqb-true l.setup.queue.epoch epoch yes)) in
    let first = in_first epoch l ls ∙ ap (λ b. cond b 1 0 + shards_in epoch ls) no in
    omega (arith, first, later)

-- ---- the number of shards changes

plus_one : (n : ℕ) → n + 1 ≡ suc n
plus_one n = omega arith

module _ {T : Type 0} where
  -- those that had ended, and those that end now
  in_ended : (epoch : ℕ) (old new : Shards T) → AreAll old new.ended → shards_in epoch (map lane_of new.ended) ≡ shards_in epoch (map lane_of old.ended) + shards_in epoch old.current
  in_ended epoch old new (more, is, same) =
      ap (λ js. shards_in epoch (map lane_of js)) is ∙ ap (shards_in epoch) (map-append lane_of old.ended more)
      ∙ in_both epoch (map lane_of old.ended) (map lane_of more) ∙ ap (λ n. shards_in epoch (map lane_of old.ended) + n) (in_same epoch old.current (map lane_of more) same)

  ended_so : (first fewest most epoch : ℕ) (old new : Shards T) → HasEpochSizes first fewest most old → AreOf old.epoch old.current → AreAll old new.ended
      → (epoch ≡ old.epoch) ⊎ (epoch < old.epoch) → IsEpochSize first fewest most epoch (shards_in epoch (map lane_of new.ended))
  ended_so first fewest most epoch old new h at all (inr before) =
      let none = in_another epoch old.epoch old.current at (λ e. let no : ⊥ = omega (arith, e, before) in no) in
      let sum = in_ended epoch old new all in
      let is : shards_in epoch (map lane_of old.ended) ≡ shards_in epoch (map lane_of new.ended) = omega (arith, none, sum) in
      subst (IsEpochSize first fewest most epoch) is (h.ended epoch before)
  ended_so first fewest most epoch old new h at all (inl e) =
      let here = in_its_own epoch old.current (subst (λ n. AreOf n old.current) (sym e) at) in
      let none = h.later epoch (omega (arith, e)) in
      let sum = in_ended epoch old new all in
      let is : length old.current ≡ shards_in epoch (map lane_of new.ended) = omega (arith, here, none, sum) in
      subst (IsEpochSize first fewest most epoch) is (subst (λ n. IsEpochSize first fewest most n (length old.current)) (sym e) h.current)

  pub sizes_next : (first fewest most : ℕ) (old new : Shards T) → HasEpochSizes first fewest most old → AreOf old.epoch old.current → IsNextEpoch old new → fewest ≤ length new.current → length new.current ≤ most
      → HasEpochSizes first fewest most new
  sizes_next first fewest most old new h at next least greatest = record {
    ended = λ epoch before. ended_so first fewest most epoch old new h at next.compared.0 (eq-or-lt_of_le (let e = next.epoch in omega (arith, before, e)));
    current = subst (λ n. IsEpochSize first fewest most n (length new.current)) (sym (next.epoch ∙ plus_one old.epoch)) (least, greatest);
    later = λ epoch after.
        let far : old.epoch + 1 ≤ epoch = (let e = next.epoch in omega (arith, after, e)) in
        let none = in_another epoch old.epoch old.current at (λ e. let no : ⊥ = omega (arith, e, far) in no) in
        let gone = h.later epoch (omega (arith, far)) in
        let sum = in_ended epoch old new next.compared.0 in
        omega (arith, none, gone, sum);
  }

  -- the shards of an epoch go on
  pub sizes_stay : (fewest most : ℕ) (old new : Shards T) → new ≡ record old { current = new.current } → length new.current ≡ length old.current → KeepsEpochSizes fewest most old new
  sizes_stay fewest most old new rest len = λ first h.
      let epoch : new.epoch ≡ old.epoch = ap (λ (s : Shards T). s.epoch) rest in
      let ended : new.ended ≡ old.ended = ap (λ (s : Shards T). s.ended) rest in
      record {
        ended = λ e before. subst (λ js. IsEpochSize first fewest most e (shards_in e (map lane_of js))) (sym ended) (h.ended e (omega (arith, epoch, before)));
        current = subst (λ n. IsEpochSize first fewest most n (length new.current)) (sym epoch) (subst (IsEpochSize first fewest most old.epoch) (sym len) h.current);
        later = λ e after. subst (λ js. shards_in e (map lane_of js) ≡ 0) (sym ended) (h.later e (omega (arith, epoch, after)));
      }

  pub sizes_same : (fewest most : ℕ) (old new : Shards T) → new ≡ old → KeepsEpochSizes fewest most old new
  sizes_same fewest most old new same = λ first h. subst (HasEpochSizes first fewest most) (sym same) h

  -- before anything has ended
  pub sizes_at_first : (first fewest most : ℕ) (s : Shards T) → s.epoch ≡ 0 → s.ended ≡ [] → length s.current ≡ first → HasEpochSizes first fewest most s
  sizes_at_first first fewest most s epoch none len = record {
    ended = λ e before. (let no : ⊥ = omega (arith, epoch, before) in absurd no);
    current = subst (λ n. IsEpochSize first fewest most n (length s.current)) (sym epoch) len;
    later = λ e after. ap (λ js. shards_in e (map lane_of js)) none;
  }

-- ---- the number that is wanted

within_bounds : (fewest most n : ℕ) → fewest ≤ most → (fewest ≤ within fewest most n) × (within fewest most n ≤ most)
within_bounds fewest most n range = (le-min (le-max_left fewest n) range, min-le_right (max fewest n) most)

abbrev pub HasBounds : (fewest most : ℕ) → ℕ → Type 0
HasBounds fewest most n = (fewest ≤ n) × (n ≤ most)

chosen : (P : ℕ → Type 0) (b : Bool) (m n : ℕ) → P m → P n → P (if b then m else n)
chosen P true m n one other = one
chosen P false m n one other = other

pub wanted_bounds : (n placed resolved backlog fewest most : ℕ) → fewest ≤ most → HasBounds fewest most (wanted n placed resolved backlog fewest most)
wanted_bounds n placed resolved backlog fewest most range =
    let now = within fewest most n in
    let next = desired now placed resolved backlog fewest most in
    let has = within_bounds fewest most n range in
    let will = within_bounds fewest most (div_ceil (now * (placed + backlog)) resolved) range in
    chosen (HasBounds fewest most) (resolved == 0) now (if_far now next) has (chosen (HasBounds fewest most) (nat_lt (3 * now) (10 * abs_diff next now)) next now will has)

module _ {T : Type 0} where
  of_placed : (log : Sorting) (s : Shards T) → PlacesAll log s → AreOf s.epoch s.current
  of_placed log s placed = λ k l at. (placed.dealt.each k l at).0

  sizes_wanted : (fewest most n : ℕ) (log : Sorting) (old new : Shards T) → PlacesAll log old → (new ≡ old) ⊎ IsNextEpoch old new → length new.current ≡ n → HasBounds fewest most n → KeepsEpochSizes fewest most old new
  sizes_wanted fewest most n log old new placed (inl same) len bounds = sizes_same fewest most old new same
  sizes_wanted fewest most n log old new placed (inr next) len bounds = λ first h.
      sizes_next first fewest most old new h (of_placed log old placed) next (omega (arith, len, bounds.0)) (omega (arith, len, bounds.1))

  fleets : (old new : Shipping T) → (new ≡ old) ⊎ IsNextEpoch old.fleet new.fleet → (new.fleet ≡ old.fleet) ⊎ IsNextEpoch old.fleet new.fleet
  fleets old new (inl same) = inl (ap (λ (s : Shipping T). s.fleet) same)
  fleets old new (inr next) = inr next

  -- the number of shards was set between two segments
  pub sizes_set : (fewest most : ℕ) (old new : Shipping T) → fewest ≤ most → PlacesAll old.log old.fleet → IsSet fewest most old new → KeepsEpochSizes fewest most old.fleet new.fleet
  sizes_set fewest most old new range placed set =
      sizes_wanted fewest most (wanted_under fewest most (length old.fleet.current) set.load) old.log old.fleet new.fleet placed (fleets old new set.epoch) set.shards
      (wanted_bounds (length old.fleet.current) set.load.placed set.load.resolved set.load.backlog fewest most range)

  -- or because the clock asked for it
  pub sizes_tuned : (fewest most n placed resolved : ℕ) (load : Load) (old new : Shipping T) → fewest ≤ most → PlacesAll old.log old.fleet → (new ≡ old) ⊎ IsNextEpoch old.fleet new.fleet
      → length new.fleet.current ≡ wanted_since fewest most n placed resolved load → KeepsEpochSizes fewest most old.fleet new.fleet
  sizes_tuned fewest most n placed resolved load old new range put next len =
      sizes_wanted fewest most (wanted_since fewest most n placed resolved load) old.log old.fleet new.fleet put (fleets old new next) len
      (wanted_bounds n (load.placed - placed) (load.resolved - resolved) load.backlog fewest most range)

  -- and then a segment was begun
  pub sizes_begun : (fewest most : ℕ) (old now new : Shipping T) → KeepsEpochSizes fewest most old.fleet now.fleet → StaysOpen now new → KeepsEpochSizes fewest most old.fleet new.fleet
  sizes_begun fewest most old now new kept stays = λ first h. sizes_stay fewest most now.fleet new.fleet stays.fleet stays.shards first (kept first h)

  -- one after the other, of which the second knows the bounds by another name
  pub sizes_on : (fewest most least greatest : ℕ) (old now new : Shards T) → (least ≡ fewest) × (greatest ≡ most) → KeepsEpochSizes fewest most old now → KeepsEpochSizes least greatest now new → KeepsEpochSizes fewest most old new
  sizes_on fewest most least greatest old now new same kept later = λ first h. between (λ a b. KeepsEpochSizes a b now new) same.0 same.1 later first (kept first h)

pub ok_so : {P : Type 0} (r : Result (Unit {0}) FeedFault) → OnOk r P → is_err r ≡ false → P
ok_so (Ok u) h well = h
ok_so (Err f) h well = let never : ⊥ = cc in absurd never

module _ {T : Type 0} where
  next_so : (old new : Shards T) → (new ≡ old) ⊎ HasCompared old new → AreResolved new.ended → new.epoch ≡ old.epoch + 1 → AreFresh new.epoch new.current → IsNextEpoch old new
  next_so old new (inl same) done epoch fresh = let never : ⊥ = omega (arith, ap (λ (s : Shards T). s.epoch) same, epoch) in absurd never
  next_so old new (inr compared) done epoch fresh = record { compared = compared; resolved = done; epoch = epoch; fresh = fresh }

  -- the shards that were ended and those that were begun, if this did not fail
  pub sizes_asked : (fewest most n placed resolved shards : ℕ) (load : Load) (old new : Shipping T) (r : Result (Unit {0}) FeedFault) → fewest ≤ most → PlacesAll old.log old.fleet → is_err r ≡ false
      → (new.fleet ≡ old.fleet) ⊎ HasCompared old.fleet new.fleet → OnOk r (AreResolved new.fleet.ended)
      → OnOk r ((new.fleet.epoch ≡ old.fleet.epoch + 1) × (length new.fleet.current ≡ shards) × AreFresh new.fleet.epoch new.fleet.current)
      → shards ≡ wanted_since fewest most n placed resolved load → KeepsEpochSizes fewest most old.fleet new.fleet
  sizes_asked fewest most n placed resolved shards load old new r range put well compared drained opened len =
      let opens = ok_so r opened well in
      sizes_tuned fewest most n placed resolved load old new range put (inr (next_so old.fleet new.fleet compared (ok_so r drained well) opens.0 opens.2)) (opens.1 ∙ len)
