-- Segments that are over, one after the other.
use Rattle.std.proofs.Common.{◌≡◌, ◌<◌, ◌⊎◌, inl, inr, ℕ, zero, suc, List, [], ◌∷◌, ◌++◌, length, take, refl, sym, ap, ◌∙◌, subst, length-append, arith}
use Rattle.std.proofs.lemmas.List.{length-take-le}
use Rattle.rw_types.proofs.shared.BeginningLemmas.{begins_twice}
use Rattle.rw_wal_format.specs.Pieces.{next_segment}
use Rattle.rw_follow.specs.Meals.{Meal, no_meal, with_next}
use Rattle.rw_follow.specs.Turns.{FitsBuffer, given_by}
use Rattle.rw_follow.specs.declared.follower.Turn.{Turn}
use Rattle.rw_follow.specs.declared.follower.Turn.TheVariants as turn
use Rattle.rw_sender.specs.Shipping.{Shipping}
use Rattle.rw_send.specs.Segments.{meal_of}
use Rattle.rw_send.specs.Steps.{HasComeTo, HasLapped, IsLap, StaysOpen}
use Rattle.rw_send.specs.inner.Turns.{IsDone, IsUndone}
use Rattle.rw_send.proofs.StepLemmas.{stays_on}

piece_whole : (n : ℕ) (buf : List ℕ) (meal fed : Meal) → (fed ≡ meal) ⊎ (fed ≡ given_by (turn.Piece n) buf meal) → fed.whole ≡ meal.whole
piece_whole n buf meal fed (inl e) = ap (λ (m : Meal). m.whole) e
piece_whole n buf meal fed (inr e) = ap (λ (m : Meal). m.whole) e

-- ---- no byte was read, and no segment is over

no_piece : (n : ℕ) (buf : List ℕ) (meal : Meal) → FitsBuffer (turn.Piece n) (length buf) → 0 < n → given_by (turn.Piece n) buf meal ≡ no_meal → ⊥
no_piece n buf meal fits some e =
    let l : length (meal.begun ++ take n buf) ≡ 0 = ap (λ (m : Meal). length m.begun) e in
    let sum = length-append meal.begun (take n buf) in
    let long = length-take-le n buf fits in
    omega (arith, l, sum, long, some)

no_over : (buf : List ℕ) (meal : Meal) → given_by turn.Over buf meal ≡ no_meal → ⊥
no_over buf meal e =
    let l : length (meal.whole ++ meal.begun ∷ []) ≡ 0 = ap (λ (m : Meal). length m.whole) e in
    let sum = length-append meal.whole (meal.begun ∷ []) in
    omega (arith, l, sum)

module _ {T : Type 0} where
  as_before : (old mid new : Shipping T) → new ≡ mid → (meal_of mid.log.pieces ≡ no_meal → mid ≡ old) → meal_of new.log.pieces ≡ no_meal → new ≡ old
  as_before old mid new same was none = same ∙ was (ap (λ (s : Shipping T). meal_of s.log.pieces) (sym same) ∙ none)

  -- nothing was done so far
  pub idle_on : (fewest most : ℕ) (t : Turn) (buf : List ℕ) (old mid new : Shipping T) → (meal_of mid.log.pieces ≡ no_meal → mid ≡ old) → IsDone fewest most t mid new → (t ≡ turn.Flush → ⊥)
      → FitsBuffer t (length buf) → ((n : ℕ) → t ≡ turn.Piece n → 0 < n) → meal_of new.log.pieces ≡ given_by t buf (meal_of mid.log.pieces) → meal_of new.log.pieces ≡ no_meal → new ≡ old
  idle_on fewest most (turn.Piece n) buf old mid new was done unasked fits some fed none = absurd (no_piece n buf (meal_of mid.log.pieces) fits (some n refl) (sym fed ∙ none))
  idle_on fewest most turn.Over buf old mid new was done unasked fits some fed none = absurd (no_over buf (meal_of mid.log.pieces) (sym fed ∙ none))
  idle_on fewest most turn.Flush buf old mid new was done unasked fits some fed none = absurd (unasked refl)
  idle_on fewest most turn.Nothing buf old mid new was done unasked fits some fed none = as_before old mid new done was none
  idle_on fewest most turn.Finished buf old mid new was done unasked fits some fed none = as_before old mid new done was none
  idle_on fewest most turn.Aborted buf old mid new was done unasked fits some fed none = as_before old mid new done was none

  -- and no turn fails then
  pub idle_halted : (fewest most : ℕ) (t : Turn) (buf : List ℕ) (old mid new : Shipping T) → IsUndone fewest most t mid new → (t ≡ turn.Flush → ⊥) → FitsBuffer t (length buf) → ((n : ℕ) → t ≡ turn.Piece n → 0 < n)
      → given_by t buf (meal_of mid.log.pieces) ≡ no_meal → new ≡ old
  idle_halted fewest most (turn.Piece n) buf old mid new undone unasked fits some none = absurd (no_piece n buf (meal_of mid.log.pieces) fits (some n refl) none)
  idle_halted fewest most turn.Over buf old mid new undone unasked fits some none = absurd (no_over buf (meal_of mid.log.pieces) none)
  idle_halted fewest most turn.Flush buf old mid new undone unasked fits some none = absurd (unasked refl)
  idle_halted fewest most turn.Nothing buf old mid new undone unasked fits some none = absurd undone
  idle_halted fewest most turn.Finished buf old mid new undone unasked fits some none = absurd undone
  idle_halted fewest most turn.Aborted buf old mid new undone unasked fits some none = absurd undone

  -- ---- how many segments are over

  -- more of the same segment
  lapped_on : (fewest most n : ℕ) (old mid new : Shipping T) → HasLapped fewest most n old mid → StaysOpen mid new → (meal_of new.log.pieces).whole ≡ (meal_of mid.log.pieces).whole → HasLapped fewest most n old new
  lapped_on fewest most zero old mid new h st w = stays_on old mid new h st
  lapped_on fewest most (suc n) old mid new (last, h, lap) st w = (
    last,
    h,
    record {
      put = lap.put;
      between = lap.between;
      set = lap.set;
      stays = stays_on lap.between mid new lap.stays st;
      begins = begins_twice (last.log.pieces ++ next_segment ∷ []) mid.log.pieces new.log.pieces lap.begins st.pieces;
      ends = w ∙ lap.ends;
    },
  )

  within : (fewest most : ℕ) (old mid new : Shipping T) → HasLapped fewest most (length (meal_of mid.log.pieces).whole) old mid → StaysOpen mid new → (meal_of new.log.pieces).whole ≡ (meal_of mid.log.pieces).whole
      → HasLapped fewest most (length (meal_of new.log.pieces).whole) old new
  within fewest most old mid new h st w =
      subst (λ (ws : List (List ℕ)). HasLapped fewest most (length ws) old new) (sym w) (lapped_on fewest most (length (meal_of mid.log.pieces).whole) old mid new h st w)

  -- and the end of it
  lapped_next : (fewest most : ℕ) (old mid new : Shipping T) → HasLapped fewest most (length (meal_of mid.log.pieces).whole) old mid → IsLap fewest most mid new
      → HasLapped fewest most (length (meal_of new.log.pieces).whole) old new
  lapped_next fewest most old mid new h lap =
      let before = meal_of mid.log.pieces in
      let e : suc (length before.whole) ≡ length (before.whole ++ before.begun ∷ []) = omega (arith, length-append before.whole (before.begun ∷ [])) in
      let after : HasLapped fewest most (suc (length before.whole)) old new = (mid, h, lap) in
      subst (λ (ws : List (List ℕ)). HasLapped fewest most (length ws) old new) (sym lap.ends) (subst (λ n. HasLapped fewest most n old new) e after)

  -- a turn was done
  pub lapped : (fewest most : ℕ) (t : Turn) (buf : List ℕ) (old mid new : Shipping T) → HasLapped fewest most (length (meal_of mid.log.pieces).whole) old mid → IsDone fewest most t mid new → (t ≡ turn.Flush → ⊥)
      → meal_of new.log.pieces ≡ given_by t buf (meal_of mid.log.pieces) → HasLapped fewest most (length (meal_of new.log.pieces).whole) old new
  lapped fewest most (turn.Piece n) buf old mid new h done unasked fed = within fewest most old mid new h done (ap (λ (m : Meal). m.whole) fed)
  lapped fewest most turn.Over buf old mid new h done unasked fed = lapped_next fewest most old mid new h done
  lapped fewest most turn.Flush buf old mid new h done unasked fed = absurd (unasked refl)
  lapped fewest most turn.Nothing buf old mid new h done unasked fed = subst (λ (s : Shipping T). HasLapped fewest most (length (meal_of s.log.pieces).whole) old s) (sym done) h
  lapped fewest most turn.Finished buf old mid new h done unasked fed = subst (λ (s : Shipping T). HasLapped fewest most (length (meal_of s.log.pieces).whole) old s) (sym done) h
  lapped fewest most turn.Aborted buf old mid new h done unasked fed = subst (λ (s : Shipping T). HasLapped fewest most (length (meal_of s.log.pieces).whole) old s) (sym done) h

  -- or was not
  pub come_to : (fewest most : ℕ) (t : Turn) (buf : List ℕ) (gave : Meal → Type 0) (old mid new : Shipping T) → HasLapped fewest most (length (meal_of mid.log.pieces).whole) old mid → IsUndone fewest most t mid new → (t ≡ turn.Flush → ⊥)
      → (meal_of new.log.pieces ≡ meal_of mid.log.pieces) ⊎ (meal_of new.log.pieces ≡ given_by t buf (meal_of mid.log.pieces)) → gave (given_by t buf (meal_of mid.log.pieces))
      → HasComeTo fewest most gave (meal_of new.log.pieces) old new
  come_to fewest most (turn.Piece n) buf gave old mid new h undone unasked part given = inl (within fewest most old mid new h undone (piece_whole n buf (meal_of mid.log.pieces) (meal_of new.log.pieces) part))
  come_to fewest most turn.Over buf gave old mid new h (inl broken) unasked part given =
      let e : meal_of mid.log.pieces ≡ meal_of new.log.pieces = ap meal_of (sym broken.pieces) in
      inr (subst (λ (m : Meal). gave (with_next m)) e given, (mid, subst (λ (m : Meal). HasLapped fewest most (length m.whole) old mid) e h, broken))
  come_to fewest most turn.Over buf gave old mid new h (inr lap) unasked part given = inl (lapped_next fewest most old mid new h lap)
  come_to fewest most turn.Flush buf gave old mid new h undone unasked part given = absurd (unasked refl)
  come_to fewest most turn.Nothing buf gave old mid new h undone unasked part given = absurd undone
  come_to fewest most turn.Finished buf gave old mid new h undone unasked part given = absurd undone
  come_to fewest most turn.Aborted buf gave old mid new h undone unasked part given = absurd undone
