-- A log that is fed turn by turn.
use Rattle.std.proofs.Common.{◌≡◌, ◌<◌, ◌⊎◌, inl, inr, ℕ, List, length, take, refl, sym, ap, subst, arith}
use Rattle.std.proofs.lemmas.List.{length-take-le}
use Rattle.rw_follow.specs.Meals.{Meal, with_next, with_piece}
use Rattle.rw_follow.specs.Turns.{FitsBuffer, given_by}
use Rattle.rw_follow.specs.declared.follower.SegmentError.{SegmentError}
use Rattle.rw_follow.specs.declared.follower.SegmentError.TheVariants as segment
use Rattle.rw_follow.specs.declared.follower.Turn.{Turn}
use Rattle.rw_follow.specs.declared.follower.Turn.TheVariants as turn
use Rattle.rw_follow.specs.declared.signal.StopRequest.{StopRequest}
use Rattle.rw_types.specs.declared.transfer.ReadFault.{ReadFault}
use Rattle.rw_types.specs.declared.transfer.ReadFault.TheVariants as read
use Rattle.rw_sender.specs.Shipping.{Shipping}
use Rattle.rw_send.specs.FeedErrors.{segment_error_of}
use Rattle.rw_send.specs.Logs.{IsAlmostRead, Seen}
use Rattle.rw_send.specs.Segments.{meal_of}
use Rattle.rw_send.specs.declared.feed_error.FeedError.{FeedError}
use Rattle.rw_send.specs.declared.feed_error.FeedError.TheVariants as error
use Rattle.rw_send.specs.inner.FeedErrors.{HasDamage}
use Rattle.rw_send.specs.inner.Turns.{HaltsAt, IsCut}

-- what was returned at a turn, and fed or not
pub almost : (gave : Meal → Type 0) (t : Turn) (buf : List ℕ) (meal fed : Meal) → gave (given_by t buf meal) → (fed ≡ meal) ⊎ (fed ≡ given_by t buf meal) → IsAlmostRead gave fed
almost gave t buf meal fed given (inr e) = inl (subst gave (sym e) given)
almost gave (turn.Piece n) buf meal fed given (inl e) = inr (inl (take n buf, subst (λ (m : Meal). gave (with_piece m (take n buf))) (sym e) given))
almost gave turn.Over buf meal fed given (inl e) = inr (inr (subst (λ (m : Meal). gave (with_next m)) (sym e) given))
almost gave turn.Flush buf meal fed given (inl e) = inl (subst gave (sym e) given)
almost gave turn.Nothing buf meal fed given (inl e) = inl (subst gave (sym e) given)
almost gave turn.Finished buf meal fed given (inl e) = inl (subst gave (sym e) given)
almost gave turn.Aborted buf meal fed given (inl e) = inl (subst gave (sym e) given)

-- ---- how the reading ended

-- the shipper takes no more
pub cut_halted : {T : Type 0} (s next : Shipping T) (log : Seen) (said : StopRequest) (t : Turn) (buf : List ℕ) (h : FeedError) → HaltsAt t s next h → log.gave (given_by t buf (meal_of s.log.pieces))
    → FitsBuffer t (length buf) → ((n : ℕ) → t ≡ turn.Piece n → 0 < n) → IsCut next log said h
cut_halted s next log said t buf (error.Damaged f) at given within some = at
cut_halted s next log said t buf error.Failed (inl f) given within some = inl f
cut_halted s next log said (turn.Piece n) buf error.Failed (inr (is, same)) given within some =
    let positive = some n refl in
    let long = length-take-le n buf within in
    let more : 0 < length (take n buf) = omega (arith, long, positive) in
    let e : meal_of s.log.pieces ≡ meal_of next.log.pieces = ap meal_of (sym same) in
    inr (inl (take n buf, more, subst (λ (m : Meal). log.gave (with_piece m (take n buf))) e given))
cut_halted s next log said turn.Over buf error.Failed (inr (is, same)) given within some = absurd is
cut_halted s next log said turn.Flush buf error.Failed (inr (is, same)) given within some = absurd is
cut_halted s next log said turn.Nothing buf error.Failed (inr (is, same)) given within some = absurd is
cut_halted s next log said turn.Finished buf error.Failed (inr (is, same)) given within some = absurd is
cut_halted s next log said turn.Aborted buf error.Failed (inr (is, same)) given within some = absurd is
cut_halted s next log said t buf error.Unreadable at given within some = absurd at
cut_halted s next log said t buf (error.Missing n) at given within some = absurd at
cut_halted s next log said t buf error.Aborted at given within some = absurd at

-- a turn failed
pub cut_broken : {T : Type 0} (s : Shipping T) (log : Seen) (said : StopRequest) (b : SegmentError) → ((n : ℕ) → b ≡ segment.Missing n → log.lacks n) → ((f : ReadFault) → b ≡ segment.Unreadable f → log.may_fail f)
    → IsCut s log said (segment_error_of b)
cut_broken s log said (segment.Missing n) missing fails = missing n refl
cut_broken s log said (segment.Unreadable read.OutOfMemory) missing fails = inr (inr (fails read.OutOfMemory refl))
cut_broken s log said (segment.Unreadable read.Failed) missing fails = fails read.Failed refl

-- a log that is damaged has the fault at which reading ended
pub damage_halted : {T : Type 0} (t : Turn) (s next : Shipping T) (h : FeedError) → HaltsAt t s next h → HasDamage next h
damage_halted t s next (error.Damaged f) at = at
damage_halted t s next error.Failed at = tt
damage_halted t s next error.Unreadable at = tt
damage_halted t s next (error.Missing n) at = tt
damage_halted t s next error.Aborted at = tt

pub damage_broken : {T : Type 0} (s : Shipping T) (b : SegmentError) → HasDamage s (segment_error_of b)
damage_broken s (segment.Missing n) = tt
damage_broken s (segment.Unreadable read.OutOfMemory) = tt
damage_broken s (segment.Unreadable read.Failed) = tt
