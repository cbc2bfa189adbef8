-- What pieces make.
use Rattle.std.proofs.Common.{◌≡◌, ◌⊎◌, inl, inr, List, ℕ, [], ◌∷◌, ◌++◌, Result, Ok, Err, refl, ap, ◌∙◌, subst, sym}
use Rattle.rw_types.specs.Beginnings.{Begins}
use Rattle.rw_types.proofs.shared.BeginningLemmas.{begins_itself}
use Rattle.rw_wal_format.specs.Pieces.{Piece, bytes, next_segment, may_compress}
use Rattle.rw_follow.specs.Meals.{Meal, no_meal, with_next, with_piece}
use Rattle.rw_sender.specs.Feeders.{Sorting}
use Rattle.rw_sender.specs.Shipping.{Joins}
use Rattle.rw_sender.specs.declared.shipper.FeedFault.{FeedFault}
use Rattle.rw_sender.specs.declared.shipper.FeedFault.TheVariants as feed
use Rattle.rw_send.specs.Segments.{meal_after, meal_of, fed_of}

-- a refused piece has joined or not
pub joins_or_not : (old new : Sorting) (p : Piece) (e : FeedFault) → Joins old new p (Err e) → (new.pieces ≡ old.pieces) ⊎ (new.pieces ≡ old.pieces ++ p ∷ [])
joins_or_not old new p feed.OutOfMemory h = h
joins_or_not old new p (feed.Damaged f) h = inr h
joins_or_not old new p feed.Gone h = inr h

begins_joined : (old new : List Piece) (p : Piece) → (new ≡ old) ⊎ (new ≡ old ++ p ∷ []) → Begins old new
begins_joined old new p (inl e) = subst (λ (ps : List Piece). Begins old ps) (sym e) (begins_itself old)
begins_joined old new p (inr e) = (p ∷ [], e)

-- the pieces that were fed before stay
pub begins_fed : (old new : Sorting) (p : Piece) (r : Result (Unit {0}) FeedFault) → Joins old new p r → Begins old.pieces new.pieces
begins_fed old new p (Ok u) h = (p ∷ [], h)
begins_fed old new p (Err e) h = begins_joined old.pieces new.pieces p (joins_or_not old new p e h)

meal_after-piece : (m : Meal) (ps : List Piece) (b : List ℕ) → meal_after m (ps ++ bytes b ∷ []) ≡ with_piece (meal_after m ps) b
meal_after-piece m [] b = refl
meal_after-piece m (bytes a ∷ ps) b = meal_after-piece (with_piece m a) ps b
meal_after-piece m (next_segment ∷ ps) b = meal_after-piece (with_next m) ps b
meal_after-piece m (may_compress ∷ ps) b = meal_after-piece m ps b

meal_after-next : (m : Meal) (ps : List Piece) → meal_after m (ps ++ next_segment ∷ []) ≡ with_next (meal_after m ps)
meal_after-next m [] = refl
meal_after-next m (bytes a ∷ ps) = meal_after-next (with_piece m a) ps
meal_after-next m (next_segment ∷ ps) = meal_after-next (with_next m) ps
meal_after-next m (may_compress ∷ ps) = meal_after-next m ps

-- before the first piece
pub meal_begun : (ps : List Piece) → fed_of ps ≡ [] → meal_of ps ≡ no_meal
meal_begun [] e = refl
meal_begun (may_compress ∷ ps) e = ap (meal_after no_meal) e
meal_begun (bytes b ∷ ps) e = absurd cc
meal_begun (next_segment ∷ ps) e = absurd cc

-- a shipper's answer to some bytes more
pub fed_piece : (old new : List Piece) (b : List ℕ) → new ≡ old ++ bytes b ∷ [] → meal_of new ≡ with_piece (meal_of old) b
fed_piece old new b e = ap meal_of e ∙ meal_after-piece no_meal old b

pub part_piece : (old new : List Piece) (b : List ℕ) → (new ≡ old) ⊎ (new ≡ old ++ bytes b ∷ []) → (meal_of new ≡ meal_of old) ⊎ (meal_of new ≡ with_piece (meal_of old) b)
part_piece old new b (inl e) = inl (ap meal_of e)
part_piece old new b (inr e) = inr (fed_piece old new b e)

-- and to word of a next segment
pub fed_next : (old between new : List Piece) → between ≡ old → new ≡ between ++ next_segment ∷ [] → meal_of new ≡ with_next (meal_of old)
fed_next old between new s e = ap meal_of e ∙ meal_after-next no_meal between ∙ ap (λ (ps : List Piece). with_next (meal_of ps)) s

pub part_next : (old between new : List Piece) → between ≡ old → (new ≡ between) ⊎ (new ≡ between ++ next_segment ∷ []) → (meal_of new ≡ meal_of old) ⊎ (meal_of new ≡ with_next (meal_of old))
part_next old between new s (inl e) = inl (ap meal_of (e ∙ s))
part_next old between new s (inr e) = inr (fed_next old between new s e)
