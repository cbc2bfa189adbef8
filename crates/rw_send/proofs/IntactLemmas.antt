-- A log is read on only while it has no fault.
use Rattle.std.proofs.Common.{◌≡◌, ◌-◌, List, [], ◌∷◌, ◌++◌, length, take, drop, None, Result, Ok, Err, inl, inr, ◌⊎◌, sym, refl, ap, ◌∙◌, subst, arith, ℕ}
use Rattle.std.proofs.lemmas.List.{length-append, take-append-drop}
use Rattle.std.proofs.Math.Seq.{take-append_seam}
use Rattle.rw_wal_format.specs.Laws.{Extends}
use Rattle.rw_wal_format.specs.Pieces.{Piece, bytes, next_segment, may_compress, fault, fault_at, page_size, reading}
use Rattle.rw_wal_format.specs.Segments.{Reading, Stop, between, inside, at_fault, segment_in}
use Rattle.rw_wal_format.proofs.shared.Growing.{reading-append}
use Rattle.rw_sender.specs.Feeders.{Sorting}
use Rattle.rw_sender.specs.Shipping.{Joins}
use Rattle.rw_sender.specs.declared.shipper.FeedFault.{FeedFault}
use Rattle.rw_send.specs.Segments.{AreSoundButLast, fed_of}
use Rattle.rw_send.proofs.MealLemmas.{joins_or_not}

none_before : (r s : Reading) → Extends r s → fault_at s.stop ≡ None → (stop : Stop) → r.stop ≡ stop → fault_at stop ≡ None
none_before r s x e between is = refl
none_before r s x e inside is = refl
none_before r s x e (at_fault f) is = ap fault_at (sym is) ∙ ap (λ (q : Reading). fault_at q.stop) (sym (x.stays f is)) ∙ e

-- a log without a fault had none before
intact_before : (ps more : List Piece) → fault (ps ++ more) ≡ None → fault ps ≡ None
intact_before ps more e = none_before _ _ (reading-append page_size ps more (omega arith)) e _ refl

sound_intact : (ps : List Piece) → fault ps ≡ None → AreSoundButLast ps
sound_intact ps e = let n : ℕ = length ps - 1 in intact_before (take n ps) (drop n ps) (ap fault (take-append-drop n ps) ∙ e)

sound_joined : (ps : List Piece) (p : Piece) → fault ps ≡ None → AreSoundButLast (ps ++ p ∷ [])
sound_joined ps p e =
    let count : length (ps ++ p ∷ []) - 1 ≡ length ps = omega (arith, length-append ps (p ∷ [])) in
    ap (λ (n : ℕ). fault (take n (ps ++ p ∷ []))) count ∙ ap fault (take-append_seam ps (p ∷ [])) ∙ e

sound_so : (old new : Sorting) (p : Piece) → (new.pieces ≡ old.pieces) ⊎ (new.pieces ≡ old.pieces ++ p ∷ []) → fault old.pieces ≡ None → AreSoundButLast new.pieces
sound_so old new p (inl e) h = subst AreSoundButLast (sym e) (sound_intact old.pieces h)
sound_so old new p (inr e) h = subst AreSoundButLast (sym e) (sound_joined old.pieces p h)

-- whatever a piece's feed was answered
pub sound_fed : (old new : Sorting) (p : Piece) (r : Result (Unit {0}) FeedFault) → Joins old new p r → fault old.pieces ≡ None → AreSoundButLast new.pieces
sound_fed old new p (Ok u) h = sound_so old new p (inr h)
sound_fed old new p (Err e) h = sound_so old new p (joins_or_not old new p e h)

no_pieces : fault [] ≡ None
unfolding reading segment_in
no_pieces = refl

no_piece_fed : fault (may_compress ∷ []) ≡ None
unfolding reading segment_in
no_piece_fed = refl

-- before the first piece
pub intact_at_first : (ps : List Piece) → fed_of ps ≡ [] → fault ps ≡ None
intact_at_first [] e = no_pieces
intact_at_first (may_compress ∷ ps) e = subst (λ (qs : List Piece). fault (may_compress ∷ qs) ≡ None) (sym e) no_piece_fed
intact_at_first (bytes b ∷ ps) e = absurd cc
intact_at_first (next_segment ∷ ps) e = absurd cc

pub sound_at_first : (ps : List Piece) → fed_of ps ≡ [] → AreSoundButLast ps
sound_at_first ps e = sound_intact ps (intact_at_first ps e)
