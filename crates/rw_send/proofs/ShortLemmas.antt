-- Pieces of a log stay short.
use Rattle.std.proofs.Common.{◌≡◌, Bool, true, false, refl, ap, List, [], ◌∷◌, ◌++◌, Result, Ok, Err, inl, inr, ◌⊎◌, sym, subst}
use Rattle.rw_wal_format.specs.Pieces.{Piece, bytes, next_segment, may_compress, begun_log, is_marked}
use Rattle.rw_sender.specs.Feeders.{Sorting}
use Rattle.rw_sender.specs.Shipping.{Joins}
use Rattle.rw_sender.specs.declared.shipper.FeedFault.{FeedFault}
use Rattle.rw_send.specs.Segments.{IsShortPiece, AreShortPieces, IsShortLog, fed_of}
use Rattle.rw_send.proofs.MealLemmas.{joins_or_not}

short_behind : (ps : List Piece) (p : Piece) → AreShortPieces ps → IsShortPiece p → AreShortPieces (ps ++ p ∷ [])
short_behind [] p h s = (s, tt)
short_behind (q ∷ ps) p h s = (h.0, short_behind ps p h.1 s)

log_behind : (c : Bool) (ps : List Piece) (p : Piece) → IsShortLog c ps → IsShortPiece p → IsShortLog c (ps ++ p ∷ [])
log_behind c [] (bytes b) h s = (h.0, (s, tt))
log_behind c [] next_segment h s = (h.0, (s, tt))
log_behind c [] may_compress h s = absurd s
log_behind c (may_compress ∷ ps) p h s = (h.0, short_behind ps p h.1 s)
log_behind c (bytes b ∷ ps) p h s = (h.0, short_behind (bytes b ∷ ps) p h.1 s)
log_behind c (next_segment ∷ ps) p h s = (h.0, short_behind (next_segment ∷ ps) p h.1 s)

short_so : (old new : Sorting) (p : Piece) → (new.pieces ≡ old.pieces) ⊎ (new.pieces ≡ old.pieces ++ p ∷ []) → IsShortPiece p → (c : Bool) → IsShortLog c old.pieces → IsShortLog c new.pieces
short_so old new p (inl e) s c h = subst (IsShortLog c) (sym e) h
short_so old new p (inr e) s c h = subst (IsShortLog c) (sym e) (log_behind c old.pieces p h s)

-- whatever a piece's feed was answered
pub short_fed : (old new : Sorting) (p : Piece) (r : Result (Unit {0}) FeedFault) → Joins old new p r → IsShortPiece p → (c : Bool) → IsShortLog c old.pieces → IsShortLog c new.pieces
short_fed old new p (Ok u) h = short_so old new p (inr h)
short_fed old new p (Err e) h = short_so old new p (joins_or_not old new p e h)

-- before the first piece
pub short_begun : (ps : List Piece) → fed_of ps ≡ [] → IsShortLog (is_marked ps) ps
short_begun ps e = (refl, subst AreShortPieces (sym e) tt)

pub marked_begun : (c : Bool) (ps : List Piece) → ps ≡ begun_log c → is_marked ps ≡ c
marked_begun true ps e = ap is_marked e
marked_begun false ps e = ap is_marked e

pub fed_begun : (c : Bool) (ps : List Piece) → ps ≡ begun_log c → fed_of ps ≡ []
fed_begun true ps e = ap fed_of e
fed_begun false ps e = ap fed_of e
