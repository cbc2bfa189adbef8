-- Pieces of a log that are fed one after the other.
use Rattle.std.proofs.Common.{◌≡◌, inl, inr, suc, List, [], ◌∷◌, ◌++◌, map, take, length, Err, refl, sym, ap, ◌∙◌, length-append, append_assoc, arith}
use Rattle.std.proofs.lemmas.List.{map-append, take_at}
use Rattle.rw_wal_tail.specs.Fed.{piece_of}
use Rattle.rw_wal_tail.specs.declared.piece.Piece.{Piece}
use Rattle.rw_fleet.specs.Fleets.{Shards}
use Rattle.rw_sender.specs.Shipping.{Shipping, Feeds, Joins}
use Rattle.rw_sender.specs.declared.shipper.FeedFault.{FeedFault}
use Rattle.rw_sender.specs.declared.shipper.FeedFault.TheVariants.{OutOfMemory, Damaged, Gone}
use Rattle.rw_in_memory.specs.inner.Shipped.{HasFed}

module _ {T : Type 0} (old was now : Shipping T) (log yielded rest : List Piece) (piece : Piece) (left : log ≡ yielded ++ (piece ∷ rest))
    (pieces : was.log.pieces ≡ old.log.pieces ++ map piece_of yielded) (choice : was.log.choice ≡ old.log.choice) (labels : was.log.labels ≡ old.log.labels) (fleet : was.fleet ≡ record old.fleet { current = was.fleet.current }) (len : length was.fleet.current ≡ length old.fleet.current)
    (then_choice : now.log.choice ≡ was.log.choice) (then_labels : now.log.labels ≡ was.log.labels) (then_fleet : now.fleet ≡ record was.fleet { current = now.fleet.current }) (then_len : length now.fleet.current ≡ length was.fleet.current) where
  pub grown : now.log.pieces ≡ was.log.pieces ++ piece_of piece ∷ [] → now.log.pieces ≡ old.log.pieces ++ map piece_of (yielded ++ piece ∷ [])
  grown e =
      e
      ∙ ap (λ l. l ++ piece_of piece ∷ []) pieces
      ∙ append_assoc old.log.pieces (map piece_of yielded) (piece_of piece ∷ [])
      ∙ ap (λ l. old.log.pieces ++ l) (sym (map-append piece_of yielded (piece ∷ [])))

  pub fleet_on : now.fleet ≡ record old.fleet { current = now.fleet.current }
  fleet_on = then_fleet ∙ ap (λ (f : Shards T). record f { current = now.fleet.current }) fleet

  take_none : take (length yielded) log ≡ yielded
  take_none = ap (take (length yielded)) left ∙ take_at yielded (piece ∷ rest) (length yielded) refl

  take_one : take (suc (length yielded)) log ≡ yielded ++ piece ∷ []
  take_one = ap (take (suc (length yielded))) (left ∙ sym (append_assoc yielded (piece ∷ []) rest)) ∙ take_at (yielded ++ piece ∷ []) rest (suc (length yielded)) (let l = length-append yielded (piece ∷ []) in omega arith)

  with_piece : (e : FeedFault) → Feeds now (Err e) → now.log.pieces ≡ was.log.pieces ++ piece_of piece ∷ [] → HasFed old now log (Err e)
  with_piece e feeds joins = record {
    fed = suc (length yielded);
    pieces = grown joins ∙ ap (λ (l : List Piece). old.log.pieces ++ map piece_of l) (sym take_one);
    whole = tt;
    feeds = feeds;
    choice = then_choice ∙ choice;
    labels = then_labels ∙ labels;
    fleet = fleet_on;
    len = then_len ∙ len;
  }

  without : (e : FeedFault) → Feeds now (Err e) → now.log.pieces ≡ was.log.pieces → HasFed old now log (Err e)
  without e feeds same = record {
    fed = length yielded;
    pieces = same ∙ pieces ∙ ap (λ (l : List Piece). old.log.pieces ++ map piece_of l) (sym take_none);
    whole = tt;
    feeds = feeds;
    choice = then_choice ∙ choice;
    labels = then_labels ∙ labels;
    fleet = fleet_on;
    len = then_len ∙ len;
  }

  pub fails : (e : FeedFault) → Feeds now (Err e) → Joins was.log now.log (piece_of piece) (Err e) → HasFed old now log (Err e)
  fails (Damaged f) feeds joins = with_piece (Damaged f) feeds joins
  fails Gone feeds joins = with_piece Gone feeds joins
  fails OutOfMemory feeds (inl same) = without OutOfMemory feeds same
  fails OutOfMemory feeds (inr joins) = with_piece OutOfMemory feeds joins
