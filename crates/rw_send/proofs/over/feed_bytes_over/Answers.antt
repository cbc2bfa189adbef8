use Rattle.std.proofs.Common.{◌≡◌, ℕ, List, [], ◌∷◌, ◌++◌, take, None, Result, refl, sym, ap, ◌∙◌, subst, rules}
use Rattle.rw_wal_format.specs.Pieces.{Piece, bytes, fault}
use Rattle.rw_follow.specs.Meals.{with_piece}
use Rattle.rw_follow.specs.declared.follower.Turn.TheVariants as turn
use Rattle.rw_sender.specs.Feeders.{Sorting}
use Rattle.rw_send.specs.Segments.{meal_of}
use Rattle.rw_send.specs.declared.feed_error.FeedError.{FeedError}
use Rattle.rw_send.specs.declared.sharding.Sharding.{Sharding}
use Rattle.rw_send.specs.inner.Turns.{Goes, Reshards}
use Rattle.rw_send.proofs.FeedErrorLemmas.{err_is, failed_is}
use Rattle.rw_send.proofs.KeepLemmas.{soon_reshards}
use Rattle.rw_send.proofs.MealLemmas.{fed_piece}
use Rattle.rw_send.proofs.OverLemmas.{as_reshards, fed_reshards, start_so}
use Rattle.rw_send.proofs.TurnLemmas.{no_answer, piece_refused, short_piece, unset_reshards}
use Rattle.rw_send.proofs.over.feed_bytes_over.Goals as goal

pub returns-in_err-next-clause-reshards : goal.returns-in_err-next-clause-reshards
returns-in_err-next-clause-reshards g c =
    let set = c.in_err-next.ensures in
    subst (λ (r : Result Sharding FeedError). Reshards (turn.Piece c.args.count) c.args.buf.now c.args.sharding c.args.shipper.now c.bounded.new.shipper r) (failed_is _ _ c.from_residual.ensures.1 set.err)
    (unset_reshards (turn.Piece c.args.count) c.args.buf.now c.args.sharding c.args.shipper.now c.bounded.new.shipper set.placed set.unset.log set.unset.limit set.unset.fleet set.config set.failed c.requires.shards)

pub returns-in_err-next-clause-start : goal.returns-in_err-next-clause-start
returns-in_err-next-clause-start g c = no_answer _ _ _ c.from_residual.ensures.1

pub returns-in_err-piece-clause-reshards : goal.returns-in_err-piece-clause-reshards
returns-in_err-piece-clause-reshards g c =
    let soon = c.in_ok-next.ensures.soon in
    let mid = c.bounded.new.shipper in
    soon_reshards (turn.Piece c.args.count) c.args.buf.now c.args.sharding c.in_ok-next.next c.args.shipper.now mid mid _ soon c.in_ok-next.ensures.config
    (as_reshards _ _ _ _ _ _ (subst (λ (r : Result Sharding FeedError). Goes (turn.Piece c.args.count) c.args.buf.now c.in_ok-next.next mid mid r) (err_is _ _ c.from_residual-in_err-piece.ensures.1)
    (piece_refused c.args.count c.args.buf.now c.in_ok-next.next mid soon.shards)))

pub returns-in_err-piece-clause-start : goal.returns-in_err-piece-clause-start
returns-in_err-piece-clause-start g c = no_answer _ _ _ c.from_residual-in_err-piece.ensures.1

pub feed_over-requires-clause-live : goal.feed_over-requires-clause-live
feed_over-requires-clause-live g c κs within = c.in_ok-next.ensures.soon.live

pub feed_over-requires-clause-intact : goal.feed_over-requires-clause-intact
feed_over-requires-clause-intact g c κs within = subst (λ (l : Sorting). fault l.pieces ≡ None) (sym c.in_ok-next.ensures.soon.log) c.requires.intact

pub feed_over-requires-clause-short : goal.feed_over-requires-clause-short
feed_over-requires-clause-short g c κs within =
    let items = c.in_ok-piece.piece.items in
    let is : items ≡ take c.args.count c.args.buf.now = search rules in
    short_piece c.args.count c.args.buf.now items is c.requires.within c.requires.short

pub returns-clause-reshards : goal.returns-clause-reshards
returns-clause-reshards g c =
    let soon = c.in_ok-next.ensures.soon in
    let mid = c.bounded.new.shipper in
    let items = c.in_ok-piece.piece.items in
    let is : items ≡ take c.args.count c.args.buf.now = search rules in
    soon_reshards (turn.Piece c.args.count) c.args.buf.now c.args.sharding c.in_ok-next.next c.args.shipper.now mid c.feed_over.new.shipper c.feed_over.result soon c.in_ok-next.ensures.config
    (fed_reshards (turn.Piece c.args.count) c.args.buf.now c.in_ok-next.next mid c.feed_over.new.shipper (bytes items) c.feed_over.result
    (λ ps e. fed_piece mid.log.pieces ps items e ∙ ap (λ b. with_piece (meal_of mid.log.pieces) b) is) c.feed_over.ensures.fed)

pub returns-clause-start : goal.returns-clause-start
returns-clause-start g c = start_so c.feed_over.result c.in_ok-next.next c.args.sharding c.feed_over.ensures.same c.in_ok-next.ensures.soon.start
