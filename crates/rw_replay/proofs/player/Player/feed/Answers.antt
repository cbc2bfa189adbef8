use Rattle.std.proofs.Common.{refl}
use Rattle.rw_machine.specs.declared.event.Event.TheVariants as event
use Rattle.rw_wal_tail.specs.declared.piece.Piece.TheVariants as piece
use Rattle.rw_replay.proofs.PlayedLemmas.{bytes_fed}
use Rattle.rw_replay.specs.Played.{Played}
use Rattle.rw_replay.proofs.player.Player.feed.Goals as goal

pub returns : goal.returns
returns c =
    let before : Played = record { machine = c.self.inside.world; offset = c.self.inside.offset } in
    rw (← c.self.view_is) (bytes_fed before c.step.new.self (event.Feed (piece.Bytes c.args.written.bytes)) c.args.written.bytes.items c.args.written.offset refl c.in_ok-step.ensures.ok)
