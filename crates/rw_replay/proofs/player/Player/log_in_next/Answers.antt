use Rattle.std.proofs.Common.{◌≡◌, length, arith}
use Rattle.std.proofs.lemmas.Result.{on_ok_weaker}
use Rattle.rw_wal_format.specs.Pieces.{page_size}
use Rattle.rw_wal_format.specs.Writing.{log_bytes}
use Rattle.rw_replay.proofs.PlayedLemmas.{on_machine, same_fed, segment_fed}
use Rattle.rw_replay.specs.inner.Writing.{IsWritten}
use Rattle.rw_replay.specs.Played.{Played}
use Rattle.rw_replay.proofs.player.Player.log_in_next.Goals as goal

pub returns : goal.returns
returns c =
    let before : Played = record { machine = c.self.inside.world; offset = c.self.inside.offset } in
    let w : IsWritten 0 c.args.rec.now c.in-Some.written.bytes.items c.in-Some.written.offset = rw c.in-Some.is at c.in_ok-written.ensures in
    let end : c.in-Some.written.offset ≡ length (log_bytes page_size 0 c.args.rec.now) = omega (arith, w.end_is) in
    on_ok_weaker c.feed.result
    (λ f. segment_fed c.args.self.now c.step.new.self _ _ c.feed.new.self (rw (← c.self.view_is) c.in_ok-step.ensures.ok) (same_fed (on_machine before c.step.new.self) c.feed.new.self _ _ _ _ w.bytes_are end f))
    c.feed.ensures
