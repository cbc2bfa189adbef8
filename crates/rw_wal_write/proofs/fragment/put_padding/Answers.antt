use Rattle.std.proofs.Common.{[], ◌∷◌, take}
use Rattle.rw_wal_write.proofs.Taking.{takes_text, takes_failure, all_at_ok, part_at_err}
use Rattle.rw_wal_write.proofs.Padding.{take_padding}
use Rattle.rw_wal_write.proofs.fragment.put_padding.Goals as goal

pub returns-in_err-write_all-clause-bytes : goal.returns-in_err-write_all-clause-bytes
returns-in_err-write_all-clause-bytes g c =
    let e = c.write_all.ensures in
    let zeros = 0 ∷ 0 ∷ 0 ∷ 0 ∷ 0 ∷ 0 ∷ [] in
    let t = takes_text g.W.Sink.contents g.W.Sink.has_failed g.W.Sink.room c.args.sink.now c.write_all.new.sink (take c.args.left zeros) _ e.ok e.part e.failed e.sound e.fits e.room_left in
    let p = rw (take_padding c.args.left c.if-left-ge-HEADER_BYTES.false) at t in
    takes_failure _ _ _ _ _ _ _ c.from_residual.ensures.0 (part_at_err _ _ _ _ _ _ _ _ c.in_err-write_all.was p)

pub returns-clause-bytes : goal.returns-clause-bytes
returns-clause-bytes g c =
    let e = c.write_all.ensures in
    let zeros = 0 ∷ 0 ∷ 0 ∷ 0 ∷ 0 ∷ 0 ∷ [] in
    let t = takes_text g.W.Sink.contents g.W.Sink.has_failed g.W.Sink.room c.args.sink.now c.write_all.new.sink (take c.args.left zeros) _ e.ok e.part e.failed e.sound e.fits e.room_left in
    let p = rw (take_padding c.args.left c.if-left-ge-HEADER_BYTES.false) at t in
    all_at_ok _ _ _ _ _ _ _ _ c.in_ok-write_all.was p
