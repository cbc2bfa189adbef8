use Rattle.rw_wal_write.proofs.Taking.{takes_text, takes_more, all_at_ok}
use Rattle.rw_wal_write.proofs.fragment.put_fragment.Goals as goal

pub returns : goal.returns
returns g c =
    let e = c.write_all.ensures in
    let f = c.write_all-2.ensures in
    let first = takes_text g.W.Sink.contents g.W.Sink.has_failed g.W.Sink.room c.args.sink.now c.write_all.new.sink c.header.result _ e.ok e.part e.failed e.sound e.fits e.room_left in
    let second = takes_text g.W.Sink.contents g.W.Sink.has_failed g.W.Sink.room c.write_all.new.sink c.write_all-2.new.sink c.args.part.now _ f.ok f.part f.failed f.sound f.fits f.room_left in
    rw (← c.header.ensures) (takes_more _ _ _ _ _ _ _ _ _ (all_at_ok _ _ _ _ _ _ _ _ c.in_ok-write_all.was first) second)
