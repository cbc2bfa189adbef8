use Rattle.std.proofs.Common.{◌≤◌, length, arith}
use Rattle.rw_wal_format.specs.Pieces.{page_size}
use Rattle.rw_wal_format.specs.Writing.{room}
use Rattle.rw_wal_write.proofs.shared.Fitting.{room_fits}
use Rattle.rw_wal_write.proofs.segment.SegmentWriter.log.Goals as goal

pub put_record-requires-clause-fits : goal.put_record-requires-clause-fits
put_record-requires-clause-fits g c =
    let h : length c.args.rec.now ≤ room page_size c.self.inside.pages c.self.inside.offset = omega (arith, c.room_in.ensures) in
    let p = room_fits c.self.inside.pages c.self.inside.offset c.args.rec.now c.self.invariant.0 c.requires h in
    omega (arith, p.within, p.most)

pub invariant_of-self : goal.invariant_of-self
invariant_of-self g c =
    let h : length c.args.rec.now ≤ room page_size c.self.inside.pages c.self.inside.offset = omega (arith, c.room_in.ensures) in
    let p = room_fits c.self.inside.pages c.self.inside.offset c.args.rec.now c.self.invariant.0 c.requires h in
    (rw c.in-Ok.ensures.end p, λ closed. absurd (let open' = c.if-self.false in cc))
