use Rattle.std.proofs.Common.{ap}
use Rattle.rw_kept_log.proofs.shared.HoldLemmas.{holds_one}
use Rattle.rw_kept_log.proofs.records.put_record.Goals as goal

pub returns-in-Ok : goal.returns-in-Ok
returns-in-Ok c es read =
    let l = c.in-Ok.ensures.ok in
    holds_one c.args.writer.now c.log.new.self c.args.rec.now es ((λ i. (c.type_inv.rec i).fits), c.requires, tt) read l.bytes.appended (ap (λ s. s.offset) l.moved) (ap (λ s. s.pages) l.moved)
