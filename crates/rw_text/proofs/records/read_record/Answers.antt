use Rattle.std.proofs.Common.{arith, ◌<◌, ◌*◌, length}
use Rattle.rw_text.specs.LineText.{line_of}
use Rattle.rw_text.proofs.shared.RecordLemmas.{too_long}
use Rattle.rw_text.proofs.records.read_record.Goals as goal

pub returns-then-len-gt-MAX_RECORD_BYTES-clause-err : goal.returns-then-len-gt-MAX_RECORD_BYTES-clause-err
returns-then-len-gt-MAX_RECORD_BYTES-clause-err c = λ _.
    let long : 16 * 1024 * 1024 < length c.in_ok-rec.rec.items = omega (arith, c.len.ensures) in
    too_long c.args.line.now (line_of c.in_ok-said.said) c.in_ok-rec.rec.items c.in_ok-said.ensures.ok c.in_ok-rec.ensures long
