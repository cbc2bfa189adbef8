use Rattle.std.proofs.Common.{arith}
use Rattle.rw_resume.proofs.CopyLemmas.{copied_bytes}
use Rattle.rw_resume.proofs.after.copy_from.Goals as goal

pub returns-clause-bytes : goal.returns-clause-bytes
returns-clause-bytes c =
    let from = c.min.ensures in
    let count = c.min-count.ensures in
    copied_bytes c.args.text.now c.copy_from_slice.new.self _ c.args.offset c.min.result c.min-count.result (omega (arith, from)) (λ lt. omega (arith, from)) (omega (arith, from)) (omega (arith, from, count)) c.copy_from_slice.ensures.after
