use Rattle.std.proofs.Common.{ap}
use Rattle.rw_wal_tail.specs.Fed.{Fed}
use Rattle.rw_resume.proofs.PassingLemmas.{plain_text, compressed_text}
use Rattle.rw_resume.proofs.passing.new_tail.Goals as goal

pub returns-then-may_compress-clause-text : goal.returns-then-may_compress-clause-text
returns-then-may_compress-clause-text c = compressed_text c.args.may_compress c.for_compressed.result c.if-may_compress.true c.for_compressed.ensures.new

pub returns-clause-text : goal.returns-clause-text
returns-clause-text c = plain_text c.args.may_compress c.new.result c.if-may_compress.false (ap (λ (t : Fed). t.pieces) c.new.ensures.new)
