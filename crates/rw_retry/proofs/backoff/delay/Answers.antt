use Rattle.std.proofs.Common.{arith}
use Rattle.rw_retry.proofs.shared.BackoffLemmas.{late}
use Rattle.rw_retry.proofs.backoff.delay.Goals as goal

pub returns-then-retry-ge64 : goal.returns-then-retry-ge64
returns-then-retry-ge64 c = late c.args.min_backoff c.args.max_backoff c.args.retry (omega arith) (omega arith) c.if-retry-ge64.true
