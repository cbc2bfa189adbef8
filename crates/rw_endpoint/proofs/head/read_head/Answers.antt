use Rattle.rw_endpoint.proofs.HeadLemmas.{never_past}
use Rattle.rw_endpoint.proofs.head.read_head.Goals as goal

pub returns-else-buf-lt-MAX_HEAD_BYTES : goal.returns-else-buf-lt-MAX_HEAD_BYTES
returns-else-buf-lt-MAX_HEAD_BYTES c =
    let none = rw c.in-Ok-Partial.field-0-is at c.in-Ok-Partial.ensures.partial in
    never_past c.args.buf.now none c.if-buf-lt-MAX_HEAD_BYTES.false
