use Rattle.std.proofs.Common.{inl, inr, [], arith}
use Rattle.rw_shard_core.proofs.ReplyLemmas.{full_bad, overflow_bad, head_bad, fields_fit}
use Rattle.rw_shard_core.proofs.replies.front_of.Goals as goal

pub returns-then-text-room : goal.returns-then-text-room
returns-then-text-room c =
    let none = rw c.in-Ok-Partial.field-0-is at c.in-Ok-Partial.ensures.partial in
    let may = rw c.in-Ok-Partial.field-0-is at c.in-Ok-Partial.ensures.unfinished in
    ([], (none, may, c.if-text-room.true))

pub returns-else-text-room : goal.returns-else-text-room
returns-else-text-room c =
    let none = rw c.in-Ok-Partial.field-0-is at c.in-Ok-Partial.ensures.partial in
    full_bad c.args.room c.args.text.now none c.if-text-room.false

pub returns-then-head-room : goal.returns-then-head-room
returns-then-head-room c =
    let found = rw c.in-Ok-Complete.field-0-is at c.in-Ok-Complete.ensures.complete in
    head_bad c.args.room c.args.text.now found.0 _ found.1.reads (inl (omega (arith, found.1.len, c.if-head-room.true)))

pub returns-then-head-lt100 : goal.returns-then-head-lt100
returns-then-head-lt100 c =
    let found = rw c.in-Ok-Complete.field-0-is at c.in-Ok-Complete.ensures.complete in
    head_bad c.args.room c.args.text.now found.0 _ found.1.reads (inr (omega (arith, found.1.code, c.if-head-lt100.true)))

pub returns-then-head-lt200 : goal.returns-then-head-lt200
returns-then-head-lt200 c =
    let found = rw c.in-Ok-Complete.field-0-is at c.in-Ok-Complete.ensures.complete in (
      found.0,
      record {
        reads = found.1.reads;
        short = omega (arith, found.1.len, c.if-head-room.false);
        few = fields_fit _ _ _ found.0.fields found.1.fields (omega arith);
      },
      (omega (arith, found.1.code, c.if-head-lt100.false), omega (arith, found.1.code, c.if-head-lt200.true)),
      found.1.len,
    )

pub returns-else-head-lt200 : goal.returns-else-head-lt200
returns-else-head-lt200 c =
    let found = rw c.in-Ok-Complete.field-0-is at c.in-Ok-Complete.ensures.complete in
    let within = rw c.in-Ok-Complete.field-0-is at c.in-Ok-Complete.ensures.within in (
      [],
      (
        found.0,
        _,
        record {
          reads = found.1.reads;
          short = omega (arith, found.1.len, c.if-head-room.false);
          few = fields_fit _ _ _ found.0.fields found.1.fields (omega arith);
        },
        found.1.code,
        c.if-head-lt200.false,
        within.code,
      ),
    )

pub returns-in-Err : goal.returns-in-Err
returns-in-Err c = overflow_bad c.args.room c.args.text.now c.in-Err.ensures.no_room
