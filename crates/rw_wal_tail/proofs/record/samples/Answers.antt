use Rattle.std.proofs.Common.{◌≡◌, ◌<◌, ◌∙◌, length}
use Rattle.std.specs.Int.{cast_signed, w64}
use Rattle.rw_wal_format.specs.Records.{sample_at}
use Rattle.rw_wal_tail.proofs.ItemLaws.{not_empty, is_empty, left_start, left_step, left_done, left_fails}
use Rattle.rw_wal_tail.proofs.record.samples.Goals as goal
use Rattle.rw_wal_format.proofs.shared.RecordLaws.{some_samples}

pub loop-rest-init : goal.loop-rest-init
loop-rest-init c = left_start (sample_at c.args.base (cast_signed w64 c.args.start)) c.args.bytes.now c.args.out.now.items c.requires

pub returns-in_default-clause-err : goal.returns-in_default-clause-err
returns-in_default-clause-err c =
    let some : 0 < length c.loop-rest.rest.now = not_empty c.loop-rest.rest.now c.is_empty-in-loop-rest.result c.is_empty-in-loop-rest.ensures c.loop-rest-test.true in
    let all : 0 < length c.args.bytes.now = not_empty c.args.bytes.now c.is_empty.result c.is_empty.ensures c.if-is_empty.false in
    some_samples c.args.base (cast_signed w64 c.args.start) c.args.bytes.now all
    ∙ left_fails (sample_at c.args.base (cast_signed w64 c.args.start)) c.args.bytes.now c.loop-rest.out.items c.loop-rest.rest.now c.loop-rest.invariant some c.in_default.ensures.value

pub loop-rest-preserved : goal.loop-rest-preserved
loop-rest-preserved c =
    let some : 0 < length c.loop-rest.rest.now = not_empty c.loop-rest.rest.now c.is_empty-in-loop-rest.result c.is_empty-in-loop-rest.ensures c.loop-rest-test.true in
    left_step (sample_at c.args.base (cast_signed w64 c.args.start)) c.args.bytes.now c.loop-rest.out.items c.push_back.new.self.items c.in-Some.entry c.loop-rest.rest.now c.in-Some.more.now
    c.loop-rest.invariant some c.in-Some.ensures.value c.in-Some.ensures.shorter c.in_ok-push_back.ensures.items

pub returns-clause-ok : goal.returns-clause-ok
returns-clause-ok c =
    let none : length c.loop-rest.rest.now ≡ 0 = is_empty c.loop-rest.rest.now c.is_empty-in-loop-rest.result c.is_empty-in-loop-rest.ensures c.loop-rest-test.false in
    let all : 0 < length c.args.bytes.now = not_empty c.args.bytes.now c.is_empty.result c.is_empty.ensures c.if-is_empty.false in
    some_samples c.args.base (cast_signed w64 c.args.start) c.args.bytes.now all
    ∙ left_done (sample_at c.args.base (cast_signed w64 c.args.start)) c.args.bytes.now c.loop-rest.out.items c.loop-rest.rest.now c.loop-rest.invariant none
