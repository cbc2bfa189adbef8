use Rattle.std.proofs.Common.{◌≡◌, ◌<◌, ◌∙◌, length, is_some, ap, sym}
use Rattle.std.specs.Int.{cast_signed, w64}
use Rattle.rw_wal_format.specs.Records.{sample_at}
use Rattle.rw_wal_format.proofs.shared.RecordLaws.{some_samples}
use Rattle.rw_wal_tail.proofs.ItemLaws.{not_empty, is_empty}
use Rattle.rw_wal_tail.proofs.FormLaws.{pass_none, pass_entry, pass_all, pass_fails}
use Rattle.rw_wal_tail.proofs.form.are_samples.Goals as goal

pub loop-rest-init : goal.loop-rest-init
loop-rest-init c = pass_none (sample_at c.args.base (cast_signed w64 c.args.start)) c.args.bytes.now

pub returns-in_default : goal.returns-in_default
returns-in_default c =
    let some : 0 < length c.loop-rest.rest.now = not_empty c.loop-rest.rest.now c.is_empty-in-loop-rest.result c.is_empty-in-loop-rest.ensures c.loop-rest-test.true in
    let all : 0 < length c.args.bytes.now = not_empty c.args.bytes.now c.is_empty.result c.is_empty.ensures c.if-is_empty.false in
    pass_fails (sample_at c.args.base (cast_signed w64 c.args.start)) c.args.bytes.now c.loop-rest.rest.now c.loop-rest.invariant some c.in_default.ensures.value
    ∙ ap is_some (sym (some_samples c.args.base (cast_signed w64 c.args.start) c.args.bytes.now all))

pub loop-rest-preserved : goal.loop-rest-preserved
loop-rest-preserved c =
    let some : 0 < length c.loop-rest.rest.now = not_empty c.loop-rest.rest.now c.is_empty-in-loop-rest.result c.is_empty-in-loop-rest.ensures c.loop-rest-test.true in
    pass_entry (sample_at c.args.base (cast_signed w64 c.args.start)) c.args.bytes.now c.loop-rest.rest.now c.in-Some.more.now c.loop-rest.invariant some (_, c.in-Some.ensures.value) c.in-Some.ensures.shorter

pub returns : goal.returns
returns c =
    let none : length c.loop-rest.rest.now ≡ 0 = is_empty c.loop-rest.rest.now c.is_empty-in-loop-rest.result c.is_empty-in-loop-rest.ensures c.loop-rest-test.false in
    let all : 0 < length c.args.bytes.now = not_empty c.args.bytes.now c.is_empty.result c.is_empty.ensures c.if-is_empty.false in
    pass_all (sample_at c.args.base (cast_signed w64 c.args.start)) c.args.bytes.now c.loop-rest.rest.now c.loop-rest.invariant none
    ∙ ap is_some (sym (some_samples c.args.base (cast_signed w64 c.args.start) c.args.bytes.now all))
