use Rattle.std.proofs.Common.{◌≡◌, ◌<◌, length}
use Rattle.rw_wal_format.specs.Records.{definition_at}
use Rattle.rw_wal_tail.proofs.ItemLaws.{not_empty, is_empty}
use Rattle.rw_wal_tail.proofs.FormLaws.{pass_none, pass_entry, pass_all, pass_fails}
use Rattle.rw_wal_tail.proofs.form.are_definitions.Goals as goal

pub loop-rest-init : goal.loop-rest-init
loop-rest-init c = pass_none definition_at c.args.bytes.now

pub returns-in_default : goal.returns-in_default
returns-in_default c =
    let some : 0 < length c.loop-rest.rest.now = not_empty c.loop-rest.rest.now c.is_empty.result c.is_empty.ensures c.loop-rest-test.true in
    pass_fails definition_at c.args.bytes.now c.loop-rest.rest.now c.loop-rest.invariant some c.in_default.ensures.value

pub loop-rest-preserved : goal.loop-rest-preserved
loop-rest-preserved c =
    let some : 0 < length c.loop-rest.rest.now = not_empty c.loop-rest.rest.now c.is_empty.result c.is_empty.ensures c.loop-rest-test.true in
    pass_entry definition_at c.args.bytes.now c.loop-rest.rest.now c.in-Some.more.now c.loop-rest.invariant some c.in-Some.ensures.value c.in-Some.ensures.shorter

pub returns : goal.returns
returns c =
    let none : length c.loop-rest.rest.now ≡ 0 = is_empty c.loop-rest.rest.now c.is_empty.result c.is_empty.ensures c.loop-rest-test.false in
    pass_all definition_at c.args.bytes.now c.loop-rest.rest.now c.loop-rest.invariant none
