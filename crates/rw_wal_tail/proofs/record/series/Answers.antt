use Rattle.std.proofs.Common.{◌≡◌, ◌<◌, length, None}
use Rattle.std.proofs.lemmas.Result.{err_from_is_err_and}
use Rattle.rw_wal_format.specs.Records.{definition_at, series_entries}
use Rattle.rw_wal_tail.proofs.ItemLaws.{not_empty, is_empty, left_start, left_step, left_done, left_fails, bad_form}
use Rattle.rw_wal_tail.proofs.record.series.Goals as goal

pub loop-rest-init : goal.loop-rest-init
loop-rest-init c = left_start definition_at c.args.bytes.now c.args.out.now.items c.requires

pub returns-in_err-entry-clause-err : goal.returns-in_err-entry-clause-err
returns-in_err-entry-clause-err c =
    let some : 0 < length c.loop-rest.rest.now = not_empty c.loop-rest.rest.now c.is_empty.result c.is_empty.ensures c.loop-rest-test.true in
    let p = err_from_is_err_and c.from_residual.result c.from_residual.ensures.1 in
    rw (p.1, p.2) (bad_form c.in_err-entry.field-0.0 (definition_at c.loop-rest.rest.now ≡ None) (series_entries c.args.bytes.now ≡ None)
    (λ e. left_fails definition_at c.args.bytes.now c.loop-rest.out.items c.loop-rest.rest.now c.loop-rest.invariant some e) c.in_err-entry.ensures.err)

pub loop-rest-preserved : goal.loop-rest-preserved
loop-rest-preserved c =
    let some : 0 < length c.loop-rest.rest.now = not_empty c.loop-rest.rest.now c.is_empty.result c.is_empty.ensures c.loop-rest-test.true in
    left_step definition_at c.args.bytes.now c.loop-rest.out.items c.push_back.new.self.items c.in_ok-entry.entry c.loop-rest.rest.now c.in_ok-entry.more.now
    c.loop-rest.invariant some c.in_ok-entry.ensures.ok c.in_ok-entry.ensures.shorter c.in_ok-push_back.ensures.items

pub returns-clause-ok : goal.returns-clause-ok
returns-clause-ok c =
    let none : length c.loop-rest.rest.now ≡ 0 = is_empty c.loop-rest.rest.now c.is_empty.result c.is_empty.ensures c.loop-rest-test.false in
    left_done definition_at c.args.bytes.now c.loop-rest.out.items c.loop-rest.rest.now c.loop-rest.invariant none
