use Rattle.std.proofs.Common.{◌≡◌, ◌<◌, ◌+◌, ◌∙◌, map, length, sym, ap, arith}
use Rattle.std.proofs.lemmas.List.{length-map, get_or-map}
use Rattle.rw_wal_tail.specs.inner.Held.{waits_as}
use Rattle.rw_wal_tail.proofs.HeldLaws.{added_more}
use Rattle.rw_wal_tail.proofs.input.add_bytes.Goals as goal

pub loop-i-preserved : goal.loop-i-preserved
loop-i-preserved c =
    let items = c.args.segments.now.items in
    let lt : c.loop-i.i < length items = omega (arith, c.loop-i-test.true, c.len-i-end.ensures, c.args.segments.now.ok.0) in
    let s = c.index.result.now in
    let more : c.in-Some.more ≡ c.loop-i.total + length s.bytes.items = omega (arith, c.in-Some.ensures.1, c.len.ensures, s.bytes.ok.0) in
    added_more c.args.count c.loop-i.total c.in-Some.more c.loop-i.i (map waits_as items) (waits_as s) c.loop-i.invariant (omega (arith, lt, length-map items waits_as))
    (get_or-map waits_as items c.loop-i.i s (waits_as s) lt ∙ ap waits_as (sym c.index.ensures)) more
