use Rattle.std.proofs.Common.{map, ap, arith}
use Rattle.std.proofs.lemmas.List.{length-map}
use Rattle.rw_log_read.specs.Logs.{fault_in, source_of}
use Rattle.rw_log_read.proofs.shared.LogLemmas.{no_items, reads_named, reads_nothing, some_items}
use Rattle.rw_log_read.proofs.log.read_named.Goals as goal

pub returns-then-is_empty-clause-ok : goal.returns-then-is_empty-clause-ok
returns-then-is_empty-clause-ok g c =
    reads_nothing _ _ _ _ _ _ (no_items _ _ _ c.args.segments.ok.0 c.is_empty.ensures c.if-is_empty.true) c.requires c.nothing_read.ensures.rows (ap fault_in c.nothing_read.ensures.damage)

pub returns-in-Ok-clause-ok : goal.returns-in-Ok-clause-ok
returns-in-Ok-clause-ok g c =
    let lefts = map (source_of g.S.Source.remaining) c.args.segments.items in
    let any = some_items _ _ _ c.args.segments.ok.0 c.is_empty.ensures c.if-is_empty.false in
    let len = length-map c.args.segments.items (source_of g.S.Source.remaining) in
    reads_named _ lefts _ _ _ _ (omega (arith, any, len)) (c.in-Ok.ensures.ok lefts c.new-log.ensures.unread)
