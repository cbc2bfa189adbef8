use Rattle.std.proofs.Common.{◌≡◌, map, drop, codes}
use Rattle.httparse.specs.Spans.{header_bytes}
use Rattle.rw_endpoint.specs.Fields.{each_value}
use Rattle.rw_endpoint.specs.Values.{is_coding}
use Rattle.rw_endpoint.proofs.fields.are_coding.Given as goal

abbrev pub invariant-loop-header : goal.invariant-loop-header
invariant-loop-header l =
    each_value (codes "content-encoding") (is_coding l.coding) (map (header_bytes l.buf) l.headers) ≡ each_value (codes "content-encoding") (is_coding l.coding) (map (header_bytes l.buf) (drop l.header-index l.headers))
