use Rattle.std.proofs.Common.{◌≡◌, map, drop, codes}
use Rattle.httparse.specs.Spans.{header_bytes}
use Rattle.rw_endpoint.specs.Fields.{some_value}
use Rattle.rw_endpoint.specs.Values.{is_close}
use Rattle.rw_endpoint.proofs.fields.has_close.Given as goal

abbrev pub invariant-loop-header : goal.invariant-loop-header
invariant-loop-header l =
    some_value (codes "connection") is_close (map (header_bytes l.buf) l.headers) ≡ some_value (codes "connection") is_close (map (header_bytes l.buf) (drop l.header-index l.headers))
