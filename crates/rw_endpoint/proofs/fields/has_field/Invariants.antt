use Rattle.std.proofs.Common.{◌≡◌, map, drop}
use Rattle.httparse.specs.Spans.{header_bytes}
use Rattle.rw_endpoint.specs.Fields.{has_field}
use Rattle.rw_endpoint.proofs.fields.has_field.Given as goal

abbrev pub invariant-loop-header : goal.invariant-loop-header
invariant-loop-header l =
    has_field l.name (map (header_bytes l.buf) l.headers) ≡ has_field l.name (map (header_bytes l.buf) (drop l.header-index l.headers))
