use Rattle.std.proofs.Common.{◌≡◌, map, drop}
use Rattle.httparse.specs.Spans.{header_bytes}
use Rattle.rw_endpoint.specs.Values.{first_length}
use Rattle.rw_endpoint.proofs.fields.first_length.Given as goal

abbrev pub invariant-loop-header : goal.invariant-loop-header
invariant-loop-header l =
    first_length (map (header_bytes l.buf) l.headers) ≡ first_length (map (header_bytes l.buf) (drop l.header-index l.headers))
