-- The head of a request that carries a message, in HTTP's grammar (RFC 9112, sections 2 to 5).
use Rattle.std.specs.Prelude.{ℕ, List, [], ◌∷◌, ◌++◌, Bool, true, false, codes}
use Rattle.httparse.specs.Ascii.{space}
use Rattle.httparse.specs.Grammar.{crlf, Field, RequestHead}
use Rattle.rw_shard_core.specs.SentRequest.{request_head, snappy_request_head}

-- a field line: one space is before the value
abbrev pub field : List ℕ → List ℕ → Field
field name value = record { name = name; raw = space ∷ value; end = crlf }

-- the field that says whether the body is a Snappy block
abbrev pub coding_fields : Bool → List Field
coding_fields true = field (codes "Content-Encoding") (codes "snappy") ∷ []
coding_fields false = []

-- the fields, with these digits as the length of the body
abbrev pub fields_of : Bool → List ℕ → List ℕ → List Field
fields_of snappy host digits =
    field (codes "Host") host
    ∷ field (codes "User-Agent") (codes "rwship/1.0")
    ∷ field (codes "Content-Type") (codes "application/x-protobuf")
    ∷ (coding_fields snappy
    ++ (field (codes "X-Prometheus-Remote-Write-Version") (codes "0.1.0")
    ∷ field (codes "Connection") (codes "close")
    ∷ field (codes "Content-Length") digits
    ∷ []))

-- the bytes that are sent
abbrev pub sent_head : Bool → List ℕ → List ℕ → List ℕ → List ℕ
sent_head true host path digits = snappy_request_head host path digits
sent_head false host path digits = request_head host path digits

-- the head
abbrev pub head_of : Bool → List ℕ → List ℕ → List ℕ → RequestHead
head_of snappy host path digits = record {
  blank = [];
  method = codes "POST";
  target = path;
  minor = 1;
  line_end = crlf;
  fields = fields_of snappy host digits;
  last = crlf;
}
