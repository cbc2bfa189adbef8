-- The parts of a request in a row.
use Rattle.std.proofs.Common.{◌≡◌, ℕ, List, ◌++◌, Bool, true, false, codes, append_assoc}
use Rattle.httparse.specs.Ascii.{crlf_bytes}
use Rattle.rw_types.specs.Requests.{line}
use Rattle.rw_shard_core.specs.SentRequest.{request_head, snappy_request_head}
use Rattle.rw_shard_core.specs.inner.Requests.{head_in, fields_in}

-- seven parts after others
in_a_row : (x a b c d e f g : List ℕ) → ((((((x ++ a) ++ b) ++ c) ++ d) ++ e) ++ f) ++ g ≡ x ++ (a ++ (b ++ (c ++ (d ++ (e ++ (f ++ g))))))
in_a_row x a b c d e f g = simp append_assoc

-- a line whose end varies, and then the rest
line-then : (a b rest : List ℕ) → line (a ++ b) ++ rest ≡ a ++ (b ++ (crlf_bytes ++ rest))
line-then a b rest = simp append_assoc

-- seven parts after others are a head
pub parts_of_head : (snappy : Bool) (x host path digits : List ℕ) →
    ((((((x ++ codes "POST ") ++ path) ++ codes " HTTP/1.1\r\nHost: ") ++ host) ++ fields_in snappy) ++ digits) ++ codes "\r\n\r\n" ≡ x ++ head_in snappy host path digits
unfolding request_head snappy_request_head
parts_of_head true x host path digits =
    rw (line-then (codes "POST " ++ path), line-then (codes "Host: ") host, line-then (codes "Content-Length: ") digits)
    (in_a_row x (codes "POST ") path (codes " HTTP/1.1\r\nHost: ") host (fields_in true) digits (codes "\r\n\r\n"))
parts_of_head false x host path digits =
    rw (line-then (codes "POST " ++ path), line-then (codes "Host: ") host, line-then (codes "Content-Length: ") digits)
    (in_a_row x (codes "POST ") path (codes " HTTP/1.1\r\nHost: ") host (fields_in false) digits (codes "\r\n\r\n"))
