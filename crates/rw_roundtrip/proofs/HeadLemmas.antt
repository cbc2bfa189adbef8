-- The head of a request, as it is sent and as it is read.
use Rattle.std.proofs.Common.{◌≡◌, ◌≤◌, ◌+◌, ◌*◌, ℕ, List, [], ◌++◌, length, Bool, true, false, codes, ap, arith, append_assoc, length-append}
use Rattle.std.proofs.lemmas.List.{append-nil}
use Rattle.httparse.specs.Ascii.{crlf_bytes}
use Rattle.httparse.specs.Grammar.{print_request}
use Rattle.rw_shard_core.specs.SentRequest.{request_head, snappy_request_head}
use Rattle.rw_roundtrip.proofs.Heads.{head_of, sent_head}

-- the fields between the host and the length
abbrev pub middle : Bool → List ℕ
middle true = codes "User-Agent: rwship/1.0\r\nContent-Type: application/x-protobuf\r\nContent-Encoding: snappy\r\nX-Prometheus-Remote-Write-Version: 0.1.0\r\nConnection: close\r\nContent-Length: "
middle false = codes "User-Agent: rwship/1.0\r\nContent-Type: application/x-protobuf\r\nX-Prometheus-Remote-Write-Version: 0.1.0\r\nConnection: close\r\nContent-Length: "

-- the parts in a row
in_a_row : (e path a h host m digits : List ℕ) →
    ((path ++ a) ++ e) ++ (h ++ ((host ++ e) ++ (m ++ ((digits ++ e) ++ e)))) ≡ ((path ++ a) ++ e) ++ ((h ++ ((host ++ e) ++ (m ++ ((digits ++ e) ++ [])))) ++ e)
in_a_row e path a h host m digits = simp (append_assoc, append-nil)

-- the bytes
pub head_bytes : (snappy : Bool) (host path digits : List ℕ) → sent_head snappy host path digits ≡ print_request (head_of snappy host path digits)
unfolding request_head snappy_request_head print_request
head_bytes true host path digits =
    ap (λ (t : List ℕ). codes "POST " ++ t) (in_a_row crlf_bytes path (codes " HTTP/1.1") (codes "Host: ") host (middle true) digits)
head_bytes false host path digits =
    ap (λ (t : List ℕ). codes "POST " ++ t) (in_a_row crlf_bytes path (codes " HTTP/1.1") (codes "Host: ") host (middle false) digits)

row_length : (p path a e h host m digits : List ℕ) →
    length (p ++ (((path ++ a) ++ e) ++ (h ++ ((host ++ e) ++ (m ++ ((digits ++ e) ++ e))))))
    ≡ (length p + length a + length h + length m + 4 * length e) + (length path + (length host + length digits))
row_length p path a e h host m digits = simp length-append (omega arith)

pub request_length : (snappy : Bool) (host path digits : List ℕ) → length (sent_head snappy host path digits) ≤ 193 + (length path + (length host + length digits))
unfolding request_head snappy_request_head
request_length true host path digits =
    let e = row_length (codes "POST ") path (codes " HTTP/1.1") crlf_bytes (codes "Host: ") host (middle true) digits in omega (arith, e)
request_length false host path digits =
    let e = row_length (codes "POST ") path (codes " HTTP/1.1") crlf_bytes (codes "Host: ") host (middle false) digits in omega (arith, e)

-- their number
pub head_length : (snappy : Bool) (host path digits : List ℕ) → length (print_request (head_of snappy host path digits)) ≤ 193 + (length path + (length host + length digits))
head_length snappy host path digits =
    let e = ap length (head_bytes snappy host path digits) in let le = request_length snappy host path digits in omega (arith, e, le)
