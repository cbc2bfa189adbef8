-- Heads of requests whose body is a Snappy block or not, and what comes after a head.
use Rattle.std.specs.Prelude.{ℕ, nat_eq, List, [], ◌∷◌, drop, Bool, true, false, codes, if◌then◌else◌}
use Rattle.std.specs.List.{starts_with}
use Rattle.rw_shard_core.specs.SentRequest.{request_head, snappy_request_head}

abbrev pub head_in : Bool → List ℕ → List ℕ → List ℕ → List ℕ
head_in true host path digits = snappy_request_head host path digits
head_in false host path digits = request_head host path digits

-- what is between the host and the digits
abbrev pub fields_in : Bool → List ℕ
fields_in true =
    codes "\r\nUser-Agent: rwship/1.0\r\nContent-Type: application/x-protobuf\r\nContent-Encoding: snappy\r\nX-Prometheus-Remote-Write-Version: 0.1.0\r\nConnection: close\r\nContent-Length: "
fields_in false =
    codes "\r\nUser-Agent: rwship/1.0\r\nContent-Type: application/x-protobuf\r\nX-Prometheus-Remote-Write-Version: 0.1.0\r\nConnection: close\r\nContent-Length: "

-- what comes after the first empty line of a text, that is after its first CR LF CR LF
unfoldable pub after_blank_line : List ℕ → List ℕ
after_blank_line [] = []
after_blank_line (b ∷ rest) =
    if starts_with nat_eq (b ∷ rest) (codes "\r\n\r\n") then drop 4 (b ∷ rest) else after_blank_line rest
