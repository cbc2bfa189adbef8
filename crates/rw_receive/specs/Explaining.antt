-- The reply 400 that says why (RFC 9110, sections 8.3, 8.6 and 15.5.1).
use Rattle.std.specs.Prelude.{ℕ, List, [], ◌++◌, Bool, codes, decimal, length, if◌then◌else◌}

-- the reply that carries a text, and whether the connection closes after it
abbrev pub explained_reply : Bool → List ℕ → List ℕ
explained_reply closes text =
    codes "HTTP/1.1 400 Bad Request\r\nContent-Type: text/plain; charset=utf-8\r\nContent-Length: " ++ decimal (length text)
    ++ (if closes then codes "\r\nConnection: close" else []) ++ codes "\r\n\r\n" ++ text
