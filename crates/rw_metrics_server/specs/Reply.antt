-- The reply to a request for a page, in HTTP/1.1.
use Rattle.std.specs.Prelude.{ℕ, List, ◌++◌, codes, decimal, length}

-- the reply that carries a page, with the type of its contents
abbrev pub reply : (kind body : List ℕ) → List ℕ
reply kind body =
    codes "HTTP/1.1 200 OK\r\nContent-Type: " ++ kind
    ++ codes "\r\nConnection: close\r\nContent-Length: " ++ decimal (length body)
    ++ codes "\r\n\r\n" ++ body
