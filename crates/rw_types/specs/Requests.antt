-- The host and the path of the requests that carry messages, and the lines of heads.
use Rattle.std.specs.Prelude.{ℕ, List, [], ◌∷◌, ◌++◌, length, codes, Bool, ◌&&◌, ◌||◌, ◌==◌, nat_le, nat_eq}
use Rattle.std.specs.Char.{is_ascii_alphanumeric}
use Rattle.std.specs.List.{list_any}
use Rattle.rw_types.specs.Labels.{is_word_of}

-- a printable ASCII character other than the space: `!` to `~`
abbrev pub is_host_byte : ℕ → Bool
is_host_byte b = nat_le 33 b && nat_le b 126

-- an ASCII letter, an ASCII digit, or one of these characters
abbrev pub is_path_byte : ℕ → Bool
is_path_byte b = is_ascii_alphanumeric b || list_any (nat_eq b) (codes "/-._~%?=&")

-- 1 to 255 bytes `!` to `~`
abbrev pub is_host_name : List ℕ → Bool
is_host_name text = is_word_of is_host_byte is_host_byte text && nat_le (length text) 255

-- `/` and then path characters, 255 bytes at most
abbrev pub is_request_path : List ℕ → Bool
is_request_path text = is_word_of (λ b. b == 47) is_path_byte text && nat_le (length text) 255

-- a line of the head of a request or a reply, with the CR LF that ends it (RFC 9112, section 2.2)
abbrev pub line : List ℕ → List ℕ
line text = text ++ 13 ∷ 10 ∷ []
