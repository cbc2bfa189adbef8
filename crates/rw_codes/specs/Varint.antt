-- Base-128 varints and the ZigZag map (Protocol Buffers encoding).
use Rattle.std.specs.Prelude.{ℕ, zero, suc, ◌+◌, ◌-◌, ◌*◌, ◌/◌, ◌%◌, ◌<◌, ℤ, pos, negsuc, List, [], ◌∷◌, get_or, Result, Ok, Err, nat_lt, ◌==◌, if◌then◌else◌}
use Rattle.rw_codes.specs.declared.code_fault.CodeFault.{CodeFault}
use Rattle.rw_codes.specs.declared.code_fault.CodeFault.TheVariants.{Short, TooBig}

-- what comes first, and then what is read of it
infixl 10 ◌>>=◌
abbrev pub ◌>>=◌ : {A B F : Type 0} → Result A F → (A → Result B F) → Result B F
(Ok x) >>= f = f x
(Err e) >>= f = Err e

-- n in groups of seven bits, least first, the top bit set on all bytes but the last; at most k
-- groups before the last
unfoldable pub groups : ℕ → ℕ → List ℕ
groups zero n = n ∷ []
groups (suc k) n = if nat_lt n 128 then n ∷ [] else (128 + n % 128) ∷ groups k (n / 128)

-- the number of such groups and the bytes after them, with at most k groups before the last, which
-- then is 0 or 1
unfoldable pub number_in_groups : ℕ → List ℕ → Result (ℕ × List ℕ) CodeFault
number_in_groups k [] = Err Short
number_in_groups zero (b ∷ bs) = if nat_lt b 2 then Ok (b, bs) else Err TooBig
number_in_groups (suc k) (b ∷ bs) =
    if nat_lt b 128 then Ok (b, bs) else number_in_groups k bs >>= λ high. Ok (b - 128 + 128 * high.0, high.1)

-- the shortest varint of a number below 2 ^ 64 (Protocol Buffers encoding, "Base 128 Varints")
abbrev pub uvarint : ℕ → List ℕ
uvarint n = groups 9 n

-- the 64-bit number at the front, as one to ten bytes, and the bytes after it
abbrev pub read_uvarint : List ℕ → Result (ℕ × List ℕ) CodeFault
read_uvarint bytes = number_in_groups 9 bytes

-- 0, -1, 1, -2 as 0, 1, 2, 3 (Protocol Buffers encoding, "Signed Integers")
abbrev pub zig_zag : ℤ → ℕ
zig_zag (pos n) = 2 * n
zig_zag (negsuc n) = 2 * n + 1

-- the signed number of a ZigZag number
abbrev pub un_zig_zag : ℕ → ℤ
un_zig_zag n = if n % 2 == 0 then pos (n / 2) else negsuc (n / 2)

-- the shortest varint of a signed number of 64 bits
abbrev pub varint : ℤ → List ℕ
varint z = uvarint (zig_zag z)

-- the signed number at the front, and the bytes after it
abbrev pub read_varint : List ℕ → Result (ℤ × List ℕ) CodeFault
read_varint bytes = read_uvarint bytes >>= λ n. Ok (un_zig_zag n.0, n.1)

-- each is a byte
abbrev pub AreBytes : List ℕ → Type 0
AreBytes bytes = (i : ℕ) → get_or bytes i 0 < 256
