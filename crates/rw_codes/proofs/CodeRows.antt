-- The codes of the public standards, by computation.
use Rattle.std.proofs.Common.{◌≡◌, ◌-◌, ◌^◌, pos, negsuc, [], ◌∷◌, ◌++◌, map, replicate, Ok, Err, refl}
use Rattle.rw_codes.specs.Varint.{groups, number_in_groups, uvarint, read_uvarint, varint, read_varint, zig_zag}
use Rattle.rw_codes.specs.Crc.{crc32c_of, crc_bits}
use Rattle.rw_codes.specs.declared.code_fault.CodeFault.TheVariants.{Short, TooBig}

-- ---- CRC-32C (RFC 3720, appendix B.4, has the values of 32 equal bytes)

crc-of_nothing : crc32c_of [] ≡ 0x00000000
unfolding crc_bits
crc-of_nothing = refl

-- the text 123456789
crc-of_digits : crc32c_of (49 ∷ 50 ∷ 51 ∷ 52 ∷ 53 ∷ 54 ∷ 55 ∷ 56 ∷ 57 ∷ []) ≡ 0xE3069283
unfolding crc_bits
crc-of_digits = refl

crc-of_byte_2 : crc32c_of (2 ∷ []) ≡ 0xB34623A6
unfolding crc_bits
crc-of_byte_2 = refl

crc-of_letter_a : crc32c_of (97 ∷ []) ≡ 0xC1D04330
unfolding crc_bits
crc-of_letter_a = refl

crc-of_zeros : crc32c_of (replicate 32 0) ≡ 0x8A9136AA
unfolding crc_bits
crc-of_zeros = refl

crc-of_ones : crc32c_of (replicate 32 255) ≡ 0x62A8AB43
unfolding crc_bits
crc-of_ones = refl

-- ---- varints

uvarint-one_byte : map uvarint (0 ∷ 1 ∷ 127 ∷ []) ≡ (0 ∷ []) ∷ (1 ∷ []) ∷ (127 ∷ []) ∷ []
unfolding groups
uvarint-one_byte = refl

uvarint-two_bytes : map uvarint (128 ∷ 300 ∷ 16383 ∷ []) ≡ (128 ∷ 1 ∷ []) ∷ (172 ∷ 2 ∷ []) ∷ (255 ∷ 127 ∷ []) ∷ []
unfolding groups
uvarint-two_bytes = refl

uvarint-nine_bytes : uvarint (2 ^ 63 - 1) ≡ replicate 8 255 ++ 127 ∷ []
unfolding groups
uvarint-nine_bytes = refl

uvarint-ten_bytes : map uvarint (2 ^ 63 ∷ (2 ^ 64 - 1) ∷ []) ≡ (replicate 9 128 ++ 1 ∷ []) ∷ (replicate 9 255 ++ 1 ∷ []) ∷ []
unfolding groups
uvarint-ten_bytes = refl

read-greatest : read_uvarint (replicate 9 255 ++ 1 ∷ 7 ∷ []) ≡ Ok (2 ^ 64 - 1, 7 ∷ [])
unfolding number_in_groups
read-greatest = refl

read-tenth_byte_too_big : read_uvarint (replicate 9 255 ++ 2 ∷ []) ≡ Err TooBig
unfolding number_in_groups
read-tenth_byte_too_big = refl

read-eleven_bytes : read_uvarint (replicate 10 128 ++ 1 ∷ []) ≡ Err TooBig
unfolding number_in_groups
read-eleven_bytes = refl

read-nothing : read_uvarint [] ≡ Err Short
unfolding number_in_groups
read-nothing = refl

read-nine_bytes_short : read_uvarint (replicate 9 255) ≡ Err Short
unfolding number_in_groups
read-nine_bytes_short = refl

-- forms that are not the shortest are taken
read-long_forms : map read_uvarint ((128 ∷ 0 ∷ []) ∷ (129 ∷ 128 ∷ 0 ∷ []) ∷ (replicate 9 128 ++ 0 ∷ []) ∷ []) ≡ Ok (0, []) ∷ Ok (1, []) ∷ Ok (0, []) ∷ []
unfolding number_in_groups
read-long_forms = refl

zig_zag-first : map zig_zag (pos 0 ∷ negsuc 0 ∷ pos 1 ∷ negsuc 1 ∷ []) ≡ 0 ∷ 1 ∷ 2 ∷ 3 ∷ []
zig_zag-first = refl

varint-ends : map varint (pos (2 ^ 63 - 1) ∷ negsuc (2 ^ 63 - 1) ∷ []) ≡ (254 ∷ replicate 8 255 ++ 1 ∷ []) ∷ (replicate 9 255 ++ 1 ∷ []) ∷ []
unfolding groups
varint-ends = refl

read_varint-lowest : read_varint (replicate 9 255 ++ 1 ∷ []) ≡ Ok (negsuc (2 ^ 63 - 1), [])
unfolding number_in_groups
read_varint-lowest = refl
