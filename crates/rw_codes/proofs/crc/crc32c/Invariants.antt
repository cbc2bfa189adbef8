use Rattle.std.proofs.Common.{◌≡◌, fold, drop, length}
use Rattle.rw_codes.specs.Crc.{crc_byte}
use Rattle.rw_codes.proofs.crc.crc32c.Given as goal

-- the bytes that are left make the code of them all
abbrev pub invariant-loop-eight : goal.invariant-loop-eight
invariant-loop-eight l = fold crc_byte l.code l.rest ≡ fold crc_byte 0xFFFFFFFF l.bytes

abbrev pub decreases-loop-eight : goal.decreases-loop-eight
decreases-loop-eight l = length l.rest

abbrev pub invariant-loop-byte : goal.invariant-loop-byte
invariant-loop-byte l = fold crc_byte l.code (drop l.byte-index l.byte-items) ≡ fold crc_byte 0xFFFFFFFF l.bytes
