use Rattle.std.proofs.Common.{arith}
use Rattle.std.specs.Int.{w64, cast_signed, cast_unsigned}
use Rattle.test_log.proofs.message_encoding.put_sample.Goals as goal

pub put_sample_field-requires : goal.put_sample_field-requires
put_sample_field-requires c = record { room = omega (arith, c.sample_field_is_short.ensures (c.args.word, cast_signed w64 (cast_unsigned w64 c.args.timestamp)), c.in_ok-reserve.ensures.ok) }
