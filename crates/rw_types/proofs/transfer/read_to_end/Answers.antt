use Rattle.std.proofs.Common.{arith}
use Rattle.rw_types.proofs.KnownLemmas.{reads_nothing, reads_more}
use Rattle.rw_types.proofs.transfer.read_to_end.Goals as goal

pub loop-chunk-init : goal.loop-chunk-init
loop-chunk-init g c = record { bytes = reads_nothing _ _; sound = λ sound. sound; room = let len = c.in_ok-chunk.ensures in omega arith }

pub loop-chunk-preserved : goal.loop-chunk-preserved
loop-chunk-preserved g c = record {
  bytes = reads_more _ _ _ _ _ _ c.loop-chunk.invariant.bytes c.read_some.ensures.bytes;
  sound = λ sound. c.in_ok-read_some.ensures.sound;
  room = c.loop-chunk.invariant.room;
}

pub returns-in_err-read_some-clause-bytes : goal.returns-in_err-read_some-clause-bytes
returns-in_err-read_some-clause-bytes g c = reads_more _ _ _ _ _ _ c.loop-chunk.invariant.bytes c.read_some.ensures.bytes

pub returns-clause-bytes : goal.returns-clause-bytes
returns-clause-bytes g c = reads_more _ _ _ _ _ _ c.loop-chunk.invariant.bytes c.read_some.ensures.bytes

pub returns-clause-sound : goal.returns-clause-sound
returns-clause-sound g c = c.in_ok-read_some.ensures.sound
