use Rattle.std.proofs.Common.{◌≡◌, ◌<◌, ◌-◌, ◌^◌, false, vec_len}
use Rattle.rw_types.specs.Memory.{ReadsOnto}
use Rattle.rw_types.proofs.transfer.read_to_end.Given as goal

abbrev pub invariant-loop-chunk : goal.invariant-loop-chunk
invariant-loop-chunk g l = record {
  bytes : ReadsOnto (g.S.Source.remaining l.fn.source) (g.S.Source.remaining l.source) l.fn.out.items l.out.items;
  sound : g.S.Source.has_failed l.fn.source ≡ false → g.S.Source.has_failed l.source ≡ false;
  room : 0 < vec_len l.chunk;
}

abbrev pub decreases-loop-chunk : goal.decreases-loop-chunk
decreases-loop-chunk g l = 2 ^ 64 - vec_len l.out
