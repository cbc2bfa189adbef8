use Rattle.std.proofs.Common.{◌≡◌, ◌++◌, flat_map, take}
use Rattle.rw_wal_format.specs.Laws.{AreSamples}
use Rattle.rw_wal_format.specs.Records.{sample_bytes}
use Rattle.rw_wal_write.proofs.record.put_samples.Given as goal

abbrev pub invariant-loop-sample : goal.invariant-loop-sample
invariant-loop-sample l = record {
  bytes : l.out.items ≡ l.fn.out.items ++ flat_map (sample_bytes l.base l.start) (take l.sample-index l.samples);
  fit : AreSamples (take l.sample-index l.samples);
}
