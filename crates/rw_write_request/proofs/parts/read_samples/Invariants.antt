use Rattle.std.proofs.Common.{◌≡◌, ◌≤◌, [], length}
use Rattle.rw_types.specs.Labels.{Labels}
use Rattle.rw_write_request.specs.declared.kind.Kind.TheVariants as kinds
use Rattle.rw_write_request.specs.Read.{read_fields, series_step}
use Rattle.rw_write_request.proofs.parts.read_samples.Given as goal

abbrev pub invariant-loop-rest : goal.invariant-loop-rest
invariant-loop-rest l = record {
  read : (labels : Labels) → read_fields kinds.TimeSeries series_step (record { labels = labels; samples = l.samples.items }) l.rest ≡ read_fields kinds.TimeSeries series_step (record { labels = labels; samples = [] }) l.bytes;
  few : length l.samples.items ≤ 4096;
}

abbrev pub decreases-loop-rest : goal.decreases-loop-rest
decreases-loop-rest l = length l.rest
