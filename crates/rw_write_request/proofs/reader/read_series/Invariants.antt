use Rattle.std.proofs.Common.{◌≡◌, length}
use Rattle.rw_write_request.specs.declared.kind.Kind.TheVariants as kinds
use Rattle.rw_write_request.specs.Texts.{series_of_texts}
use Rattle.rw_write_request.specs.Read.{read_fields, series_step, read_series}
use Rattle.rw_write_request.proofs.reader.read_series.Given as goal

abbrev pub invariant-loop-rest : goal.invariant-loop-rest
invariant-loop-rest l = read_fields kinds.TimeSeries series_step (series_of_texts l.labels.items l.samples.items) l.rest ≡ read_series l.bytes

abbrev pub decreases-loop-rest : goal.decreases-loop-rest
decreases-loop-rest l = length l.rest
