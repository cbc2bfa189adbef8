use Rattle.std.proofs.Common.{◌≡◌, length}
use Rattle.rw_write_request.specs.declared.kind.Kind.TheVariants as kinds
use Rattle.rw_write_request.specs.Message.{TimeSeries}
use Rattle.rw_write_request.specs.Read.{read_fields, series_step, read_series}
use Rattle.rw_write_request.proofs.message_check.check_series.Given as goal

abbrev pub invariant-loop-rest : goal.invariant-loop-rest
invariant-loop-rest l = (series : TimeSeries) × (read_fields kinds.TimeSeries series_step series l.rest ≡ read_series l.bytes)

abbrev pub decreases-loop-rest : goal.decreases-loop-rest
decreases-loop-rest l = length l.rest
