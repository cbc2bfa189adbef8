use Rattle.std.proofs.Common.{◌≡◌, List, length}
use Rattle.rw_write_request.specs.Message.{Sample}
use Rattle.rw_write_request.specs.Parts.{series_on}
use Rattle.rw_write_request.specs.Read.{read_series}
use Rattle.rw_write_request.specs.Texts.{series_of_texts}
use Rattle.rw_write_request.proofs.parts.read_labels.Given as goal

abbrev pub invariant-loop-rest : goal.invariant-loop-rest
invariant-loop-rest l = (samples : List Sample) × (series_on (series_of_texts l.labels.items samples) l.rest ≡ read_series l.bytes)

abbrev pub decreases-loop-rest : goal.decreases-loop-rest
decreases-loop-rest l = length l.rest
