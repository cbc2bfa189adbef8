use Rattle.std.proofs.Common.{refl}
use Rattle.rw_write_request.specs.Read.{read_series}
use Rattle.rw_write_request.proofs.ReadOn.{labels_counted}
use Rattle.rw_write_request.proofs.parts.label_count.Goals as goal

pub returns : goal.returns
returns c =
    labels_counted c.args.bytes.now c.field_counts-labels.result.0 (read_series c.args.bytes.now)
    (λ fields are. (c.field_counts-labels.ensures fields are).0) refl
