use Rattle.rw_write_request.proofs.shared.Validity.{set_texts}
use Rattle.rw_write_request.proofs.writer.put_series_head.Goals as goal

pub returns-clause-texts : goal.returns-clause-texts
returns-clause-texts c = set_texts c.args.labels.now c.fields-fields.ensures.label_set
