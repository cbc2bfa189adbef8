use Rattle.rw_write_request.proofs.shared.Validity.{all_texts}
use Rattle.rw_write_request.proofs.writer.put_series.Goals as goal

pub returns-clause-valid : goal.returns-clause-valid
returns-clause-valid c = record { labels = all_texts c.args.labels.now; samples = c.put_sample_fields.ensures.words }
