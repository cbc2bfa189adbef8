use Rattle.std.proofs.Common.{map, ap, ◌∙◌}
use Rattle.rw_wal_format.specs.Laws.{sample_entry}
use Rattle.rw_wal_format.specs.Records.{record_entries}
use Rattle.rw_kept_log.proofs.records.put_part.Goals as goal

pub returns : goal.returns
returns c = c.in_ok-put_record.ensures (map sample_entry c.args.samples.now) (ap record_entries c.deref.ensures.value ∙ c.in_ok-rec.ensures.read)
