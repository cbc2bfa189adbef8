use Rattle.std.proofs.Common.{[], ◌∷◌, ap, ◌∙◌}
use Rattle.rw_wal_format.specs.Records.{record_entries}
use Rattle.rw_kept_log.specs.Additions.{definition_entry}
use Rattle.rw_kept_log.proofs.records.put_definition.Goals as goal

pub returns : goal.returns
returns c = c.in_ok-put_record.ensures (definition_entry c.args.definition.now ∷ []) (ap record_entries c.deref.ensures.value ∙ c.in_ok-rec.ensures.read)
