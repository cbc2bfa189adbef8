use Rattle.std.proofs.Common.{rules, subst, ap, ◌∙◌}
use Rattle.rw_wal_format.specs.Laws.{AreTexts}
use Rattle.rw_wal_format.specs.Records.{record_entries}
use Rattle.rw_wal_format.proofs.shared.RecordLaws.{series_again}
use Rattle.rw_wal_write.proofs.record.series_record.Goals as goal

pub returns-clause-bytes : goal.returns-clause-bytes
returns-clause-bytes c = search rules

pub returns-clause-read : goal.returns-clause-read
returns-clause-read c =
    ap record_entries (returns-clause-bytes c)
    ∙ series_again c.args.reference c.args.labels.now (search rules) (search rules) (subst AreTexts c.as_slice.ensures c.in_ok-put_labels.ensures.texts)
