use Rattle.std.proofs.Common.{rules, ap, ◌∙◌, length, ◌≤◌}
use Rattle.rw_wal_format.specs.Records.{record_entries}
use Rattle.rw_wal_format.proofs.shared.RecordLaws.{sample_record_again}
use Rattle.rw_wal_write.proofs.FitLemmas.{none_fit}
use Rattle.rw_wal_write.proofs.record.sample_record.Goals as goal

pub returns-in_default-clause-bytes : goal.returns-in_default-clause-bytes
returns-in_default-clause-bytes c = search rules

pub returns-in_default-clause-read : goal.returns-in_default-clause-read
returns-in_default-clause-read c =
    let none : length c.args.samples.now ≤ 0 = search rules in
    ap record_entries (returns-in_default-clause-bytes c) ∙ sample_record_again c.args.samples.now (none_fit c.args.samples.now none)

pub returns-clause-bytes : goal.returns-clause-bytes
returns-clause-bytes c = search rules

pub returns-clause-read : goal.returns-clause-read
returns-clause-read c = ap record_entries (returns-clause-bytes c) ∙ sample_record_again c.args.samples.now c.in_ok-put_samples.ensures.fit
