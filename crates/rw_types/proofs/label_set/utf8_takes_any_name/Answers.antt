use Rattle.rw_types.proofs.NameLemmas.{legacy_is_utf8, utf8_has_no_bad_name}
use Rattle.rw_types.proofs.label_set.utf8_takes_any_name.Goals as goal

pub returns : goal.returns
returns c = record { no_bad_name = utf8_has_no_bad_name; legacy = legacy_is_utf8 }
