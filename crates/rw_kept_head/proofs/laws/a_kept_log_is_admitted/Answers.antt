use Rattle.std.proofs.Common.{List, sym, subst}
use Rattle.rw_types.specs.declared.entry.Entry.{Entry}
use Rattle.rw_kept_log.specs.Additions.{samples_of_labels}
use Rattle.rw_kept_head.specs.Admitted.{MayHold}
use Rattle.rw_kept_head.proofs.AdmittedLemmas.{log_held, left_held}
use Rattle.rw_kept_head.proofs.laws.a_kept_log_is_admitted.Goals as goal

pub returns-clause-kept : goal.returns-clause-kept
returns-clause-kept c = log_held

pub returns-clause-answering : goal.returns-clause-answering
returns-clause-answering c = left_held

pub returns-clause-opening : goal.returns-clause-opening
returns-clause-opening c = λ limits segments left same admitted. subst (λ (es : List Entry). MayHold limits (samples_of_labels es)) (sym same) admitted
