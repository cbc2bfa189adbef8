use Rattle.std.proofs.Common.{sym, subst}
use Rattle.rw_kept_log.specs.Definitions.{IsDefinedOnce}
use Rattle.rw_kept_head.proofs.KeptLemmas.{left_once}
use Rattle.rw_kept_head.proofs.laws.what_is_left_is_defined_once.Goals as goal

pub returns-clause-answering : goal.returns-clause-answering
returns-clause-answering g c = left_once c.segments_add_up.ensures c.a_beginning_is_defined_once.ensures g.J.Journal.tears

pub returns-clause-opening : goal.returns-clause-opening
returns-clause-opening g c = λ segments left same once. subst IsDefinedOnce (sym same) once
