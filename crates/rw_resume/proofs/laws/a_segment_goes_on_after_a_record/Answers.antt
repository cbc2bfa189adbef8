use Rattle.rw_resume.proofs.GoingLemmas.{read_alike, stops_alike}
use Rattle.rw_resume.proofs.laws.a_segment_goes_on_after_a_record.Goals as goal

pub returns-clause-entries : goal.returns-clause-entries
returns-clause-entries c = read_alike

pub returns-clause-offset : goal.returns-clause-offset
returns-clause-offset c = stops_alike
