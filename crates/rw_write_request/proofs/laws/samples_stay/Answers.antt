use Rattle.rw_write_request.proofs.shared.Meanings.{samples-longer}
use Rattle.rw_write_request.proofs.laws.samples_stay.Goals as goal

pub returns : goal.returns
returns c = samples-longer
