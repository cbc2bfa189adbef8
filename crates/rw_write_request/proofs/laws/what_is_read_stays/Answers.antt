use Rattle.rw_write_request.proofs.ReadOn.{read_longer}
use Rattle.rw_write_request.proofs.laws.what_is_read_stays.Goals as goal

pub returns : goal.returns
returns c = read_longer
