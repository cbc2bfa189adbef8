use Rattle.rw_text.proofs.ValueLemmas.{has_room}
use Rattle.rw_text.proofs.values.read_whole.Goals as goal

pub returns-in-None : goal.returns-in-None
returns-in-None c = λ word m i e. c.in-None.ensures m (has_room m word e) i
