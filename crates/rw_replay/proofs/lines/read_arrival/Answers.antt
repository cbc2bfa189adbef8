use Rattle.rw_replay.proofs.OrderLemmas.{no_arrival_number, no_arrival_how}
use Rattle.rw_replay.proofs.lines.read_arrival.Goals as goal

pub returns-in_default-read_number : goal.returns-in_default-read_number
returns-in_default-read_number c =
    no_arrival_number c.args.text.now c.in-Some.number.now c.in-Some.how.now c.in-Some.ensures.0 c.in-Some.ensures.1 c.in_default-read_number.ensures

pub returns-in_default-read_how : goal.returns-in_default-read_how
returns-in_default-read_how c =
    no_arrival_how c.args.text.now c.in-Some.number.now c.in-Some.how.now c.in-Some.ensures.0 c.in-Some.ensures.1 c.in_default-read_how.ensures
