use Rattle.std.proofs.Common.{◌∙◌, sym}
use Rattle.rw_receive.proofs.service.serve_head.Goals as goal

pub returns-clause-received : goal.returns-clause-received
returns-clause-received g c = record {
  received = record {
    seats = c.in_ok-seats.seats.items;
    all = sym c.in_ok-seats.seats.ok.0 ∙ c.in_ok-seats.ensures.all ∙ c.in-Ok.ensures.seats;
    gathered = c.gather.ensures.gathered.0;
    rises = c.gather.ensures.rises;
  };
  admitted = c.gather.ensures.gathered.1;
}
