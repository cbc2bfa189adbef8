use Rattle.std.proofs.Common.{arith}
use Rattle.rw_head.proofs.NameLemmas.{stands}
use Rattle.rw_head.proofs.places.Places.known.Goals as goal

pub returns-clause-known : goal.returns-clause-known
returns-clause-known c =
    let h = c.in_ok-rest.ensures in
    record {
      labels = c.index.result.now;
      head = h.0;
      stands = stands c.args.self.now.tree c.args.self.now.names.items c.in_ok-place.field-0.now c.index.result.now c.args.self.now.named (let len = c.len.ensures in omega arith) c.index.ensures;
      is = h.1;
      parts = h.2;
    }
