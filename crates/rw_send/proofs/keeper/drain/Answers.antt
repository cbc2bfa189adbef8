use Rattle.std.proofs.Common.{◌≡◌, sym, ◌∙◌, subst, arith}
use Rattle.rw_sender.specs.Feeders.{Sorting, log_of}
use Rattle.rw_send.proofs.EpochSizeLemmas.{ok_so, sizes_asked}
use Rattle.rw_send.proofs.keeper.drain.Goals as goal

pub returns-clause-soon : goal.returns-clause-soon
returns-clause-soon g c =
    let asked = c.args.sharding in
    let well = sym c.is_err.ensures.value ∙ c.if-is_err.false in
    let next = c.within_bounds-next in
    record {
      log = c.reshard.ensures.log;
      limit = c.reshard.ensures.limit;
      compared = c.reshard.ensures.compared;
      sizes = sizes_asked asked.fewest asked.most asked.shards 0 0 next.result.shards (record { placed = 0; resolved = 0; backlog = 0 }) c.args.shipper.now c.reshard.new.self c.reshard.result asked.range.1 c.load.ensures.placed
          well c.reshard.ensures.compared c.reshard.ensures.drained c.reshard.ensures.opened next.ensures.shards;
      shards = (ok_so c.reshard.result c.reshard.ensures.opened well).1;
      range = (next.ensures.fewest, next.ensures.most);
      start = (next.ensures.placed, next.ensures.resolved);
      live = ok_so c.reshard.result c.reshard.ensures.fault well;
    }

pub returns-clause-drained : goal.returns-clause-drained
returns-clause-drained g c =
    let well = sym c.is_err.ensures.value ∙ c.if-is_err.false in
    record {
      live = ok_so c.reshard.result c.reshard.ensures.fault well;
      put = (subst (λ (l : Sorting). l.placed ≡ log_of l) (sym c.reshard.ensures.log) (c.load.ensures.read c.requires.live), c.reshard.ensures.placed);
      resolved = ok_so c.reshard.result c.reshard.ensures.drained well;
      fresh = (ok_so c.reshard.result c.reshard.ensures.opened well).2;
    }

pub returns-then-is_err-clause-unset : goal.returns-then-is_err-clause-unset
returns-then-is_err-clause-unset g c = record { log = c.reshard.ensures.log; limit = c.reshard.ensures.limit; fleet = c.reshard.ensures.compared }

pub returns-clause-bounds : goal.returns-clause-bounds
returns-clause-bounds g c =
    let next = c.within_bounds-next.ensures in
    let low = next.bounds.0 in
    let high = next.bounds.1 in
    let fewest = next.fewest in
    let most = next.most in
    (omega arith, omega arith)
