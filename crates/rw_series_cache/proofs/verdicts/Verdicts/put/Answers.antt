use Rattle.std.proofs.Common.{nat_eq, OnOk, Some, subst, arith}
use Rattle.std.specs.HashMap.{get, Updates}
use Rattle.rw_series_cache.proofs.VerdictLemmas.{put_in_table, put_beside}
use Rattle.rw_series_cache.proofs.verdicts.Verdicts.put.Goals as goal

pub returns-then-place-len-clause-found : goal.returns-then-place-len-clause-found
returns-then-place-len-clause-found c r =
    put_in_table c.args.self.now.table.items c.args.reference c.args.verdict r (get nat_eq c.args.self.now.beside r) (omega (arith, c.if-place-len.true, c.len.ensures))

pub returns-else-place-len-clause-found : goal.returns-else-place-len-clause-found
returns-else-place-len-clause-found c r =
    let updates = subst (λ put. OnOk put (Updates nat_eq c.args.self.now.beside c.insert-put.new.self c.args.reference (Some c.args.verdict))) c.unwrap.ensures c.insert-put.ensures.updates in
    put_beside c.args.self.now.table.items c.args.reference c.args.verdict r (get nat_eq c.args.self.now.beside r) (get nat_eq c.insert-put.new.self r) (omega (arith, c.if-place-len.false, c.len.ensures))
    (updates.0 r)
