use Rattle.std.proofs.Common.{nat_eq, sym, rules}
use Rattle.std.specs.HashMap.{get}
use Rattle.rw_kept_head.proofs.RestoringLemmas.{takes_to}
use Rattle.rw_kept_head.proofs.restoring.add_first.Goals as goal

pub returns-in_ok-insert-in-Some-clause-done : goal.returns-in_ok-insert-in-Some-clause-done
returns-in_ok-insert-in-Some-clause-done g c =
    let there = sym c.in-Some.ensures.value in
    takes_to c.utf8_takes_any_name.ensures.legacy c.args.head.now.head.limits c.args.head.now.head.store c.add_to.new.head.head.store (λ n. get nat_eq c.args.series.now n) _ c.args.reference c.args.sample c.in-Some.known.now
    c.add_to.new.known c.in_ok-done-in-Some.done there ((c.get_mut.follows.holds c.add_to.new.known).3 (search rules)).0 c.in_ok-done-in-Some.ensures.done
