use Rattle.std.proofs.Common.{nat_eq, refl}
use Rattle.std.specs.HashMap.{get}
use Rattle.rw_kept_head.proofs.RestoringLemmas.{takes_at, place_of_noted, placed_still}
use Rattle.rw_kept_head.proofs.restoring.add_sample.Goals as goal

pub returns-in_ok-done-in-Some-clause-done : goal.returns-in_ok-done-in-Some-clause-done
returns-in_ok-done-in-Some-clause-done g c =
    takes_at c.args.head.now.head.limits c.args.head.now.head.store c.append_at.new.head.head.store (λ n. get nat_eq c.args.series.now n) c.args.reference c.in-Some.place c.args.sample c.args.head.now.places _
    c.in_ok-done-in-Some.done refl (place_of_noted (λ n. get nat_eq c.args.places.now n) (λ n. get nat_eq c.args.series.now n) c.args.head.now.places c.args.reference c.in-Some.place c.requires c.in-Some.ensures)
    c.in_ok-done-in-Some.ensures.done

pub returns-in_ok-done-in-Some-clause-places : goal.returns-in_ok-done-in-Some-clause-places
returns-in_ok-done-in-Some-clause-places g c =
    placed_still (λ n. get nat_eq c.args.places.now n) (λ n. get nat_eq c.args.series.now n) c.args.head.now.places c.append_at.new.head.places c.in_ok-done-in-Some.ensures.places c.requires
