use Rattle.std.proofs.Common.{length, ap, arith}
use Rattle.rw_head.proofs.AddedLemmas.{added_first, first_within, rest_within, none_added}
use Rattle.rw_head.proofs.added.AllAddedIterator.next.Goals as goal

pub invariant_of-self : goal.invariant_of-self
invariant_of-self c = (
  rest_within (length c.self.inside.lists.now) c.self.inside.touched.now c.in-Some.rest.now c.in-Some.place.now c.in-Some.ensures.cases.0 c.self.invariant.0,
  c.self.invariant.1,
)

pub returns-in-Some-clause-steps : goal.returns-in-Some-clause-steps
returns-in-Some-clause-steps c =
    let within = first_within (length c.self.inside.lists.now) c.self.inside.touched.now c.in-Some.rest.now c.in-Some.place.now c.in-Some.ensures.cases.0 c.self.invariant.0 in
    added_first c.self.inside.names.now c.self.inside.lists.now c.self.inside.touched.now c.in-Some.rest.now c.in-Some.place.now
    c.labels.result.now c.index-names-place.result c.index-lists-place.result c.args.self.now c.self.view_is c.in-Some.ensures.cases.0
    c.labels.ensures c.index-names-place.is c.index-lists-place.is (omega (arith, within, c.self.invariant.1)) within

pub returns-in-Some-clause-goes : goal.returns-in-Some-clause-goes
returns-in-Some-clause-goes c = record {
  on = λ f. (tt, tt, omega (arith, ap length (returns-in-Some-clause-steps c)));
  keeps = tt;
  rests = λ f. tt;
}

pub returns-in-None-clause-steps : goal.returns-in-None-clause-steps
returns-in-None-clause-steps c =
    let none = none_added c.self.inside.names.now c.self.inside.lists.now c.self.inside.touched.now c.args.self.now c.self.view_is c.in-None.ensures.cases in
    (none, none)
