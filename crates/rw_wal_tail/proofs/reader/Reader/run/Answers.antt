use Rattle.rw_wal_tail.proofs.KeptLaws.{same_self, same_then}
use Rattle.rw_wal_tail.proofs.reader.Reader.run.Goals as goal
use Rattle.rw_types.proofs.shared.AnswerLemmas.{OnErr-always}

pub loop-self-init : goal.loop-self-init
loop-self-init c = record { same = same_self c.args.self.now c.requires; kept = λ n k. k }

pub loop-self-preserved : goal.loop-self-preserved
loop-self-preserved c = record {
  same = same_then c.args.self.now c.loop-self.self c.step.new.self c.loop-self.invariant.same c.step.ensures.same;
  kept = λ n k. c.step.ensures.kept n (c.loop-self.invariant.kept n k);
}

pub returns-in_err-end-clause-certain : goal.returns-in_err-end-clause-certain
returns-in_err-end-clause-certain c n k = OnErr-always c.from_residual.result (c.in_err-end.ensures.certain n (c.loop-self.invariant.kept n k))
