use Rattle.std.proofs.Common.{◌≤◌, ◌<◌, ◌-◌, [], Bool, length}
use Rattle.rw_types.specs.declared.transfer.ReadFault.TheVariants.{Failed}
use Rattle.rw_resume.specs.inner.Passing.{AreText, PassesTo}
use Rattle.rw_resume.proofs.passing.feed_all.Given as goal

abbrev pub invariant-loop-passed : goal.invariant-loop-passed
invariant-loop-passed g l = record {
  most : l.passed ≤ l.count;
  room : 0 < length l.buf;
  passes : (c : Bool) → AreText c [] l.fn.tail.pieces → PassesTo (g.S.Segments.gave l.fn.log) (g.S.Segments.gave l.log) l.passed c l.tail l.fn.definitions l.definitions;
  later : g.S.Segments.may_fail l.log Failed → g.S.Segments.may_fail l.fn.log Failed;
}

abbrev pub decreases-loop-passed : goal.decreases-loop-passed
decreases-loop-passed g l = l.count - l.passed
