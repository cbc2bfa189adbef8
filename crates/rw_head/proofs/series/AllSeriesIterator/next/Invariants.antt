use Rattle.std.proofs.Common.{◌≡◌, length}
use Rattle.rw_head.specs.Lists.{with_samples}
use Rattle.rw_head.specs.inner.Forgetting.{AreWhole}
use Rattle.rw_head.specs.inner.Lists.{AreWithin}
use Rattle.rw_head.proofs.series.AllSeriesIterator.next.Given as goal

abbrev pub invariant-loop-name : goal.invariant-loop-name
invariant-loop-name l = record {
  left : with_samples l.self-inside.lists.now l.self-inside.places ≡ l.fn.self;
  same : l.lists ≡ l.self-inside.lists.now;
  within : AreWithin (length l.self-inside.lists.now) l.self-inside.places;
  whole : AreWhole l.self-inside.lists.now;
}

abbrev pub decreases-loop-name : goal.decreases-loop-name
decreases-loop-name l = length l.self-inside.places
