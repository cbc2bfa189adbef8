use Rattle.std.proofs.Common.{◌≡◌, ◌-◌, ◌++◌, true, length}
use Rattle.std.specs.Io.KnownBytes.{Keeps, prepend_known}
use Rattle.rw_endpoint.specs.inner.Reading.{ReadsMore}
use Rattle.rw_endpoint.proofs.input.read_front.Given as goal

abbrev pub invariant-loop-finding : goal.invariant-loop-finding
invariant-loop-finding g l = record {
  kept : Keeps (prepend_known l.fn.pending (g.T.ReadFrom.remaining l.fn.reader)) (prepend_known l.pending (g.T.ReadFrom.remaining l.reader));
  recorded : ReadsMore (g.T.ReadFrom.past l.fn.reader) (g.T.ReadFrom.past l.reader) (λ more. l.pending ≡ l.fn.pending ++ more);
  sure : g.T.ReadFrom.is_sure l.fn.reader ≡ true → g.T.ReadFrom.is_sure l.reader ≡ true;
}

abbrev pub decreases-loop-finding : goal.decreases-loop-finding
decreases-loop-finding g l = 8192 - length l.pending
