use Rattle.std.proofs.Common.{◌≡◌, ◌<◌, ◌≤◌, ◌-◌, ◌++◌, [], true, length}
use Rattle.std.specs.Io.KnownBytes.{Keeps, prepend_known}
use Rattle.rw_endpoint.specs.inner.Reading.{ReadsMore}
use Rattle.rw_endpoint.proofs.input.read_body.Given as goal

abbrev pub invariant-loop-body : goal.invariant-loop-body
invariant-loop-body g l = record {
  kept : Keeps (prepend_known l.fn.pending (g.T.ReadFrom.remaining l.fn.reader)) (prepend_known (l.body.items ++ l.pending) (g.T.ReadFrom.remaining l.reader));
  recorded : ReadsMore (g.T.ReadFrom.past l.fn.reader) (g.T.ReadFrom.past l.reader) (λ more. l.body.items ++ l.pending ≡ l.fn.pending ++ more);
  bound : length l.body.items ≤ l.n;
  empty : length l.body.items < l.n → l.pending ≡ [];
  sure : g.T.ReadFrom.is_sure l.fn.reader ≡ true → g.T.ReadFrom.is_sure l.reader ≡ true;
}

abbrev pub decreases-loop-body : goal.decreases-loop-body
decreases-loop-body g l = l.n - length l.body.items
