use Rattle.std.proofs.Common.{◌≡◌}
use Rattle.rw_kept_folder.specs.inner.Loaded.{IsLoaded}
use Rattle.rw_kept_folder.proofs.opened_journal.load_all.Given as goal

abbrev pub invariant-loop-name : goal.invariant-loop-name
invariant-loop-name g l = record {
  loaded : IsLoaded (g.T.SegmentTaker.taken l.fn.taker) (g.T.SegmentTaker.taken l.taker) l.noted.calls l.last l.name-index;
  fixed : g.T.SegmentTaker.fixed l.taker ≡ g.T.SegmentTaker.fixed l.fn.taker;
}
