use Rattle.std.proofs.Common.{◌≡◌, ◌++◌, take, map}
use Rattle.rw_kept_log.proofs.memory.MemoryJournal.give_all.Given as goal

abbrev pub invariant-loop-text : goal.invariant-loop-text
invariant-loop-text g l = record {
  given : g.T.SegmentTaker.taken l.taker ≡ g.T.SegmentTaker.taken l.fn.taker ++ map (λ v. v.items) (take l.text-index l.text-items);
  fixed : g.T.SegmentTaker.fixed l.taker ≡ g.T.SegmentTaker.fixed l.fn.taker;
}
