use Rattle.std.proofs.Common.{◌≡◌, ◌+◌, ◌-◌, ◌≤◌, length, take, drop}
use Rattle.rw_kept_log.specs.Journal.{with_more, Only, LeavesOnly}
use Rattle.rw_kept_log.specs.Torn.{IsTornLog}
use Rattle.rw_kept_log.proofs.pages.write_in_pages.Given as goal

-- the first bytes are written and synced, and the rest is left
abbrev pub invariant-loop-rest : goal.invariant-loop-rest
invariant-loop-rest g l = record {
  at : l.offset ≤ l.at;
  left : l.at - l.offset + length l.rest ≡ length l.bytes;
  rest : l.rest ≡ drop (l.at - l.offset) l.bytes;
  written : g.J.Journal.seen l.journal ≡ with_more (g.J.Journal.seen l.fn.journal) (take (l.at - l.offset) l.bytes);
  synced : Only (g.J.Journal.seen l.journal) (g.J.Journal.may_leave l.journal);
  faults : g.J.Journal.faults l.fn.journal ≤ g.J.Journal.faults l.journal;
  moments : LeavesOnly g.J.Journal.moment g.J.Journal.left_since l.fn.journal l.journal (IsTornLog g.J.Journal.tears l.page l.offset (g.J.Journal.seen l.fn.journal) l.bytes);
}

abbrev pub decreases-loop-rest : goal.decreases-loop-rest
decreases-loop-rest g l = length l.rest
