use Rattle.std.proofs.Common.{◌≡◌, ◌<◌, length, true}
use Rattle.test_send.proofs.kept.follow_into.Given as goal

abbrev pub invariant-loop : goal.invariant-loop
invariant-loop g l = record {
  room : 0 < length l.buf;
  followed : l.follower ≡ true → g.S.Segments.is_followed l.segments;
}
