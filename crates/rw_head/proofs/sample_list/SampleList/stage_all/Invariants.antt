use Rattle.std.proofs.Common.{◌≡◌, ◌+◌, ◌≤◌, length, drop, Some}
use Rattle.rw_head.specs.Order.{points, accept}
use Rattle.rw_head.proofs.sample_list.SampleList.stage_all.Given as goal

abbrev pub invariant-loop-sample : goal.invariant-loop-sample
invariant-loop-sample l = record {
  gone : l.self.gone ≡ l.initial.self.gone;
  kept : l.self.kept ≡ l.initial.self.kept;
  grown : length l.initial.self.staged ≤ length l.self.staged;
  few : length l.self.staged ≤ length l.initial.self.staged + l.sample-index;
  same : l.sample-index ≡ 0 → l.self.staged ≡ l.initial.self.staged;
  staged : accept (Some l.initial.self.staged) (points l.samples) ≡ accept (Some l.self.staged) (points (drop l.sample-index l.samples));
}
