use Rattle.std.proofs.Common.{◌≡◌, ◌-◌, ◌<◌, length}
use Rattle.rw_head.specs.inner.Forgetting.{HasForgotten}
use Rattle.rw_head.proofs.sample_list.SampleList.forget.Given as goal

abbrev pub invariant-loop : goal.invariant-loop
invariant-loop l = record {
  kept : l.self.kept ≡ l.initial.self.kept;
  staged : l.self.staged ≡ l.initial.self.staged;
  gone : HasForgotten l.before l.initial.self.gone l.self.gone;
  left : length l.initial.self.gone < length l.initial.self.kept → length l.self.gone < length l.self.kept;
}

abbrev pub decreases-loop : goal.decreases-loop
decreases-loop l = length l.self.staged - length l.self.gone
