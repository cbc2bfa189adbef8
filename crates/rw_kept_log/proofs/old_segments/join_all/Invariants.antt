use Rattle.std.proofs.Common.{◌≡◌, flat_map}
use Rattle.rw_kept_log.proofs.old_segments.join_all.Given as goal

abbrev pub invariant-loop-part : goal.invariant-loop-part
invariant-loop-part l = l.all.items ≡ flat_map (λ p. p.items) l.yielded
