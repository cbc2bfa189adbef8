use Rattle.std.proofs.Common.{◌≡◌, ◌++◌, map, drop}
use Rattle.rw_head.specs.Blocks.{joined_blocks}
use Rattle.rw_head.proofs.blocks.copy_blocks.Given as goal

abbrev pub invariant-loop-block : goal.invariant-loop-block
invariant-loop-block l = l.samples.items ++ joined_blocks (map (λ b. b.value) (drop l.block-index l.sealed)) ≡ l.initial.samples.items ++ joined_blocks (map (λ b. b.value) l.sealed)
