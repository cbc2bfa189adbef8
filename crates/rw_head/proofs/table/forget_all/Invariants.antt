use Rattle.std.proofs.Common.{◌≡◌, ℕ, length, get_or}
use Rattle.rw_head.specs.Lists.{no_lists}
use Rattle.rw_head.proofs.table.forget_all.Given as goal

abbrev pub invariant-loop-place : goal.invariant-loop-place
invariant-loop-place l = record {
  len : length l.lists.items ≡ length l.initial.lists.items;
  kept : (n : ℕ) → (get_or l.lists.items n no_lists).kept ≡ (get_or l.initial.lists.items n no_lists).kept;
  staged : (n : ℕ) → (get_or l.lists.items n no_lists).staged ≡ (get_or l.initial.lists.items n no_lists).staged;
}
