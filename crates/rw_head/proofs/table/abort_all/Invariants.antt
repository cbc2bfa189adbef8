use Rattle.std.proofs.Common.{◌≡◌, ℕ, ◌<◌, false, nat_eq, length, drop, get_or}
use Rattle.std.specs.List.{list_any}
use Rattle.rw_head.specs.Lists.{no_lists}
use Rattle.rw_head.proofs.table.abort_all.Given as goal

abbrev pub invariant-loop-place : goal.invariant-loop-place
invariant-loop-place l = record {
  len : length l.lists.items ≡ length l.initial.lists.items;
  kept : (n : ℕ) → (get_or l.lists.items n no_lists).kept ≡ (get_or l.initial.lists.items n no_lists).kept;
  gone : (n : ℕ) → (get_or l.lists.items n no_lists).gone ≡ (get_or l.initial.lists.items n no_lists).gone;
  settled : (n : ℕ) → n < length l.lists.items → list_any (nat_eq n) (drop l.place-index l.touched) ≡ false → (get_or l.lists.items n no_lists).kept ≡ (get_or l.lists.items n no_lists).staged;
}
