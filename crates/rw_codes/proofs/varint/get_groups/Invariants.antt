use Rattle.std.proofs.Common.{◌≡◌, ◌≤◌, ◌<◌, ◌-◌, ◌^◌, drop}
use Rattle.rw_codes.specs.Varint.{number_in_groups, read_uvarint}
use Rattle.rw_codes.proofs.shared.VarintLaws.{above}
use Rattle.rw_codes.proofs.varint.get_groups.Given as goal

-- the groups that are left, above those read, make the number
abbrev pub invariant-loop-i : goal.invariant-loop-i
invariant-loop-i l = record {
  in_range : l.i ≤ 9;
  weighed : l.weight ≡ 128 ^ l.i;
  bound : l.value < l.weight;
  rest : read_uvarint l.bytes ≡ above l.value l.weight (number_in_groups (9 - l.i) (drop l.i l.bytes));
}
