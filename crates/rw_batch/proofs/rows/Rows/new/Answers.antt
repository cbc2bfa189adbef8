use Rattle.std.proofs.Common.{length, ap, sym, ◌∙◌, arith}
use Rattle.rw_batch.proofs.RowLemmas.{no_labels, no_lines}
use Rattle.rw_batch.proofs.rows.Rows.new.Goals as goal

pub invariant_of-result : goal.invariant_of-result
invariant_of-result c = record {
  most = c.requires;
  within = omega (arith, ap length c.new.ensures);
  labels_are = no_labels _ _ c.new.ensures c.in_ok-with_capacity.ensures.empty;
  lines_are = no_lines _ _ _ c.new.ensures c.in_ok-with_capacity-2.ensures.items;
  few = omega (arith, ap length c.in_ok-with_capacity-2.ensures.items);
  numbered = ap length c.in_ok-with_capacity-3.ensures.items ∙ sym (ap length c.new.ensures);
  line_room = c.in_ok-with_capacity-2.ensures.capacity;
  number_room = c.in_ok-with_capacity-3.ensures.capacity;
  series_room = omega (arith, c.in_ok-with_capacity.ensures.spare);
}
