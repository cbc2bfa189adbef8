use Rattle.std.proofs.Common.{◌≡◌, take, length}
use Rattle.std.specs.BTreeMap.{get}
use Rattle.rw_types.specs.Labels.{Labels}
use Rattle.rw_types.specs.LabelOrder.{labels_cmp}
use Rattle.rw_head.specs.inner.Names.{below}
use Rattle.rw_head.proofs.places.Places.truncate.Given as goal

abbrev pub invariant-loop-self : goal.invariant-loop-self
invariant-loop-self l = record {
  below : (q : Labels) → below l.len (get labels_cmp l.self.tree q) ≡ below l.len (get labels_cmp l.initial.self.tree q);
  names : take l.len l.self.names.items ≡ take l.len l.initial.self.names.items;
}

abbrev pub decreases-loop-self : goal.decreases-loop-self
decreases-loop-self l = length l.self.names.items
