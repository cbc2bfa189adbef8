use Rattle.std.proofs.Common.{◌≡◌, map, take}
use Rattle.rw_types.specs.Labels.{text_label}
use Rattle.rw_head.specs.inner.Keys.{labels_key, raised_byte}
use Rattle.rw_head.proofs.name.key_of.Given as goal

abbrev pub invariant-loop-name : goal.invariant-loop-name
invariant-loop-name l = map raised_byte l.key.items ≡ labels_key (map text_label (take l.name-index l.texts))
