use Rattle.std.proofs.Common.{◌≡◌, count_by, flat_map, take}
use Rattle.rw_inspect.specs.Finding.{is_missing, position_text}
use Rattle.rw_inspect.proofs.found.Finder.lines.Given as goal

abbrev pub invariant-loop-position : goal.invariant-loop-position
invariant-loop-position l = record {
  text : l.text.items ≡ flat_map (position_text l.segments l.self.entries) (take l.position-index l.self.positions.items);
  missing : l.missing ≡ count_by (is_missing l.self.entries) (take l.position-index l.self.positions.items);
}
