use Rattle.std.proofs.lemmas.Str.{IsUtf8-from_is_utf8}
use Rattle.rw_types.proofs.label_set.text_of.Goals as goal

pub unreachable-requires : goal.unreachable-requires
unreachable-requires c = c.in-Err.ensures.cases.0 (IsUtf8-from_is_utf8 _ c.requires)
