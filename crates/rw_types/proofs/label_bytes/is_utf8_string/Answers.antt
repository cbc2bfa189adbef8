use Rattle.std.proofs.Common.{sym}
use Rattle.std.proofs.lemmas.Str.{is_utf8-from_IsUtf8}
use Rattle.rw_types.proofs.label_bytes.is_utf8_string.Goals as goal

pub returns : goal.returns
returns c = sym (is_utf8-from_IsUtf8 _ c.utf8.text)
