use Rattle.std.proofs.Common.{refl}
use Rattle.rw_text.specs.HexText.{read_text, read_digits}
use Rattle.rw_text.proofs.HexLawLemmas.{all_digits, none_foreign, bytes_back}
use Rattle.rw_text.proofs.hex_laws.hex_text_is_read.Goals as goal

pub returns-clause-whole : goal.returns-clause-whole
unfolding read_text
returns-clause-whole c bytes h = rw (none_foreign bytes h, bytes_back bytes h) refl

pub returns-clause-digits : goal.returns-clause-digits
unfolding read_digits
returns-clause-digits c bytes h = rw (all_digits bytes h, bytes_back bytes h) refl
