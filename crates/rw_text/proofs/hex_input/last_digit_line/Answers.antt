use Rattle.std.proofs.Common.{take, ap, ◌∙◌}
use Rattle.rw_text.specs.HexText.{line_after}
use Rattle.rw_text.proofs.HexLineLemmas.{last_at}
use Rattle.rw_text.proofs.hex_input.last_digit_line.Goals as goal

pub returns : goal.returns
returns c = c.line_after.ensures ∙ ap line_after (ap (λ n. take n c.args.text.now) c.unwrap_or-at.ensures ∙ last_at _ _ c.last_digit.ensures)
