use Rattle.std.proofs.Common.{ap, ◌∙◌}
use Rattle.rw_write_request.specs.Read.{nested, read_label}
use Rattle.rw_write_request.specs.inner.View.{content_view}
use Rattle.rw_write_request.proofs.message_check.check_label.Goals as goal

pub returns-in_ok-label_texts-in-Bytes : goal.returns-in_ok-label_texts-in-Bytes
unfolding nested
returns-in_ok-label_texts-in-Bytes c = (_, ap (nested read_label) (ap content_view c.in-Bytes.is) ∙ c.in_ok-label_texts-in-Bytes.ensures)
