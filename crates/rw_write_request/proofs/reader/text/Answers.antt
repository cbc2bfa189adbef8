use Rattle.std.proofs.Common.{ap, ◌∙◌}
use Rattle.rw_write_request.specs.inner.View.{content_view}
use Rattle.rw_write_request.specs.Read.{text}
use Rattle.rw_write_request.proofs.TextReads.{text-ok, text-bad}
use Rattle.rw_write_request.proofs.reader.text.Goals as goal

pub returns-in-Ok : goal.returns-in-Ok
returns-in-Ok c = ap text (ap content_view c.in-Bytes.is) ∙ text-ok _ _ c.in-Ok.ensures.cases.0 c.in-Ok.ensures.cases.1

pub returns-in-Err : goal.returns-in-Err
returns-in-Err c = ap text (ap content_view c.in-Bytes.is) ∙ text-bad _ c.in-Err.ensures.cases.0
