use Rattle.std.proofs.Common.{[], refl, ap, ◌∙◌, arith}
use Rattle.rw_wal_format.specs.Segments.{Reading}
use Rattle.rw_wal_format.specs.Pieces.{page_size, reading, reading_after}
use Rattle.rw_wal_tail.specs.Places.{stop_after}
use Rattle.rw_wal_tail.proofs.LayoutLogs.{log_read, log_laid_out}
use Rattle.rw_wal_tail.proofs.layout_laws.entries_are_laid_out.Goals as goal

pub returns : goal.returns
unfolding reading
returns c = λ pieces all. (
  λ e. (reading_after page_size [] pieces, stop_after page_size 0 [] pieces, log_laid_out page_size pieces _ _ (omega arith) (refl, refl), e),
  λ h. ap (λ (r : Reading). r.entries) (log_read page_size pieces h.0 h.1 (omega arith) h.2).0
      ∙ h.3,
)
