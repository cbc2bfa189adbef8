use Rattle.std.proofs.Common.{append_assoc, refl}
use Rattle.rw_metrics.specs.Html.{table_text}
use Rattle.rw_metrics.proofs.html.push_table.Goals as goal

pub returns : goal.returns
unfolding table_text
returns c =
    rw (
      c.in_ok-push_text-4.ensures,
      c.in_ok-push_statuses.ensures,
      c.in_ok-push_rows.ensures,
      c.in_ok-push_text-3.ensures,
      c.in_ok-push_text-2.ensures,
      c.in_ok-push_text.ensures,
    ) (simp append_assoc refl)
