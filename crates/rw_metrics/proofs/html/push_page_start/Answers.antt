use Rattle.std.proofs.Common.{append_assoc, refl}
use Rattle.rw_metrics.specs.Html.{page_start}
use Rattle.rw_metrics.proofs.html.push_page_start.Goals as goal

pub returns : goal.returns
unfolding page_start
returns c =
    rw (
      c.in_ok-push_text-5.ensures,
      c.in_ok-push_text-4.ensures,
      c.in_ok-push_text-3.ensures,
      c.in_ok-push_text-2.ensures,
      c.in_ok-push_text.ensures,
    ) (simp append_assoc refl)
