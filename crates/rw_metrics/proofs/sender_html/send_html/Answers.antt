use Rattle.std.proofs.Common.{append_assoc, refl}
use Rattle.rw_metrics.proofs.sender_html.send_html.Goals as goal

pub returns : goal.returns
returns c =
    rw (
      c.in_ok-push_page_end.ensures,
      c.in_ok-push_reading.ensures,
      c.in_ok-push_attempts.ensures,
      c.in_ok-push_drops.ensures,
      c.in_ok-push_samples.ensures,
      c.in_ok-push_text.ensures,
      c.in_ok-push_page_start.ensures,
      c.state.ensures,
      c.new-out.ensures.items,
    ) (simp append_assoc refl)
