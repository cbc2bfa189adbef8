use Rattle.std.proofs.Common.{subst}
use Rattle.std.specs.List.{filter}
use Rattle.rw_log_folder.specs.Order.{IsGap, is_after_checkpoint}
use Rattle.rw_log_folder.proofs.NewestLemmas.{number_of_newest}
use Rattle.rw_log_folder.proofs.order.log_order.Goals as goal

pub returns-in-Some-clause-missing : goal.returns-in-Some-clause-missing
returns-in-Some-clause-missing c n = (
  λ e. (c.in-Some.checkpoint, c.in-Some.ensures, (c.log_from.ensures.missing n).0 e),
  λ is. (c.log_from.ensures.missing n).1
      (subst (λ k. IsGap k (filter (is_after_checkpoint k) c.args.listing.segments.items) n)
      (number_of_newest c.args.listing.checkpoints.items is.0 c.in-Some.checkpoint is.1 c.in-Some.ensures) is.2),
)
