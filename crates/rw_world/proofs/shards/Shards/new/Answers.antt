use Rattle.std.proofs.Common.{◌∙◌, ap}
use Rattle.std.specs.Ordering.{nat_cmp}
use Rattle.std.specs.FinMap.{get, get-empty}
use Rattle.rw_world.proofs.SendingLemmas.{new_kept}
use Rattle.rw_world.proofs.shards.Shards.new.Goals as goal

pub invariant_of-result : goal.invariant_of-result
invariant_of-result c =
    new_kept c.args.target c.args.capacity c.args.batch 0 c.args.shards c.in_ok-new_shards.field-0.items 0 c.new.result c.in_ok-new_shards.ensures c.requires.batch_some c.requires.batch_most c.requires.some c.requires.most
    (λ p le. ap (λ m. get m p) c.new.ensures.names ∙ get-empty nat_cmp p)
