use Rattle.std.proofs.Common.{subst, sym, ◌∙◌}
use Rattle.rw_head.specs.Growth.{sample_count}
use Rattle.rw_head.specs.inner.Growth.{HoldsNoneRefused}
use Rattle.rw_head.proofs.shared.GrowthLemmas.{Grown, kept_grown, ready_again, ready_still, blocks_kept}
use Rattle.rw_head.proofs.head.Head.apply_body.Given.{Over}
use Rattle.rw_head.proofs.head.Head.apply_body.Goals as goal

grown_inside : (g : Over) (c : goal.After-commit g) → Grown c.self.inside.table.kept c.commit.new.self.kept (sample_count c.in-Ok.ensures.staged.0)
grown_inside g c =
    let taken = c.in-Ok.ensures.staged in
    kept_grown c.self.inside.bounds taken.0 c.self.inside.table c.stage_body-staged.new.table.staged c.commit.new.self.kept c.self.invariant.0 taken.2 c.commit.ensures.kept

grown : (g : Over) (c : goal.After-commit g) → Grown c.args.self.now.store c.commit.new.self.kept (sample_count c.in-Ok.ensures.staged.0)
grown g c = rw (← c.self.view_is) (grown_inside g c)

pub invariant_of-self : goal.invariant_of-self
invariant_of-self g c = (
  ready_again c.self.inside.table.kept (sample_count c.in-Ok.ensures.staged.0) c.commit.new.self (grown_inside g c) (c.commit.ensures.staged ∙ sym c.commit.ensures.kept) c.commit.ensures.noted,
  subst (HoldsNoneRefused c.self.inside.bounds) (sym c.commit.ensures.kept) c.in-Ok.ensures.within,
  c.commit.ensures.forgets ∙ c.stage_body-staged.ensures.forgets ∙ c.self.invariant.2,
)

pub returns-in-Ok-clause-taken : goal.returns-in-Ok-clause-taken
returns-in-Ok-clause-taken g c = λ _.
    let grows = grown g c in
    (c.in-Ok.ensures.staged.0, c.in-Ok.ensures.staged.1, grows.few)

pub returns-in-Ok-clause-more : goal.returns-in-Ok-clause-more
returns-in-Ok-clause-more g c = let grows = grown g c in grows.more

pub returns-in-Ok-clause-rises : goal.returns-in-Ok-clause-rises
returns-in-Ok-clause-rises g c = let grows = grown_inside g c in grows.rises

pub returns-in-Ok-clause-blocks : goal.returns-in-Ok-clause-blocks
returns-in-Ok-clause-blocks g c = let grows = grown g c in blocks_kept _ _ _ grows

pub invariant_of-self-in-Err : goal.invariant_of-self-in-Err
invariant_of-self-in-Err g c = (
  ready_still c.self.inside.table c.stage_body-staged.new.table c.abort.new.self c.self.invariant.0 c.stage_body-staged.ensures.kept c.abort.ensures.kept c.abort.ensures.staged c.abort.ensures.noted,
  subst (HoldsNoneRefused c.self.inside.bounds) (sym (c.abort.ensures.kept ∙ c.stage_body-staged.ensures.kept)) c.self.invariant.1,
  c.abort.ensures.forgets ∙ c.stage_body-staged.ensures.forgets ∙ c.self.invariant.2,
)
