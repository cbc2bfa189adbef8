use Rattle.std.proofs.Common.{subst, sym, ◌∙◌}
use Rattle.rw_head.specs.Growth.{sample_count}
use Rattle.rw_head.specs.inner.Growth.{HoldsNoneRefused}
use Rattle.rw_head.proofs.shared.GrowthLemmas.{Grown, kept_grown, ready_again, blocks_kept}
use Rattle.rw_head.proofs.head.Head.admit_body.Given.{Over}
use Rattle.rw_head.proofs.head.Head.admit_body.Goals as goal

grown_inside : (g : Over) (c : goal.After-commit g) → Grown c.self.inside.table.kept c.commit.new.self.kept (sample_count c.in-Ok-2.ensures.staged.0)
grown_inside g c =
    let taken = c.in-Ok-2.ensures.staged in
    kept_grown c.self.inside.bounds taken.0 c.self.inside.table c.stage_body-staged.new.table.staged c.commit.new.self.kept c.self.invariant.0 taken.2 c.commit.ensures.kept

grown : (g : Over) (c : goal.After-commit g) → Grown c.args.self.now.store c.commit.new.self.kept (sample_count c.in-Ok-2.ensures.staged.0)
grown g c = rw (← c.self.view_is) (grown_inside g c)

pub invariant_of-self-in-Ok-2 : goal.invariant_of-self-in-Ok-2
invariant_of-self-in-Ok-2 g c = (
  ready_again c.self.inside.table.kept (sample_count c.in-Ok-2.ensures.staged.0) c.commit.new.self (grown_inside g c) (c.commit.ensures.staged ∙ sym c.commit.ensures.kept) c.commit.ensures.noted,
  subst (HoldsNoneRefused c.self.inside.bounds) (sym c.commit.ensures.kept) c.in-Ok-2.ensures.within,
  c.commit.ensures.forgets ∙ c.stage_body-staged.ensures.forgets ∙ c.self.invariant.2,
)

pub returns-in-Ok-2-clause-taken : goal.returns-in-Ok-2-clause-taken
returns-in-Ok-2-clause-taken g c = λ _.
    let grows = grown g c in
    (c.in-Ok-2.ensures.staged.0, c.in-Ok-2.ensures.staged.1, grows.few)

pub returns-in-Ok-2-clause-more : goal.returns-in-Ok-2-clause-more
returns-in-Ok-2-clause-more g c = let grows = grown g c in grows.more

pub returns-in-Ok-2-clause-rises : goal.returns-in-Ok-2-clause-rises
returns-in-Ok-2-clause-rises g c = let grows = grown_inside g c in grows.rises

pub returns-in-Ok-2-clause-blocks : goal.returns-in-Ok-2-clause-blocks
returns-in-Ok-2-clause-blocks g c = let grows = grown g c in blocks_kept _ _ _ grows
