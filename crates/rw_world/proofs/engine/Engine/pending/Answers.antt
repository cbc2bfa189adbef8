use Rattle.std.proofs.Common.{◌≡◌, ◌∙◌, ℕ, List, [], ◌∷◌, ◌++◌, sym, ap}
use Rattle.std.specs.Prelude.{◌==◌}
use Rattle.std.specs.List.{list_any}
use Rattle.rw_machine.specs.Worlds.{World, is_pending}
use Rattle.rw_world.specs.Machine.{Machine}
use Rattle.rw_world.proofs.ReportLemmas.{up_to_taken, up_to_left}
use Rattle.rw_world.proofs.engine.Engine.pending.Goals as goal
use Rattle.rw_world.proofs.engine.Engine.pending.Goals.{then-stands+in_ok-push, else-stands}

pub loop-pos-preserved : goal.loop-pos-preserved
loop-pos-preserved c =
    let w : World = c.args.self.now.world in
    let pos = c.loop-pos.pos in
    let here : is_pending w pos ≡ c.stands.result = ap (λ (m : Machine). is_pending m.world pos) (sym c.self.view_is) ∙ sym (c.in_ok-pending.ensures.found pos) ∙ ap (list_any (λ (p : ℕ). p == pos)) (sym c.deref.ensures.value) ∙ sym c.stands.ensures in
    elim c.if-stands.branch [
      | then-stands+in_ok-push b ↦ ap (λ v. v.items) b.samples-is ∙ b.in_ok-push.ensures.items ∙ ap (λ (xs : List ℕ). xs ++ pos ∷ []) c.loop-pos.invariant ∙ sym (up_to_taken (is_pending w) pos (here ∙ b.if-stands.true))
      | else-stands b ↦ ap (λ v. v.items) b.samples-is ∙ c.loop-pos.invariant ∙ sym (up_to_left (is_pending w) pos (here ∙ b.if-stands.false))
    ]
