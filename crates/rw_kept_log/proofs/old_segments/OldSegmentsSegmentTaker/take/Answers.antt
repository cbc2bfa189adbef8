use Rattle.std.proofs.Common.{◌≡◌, ◌+◌, ◌++◌, [], ◌∷◌, ℕ, List, Vec, ℤ, w64, rules, FitsSigned, Option, IfSome, is_some, true, true≢false, sym, ap, subst, ◌∙◌, length, length-append}
use Rattle.std.proofs.lemmas.Int.{to_z-of_z}
use Rattle.std.specs.declared.alloc.Global.{Global}
use Rattle.rw_types.specs.Labels.{Labels}
use Rattle.rw_kept_log.specs.Journal.{Segments}
use Rattle.rw_kept_log.specs.inner.Old.{AreOldTexts, IsOldIfSome, IsOldText}
use Rattle.rw_kept_log.proofs.OldLemmas.{old_longer, old_pushed}
use Rattle.rw_kept_log.proofs.old_segments.OldSegmentsSegmentTaker.take.Goals as goal

pub invariant_of-self-in-Some : goal.invariant_of-self-in-Some
invariant_of-self-in-Some c =
    let segments : c.push.new.self ≡ c.self.inside.segments ++ c.args.text.now ∷ [] = c.push.ensures ∙ ap (λ (t : List ℕ). c.self.inside.segments ++ t ∷ []) c.of.ensures in
    let items : c.push_reserved.new.self.items ≡ c.self.inside.found.items ++ c.in-Some.definitions ∷ [] =
    c.push_reserved.ensures.items ∙ ap (λ (ps : List (Vec (ℕ × Labels) Global)). ps ++ c.in-Some.definitions ∷ []) c.reserve.ensures.items in
    let fits : FitsSigned w64 c.self.inside.floor = search rules in
    let here : IsOldText c.self.inside.floor c.args.text.now c.in-Some.definitions.items =
    subst (IsOldIfSome c.self.inside.floor c.args.text.now) c.in-Some.is
    (subst (λ (f : ℤ). IsOldIfSome f c.args.text.now c.in_ok-found.found) (to_z-of_z w64 c.self.inside.floor fits) c.in_ok-found.ensures.old) in
    let all_old : c.self.inside.all ≡ true = subst (λ (o : Option (Vec (ℕ × Labels) Global)). IfSome o (λ v. c.self.inside.all ≡ true)) c.in-Some.is c.in_ok-found.ensures.all in
    let counted = c.self.invariant.1 all_old in (
      subst (λ (ss : Segments). AreOldTexts c.self.inside.floor ss c.push_reserved.new.self.items) (sym segments)
          (subst (AreOldTexts c.self.inside.floor (c.self.inside.segments ++ c.args.text.now ∷ [])) (sym items)
          (old_pushed c.self.inside.floor c.self.inside.segments c.args.text.now c.self.inside.found.items c.in-Some.definitions counted here c.self.invariant.0)),
      λ e. ap length items ∙ length-append c.self.inside.found.items (c.in-Some.definitions ∷ []) ∙ ap (λ (n : ℕ). n + 1) counted
          ∙ sym (ap length segments ∙ length-append c.self.inside.segments (c.args.text.now ∷ [])),
    )

pub invariant_of-self-in_default : goal.invariant_of-self-in_default
invariant_of-self-in_default c =
    let segments : c.push.new.self ≡ c.self.inside.segments ++ c.args.text.now ∷ [] = c.push.ensures ∙ ap (λ (t : List ℕ). c.self.inside.segments ++ t ∷ []) c.of.ensures in (
      subst (λ (ss : Segments). AreOldTexts c.self.inside.floor ss c.reserve.new.self.items) (sym segments)
          (subst (AreOldTexts c.self.inside.floor (c.self.inside.segments ++ c.args.text.now ∷ [])) (sym c.reserve.ensures.items)
          (old_longer c.self.inside.floor c.self.inside.segments c.args.text.now c.self.inside.found.items c.self.invariant.0)),
      λ e. absurd (true≢false (sym e ∙ c.is_some-self-inside.ensures ∙ ap is_some c.in_default.is)),
    )
