use Rattle.std.proofs.Common.{◌≡◌, ◌++◌, ◌∷◌, [], Some, true, inl, refl, ap, sym, ◌∙◌}
use Rattle.std.proofs.Math.Facts.{to_z-of_z}
use Rattle.rw_types.proofs.shared.RisingLemmas.{Rises-right}
use Rattle.rw_head.specs.Lists.{IsEarlier}
use Rattle.rw_head.specs.Order.{is_later, holds, accept_one}
use Rattle.rw_head.proofs.ForgettingLemmas.{later_with_gone, known_later, known_repeat, known_refused, pushed_after_gone}
use Rattle.rw_head.proofs.sample_list.SampleList.stage.Goals as goal

pub returns-in_err-push-clause-memory : goal.returns-in_err-push-clause-memory
returns-in_err-push-clause-memory c =
    let gone = c.self.inside.gone in
    let xs = c.self.inside.samples in
    let after : is_later c.args.t gone ≡ true = ap (λ z. is_later z gone) (sym (to_z-of_z c.ranges.t)) ∙ sym c.is_later.ensures ∙ c.if-not-is_later.false in
    let later : is_later c.args.t xs ≡ true = ap (λ z. is_later z xs) (sym (to_z-of_z c.ranges.t)) ∙ sym c.is_later-2.ensures ∙ c.if-is_later.true in
    λ failed. inl (sym (ap (λ s. is_later c.args.t s.staged) c.self.view_is) ∙ later_with_gone c.args.t gone xs after ∙ later)

pub invariant_of-self-then-is_later : goal.invariant_of-self-then-is_later
invariant_of-self-then-is_later c =
    pushed_after_gone c.self.inside.kept c.self.inside.gone c.self.inside.samples _ _ c.args.word c.in_ok-push.ensures.ok
    (sym c.is_later.ensures ∙ c.if-not-is_later.false) (sym c.is_later-2.ensures ∙ c.if-is_later.true) c.self.invariant

pub returns-then-is_later-clause-staged : goal.returns-then-is_later-clause-staged
returns-then-is_later-clause-staged c =
    let gone = c.self.inside.gone in
    let xs = c.self.inside.samples in
    let after = ap (λ z. is_later z gone) (sym (to_z-of_z c.ranges.t)) ∙ sym c.is_later.ensures ∙ c.if-not-is_later.false in
    let later = ap (λ z. is_later z xs) (sym (to_z-of_z c.ranges.t)) ∙ sym c.is_later-2.ensures ∙ c.if-is_later.true in
    ap (λ s. accept_one s.staged (c.args.t, c.args.word)) (sym c.self.view_is)
    ∙ known_later gone xs c.push.new.self (c.args.t, c.args.word) c.self.invariant.1 after later (c.in_ok-push.ensures.ok ∙ ap (λ z. xs ++ (z, c.args.word) ∷ []) (to_z-of_z c.ranges.t))

pub holds-requires : goal.holds-requires
holds-requires c = Rises-right IsEarlier c.self.inside.gone c.self.inside.samples c.self.invariant.1

pub returns-then-holds-clause-staged : goal.returns-then-holds-clause-staged
returns-then-holds-clause-staged c =
    let gone = c.self.inside.gone in
    let xs = c.self.inside.samples in
    let after = ap (λ z. is_later z gone) (sym (to_z-of_z c.ranges.t)) ∙ sym c.is_later.ensures ∙ c.if-not-is_later.false in
    let later = ap (λ z. is_later z xs) (sym (to_z-of_z c.ranges.t)) ∙ sym c.is_later-2.ensures ∙ c.if-is_later.false in
    let held = ap (λ z. holds (z, c.args.word) xs) (sym (to_z-of_z c.ranges.t)) ∙ sym c.holds.ensures ∙ c.if-holds.true in
    ap (λ s. accept_one s.staged (c.args.t, c.args.word)) (sym c.self.view_is)
    ∙ known_repeat gone xs (c.args.t, c.args.word) c.self.invariant.1 after later held ∙ ap (λ s. Some s.staged) c.self.view_is

pub returns-clause-staged : goal.returns-clause-staged
returns-clause-staged c =
    let gone = c.self.inside.gone in
    let xs = c.self.inside.samples in
    let after = ap (λ z. is_later z gone) (sym (to_z-of_z c.ranges.t)) ∙ sym c.is_later.ensures ∙ c.if-not-is_later.false in
    let later = ap (λ z. is_later z xs) (sym (to_z-of_z c.ranges.t)) ∙ sym c.is_later-2.ensures ∙ c.if-is_later.false in
    let held = ap (λ z. holds (z, c.args.word) xs) (sym (to_z-of_z c.ranges.t)) ∙ sym c.holds.ensures ∙ c.if-holds.false in
    λ other. (
      refl,
      ap (λ s. accept_one s.staged (c.args.t, c.args.word)) (sym c.self.view_is)
          ∙ known_refused gone xs (c.args.t, c.args.word) c.self.invariant.1 after later held,
    )
