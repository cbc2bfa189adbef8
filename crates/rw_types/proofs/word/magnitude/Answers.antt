use Rattle.std.proofs.Common.{◌≡◌, ℕ, ◌+◌, sym, ◌∙◌, arith, ap₂}
use Rattle.rw_types.proofs.WordLaws.{parts_of, fraction_of}
use Rattle.rw_types.proofs.word.magnitude.Goals as goal
use Rattle.rw_types.proofs.word.magnitude.Goals.{then-top-lt53, else-top-lt53, After-row_known-1}

pub overflow_sub-above : goal.overflow_sub-above
overflow_sub-above c = (parts_of c.args.n c.scaled.result c.requires.positive c.requires.exact c.scaled.ensures).low

pub scaled-fraction-requires-clause-fits : goal.scaled-fraction-requires-clause-fits
scaled-fraction-requires-clause-fits c =
    let p = parts_of c.args.n c.scaled.result c.requires.positive c.requires.exact c.scaled.ensures in
    omega (arith, p.same, p.below)

fraction_is : (c : After-row_known-1) → c.if-top-lt53.fraction ≡ fraction_of c.args.n
fraction_is c =
    let p = parts_of c.args.n c.scaled.result c.requires.positive c.requires.exact c.scaled.ensures in
    elim c.if-top-lt53.branch [
      | then-top-lt53 w ↦ w.fraction-is ∙ w.scaled-fraction.ensures ∙ p.same
      | else-top-lt53 w ↦ w.fraction-is ∙ sym (p.none w.if-top-lt53.false)
    ]

pub returns-clause-word : goal.returns-clause-word
returns-clause-word c = ap₂ (λ (a b : ℕ). a + b) c.scaled-2.ensures (fraction_is c)

pub returns-clause-no_sign : goal.returns-clause-no_sign
returns-clause-no_sign c =
    let p = parts_of c.args.n c.scaled.result c.requires.positive c.requires.exact c.scaled.ensures in
    omega (arith, p.small, p.below, fraction_is c, c.scaled-2.ensures)

pub overflow_add-result : goal.overflow_add-result
overflow_add-result c =
    let p = parts_of c.args.n c.scaled.result c.requires.positive c.requires.exact c.scaled.ensures in
    omega (arith, p.small, p.below, fraction_is c, c.scaled-2.ensures)
