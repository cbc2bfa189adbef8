use Rattle.std.proofs.Common.{◌≡◌, ℤ, ap, ◌∙◌, sym, to_z-of_z, to_z, of_z, w64, unsigned_abs, int_lt, pos}
use Rattle.rw_types.proofs.WordLaws.{word_zero, word_none, word_negative, word_positive}
use Rattle.rw_types.proofs.word.bits_of.Goals as goal

pub returns-then-size-eq0 : goal.returns-then-size-eq0
returns-then-size-eq0 c =
    let r : to_z w64 (of_z w64 c.args.m) ≡ c.args.m = to_z-of_z {w = w64} {z = c.args.m} c.ranges.m in
    word_zero c.args.m c.unsigned_abs-size.result (c.unsigned_abs-size.ensures.value ∙ ap unsigned_abs r) c.if-size-eq0.true

pub returns-then-size : goal.returns-then-size
returns-then-size c =
    let r : to_z w64 (of_z w64 c.args.m) ≡ c.args.m = to_z-of_z {w = w64} {z = c.args.m} c.ranges.m in
    word_none c.args.m c.unsigned_abs-size.result (c.unsigned_abs-size.ensures.value ∙ ap unsigned_abs r) c.if-size.true

pub returns-then-m-lt0 : goal.returns-then-m-lt0
returns-then-m-lt0 c =
    let r : to_z w64 (of_z w64 c.args.m) ≡ c.args.m = to_z-of_z {w = w64} {z = c.args.m} c.ranges.m in
    word_negative c.args.m c.unsigned_abs-size.result c.magnitude-word.result (c.unsigned_abs-size.ensures.value ∙ ap unsigned_abs r) c.if-size-eq0.false c.if-size.false
    c.magnitude-word.ensures.word (ap (λ (z : ℤ). int_lt z (pos 0)) (sym r) ∙ c.if-m-lt0.true)

pub returns : goal.returns
returns c =
    let r : to_z w64 (of_z w64 c.args.m) ≡ c.args.m = to_z-of_z {w = w64} {z = c.args.m} c.ranges.m in
    word_positive c.args.m c.unsigned_abs-size.result c.magnitude-word.result (c.unsigned_abs-size.ensures.value ∙ ap unsigned_abs r) c.if-size-eq0.false c.if-size.false
    c.magnitude-word.ensures.word (ap (λ (z : ℤ). int_lt z (pos 0)) (sym r) ∙ c.if-m-lt0.false)
