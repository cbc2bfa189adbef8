use Rattle.std.proofs.Common.{length, ap, ap₂, sym, ◌∙◌, arith}
use Rattle.std.specs.Str.{bytes_eq}
use Rattle.rw_types.proofs.FieldLemmas.{equal_fields}
use Rattle.rw_types.proofs.label_set.LabelSetPartialEq.eq.Goals as goal

pub returns : goal.returns
returns c =
    let ours = c.self.invariant.1 in
    let theirs = c.other.invariant.1 in
    rw (sym c.self.view_is, sym c.other.view_is)
    (c.eq.ensures ∙ ap₂ bytes_eq ours theirs ∙ equal_fields _ _ (omega (arith, ap length ours)) (omega (arith, ap length theirs)))
