use Rattle.std.proofs.Common.{◌<◌, ◌^◌, length, sym, ◌∙◌, ap, subst, arith}
use Rattle.rw_types.specs.LabelFields.{label_fields}
use Rattle.rw_write_request.specs.Parts.{IsHeadOf}
use Rattle.rw_head.proofs.shared.BodyLemmas.{fields_spell}
use Rattle.rw_head.proofs.place.Place.head.Goals as goal

pub returns-then-is_empty : goal.returns-then-is_empty
returns-then-is_empty c =
    let l = c.labels.result.now in
    let short : length (label_fields l) < 2 ^ 64 = omega (arith, ap length c.fields.ensures.fields, c.fields.type_inv) in
    subst (λ m. IsHeadOf c.fields.result.now m) (c.labels.ensures ∙ c.self.view_is)
    (subst (λ b. IsHeadOf b l) (sym c.fields.ensures.fields) (fields_spell l c.fields.ensures.label_set short))
