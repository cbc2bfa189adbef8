use Rattle.std.proofs.Common.{◌≡◌, List, true, ◌∙◌, subst, sym}
use Rattle.rw_fields.specs.Fields.{NameValue, can_add}
use Rattle.rw_fields.proofs.FieldLemmas.{stored}
use Rattle.rw_fields.proofs.extra_fields.ExtraFields.add.Goals as goal

pub invariant_of-self-2 : goal.invariant_of-self-2
invariant_of-self-2 c =
    let may = subst (λ (fields : List NameValue). can_add fields (c.args.name.now, c.args.value.now) ≡ true) (sym c.self.view_is) c.requires in
    stored c.self.inside.fields.items c.push_field.new.fields.items c.in_ok-field.field (c.args.name.now, c.args.value.now) c.in_ok-lines.lines.items c.push_line.new.lines.items
    c.in_ok-push_field.ensures.pushed c.in_ok-field.ensures may c.self.invariant.0 (c.in_ok-lines.ensures ∙ c.as_slice.ensures.value ∙ c.self.invariant.1) c.in_ok-push_line.ensures
