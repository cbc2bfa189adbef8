use Rattle.std.proofs.Common.{ℕ, List, [], ◌∷◌, ◌++◌, codes, ap, ◌∙◌}
use Rattle.rw_fields.proofs.extra_fields.ExtraFields.add_bearer.Goals as goal

pub returns-clause-added : goal.returns-clause-added
returns-clause-added c =
    c.in_ok-add.ensures.added ∙ ap (λ (v : List ℕ). c.args.self.now ++ (codes "Authorization", v) ∷ []) (c.as_str-2.ensures.value ∙ c.in_ok-value.ensures)
