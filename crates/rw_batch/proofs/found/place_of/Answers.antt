use Rattle.std.proofs.Common.{◌≡◌, Bool, true, cond, not, [], ◌∷◌, ◌++◌, ap, sym, ◌∙◌}
use Rattle.std.specs.Arc.{arc_value}
use Rattle.std.specs.List.{list_any}
use Rattle.std.proofs.lemmas.Map.Keys.{any_passes_from_place}
use Rattle.rw_types.specs.Labels.{Labels}
use Rattle.rw_types.specs.LabelOrder.{labels_eq}
use Rattle.rw_batch.specs.inner.Kept.{Shared}
use Rattle.rw_batch.proofs.found.place_of.Goals as goal

pub returns-then-is_at-clause-added : goal.returns-then-is_at-clause-added
returns-then-is_at-clause-added c =
    let found = c.is_at.ensures c.if-is_at.true in
    let known : list_any (λ (k : Shared). labels_eq c.args.labels.value (arc_value k)) c.args.sets.now.keys ≡ true =
    any_passes_from_place (λ (k : Shared). labels_eq c.args.labels.value (arc_value k)) c.args.sets.now.keys c.in-Some-get.hint.now found.0 found.1
    (ap (λ (l : Labels). labels_eq l (arc_value found.0)) (sym c.deref.ensures) ∙ found.2) in
    ap not (sym known)

pub returns-then-is_at-clause-keys : goal.returns-then-is_at-clause-keys
returns-then-is_at-clause-keys c =
    let found = c.is_at.ensures c.if-is_at.true in
    let keys = c.args.sets.now.keys in
    let known : list_any (λ (k : Shared). labels_eq c.args.labels.value (arc_value k)) keys ≡ true =
    any_passes_from_place (λ (k : Shared). labels_eq c.args.labels.value (arc_value k)) keys c.in-Some-get.hint.now found.0 found.1
    (ap (λ (l : Labels). labels_eq l (arc_value found.0)) (sym c.deref.ensures) ∙ found.2) in
    ap (λ (b : Bool). cond b keys (keys ++ c.args.labels ∷ [])) (sym known)
