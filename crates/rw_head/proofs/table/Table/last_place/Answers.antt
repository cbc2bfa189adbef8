use Rattle.std.proofs.Common.{List, length, map, ap, subst, ◌≡◌, ◌+◌, ◌∙◌, arith}
use Rattle.std.specs.Prelude.{IfSome}
use Rattle.rw_types.specs.Labels.{Labels, text_label}
use Rattle.rw_head.specs.Placed.{IsPlaced}
use Rattle.rw_head.proofs.PlacedLemmas.{if_placed}
use Rattle.rw_head.proofs.table.Table.last_place.Goals as goal

pub returns : goal.returns
returns c =
    let noted : length c.self.inside.touched.items + length c.self.inside.fresh.items ≡ 0 = ap (λ s. s.noted) c.self.view_is ∙ c.requires in
    subst (λ (ns : List Labels). IfSome c.last.result (λ n. IsPlaced n (map text_label c.args.texts.now) ns)) (ap (λ s. s.placed) c.self.view_is)
    (if_placed c.self.inside.places.tree c.self.inside.places.names.items c.self.inside.fresh.items (map text_label c.args.texts.now) c.last.result c.self.inside.places.named (omega (arith, noted)) c.last.ensures.place)
