use Rattle.std.proofs.Common.{◌∙◌, ℤ, ap, sym, subst}
use Rattle.std.proofs.Math.Facts.{to_z-of_z}
use Rattle.std.specs.FinMap.{insert}
use Rattle.rw_series_cache.specs.Routing.{Routing, Knows, IsRising, IsSentNext}
use Rattle.rw_series_cache.proofs.shared.KnowsLemmas.{knows_sent, sent_within}
use Rattle.rw_series_cache.proofs.router.Router.sent.Goals as goal

pub note-requires-clause-within : goal.note-requires-clause-within
note-requires-clause-within c =
    let s = c.self.inside in
    let next = subst (λ (x : Routing). IsRising x.cache c.args.series c.args.t) (sym c.self.view_is) c.requires in
    sent_within next.before next.entry s.cache c.args.series c.args.t next.knows next.next

pub returns-clause-knows : goal.returns-clause-knows
returns-clause-knows c before entry knows next =
    let s = c.self.inside in
    let same = ap (λ (x : Routing). x.cache) c.self.view_is in
    let noted = c.note.ensures ∙ ap (λ (z : ℤ). record s.cache { noted = insert s.cache.noted c.args.series z }) (to_z-of_z c.ranges.t) in
    knows_sent before entry s.cache c.note.new.self c.args.series c.args.t (subst (Knows before) (sym same) knows)
    (subst (λ x. IsSentNext x.choice before entry c.args.series c.args.t) (sym same) next) noted
