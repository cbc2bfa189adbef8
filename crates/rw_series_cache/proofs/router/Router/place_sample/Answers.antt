use Rattle.std.proofs.Common.{◌≡◌, ◌∙◌, ◌∷◌, ◌++◌, [], false, ap, sym, subst}
use Rattle.std.proofs.Math.Facts.{to_z-of_z}
use Rattle.std.specs.Arc.{arc_value}
use Rattle.std.specs.FinMap.{get}
use Rattle.rw_types.specs.declared.entry.Entry.TheVariants.{Sample}
use Rattle.rw_series_cache.specs.Rising.{rises, is_after}
use Rattle.rw_series_cache.specs.Routing.{Routing, Knows}
use Rattle.rw_series_cache.proofs.shared.KnowsLemmas.{knows_unknown, knows_bad, knows_filtered, knows_falling}
use Rattle.rw_series_cache.proofs.router.Router.place_sample.Goals as goal

pub returns-in-Unknown-clause-knows : goal.returns-in-Unknown-clause-knows
returns-in-Unknown-clause-knows c before knows =
    let s = c.self.inside in
    let k = subst (λ (x : Routing). Knows before x.cache) (sym c.self.view_is) knows in
    subst (λ (x : Routing). Knows (before ++ Sample c.args.reference c.args.t c.args.word ∷ []) x.cache) c.self.view_is
    (knows_unknown before s.cache c.args.reference c.args.t c.args.word (c.in-Unknown.ensures.log before k.defined).standing k)

pub returns-in-Bad-clause-knows : goal.returns-in-Bad-clause-knows
returns-in-Bad-clause-knows c before knows =
    let s = c.self.inside in
    let k = subst (λ (x : Routing). Knows before x.cache) (sym c.self.view_is) knows in
    subst (λ (x : Routing). Knows (before ++ Sample c.args.reference c.args.t c.args.word ∷ []) x.cache) c.self.view_is
    (knows_bad before s.cache c.args.reference c.args.t c.args.word c.in-Bad.fault (c.in-Bad.ensures.log before k.defined).standing k)

pub returns-in-Filtered-clause-knows : goal.returns-in-Filtered-clause-knows
returns-in-Filtered-clause-knows c before knows =
    let s = c.self.inside in
    let k = subst (λ (x : Routing). Knows before x.cache) (sym c.self.view_is) knows in
    knows_filtered before s.cache c.args.reference c.args.t c.args.word (c.in-Filtered.ensures.log before k.defined).standing k

pub returns-then-not-rises-clause-knows : goal.returns-then-not-rises-clause-knows
returns-then-not-rises-clause-knows c before knows =
    let s = c.self.inside in
    let k = subst (λ (x : Routing). Knows before x.cache) (sym c.self.view_is) knows in
    let a = c.in-Kept.ensures.log before k.defined in
    let l = arc_value c.in-Kept.labels.now in
    let falls : rises s.cache.choice before l c.args.t ≡ false =
    sym (k.noted.decides l c.in-Kept.series c.args.t a.number) ∙ sym (ap (is_after (get s.cache.noted c.in-Kept.series)) (to_z-of_z c.ranges.t)) ∙ sym c.rises.ensures ∙ c.if-not-rises.true in
    subst (λ (x : Routing). Knows (before ++ Sample c.args.reference c.args.t c.args.word ∷ []) x.cache) c.self.view_is
    (knows_falling before s.cache c.args.reference c.args.t c.args.word l a.standing falls k)
