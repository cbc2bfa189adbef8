use Rattle.std.proofs.Common.{◌∷◌, ◌++◌, [], sym, subst, OnErr}
use Rattle.rw_types.specs.declared.entry.Entry.TheVariants.{Def}
use Rattle.rw_series_cache.specs.Routing.{Routing, Knows, TakesMemory}
use Rattle.rw_series_cache.proofs.shared.KnowsLemmas.{knows_definition, takes_definition}
use Rattle.rw_series_cache.proofs.router.Router.place.Goals as goal

pub returns-in_ok-define-in-Def-clause-knows : goal.returns-in_ok-define-in-Def-clause-knows
returns-in_ok-define-in-Def-clause-knows c before knows =
    let s = c.self.inside in
    subst (λ e. Knows (before ++ e ∷ []) c.define.new.self) (sym c.in-Def.is)
    (knows_definition before s.cache c.define.new.self c.in-Def.reference c.in-Def.labels (subst (λ (x : Routing). Knows before x.cache) (sym c.self.view_is) knows) c.in_ok-define-in-Def.ensures.ok)

pub returns-in_err-define-in-Def-clause-sound : goal.returns-in_err-define-in-Def-clause-sound
returns-in_err-define-in-Def-clause-sound c before knows =
    let s = c.self.inside in
    subst (λ e. OnErr c.from_residual.result (TakesMemory c.args.self.now.cache.choice before e)) (sym c.in-Def.is)
    (subst (λ (x : Routing). OnErr c.from_residual.result (TakesMemory x.cache.choice before (Def c.in-Def.reference c.in-Def.labels))) c.self.view_is
    (takes_definition c.from_residual.result before s.cache c.in-Def.reference c.in-Def.labels (subst (λ (x : Routing). Knows before x.cache) (sym c.self.view_is) knows) c.in_err-define-in-Def.ensures.sound))
