use Rattle.std.proofs.Common.{◌∙◌, ◌<◌, ap, set, length, to_z, of_z, w64, ℤ, arith}
use Rattle.std.proofs.Math.Facts.{to_z-of_z}
use Rattle.std.proofs.lemmas.Option.{slice_get_within}
use Rattle.std.proofs.lemmas.Result.{on_ok_weaker}
use Rattle.rw_batch.specs.Grouping.{with_sample}
use Rattle.rw_batch.specs.Groups.{Groups, with_number}
use Rattle.rw_batch.proofs.GroupsLemmas.{grown_at, known_at, still_grouped, viewed_at}
use Rattle.rw_batch.proofs.grouping.Grouping.add.Goals as goal

pub invariant_of-self : goal.invariant_of-self
invariant_of-self c =
    let keys = c.self.inside.numbers.keys in
    let stands = viewed_at c.args.number keys c.self.inside.series.items c.args.self.now c.in-Some.place c.self.view_is c.in-Some.ensures.some in
    let within : c.in-Some.place < length keys = slice_get_within keys c.in-Some.place c.args.number stands in
    still_grouped _ _ c.in-Some.place c.index_mut.result.now c.push_sample.new.series (omega (arith, within, c.self.invariant.0))
    c.index_mut.ensures.value c.push_sample.ensures.labels c.self.invariant

pub returns-in-Some-clause-series : goal.returns-in-Some-clause-series
returns-in-Some-clause-series c =
    let t : ℤ = to_z w64 (of_z w64 c.args.t) in
    let keys = c.self.inside.numbers.keys in
    let stands = viewed_at c.args.number keys c.self.inside.series.items c.args.self.now c.in-Some.place c.self.view_is c.in-Some.ensures.some in
    on_ok_weaker c.push_sample.result
    (λ e. ap (set c.self.inside.series.items c.in-Some.place) e
    ∙ grown_at c.args.number c.args.labels.now (c.args.word, t) keys c.self.inside.series.items c.args.self.now c.in-Some.place c.index_mut.result.now
    c.self.view_is c.requires stands c.self.invariant.1 c.index_mut.ensures.value
    ∙ ap (λ (z : ℤ). with_sample c.args.labels.now (c.args.word, z) c.args.self.now.series) (to_z-of_z c.ranges.t))
    c.push_sample.ensures.ok

pub returns-in-Some-clause-numbers : goal.returns-in-Some-clause-numbers
returns-in-Some-clause-numbers c =
    let keys = c.self.inside.numbers.keys in
    let stands = viewed_at c.args.number keys c.self.inside.series.items c.args.self.now c.in-Some.place c.self.view_is c.in-Some.ensures.some in
    on_ok_weaker c.push_sample.result
    (λ _. known_at c.args.number keys c.in-Some.place stands ∙ ap (λ (g : Groups). with_number c.args.number g.numbers) c.self.view_is)
    c.push_sample.ensures.ok
