use Rattle.std.proofs.Common.{◌∙◌, length, take, refl, sym, ap, subst, arith}
use Rattle.std.specs.FinMap.{insert}
use Rattle.rw_types.specs.declared.entry.Entry.TheVariants.{Sample}
use Rattle.rw_external_labels.specs.External.{labelled}
use Rattle.rw_series_cache.proofs.shared.KnowsLemmas.{knows_dropped}
use Rattle.rw_sender.specs.Logs.{dropped_of, filtered_of}
use Rattle.rw_sender.specs.Feeders.{Sorting, IsDropped}
use Rattle.rw_sender.proofs.FeederLemmas.{counted_seen, placed_held, no_more, named_next, named_below, dropped_is}
use Rattle.rw_sender.proofs.feeder.Feeder.name.Goals as goal

pub invariant_of-self-2 : goal.invariant_of-self-2
invariant_of-self-2 c =
    let s = c.self.inside in
    let i = c.self.invariant in
    let d = subst (λ (x : Sorting). IsDropped x c.args.reason) (sym c.self.view_is) c.requires in
    let ps = labelled s.labels (take s.count s.read) in
    let e = Sample d.reference d.t d.word in
    let is = dropped_is s.router.cache.choice ps d.reference d.t d.word c.args.reason d.fate_is in
    let within = i.filter_within in
    let roomed = c.room.ensures.names in
    placed_held s.labels s.tail s.router s.router s.part.names c.name.new.self.names s.count c.entries_read-self-inside.result s.read e i d.hand c.entries_read-self-inside.ensures.count refl
    (knows_dropped ps s.router.cache d.reference d.t d.word c.args.reason d.fate_is i.knows)
    (named_next s.part.names c.room.new.self.names c.name.new.self.names s.count (length ps) c.args.reason (dropped_of s.router.cache.choice ps e) roomed c.name.ensures.names (counted_seen s.labels s.count (take s.count s.read) i.counted) is.0)
    (named_below s.part.names c.name.new.self.names s.count c.args.reason i.below (c.name.ensures.names ∙ ap (λ m. insert m s.count c.args.reason) roomed))
    (no_more s.router.filtered (filtered_of s.router.cache.choice ps e) is.1)
    (omega arith)
