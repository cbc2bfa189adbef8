use Rattle.std.proofs.Common.{◌∙◌, take, sym, ap, subst, arith}
use Rattle.std.proofs.Math.Facts.{to_z-of_z}
use Rattle.std.specs.Prelude.{fold}
use Rattle.rw_external_labels.specs.External.{labelled}
use Rattle.rw_series_cache.specs.Routing.{Routing, IsSentNext}
use Rattle.rw_sender.specs.Logs.{with_name, filtered_of}
use Rattle.rw_sender.specs.Feeders.{Sorting, IsToBeSent}
use Rattle.rw_sender.proofs.FeederLemmas.{placed_held, no_more, sent_is}
use Rattle.rw_sender.proofs.feeder.Feeder.sent.Goals as goal

pub sent-requires : goal.sent-requires
sent-requires c =
    let s = c.self.inside in
    let d = subst (λ (x : Sorting). IsToBeSent x c.args.series c.args.t) (sym c.self.view_is) c.requires in
    record { before = labelled s.labels (take s.count s.read); entry = d.entry; knows = c.self.invariant.knows; next = subst (IsSentNext s.router.cache.choice (labelled s.labels (take s.count s.read)) d.entry c.args.series) (sym (to_z-of_z c.ranges.t)) d.next }

pub invariant_of-self : goal.invariant_of-self
invariant_of-self c =
    let s = c.self.inside in
    let i = c.self.invariant in
    let d = subst (λ (x : Sorting). IsToBeSent x c.args.series c.args.t) (sym c.self.view_is) c.requires in
    let ps = labelled s.labels (take s.count s.read) in
    let within = i.filter_within in
    let is = sent_is s.router.cache.choice ps d.entry c.args.series c.args.t d.next in
    let same = ap (λ (x : Routing). x.filtered) c.sent.ensures.noted in
    placed_held s.labels s.tail s.router c.sent.new.self s.part.names s.part.names s.count c.entries_read-self-inside.result s.read d.entry i d.hand c.entries_read-self-inside.ensures.count
    (ap (λ (x : Routing). x.cache.choice) c.sent.ensures.noted)
    (c.sent.ensures.knows ps d.entry i.knows (subst (IsSentNext s.router.cache.choice ps d.entry c.args.series) (sym (to_z-of_z c.ranges.t)) d.next))
    (sym (ap (λ x. fold with_name s.part.names x) is.0))
    (λ p lt. i.below p (omega arith))
    (same ∙ no_more s.router.filtered (filtered_of s.router.cache.choice ps d.entry) is.1)
    (omega arith)
