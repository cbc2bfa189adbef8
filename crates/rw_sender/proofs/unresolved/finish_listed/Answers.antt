use Rattle.std.proofs.Common.{◌++◌, sym, ap, ◌∙◌}
use Rattle.std.proofs.lemmas.List.{nil_from_length}
use Rattle.rw_fleet.specs.Stopped.{abandoned_in}
use Rattle.rw_sender.proofs.shared.ListingLemmas.{room_all}
use Rattle.rw_sender.proofs.unresolved.finish_listed.Goals as goal

pub list_all-requires : goal.list_all-requires
list_all-requires g c =
    let all = c.finish-ended.ensures in
    room_all g.C.T.Transport.tells g.C.T.Transport.seen g.C.T.Transport.is_for c.args.fleet c.args.samples c.finish-ended.result.0.items (abandoned_in c.kept.result.now) c.requires all.all all.worked all.setup c.kept.ensures.abandoned

pub returns : goal.returns
returns g c =
    let all = c.finish-ended.ensures in
    let none = nil_from_length c.args.samples.items (sym c.args.samples.ok.0 ∙ c.requires.0) in record {
      all = all.all;
      worked = all.worked;
      setup = all.setup;
      samples = c.list_all.ensures ∙ ap (λ l. l ++ abandoned_in c.kept.result.now) none ∙ c.kept.ensures.abandoned;
      resolved = all.resolved;
      cut = all.cut;
      by = all.ended;
      folded = all.folded;
    }
