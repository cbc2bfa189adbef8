use Rattle.std.proofs.Common.{◌∷◌, All, List, map, refl, sym, ap, ◌∙◌, length, subst}
use Rattle.std.proofs.lemmas.List.{length-map}
use Rattle.rw_fleet.specs.Stopped.{part_of}
use Rattle.rw_fleet.specs.Work.{finished_of}
use Rattle.rw_fleet.specs.declared.joined.Finished.{Finished}
use Rattle.rw_fleet.specs.declared.joined.StoppedShard.{StoppedShard}
use Rattle.rw_recv_head.specs.Seats.{HasGathered, Opening}
use Rattle.rw_in_memory.specs.Lines.{SeatLine, IsSeatLine}
use Rattle.rw_in_memory.specs.Held.{seat_of}
use Rattle.rw_in_memory.proofs.ShippedLemmas.{workers_count, ended_so, each_of, all_kept}
use Rattle.rw_in_memory.proofs.ship_log.gathered.Goals as goal
use Rattle.rw_sender.specs.Reports.{workers_of}
use Rattle.rw_sender.proofs.shared.ShippingLemmas.{failed_so}

pub gather-head-requires : goal.gather-head-requires
gather-head-requires g c =
    let stop = c.stop_orderly-outcome in
    let whole = all_kept stop.result.ended.folded c.args.shipper.fleet.ended stop.result.ended.items c.into_kept.result.items c.into_kept.ensures stop.ensures.folded c.requires.first in
    c.in_ok-parts.seats.ok.0
    ∙ ap length c.in_ok-parts.ensures.seats
    ∙ length-map (map finished_of c.into_kept.result.items) seat_of
    ∙ ap (λ (js : List (StoppedShard SeatLine)). length (map finished_of js)) whole
    ∙ workers_count (IsSeatLine g.L.HeadNaming.opening g.L.Endpoint.path g.L.Endpoint.limit) c.args.shipper stop.result stop.ensures.stopped c.requires.first
    ∙ c.requires.seats
    ∙ ap (λ (o : Opening). o.seats) (sym (c.into_shared.ensures ∙ c.in-Some.ensures))

pub returns : goal.returns
returns g c =
    let stop = c.stop_orderly-outcome in
    let whole = all_kept stop.result.ended.folded c.args.shipper.fleet.ended stop.result.ended.items c.into_kept.result.items c.into_kept.ensures stop.ensures.folded c.requires.first in (
      record {
        r = stop.result;
        placed = c.conforms.ensures;
        stopped = stop.ensures.stopped;
        ended = ended_so c.args.shipper.fault c.args.shipper stop.result stop.ensures.ended stop.ensures.failed;
        failed = failed_so c.args.shipper.fault stop.result.outcome stop.ensures.failed;
        cut = stop.ensures.cut;
        outcome_is = refl;
        parts_are = c.in_ok-parts.ensures.parts ∙ ap (λ (js : List (StoppedShard SeatLine)). stop.result.dropped ∷ map part_of js) whole;
        filter_count = refl;
        each = each_of (λ (f : Finished SeatLine). IsSeatLine g.L.HeadNaming.opening g.L.Endpoint.path g.L.Endpoint.limit f.transport) (workers_of stop.result)
            (subst (λ (js : List (StoppedShard SeatLine)). All (λ (f : Finished SeatLine). IsSeatLine g.L.HeadNaming.opening g.L.Endpoint.path g.L.Endpoint.limit f.transport) (map finished_of js)) whole c.in_ok-parts.ensures.lines);
        gathered = subst (λ ss. HasGathered g.L.HeadNaming.opening ss c.gather-head.result.store) (c.in_ok-parts.ensures.seats ∙ ap (λ (js : List (StoppedShard SeatLine)). map seat_of (map finished_of js)) whole) c.gather-head.ensures.gathered.0;
      },
      refl,
    )
