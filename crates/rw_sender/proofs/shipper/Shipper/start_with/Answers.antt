use Rattle.std.proofs.Common.{sym, ap, ◌∙◌, subst, arith}
use Rattle.rw_shard_core.specs.declared.config.ConfigFields.{ConfigFields}
use Rattle.rw_sender.specs.Feeders.{Sorting}
use Rattle.rw_fleet.specs.ShardHistories.{AreFresh}
use Rattle.rw_fleet.specs.Fleets.{Shards}
use Rattle.rw_sender.proofs.CutLemmas.{counted_fresh}
use Rattle.rw_sender.proofs.TimeLemmas.{since_fresh}
use Rattle.rw_sender.proofs.shared.ListingLemmas.{resolved_none, room_begun}
use Rattle.rw_sender.proofs.shared.ShippingLemmas.{places_begun, read_begun, on_ok}
use Rattle.rw_sender.proofs.shipper.Shipper.start_with.Goals as goal

pub open_listed-requires-clause-resolved : goal.open_listed-requires-clause-resolved
open_listed-requires-clause-resolved g c κs within = resolved_none c.new-fleet.result.ended (ap (λ (s : Shards _). s.ended) c.new-fleet.ensures)

pub open_listed-requires-clause-room : goal.open_listed-requires-clause-room
open_listed-requires-clause-room g c κs within =
    let fleet = c.new-fleet.ensures in
    room_begun c.new-fleet.result c.new-samples.result (ap (λ (s : Shards _). s.ended) fleet) (ap (λ (s : Shards _). s.current) fleet) c.new-samples.ensures.len

pub invariant_of-result : goal.invariant_of-result
invariant_of-result g c =
    let fleet = c.new-fleet.ensures in
    let feeder = c.with_tail.ensures in
    let all = on_ok c.open_listed.result _ (sym c.is_err.ensures.value ∙ c.if-is_err.false) c.open_listed.ensures.all in
    let low = c.get-shards.ensures.low in
    let high = c.get-shards.ensures.high in (
      places_begun c.with_tail.result c.new-fleet.result c.open_listed.new.fleet (ap (λ (s : Sorting). s.placed) feeder) (ap (λ (s : Shards _). s.epoch) fleet) (ap (λ (s : Shards _). s.ended) fleet) (ap (λ (s : Shards _). s.current) fleet) c.open_listed.ensures.rest c.open_listed.ensures.fresh,
      (ap (λ (s : Sorting). s.hand) feeder, (omega arith, omega arith)),
      read_begun c.with_tail.result _ _ c.args.reading.may_compress _ c.in_ok-tail.ensures.pieces feeder,
      counted_fresh c.in_ok-cuts.cuts.limit c.in_ok-cuts.cuts.rooms c.open_listed.new.fleet.epoch _ c.open_listed.new.fleet.current c.in_ok-cuts.ensures.full all (omega arith) c.open_listed.ensures.fresh,
      c.open_listed.ensures.room,
      since_fresh _ _ _ c.open_listed.ensures.fresh,
    )

pub returns-clause-opened : goal.returns-clause-opened
returns-clause-opened g c =
    let fleet = c.new-fleet.ensures in
    let rest = c.open_listed.ensures.rest in
    let epoch = ap (λ (s : Shards _). s.epoch) rest ∙ ap (λ (s : Shards _). s.epoch) fleet in
    let all = on_ok c.open_listed.result _ (sym c.is_err.ensures.value ∙ c.if-is_err.false) c.open_listed.ensures.all in
    (epoch, ap (λ (s : Shards _). s.ended) rest ∙ ap (λ (s : Shards _). s.ended) fleet, all ∙ c.get-shards.ensures.number ∙ ap (λ (f : ConfigFields). f.shards) c.fields.ensures.fields, subst (λ e. AreFresh e c.open_listed.new.fleet.current) epoch c.open_listed.ensures.fresh)
