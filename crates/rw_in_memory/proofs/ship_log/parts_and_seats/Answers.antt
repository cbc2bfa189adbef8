use Rattle.std.proofs.Common.{All, sym, ap, ◌∙◌, ◌++◌, ◌∷◌, [], map, length, append-nil, append_assoc, subst, arith, rules}
use Rattle.std.proofs.lemmas.List.{map-append, nil_from_length}
use Rattle.std.proofs.lemmas.List.Elements.{All-push}
use Rattle.rw_fleet.specs.Stopped.{part_of}
use Rattle.rw_fleet.specs.Work.{finished_of}
use Rattle.rw_fleet.specs.declared.joined.Finished.{Finished}
use Rattle.rw_in_memory.specs.Lines.{SeatLine, IsSeatLine}
use Rattle.rw_in_memory.specs.Held.{seat_of}
use Rattle.rw_in_memory.proofs.ship_log.parts_and_seats.Goals as goal

pub loop-shard-init : goal.loop-shard-init
loop-shard-init g c =
    let into = c.into_iter-shard-iterator.ensures.into_iter_gives in record {
      part_room = search rules;
      seat_room = search rules;
      parts = search rules;
      seats = search rules;
      lines = search rules;
      left = sym into.0;
      counted = into.1 ∙ c.args.shards.ok.0 ∙ ap length (sym into.0);
    }

pub loop-shard-preserved : goal.loop-shard-preserved
loop-shard-preserved g c =
    let i = c.loop-shard.invariant in
    let step = c.in-Some.ensures.steps in
    let more = c.loop-shard.yielded in
    let j = c.in-Some.shard in
    let given = c.part_and_seat-part in record {
      part_room = search rules;
      seat_room = search rules;
      parts = c.push_reserved-in-loop-shard.ensures.items ∙ ap (λ l. l ++ given.result.0 ∷ []) i.parts ∙ ap (λ p. c.args.dropped ∷ (map part_of more ++ p ∷ [])) given.ensures.part ∙ ap (λ l. c.args.dropped ∷ l) (sym (map-append part_of more (j ∷ [])));
      seats = c.push_reserved-in-loop-shard-2.ensures.items ∙ ap (λ l. l ++ given.result.1 ∷ []) i.seats ∙ ap (λ s. map seat_of (map finished_of more) ++ s ∷ []) given.ensures.seat
          ∙ sym (ap (map seat_of) (map-append finished_of more (j ∷ [])) ∙ map-append seat_of (map finished_of more) (finished_of j ∷ []));
      lines = subst (All (λ (x : Finished SeatLine). IsSeatLine g.L.HeadNaming.opening g.L.Endpoint.path g.L.Endpoint.limit x.transport)) (sym (map-append finished_of more (j ∷ [])))
          (All-push (λ (x : Finished SeatLine). IsSeatLine g.L.HeadNaming.opening g.L.Endpoint.path g.L.Endpoint.limit x.transport) (map finished_of more) (finished_of j) i.lines given.ensures.line);
      left = i.left ∙ ap (λ l. more ++ l) step.0 ∙ sym (append_assoc more (j ∷ []) _);
      counted = omega (arith, i.counted, step.1, ap length step.0);
    }

pub returns-clause-parts : goal.returns-clause-parts
returns-clause-parts g c =
    let i = c.loop-shard.invariant in
    let none = nil_from_length _ (sym i.counted ∙ c.in-None.ensures.steps.0) in
    let whole = i.left ∙ ap (λ l. c.loop-shard.yielded ++ l) none ∙ append-nil c.loop-shard.yielded in
    i.parts ∙ ap (λ js. c.args.dropped ∷ map part_of js) (sym whole)

pub returns-clause-seats : goal.returns-clause-seats
returns-clause-seats g c =
    let i = c.loop-shard.invariant in
    let none = nil_from_length _ (sym i.counted ∙ c.in-None.ensures.steps.0) in
    let whole = i.left ∙ ap (λ l. c.loop-shard.yielded ++ l) none ∙ append-nil c.loop-shard.yielded in
    i.seats ∙ ap (λ js. map seat_of (map finished_of js)) (sym whole)

pub returns-clause-lines : goal.returns-clause-lines
returns-clause-lines g c =
    let i = c.loop-shard.invariant in
    let none = nil_from_length _ (sym i.counted ∙ c.in-None.ensures.steps.0) in
    let whole = i.left ∙ ap (λ l. c.loop-shard.yielded ++ l) none ∙ append-nil c.loop-shard.yielded in
    subst (λ js. All (λ (x : Finished SeatLine). IsSeatLine g.L.HeadNaming.opening g.L.Endpoint.path g.L.Endpoint.limit x.transport) (map finished_of js)) (sym whole) i.lines
