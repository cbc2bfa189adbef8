use Rattle.std.proofs.Common.{◌≡◌, ◌+◌, ◌-◌, ◌<◌, ◌∙◌, List, Some, ap, refl, arith, inr, slice_set}
use Rattle.std.specs.List.{slice_get}
use Rattle.std.proofs.lemmas.Option.{slice_get_within, get_or_from_slice_get}
use Rattle.rw_in_flight.specs.InFlight.{held, open_held, first_open}
use Rattle.rw_in_flight.specs.declared.body.Body.{Body}
use Rattle.rw_in_flight.proofs.BodyLemmas.{open_le, grown_fits, need_is}
use Rattle.rw_in_flight.proofs.room.BodyRoom.grow.Goals as goal

pub overflow_add-index_mut : goal.overflow_add-index_mut
overflow_add-index_mut c =
    let items = c.args.self.now.bodies.items in let place = c.in-Some.place in let s = c.in-Some.ensures in
    let at : slice_get items place ≡ Some s.0 = cc (s.1, c.deref.ensures.value) in
    let used : c.held.result ≡ held items = cc (c.held.ensures, c.deref-2.ensures.value) in
    record {
      fits =
          grown_fits items place c.index_mut.result.now c.args.more c.args.self.now.limit c.held.result (slice_get_within items place s.0 at) c.index_mut.ensures.value used c.if-more-self.true
          c.args.self.now.within c.args.self.now.small;
    }

pub returns-then-more-self-clause-taken : goal.returns-then-more-self-clause-taken
returns-then-more-self-clause-taken c = λ _.
    let items = c.args.self.now.bodies.items in let place = c.in-Some.place in let s = c.in-Some.ensures in
    let at : slice_get items place ≡ Some s.0 = cc (s.1, c.deref.ensures.value) in
    let same : c.index_mut.result.now ≡ s.0 = c.index_mut.ensures.value ∙ get_or_from_slice_get items place s.0 c.index_mut.result.now at in (
      record {
        place = place;
        body = s.0;
        at = at;
        is = s.2;
        grown = ap (λ (b : Body). slice_set items place (record { number = b.number; bytes = b.bytes + c.args.more })) same;
      },
      refl,
      c.if-number-self.false,
    )

pub overflow_sub-self-2 : goal.overflow_sub-self-2
overflow_sub-self-2 c =
    let items = c.args.self.now.bodies.items in
    let opened : c.open_held-open.result ≡ open_held c.args.self.now.first items = cc (c.open_held-open.ensures, c.deref-3.ensures.value) in
    omega (arith, opened, open_le c.args.self.now.first items, c.args.self.now.within)

pub returns-then-number-self-2-clause-closed : goal.returns-then-number-self-2-clause-closed
returns-then-number-self-2-clause-closed c = λ _.
    let items = c.args.self.now.bodies.items in let first = c.args.self.now.first in let limit = c.args.self.now.limit in
    let used : c.held.result ≡ held items = cc (c.held.ensures, c.deref-2.ensures.value) in
    let opened : c.open_held-open.result ≡ open_held first items = cc (c.open_held-open.ensures, c.deref-3.ensures.value) in
    let open_fits = open_le first items in
    let over : limit < held items + c.args.more = omega (arith, used, c.if-more-self.false, c.args.self.now.within) in
    let need : c.saturating_sub-need.result ≡ open_held first items + c.args.more - limit =
    c.saturating_sub-need.ensures ∙ need_is c.args.more limit c.open_held-open.result (open_held first items) opened (omega (arith, open_fits, c.args.self.now.within)) in
    let is : c.first_open-self.result ≡ first_open (open_held first items + c.args.more - limit) first items = cc (c.first_open-self.ensures, c.deref-4.ensures.value, need) in
    (refl, inr (inr (over, is, c.if-number-self-2.true)))

pub returns-clause-waits : goal.returns-clause-waits
returns-clause-waits c = λ _.
    let items = c.args.self.now.bodies.items in let first = c.args.self.now.first in let limit = c.args.self.now.limit in
    let used : c.held.result ≡ held items = cc (c.held.ensures, c.deref-2.ensures.value) in
    let opened : c.open_held-open.result ≡ open_held first items = cc (c.open_held-open.ensures, c.deref-3.ensures.value) in
    let open_fits = open_le first items in
    let over : limit < held items + c.args.more = omega (arith, used, c.if-more-self.false, c.args.self.now.within) in
    let need : c.saturating_sub-need.result ≡ open_held first items + c.args.more - limit =
    c.saturating_sub-need.ensures ∙ need_is c.args.more limit c.open_held-open.result (open_held first items) opened (omega (arith, open_fits, c.args.self.now.within)) in
    let is : c.first_open-self.result ≡ first_open (open_held first items + c.args.more - limit) first items = cc (c.first_open-self.ensures, c.deref-4.ensures.value, need) in
    (refl, over, is, c.if-number-self-2.false)
