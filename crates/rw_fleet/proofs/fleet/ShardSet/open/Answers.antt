use Rattle.std.proofs.Common.{List, length, map, vec_len, sym, ap, ◌∙◌, subst, arith}
use Rattle.std.specs.Vec.{vec_items}
use Rattle.rw_fleet.specs.ShardHistories.{AreFresh, AreSetUp}
use Rattle.rw_fleet.specs.Work.{AreWorked, lane_of}
use Rattle.rw_fleet.specs.inner.Work.{AreSoft}
use Rattle.rw_fleet.specs.Fleets.{Shards}
use Rattle.rw_fleet.specs.declared.joined.StoppedShard.{StoppedShard}
use Rattle.rw_fleet.proofs.StoppedLemmas.{folded_still}
use Rattle.rw_fleet.proofs.fleet.ShardSet.open.Goals as goal

pub invariant_of-self : goal.invariant_of-self
invariant_of-self g c =
    let i = c.self.invariant in
    let is = sym c.reserve.ensures.items in
    let room = c.reserve.ensures.room in
    let a = i.3 in
    let b = i.4 in
    let d = i.6 in
    (subst (AreWorked g.C.T.Transport.tells g.C.T.Transport.seen g.C.T.Transport.is_for) is i.0, subst (λ (js : List (StoppedShard _)). AreSetUp c.self.inside.config (map lane_of js)) is i.1, i.2, omega arith, b, i.5, d, subst (λ (js : List (StoppedShard _)). AreSoft (map lane_of js)) is i.7, folded_still _ _ _ _ c.reserve.ensures.items c.reserve.ensures.folded i.8)

pub invariant_of-self-in_err-reserve-2 : goal.invariant_of-self-in_err-reserve-2
invariant_of-self-in_err-reserve-2 g c =
    let i = c.self.invariant in
    let is = sym c.reserve.ensures.items in
    let room = c.reserve.ensures.room in
    let a = i.3 in
    let b = i.4 in
    let d = i.6 in
    let more = c.reserve-2.ensures.capacity in
    (subst (AreWorked g.C.T.Transport.tells g.C.T.Transport.seen g.C.T.Transport.is_for) is i.0, subst (λ (js : List (StoppedShard _)). AreSetUp c.self.inside.config (map lane_of js)) is i.1, i.2, omega arith, omega arith, c.reserve-2.ensures.items ∙ i.5, d, subst (λ (js : List (StoppedShard _)). AreSoft (map lane_of js)) is i.7, folded_still _ _ _ _ c.reserve.ensures.items c.reserve.ensures.folded i.8)

pub invariant_of-self-2 : goal.invariant_of-self-2
invariant_of-self-2 g c =
    let i = c.self.invariant in
    let is = sym c.reserve.ensures.items in
    let now = c.replace.ensures.after in
    let a = i.3 in
    let b = i.4 in
    let d = i.6 in
    let ok = c.in_ok-reserve.ensures.ok in
    let room = c.in_ok-reserve-2.ensures.ok in
    let n = c.open_all-running.ensures.len in
    let len_now = ap vec_len now in
    let more = c.reserve-2.ensures.len in
    let none = ap length c.reserve-2.ensures.items ∙ ap length i.5 in
    (subst (AreWorked g.C.T.Transport.tells g.C.T.Transport.seen g.C.T.Transport.is_for) is i.0, subst (λ (js : List (StoppedShard _)). AreSetUp c.self.inside.config (map lane_of js)) is i.1, subst (AreSetUp c.self.inside.config) (sym (ap vec_items now)) c.open_all-running.ensures.setup, omega arith, omega arith, c.reserve-2.ensures.items ∙ i.5, omega arith, subst (λ (js : List (StoppedShard _)). AreSoft (map lane_of js)) is i.7, folded_still _ _ _ _ c.reserve.ensures.items c.reserve.ensures.folded i.8)

pub returns-in_err-reserve-clause-rest : goal.returns-in_err-reserve-clause-rest
returns-in_err-reserve-clause-rest g c =
    ap (λ (js : List (StoppedShard _)). record { config = c.self.inside.config; epoch = c.self.inside.epoch; current = c.self.inside.running.items; ended = js }) c.reserve.ensures.items ∙ ap (λ (s : Shards _). record s { current = c.self.inside.running.items }) c.self.view_is

pub returns-in_err-reserve-2-clause-rest : goal.returns-in_err-reserve-2-clause-rest
returns-in_err-reserve-2-clause-rest g c =
    ap (λ (js : List (StoppedShard _)). record { config = c.self.inside.config; epoch = c.self.inside.epoch; current = c.self.inside.running.items; ended = js }) c.reserve.ensures.items ∙ ap (λ (s : Shards _). record s { current = c.self.inside.running.items }) c.self.view_is

pub returns-clause-rest : goal.returns-clause-rest
returns-clause-rest g c =
    ap (λ (js : List (StoppedShard _)). record { config = c.self.inside.config; epoch = c.self.inside.epoch; current = c.replace.new.dest.items; ended = js }) c.reserve.ensures.items ∙ ap (λ (s : Shards _). record s { current = c.replace.new.dest.items }) c.self.view_is

pub returns-clause-fresh : goal.returns-clause-fresh
returns-clause-fresh g c = subst (AreFresh c.self.inside.epoch) (sym (ap vec_items c.replace.ensures.after)) c.open_all-running.ensures.fresh
