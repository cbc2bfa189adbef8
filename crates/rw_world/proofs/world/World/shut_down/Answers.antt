use Rattle.std.proofs.Common.{◌≡◌, true, OnOk, subst}
use Rattle.rw_machine.specs.Worlds.{is_over}
use Rattle.rw_machine.specs.Promises.{IsSettled}
use Rattle.rw_world.specs.Machine.{Machine}
use Rattle.rw_world.specs.Rounds.{HasShutDown}
use Rattle.rw_world.proofs.ShutdownLemmas.{shut_down, reached_shut, shut_stays, shut_all}
use Rattle.rw_world.proofs.world.World.shut_down.Goals as goal

pub invariant_of-self : goal.invariant_of-self
invariant_of-self c =
    let m : Machine = c.self.inside.engine in
    reached_shut m c.settle.new.self c.self.invariant (shut_down m c.settle.new.self c.settle.ensures.rounds c.shutdown_comes_to_its_report.ensures.runs)

pub returns-clause-rounds : goal.returns-clause-rounds
returns-clause-rounds c =
    let m : Machine = c.self.inside.engine in
    subst (λ (x : Machine). HasShutDown x c.settle.new.self) c.self.view_is (shut_down m c.settle.new.self c.settle.ensures.rounds c.shutdown_comes_to_its_report.ensures.runs)

pub returns-clause-settled : goal.returns-clause-settled
returns-clause-settled c =
    let m : Machine = c.self.inside.engine in
    let v : Machine = c.settle.new.self in
    subst (λ (x : Machine). OnOk c.settle.result (IsSettled x.setup x.world v.world)) c.self.view_is (shut_all m v c.settle.result c.self.invariant c.settle.ensures.rounds c.shutdown_comes_to_its_report.ensures.ends c.settle.ensures.over)

pub returns-clause-stays : goal.returns-clause-stays
returns-clause-stays c =
    let m : Machine = c.self.inside.engine in
    let v : Machine = c.settle.new.self in
    subst (λ (x : Machine). is_over x.world ≡ true → v ≡ x) c.self.view_is (shut_stays m v c.settle.ensures.rounds)
