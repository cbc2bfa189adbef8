use Rattle.std.proofs.Common.{drop, sym, ap, ◌∙◌, subst, length, ◌≤◌, ◌+◌}
use Rattle.rw_plain_queue.specs.History.{IsHistory}
use Rattle.rw_shard_queue.specs.Ends.{QueueId}
use Rattle.rw_worker.specs.Setups.{WorkerSetup}
use Rattle.rw_fleet.specs.Work.{positions_in, put_of, taken_of}
use Rattle.rw_fleet.proofs.SoftLemmas.{report_done}
use Rattle.rw_fleet.proofs.WindowLemmas.{left_within, few_left}
use Rattle.rw_fleet.proofs.running_shard.StoppingShard.join.Goals as goal

pub behind-abandoned-requires : goal.behind-abandoned-requires
behind-abandoned-requires g c =
    let i = c.self.invariant in
    let m = c.meet-ends.ensures in
    let setup = c.self.inside.worker.value in
    left_within c.self.inside.window.most setup.queue.capacity setup.batch _ _ c.join-end.result.resolved c.self.inside.window.all (put_of c.meet-ends.result) (taken_of c.meet-ends.result) _ (i.0 ∙ ap positions_in (sym m.put)) i.4
    (ap (λ (q : QueueId). q.capacity) i.1) (ap (λ (s : WorkerSetup). s.batch) i.2) m.taken m.within c.join-end.ensures.0.few

pub returns-clause-worked : goal.returns-clause-worked
returns-clause-worked g c =
    let i = c.self.invariant in
    let m = c.meet-ends.ensures in
    let setup = c.self.inside.worker.value in
    let all = c.self.inside.window.all in
    let within = left_within c.self.inside.window.most setup.queue.capacity setup.batch _ _ c.join-end.result.resolved all (put_of c.meet-ends.result) (taken_of c.meet-ends.result) _ (i.0 ∙ ap positions_in (sym m.put)) i.4
    (ap (λ (q : QueueId). q.capacity) i.1) (ap (λ (s : WorkerSetup). s.batch) i.2) m.taken m.within c.join-end.ensures.0.few in
    let left = c.behind-abandoned.ensures.items ∙ ap (drop c.join-end.result.resolved) (i.0 ∙ ap positions_in (sym m.put)) in
    record {
      begun = c.self.inside.handle.promise.transport.value;
      end = c.join-end.result.end;
      gone = c.join-end.result.gone;
      none = i.3;
      made = i.5;
      queue = m.queue ∙ sym i.1;
      taken = m.taken;
      begins = m.begins;
      report = rw (sym i.2) c.join-end.ensures.0;
      abandoned = left;
      few = few_left c.self.inside.window.most setup.queue.capacity setup.batch c.join-end.result.resolved all _ i.4 within c.behind-abandoned.ensures.items;
      freed = c.behind-abandoned.ensures.freed;
      apart = m.apart;
      within = subst (λ (q : QueueId). length (put_of c.meet-ends.result) ≤ length (taken_of c.meet-ends.result) + q.capacity) (sym i.1) m.fits;
      history = subst (λ (q : QueueId). IsHistory q.epoch q.shard (put_of c.meet-ends.result)) (sym i.1) m.history;
      last = m.last;
      done = report_done g.T.Transport.tells g.T.Transport.seen g.T.Transport.is_for setup c.self.inside.handle.promise.transport.value c.join-end.result c.meet-ends.result c.behind-abandoned.result.items (rw (sym i.2) c.join-end.ensures.0) m.taken m.ended left;
    }
