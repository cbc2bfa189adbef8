use Rattle.std.proofs.Common.{inr}
use Rattle.rw_receive.proofs.HeldLemmas.{on_ok, received_so}
use Rattle.rw_receive.proofs.receive.run_receive.Goals as goal

pub returns-clause-ok : goal.returns-clause-ok
returns-clause-ok g c =
    let new = c.new-head.ensures in
    let served = c.in_ok-received.ensures in
    let store = c.in_ok-received.received.holder.store in
    let received = received_so c.args.settings.now.limits c.args.service.capacity c.new-head.result c.args.service.most store
    (record { store = new.store; names = new.names; max_labels = new.max_labels; max_label_bytes = new.max_label_bytes; busy = new.busy }) served.received.received served.within in
    on_ok c.in_ok-received.received.printed (λ written. (store, received, written)) served.ok

pub returns-clause-device : goal.returns-clause-device
returns-clause-device g c = λ failed.
    let new = c.new-head.ensures in
    let served = c.in_ok-received.ensures in
    let store = c.in_ok-received.received.holder.store in
    let received = received_so c.args.settings.now.limits c.args.service.capacity c.new-head.result c.args.service.most store
    (record { store = new.store; names = new.names; max_labels = new.max_labels; max_label_bytes = new.max_label_bytes; busy = new.busy }) served.received.received served.within in
    let ended = served.device failed in
    inr (ended.0, (store, received, ended.1))
