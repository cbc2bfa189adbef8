use Rattle.std.proofs.Common.{rules, subst}
use Rattle.rw_log_folder.specs.Order.{AreByNumber}
use Rattle.rw_log_folder.proofs.GapLemmas.{missing_here, missing_ok, missing_full, IsWhole-found}
use Rattle.rw_log_folder.proofs.order.log_from.Goals as goal

pub returns-in-Some-clause-missing : goal.returns-in-Some-clause-missing
returns-in-Some-clause-missing c =
    missing_here c.args.checkpoint.name.number c.args.segments.items c.put_in_order.new.names.items
    (subst (λ ns. AreByNumber ns c.put_in_order.new.names.items) c.keep_above.ensures c.put_in_order.ensures)
    c.in-Some.number (search rules)

pub returns-in-Ok-clause-order : goal.returns-in-Ok-clause-order
returns-in-Ok-clause-order c =
    let later = subst (λ ns. AreByNumber ns c.put_in_order.new.names.items) c.keep_above.ensures c.put_in_order.ensures in
    record {
      first = c.put_in_order-2.new.names.items;
      then_ = c.put_in_order.new.names.items;
      first_sorted = c.put_in_order-2.ensures;
      then_sorted = later;
      whole = IsWhole-found c.args.checkpoint.name.number c.args.segments.items c.put_in_order.new.names.items later (search rules);
      is = search rules;
    }

pub returns-in-Ok-clause-missing : goal.returns-in-Ok-clause-missing
returns-in-Ok-clause-missing c =
    missing_ok c.args.checkpoint.name.number c.args.segments.items c.put_in_order.new.names.items
    (subst (λ ns. AreByNumber ns c.put_in_order.new.names.items) c.keep_above.ensures c.put_in_order.ensures)
    c.in-Ok.places (search rules)

pub returns-clause-missing : goal.returns-clause-missing
returns-clause-missing c =
    missing_full c.args.checkpoint.name.number c.args.segments.items c.put_in_order.new.names.items
    (subst (λ ns. AreByNumber ns c.put_in_order.new.names.items) c.keep_above.ensures c.put_in_order.ensures)
    (search rules)
