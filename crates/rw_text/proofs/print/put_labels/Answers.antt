use Rattle.rw_types.specs.Labels.{text_label}
use Rattle.rw_text.proofs.PrintLemmas.{printed, printed_none, also_ok}
use Rattle.rw_text.proofs.print.put_labels.Goals as goal
use Rattle.std.proofs.lemmas.List.{nil_from_length}

pub returns-in_ok-put_label-in-Some-clause-ok : goal.returns-in_ok-put_label-in-Some-clause-ok
returns-in_ok-put_label-in-Some-clause-ok c = rw c.in-Some.ensures.cases.0 (also_ok c.put_more.result c.put_more.ensures.ok
    (printed text_label c.in-Some.first.now c.in-Some.more.now c.args.out.now.items c.push_byte.new.out.items c.put_label.new.out.items c.put_more.new.out.items
    c.in_ok-push_byte.ensures.ok c.in_ok-put_label-in-Some.ensures.ok))

pub returns-in-None-clause-ok : goal.returns-in-None-clause-ok
returns-in-None-clause-ok c = rw (nil_from_length c.args.labels.now c.in-None.ensures.cases) (also_ok c.push_byte-in-None.result c.push_byte-in-None.ensures.ok
    (printed_none c.args.out.now.items c.push_byte.new.out.items c.push_byte-in-None.new.out.items c.in_ok-push_byte.ensures.ok))
