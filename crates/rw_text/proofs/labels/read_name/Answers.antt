use Rattle.rw_text.proofs.LabelLemmas.{no_name_behind_quote, no_name_without_quote, ok_of_quoted, ok_of_bare}
use Rattle.rw_text.proofs.labels.read_name.Goals as goal

pub returns-in-Some-clause-ok : goal.returns-in-Some-clause-ok
returns-in-Some-clause-ok c = ok_of_quoted c.args.text.now c.read_quoted_name.new.out.items c.read_quoted_name.result c.read_quoted_name.ensures.ok

pub returns-in-Some-clause-err : goal.returns-in-Some-clause-err
returns-in-Some-clause-err c = λ e name rest. no_name_behind_quote c.args.text.now c.in-Some.field-0.now name rest c.in-Some.ensures (c.read_quoted_name.ensures.err e)

pub returns-in-None-clause-ok : goal.returns-in-None-clause-ok
returns-in-None-clause-ok c = ok_of_bare c.args.text.now c.read_bare_name.new.out.items c.read_bare_name.result c.read_bare_name.ensures.ok

pub returns-in-None-clause-err : goal.returns-in-None-clause-err
returns-in-None-clause-err c = λ e name rest. no_name_without_quote c.args.text.now name rest c.in-None.ensures (c.read_bare_name.ensures.err e)
