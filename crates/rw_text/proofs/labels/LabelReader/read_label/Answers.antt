use Rattle.std.proofs.Common.{rules}
use Rattle.rw_text.proofs.LabelLemmas.{no_label_value}
use Rattle.rw_text.proofs.labels.LabelReader.read_label.Goals as goal

pub returns-in_err-rest-clause-err : goal.returns-in_err-rest-clause-err
returns-in_err-rest-clause-err c = λ e. no_label_value c.args.text.now c.read_name.new.out.items c.in_ok-behind_name.behind_name.now c.in_ok-behind_name.ensures.ok (c.in_err-rest.ensures.err (search rules))
