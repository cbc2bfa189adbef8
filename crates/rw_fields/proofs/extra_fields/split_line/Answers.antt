use Rattle.std.proofs.Common.{◌≡◌, ℕ, List, length, take, ◌-◌, ap, ◌∙◌, subst, ◌≤◌, sym}
use Rattle.rw_fields.specs.Fields.{first_line, after_first_line}
use Rattle.rw_fields.proofs.FieldLemmas.{first_line_is, not_longer}
use Rattle.rw_fields.proofs.extra_fields.split_line.Goals as goal

pub slice_bounds-result-count : goal.slice_bounds-result-count
slice_bounds-result-count c = rw c.after_first_line-after.ensures (not_longer c.args.text.now)

pub returns-clause-first : goal.returns-clause-first
returns-clause-first c = rw c.after_first_line-after.ensures (first_line_is c.args.text.now)
