use Rattle.std.proofs.Common.{◌∙◌, ap, length, []}
use Rattle.std.specs.Ordering.{nat_cmp}
use Rattle.std.specs.FinMap as map
use Rattle.rw_ledger.proofs.ledger.Ledger.new.Goals as goal

pub returns-clause-names : goal.returns-clause-names
returns-clause-names c = ap map.from_sorted c.new.ensures.items ∙ map.empty_of_len _ (map.len-entries _ ∙ ap length (map.entries-from_sorted nat_cmp [] tt))
