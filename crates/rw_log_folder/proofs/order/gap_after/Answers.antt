use Rattle.std.proofs.Common.{rules, sym, ◌∙◌}
use Rattle.rw_log_folder.proofs.GapLemmas.{gap_stops, gap_goes_on}
use Rattle.rw_log_folder.proofs.order.gap_after.Goals as goal

pub returns-then-saturating_sub-gt1 : goal.returns-then-saturating_sub-gt1
returns-then-saturating_sub-gt1 c =
    sym (c.loop-name.invariant ∙ gap_stops c.loop-name.last c.loop-name.name-index c.args.names.now (record { number = 0; digits = 0 }) (search rules) (search rules))

pub loop-name-preserved : goal.loop-name-preserved
loop-name-preserved c =
    c.loop-name.invariant ∙ gap_goes_on c.loop-name.last c.loop-name.name-index c.args.names.now (record { number = 0; digits = 0 }) (search rules) (search rules)
