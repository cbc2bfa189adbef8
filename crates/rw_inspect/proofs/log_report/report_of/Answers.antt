use Rattle.std.proofs.Common.{refl, ◌∙◌}
use Rattle.rw_inspect.proofs.InspectLemmas.{appended}
use Rattle.rw_inspect.proofs.log_report.report_of.Goals as goal

pub returns : goal.returns
returns c = record {
  rows_are = refl;
  counts_are = c.counts.ensures;
  first_are = appended _ _ _ c.in_ok-extend_from_slice.ensures.items c.new-first_not_rising.ensures.items ∙ c.first_not_rising.ensures;
  damage_is = refl;
  compresses_is = refl;
}
