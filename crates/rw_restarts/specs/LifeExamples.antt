-- The small history of two runs, as lives of the label set that they send. The first one is killed,
-- and the second one reports `complete`.
use Rattle.std.specs.Prelude.{List, [], ◌∷◌, None, Some}
use Rattle.rw_types.specs.declared.entry.Entry.{Entry}
use Rattle.rw_types.specs.declared.entry.Entry.TheVariants.{Def, Sample}
use Rattle.rw_types.specs.declared.names.Names.TheVariants.{Utf8}
use Rattle.rw_relabel.specs.declared.choice.Choice.{Choice}
use Rattle.rw_shard_core.specs.declared.outcome.Outcome.TheVariants.{Complete}
use Rattle.rw_restarts.specs.Examples.{example_series, first, second, killed_run, second_run}
use Rattle.rw_restarts.specs.RunLives.{ReportedRun}

abbrev pub choice : Choice
choice = record { names = Utf8; rules = [] }

abbrev pub log : List Entry
log = Def 1 example_series ∷ Sample 1 first.0 first.1 ∷ Sample 1 second.0 second.1 ∷ []

abbrev pub killed : ReportedRun
killed = record { run = killed_run; fed = log; outcome = None }

abbrev pub complete : ReportedRun
complete = record { run = second_run; fed = log; outcome = Some (Complete 3) }

abbrev pub both : List ReportedRun
both = killed ∷ complete ∷ []
