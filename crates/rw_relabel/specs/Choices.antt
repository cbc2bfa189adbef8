-- Which series are sent.
use Rattle.std.specs.Prelude.{[]}
use Rattle.rw_types.specs.declared.names.Names.TheVariants.{Legacy}
use Rattle.rw_relabel.specs.declared.choice.Choice.{Choice}

-- all series with legacy names
abbrev pub legacy : Choice
legacy = record { names = Legacy; rules = [] }
