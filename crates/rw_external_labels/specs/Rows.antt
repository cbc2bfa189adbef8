-- Small series with external labels. What becomes of them was written down by hand.
use Rattle.std.specs.Prelude.{[], ◌∷◌, codes}
use Rattle.rw_types.specs.Labels.{Label, Labels}

abbrev pub instance : Label
instance = (codes "instance", codes "b:1")

abbrev pub job : Label
job = (codes "job", codes "api")

-- the labels of a series
abbrev pub series : Labels
series = instance ∷ job ∷ []

abbrev pub cluster : Label
cluster = (codes "cluster", codes "eu")

abbrev pub inst : Label
inst = (codes "inst", codes "x")

abbrev pub instances : Label
instances = (codes "instances", codes "x")

abbrev pub replica : Label
replica = (codes "replica", codes "1")

-- of a name that the series has
abbrev pub other_job : Label
other_job = (codes "job", codes "web")
