-- What a look-up of a label set says.
use Rattle.std.specs.Prelude.{◌≡◌, ℕ, ◌≤◌, List, [], ◌∷◌, ◌++◌, length, Option, None, Some}
use Rattle.std.specs.BTreeMap.{BTreeMap, get, Updates}
use Rattle.rw_types.specs.Labels.{Labels}
use Rattle.rw_types.specs.LabelOrder.{labels_cmp}
use Rattle.rw_head.specs.declared.places.Entered.{Entered}
use Rattle.rw_head.specs.declared.places.Entered.TheVariants.{Had, New}
use Rattle.rw_head.specs.declared.places.Found.{Found}
use Rattle.rw_head.specs.declared.places.Found.TheVariants.{At, Named}
use Rattle.rw_head.specs.declared.verdict.Verdict.{Verdict}
use Rattle.rw_head.specs.declared.verdict.Verdict.TheVariants.{OutOfOrder}
use Rattle.rw_head.specs.Lists.{Lists}
use Rattle.rw_head.specs.Order.{Point, accept}

-- the place that a label set has, or otherwise its name
abbrev pub Finds : Found → Labels → Option ℕ → Type 0
Finds (At n) l place = place ≡ Some n
Finds (Named name) l place = name ≡ l

-- these are the points of a label set that had none, all of them staged
pub record AreStaged (x : Lists) (points : List Point) : Type 0 where
  pub gone : x.gone ≡ []
  pub kept : x.kept ≡ []
  pub staged : accept (Some []) points ≡ Some x.staged
  pub few : length x.staged ≤ length points

-- a label set had a place, and nothing changed, or it has the next one now, with its points
abbrev pub Enters : Entered → BTreeMap Labels ℕ → BTreeMap Labels ℕ → Labels → ℕ → List Point → Type 0
Enters (Had n) index new l next points = (get labels_cmp index l ≡ Some n) × (new.entries ≡ index.entries)
Enters (New x) index new l next points = (get labels_cmp index l ≡ None) × (Updates labels_cmp index new l (Some next) × AreStaged x points)

-- the label sets by place after that
abbrev pub names_after : Entered → List Labels → Labels → List Labels
names_after (Had n) names l = names
names_after (New x) names l = names ++ l ∷ []

-- a label set had no place, and its points are out of order
pub record IsOutOfOrder (v : Verdict) (place : Option ℕ) (points : List Point) : Type 0 where
  pub verdict : v ≡ OutOfOrder
  pub missing : place ≡ None
  pub refused : accept (Some []) points ≡ None
