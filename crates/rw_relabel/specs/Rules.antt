-- Relabelling by `keep` and `drop` (configuration manual of Prometheus, `relabel_config`).
use Rattle.std.specs.Prelude.{ℕ, List, [], ◌∷◌, Bool, not, if◌then◌else◌}
use Rattle.std.specs.List.{list_all, join_by}
use Rattle.std.specs.Str.{bytes_eq}
use Rattle.rw_types.specs.Labels.{Labels}
use Rattle.rw_relabel.specs.Patterns.{matches_whole}
use Rattle.rw_relabel.specs.declared.rule.Action.{Action}
use Rattle.rw_relabel.specs.declared.rule.Action.TheVariants.{Keep, Drop}

-- a rule as its configuration writes it
pub record RuleConfig : Type 0 where
  pub action : Action
  pub source_labels : List (List ℕ)
  pub separator : List ℕ
  pub pattern : List ℕ

-- the value of the label of this name, empty if there is none
abbrev pub value_of : Labels → List ℕ → List ℕ
value_of [] name = []
value_of (label ∷ labels) name = if bytes_eq label.0 name then label.1 else value_of labels name

-- the values of the source labels, joined by the separator
abbrev pub joined_values : RuleConfig → Labels → List ℕ
joined_values rule labels = join_by (value_of labels) rule.separator rule.source_labels

-- the pattern matches the whole joined text
abbrev pub matches : RuleConfig → Labels → Bool
matches rule labels = matches_whole rule.pattern (joined_values rule labels)

-- what an action makes of a match
abbrev pub acts : Action → Bool → Bool
acts Keep found = found
acts Drop found = not found

-- a keep rule matches, or a drop rule does not
abbrev pub lets_pass : RuleConfig → Labels → Bool
lets_pass rule labels = acts rule.action (matches rule labels)

-- every keep rule matches, and no drop rule does
unfoldable pub keeps : List RuleConfig → Labels → Bool
keeps rules labels = list_all (λ rule. lets_pass rule labels) rules
