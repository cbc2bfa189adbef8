-- The document that the expressions of settings define.
use Rattle.std.proofs.Common.{◌≡◌, ℕ, List, [], ◌∷◌, ◌++◌, flat_map, codes, Bool, true, false, Option, Some, refl}
use Rattle.toml.specs.Data.{array, table, Items, no_items, item, push_item, Members, no_members, member}
use Rattle.toml.specs.Tables.{value, open_table, open_array, header, Nodes, no_nodes, node, insert, close, Expression, Document, define, along_header, along_dots, at_key}
use Rattle.toml.proofs.ReadLines.{run}
use Rattle.rw_types.specs.declared.names.Names.{Names}
use Rattle.rw_relabel.specs.Rules.{RuleConfig}
use Rattle.rw_shard_core.specs.declared.config.ConfigFields.{ConfigFields}
use Rattle.rw_head.specs.declared.limits.Limits.{Limits}
use Rattle.rw_settings.specs.declared.settings.Settings.{Settings}
use Rattle.rw_settings.specs.Keys.{Row, send_keys, receive_keys, log_keys, rule_keys}
use Rattle.rw_settings.specs.LogTable.{log_values}
use Rattle.rw_settings.specs.Receiving.{receive_values}
use Rattle.rw_settings.specs.RuleTables.{rule_values}
use Rattle.rw_settings.specs.Sending.{send_values}
use Rattle.rw_settings.specs.Values.{Setting}
use Rattle.rw_settings.proofs.Written.{data_of, send_expressions, receive_expressions, log_expressions, rule_expressions}

-- the nodes of a table, each at its place in the order
abbrev nodes_of : Nodes → List Row → List Setting → Nodes
nodes_of nodes (row ∷ rows) (s ∷ settings) = nodes_of (insert row.0 (value (data_of s)) nodes) rows settings
nodes_of nodes _ _ = nodes

abbrev send_nodes : ConfigFields → Nodes
send_nodes send = nodes_of no_nodes send_keys (send_values send)

abbrev receive_nodes : Limits → Nodes
receive_nodes limits = nodes_of no_nodes receive_keys (receive_values limits)

abbrev log_nodes : Nodes
log_nodes = nodes_of no_nodes log_keys (log_values true)

abbrev rule_nodes : RuleConfig → Nodes
rule_nodes rule = nodes_of no_nodes rule_keys (rule_values rule)

-- the tables of the document
abbrev pub send_members : ConfigFields → Members
send_members send = close (send_nodes send)

abbrev pub receive_members : Limits → Members
receive_members limits = close (receive_nodes limits)

-- without the table a log has no Snappy blocks
abbrev pub log_members : Bool → Members
log_members true = close log_nodes
log_members false = no_members

abbrev pub rule_members : RuleConfig → Members
rule_members rule = close (rule_nodes rule)

-- the items after those that are done
abbrev pub with_rules : Items → List RuleConfig → Items
with_rules done [] = done
with_rules done (rule ∷ rules) = with_rules (push_item done (table (rule_members rule))) rules

abbrev pub rules_before_send : List RuleConfig → Members → Members
rules_before_send [] rest = rest
rules_before_send (rule ∷ rules) rest = member (codes "rule") (array (with_rules (item (table (rule_members rule)) no_items) rules)) rest

-- with the table `log` before the others, if it is written
abbrev pub with_log : Bool → Members → Members
with_log true rest = member (codes "log") (table (log_members true)) rest
with_log false rest = rest

-- the document that the text writes
abbrev pub document_of : ConfigFields → Limits → Bool → List RuleConfig → Members
document_of send limits on rules =
    with_log on
    (member (codes "receive") (table (receive_members limits))
    (rules_before_send rules (member (codes "send") (table (send_members send)) no_members)))

-- the root without rules, and with a last rule
abbrev without_rules : ConfigFields → Limits → Nodes
without_rules send limits =
    node (codes "receive") (open_table header (receive_nodes limits)) (node (codes "send") (open_table header (send_nodes send)) no_nodes)

-- likewise with the table `log`, and the name of the table that was written last
abbrev with_log_node : Bool → Nodes → Nodes
with_log_node true rest = node (codes "log") (open_table header log_nodes) rest
with_log_node false rest = rest

abbrev last_table : Bool → List ℕ
last_table true = codes "log"
last_table false = codes "receive"

abbrev with_last : ConfigFields → Limits → Items → Nodes → Nodes
with_last send limits done last =
    node (codes "receive") (open_table header (receive_nodes limits))
    (node (codes "rule") (open_array done last) (node (codes "send") (open_table header (send_nodes send)) no_nodes))

send_defined_as : (sending : ConfigFields) (snappy : Bool) (es : List Expression)
    → let send : ConfigFields = record sending { snappy = snappy } in
    run (no_nodes, []) (send_expressions send ++ es) ≡ run (node (codes "send") (open_table header (send_nodes send)) no_nodes, codes "send" ∷ []) es
unfolding define along_header along_dots at_key
send_defined_as sending true es = refl
send_defined_as sending false es = refl

send_defined : (send : ConfigFields) (es : List Expression) → run (no_nodes, []) (send_expressions send ++ es) ≡ run (node (codes "send") (open_table header (send_nodes send)) no_nodes, codes "send" ∷ []) es
send_defined send es = send_defined_as send send.snappy es

receive_defined_as : (send : ConfigFields) (path : List ℕ) (body labels bytes busy : ℕ) (names : Names) (snappy : Bool) (es : List Expression)
    → let limits : Limits = record { path = path; max_body_bytes = body; max_labels = labels; max_label_bytes = bytes; busy_first = busy; names = names; snappy = snappy } in
    run (node (codes "send") (open_table header (send_nodes send)) no_nodes, codes "send" ∷ []) (receive_expressions limits ++ es)
    ≡ run (without_rules send limits, codes "receive" ∷ []) es
unfolding define along_header along_dots at_key
receive_defined_as send path body labels bytes busy names true es = refl
receive_defined_as send path body labels bytes busy names false es = refl

receive_defined : (send : ConfigFields) (limits : Limits) (es : List Expression)
    → run (node (codes "send") (open_table header (send_nodes send)) no_nodes, codes "send" ∷ []) (receive_expressions limits ++ es)
    ≡ run (without_rules send limits, codes "receive" ∷ []) es
receive_defined send limits es = receive_defined_as send limits.path limits.max_body_bytes limits.max_labels limits.max_label_bytes limits.busy_first limits.names limits.snappy es

log_defined : (send : ConfigFields) (limits : Limits) (on : Bool) (es : List Expression)
    → run (without_rules send limits, codes "receive" ∷ []) (log_expressions on ++ es) ≡ run (with_log_node on (without_rules send limits), last_table on ∷ []) es
unfolding define along_header along_dots at_key
log_defined send limits true es = refl
log_defined send limits false es = refl

first_rule_defined : (send : ConfigFields) (limits : Limits) (on : Bool) (rule : RuleConfig) (es : List Expression)
    → run (with_log_node on (without_rules send limits), last_table on ∷ []) (rule_expressions rule ++ es) ≡ run (with_log_node on (with_last send limits no_items (rule_nodes rule)), codes "rule" ∷ []) es
unfolding define along_header along_dots at_key
first_rule_defined send limits true rule es = refl
first_rule_defined send limits false rule es = refl

next_rule_defined : (send : ConfigFields) (limits : Limits) (on : Bool) (done : Items) (last : Nodes) (rule : RuleConfig) (es : List Expression)
    → run (with_log_node on (with_last send limits done last), codes "rule" ∷ []) (rule_expressions rule ++ es)
    ≡ run (with_log_node on (with_last send limits (push_item done (table (close last))) (rule_nodes rule)), codes "rule" ∷ []) es
unfolding define along_header along_dots at_key
next_rule_defined send limits true done last rule es = refl
next_rule_defined send limits false done last rule es = refl

-- the expressions define a document whose root closes as these members
abbrev Defines : Option Document → Members → Type 0
Defines o ms = (doc : Document) × (o ≡ Some doc) × (close doc.0 ≡ ms)

more_rules_defined : (send : ConfigFields) (limits : Limits) (on : Bool) (rules : List RuleConfig) (done : Items) (last : RuleConfig)
    → Defines (run (with_log_node on (with_last send limits done (rule_nodes last)), codes "rule" ∷ []) (flat_map rule_expressions rules))
    (with_log on
    (member (codes "receive") (table (receive_members limits))
    (member (codes "rule") (array (with_rules (push_item done (table (rule_members last))) rules)) (member (codes "send") (table (send_members send)) no_members))))
more_rules_defined send limits true [] done last = (_, refl, refl)
more_rules_defined send limits false [] done last = (_, refl, refl)
more_rules_defined send limits on (rule ∷ rules) done last =
    let next = next_rule_defined send limits on done (rule_nodes last) rule (flat_map rule_expressions rules) in
    rw next (more_rules_defined send limits on rules (push_item done (table (rule_members last))) rule)

rules_defined : (send : ConfigFields) (limits : Limits) (on : Bool) (rules : List RuleConfig)
    → Defines (run (with_log_node on (without_rules send limits), last_table on ∷ []) (flat_map rule_expressions rules)) (document_of send limits on rules)
rules_defined send limits true [] = (_, refl, refl)
rules_defined send limits false [] = (_, refl, refl)
rules_defined send limits on (rule ∷ rules) =
    rw (first_rule_defined send limits on rule (flat_map rule_expressions rules)) (more_rules_defined send limits on rules no_items rule)

-- the expressions of all lines
abbrev pub settings_expressions : Settings → List Expression
settings_expressions s =
    send_expressions s.config ++ (receive_expressions s.limits ++ (log_expressions s.may_compress ++ flat_map rule_expressions s.config.rules))

pub settings_defined : (s : Settings) → (doc : Document) × (run (no_nodes, []) (settings_expressions s) ≡ Some doc) × (close doc.0 ≡ document_of s.config s.limits s.may_compress s.config.rules)
settings_defined s =
    let rules = flat_map rule_expressions s.config.rules in
    let more = log_expressions s.may_compress ++ rules in
    rw (
      send_defined s.config (receive_expressions s.limits ++ more),
      receive_defined s.config s.limits more,
      log_defined s.config s.limits s.may_compress rules,
    ) (rules_defined s.config s.limits s.may_compress s.config.rules)
