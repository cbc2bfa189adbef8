-- The expressions of settings are such as the crate of TOML reads back.
use Rattle.std.proofs.Common.{◌≡◌, ℕ, ◌≤◌, List, [], ◌∷◌, ◌++◌, flat_map, Bool, true, false, refl, arith}
use Rattle.toml.specs.Data.{items_depth, items_have_valid_dates}
use Rattle.toml.specs.Tables.{Expression}
use Rattle.toml.proofs.ReadLines.{AllPrinted}
use Rattle.rw_relabel.specs.Rules.{RuleConfig}
use Rattle.rw_shard_core.specs.declared.config.ConfigFields.{ConfigFields}
use Rattle.rw_head.specs.declared.limits.Limits.{Limits}
use Rattle.rw_settings.specs.Keys.{Row, snappy, headers, bearer_token_file, external_labels}
use Rattle.rw_settings.specs.Values.{switch_values}
use Rattle.rw_settings.specs.declared.settings.Settings.{Settings}
use Rattle.rw_settings.proofs.Written.{text_items, pairs_of, send_expressions, receive_expressions, log_expressions, rule_expressions}
use Rattle.rw_settings.proofs.Defined.{settings_expressions}

-- what a number or a text has: no path, no depth, no date
abbrev IsScalar : Type 0
IsScalar = (◌≡◌ {A = List (List ℕ)} [] []) × (0 ≤ 80) × (true ≡ true)

scalar : IsScalar
scalar = (refl, omega arith, refl)

none_printed : (rows : List Row) → AllPrinted (pairs_of rows [])
none_printed [] = tt
none_printed (row ∷ rows) = tt

switch_printed : (row : Row) (rows : List Row) (on : Bool) → AllPrinted (pairs_of (row ∷ rows) (switch_values on))
switch_printed row rows true = (scalar, none_printed rows)
switch_printed row rows false = tt

send_printed : (send : ConfigFields) → AllPrinted (send_expressions send)
send_printed send = (omega arith, (scalar, (scalar, (scalar, (scalar, (scalar, (scalar, (scalar, (scalar, (scalar, (scalar, (scalar, switch_printed snappy (headers ∷ bearer_token_file ∷ external_labels ∷ []) send.snappy))))))))))))

receive_printed : (limits : Limits) → AllPrinted (receive_expressions limits)
receive_printed limits = (omega arith, (scalar, (scalar, (scalar, (scalar, (scalar, (scalar, switch_printed snappy [] limits.snappy)))))))

log_printed : (on : Bool) → AllPrinted (log_expressions on)
log_printed true = (omega arith, (scalar, tt))
log_printed false = tt

items_depth-texts : (ts : List (List ℕ)) → items_depth (text_items ts) ≡ 0
items_depth-texts [] = refl
items_depth-texts (t ∷ ts) = rw (items_depth-texts ts) refl

valid_dates-texts : (ts : List (List ℕ)) → items_have_valid_dates (text_items ts) ≡ true
valid_dates-texts [] = refl
valid_dates-texts (t ∷ ts) = valid_dates-texts ts

rule_printed : (rule : RuleConfig) → AllPrinted (rule_expressions rule)
rule_printed rule =
    (omega arith, (scalar, ((refl, omega (arith, items_depth-texts rule.source_labels), valid_dates-texts rule.source_labels), (scalar, (scalar, tt)))))

printed-append : (es fs : List Expression) → AllPrinted es → AllPrinted fs → AllPrinted (es ++ fs)
printed-append [] fs a b = b
printed-append (e ∷ es) fs a b = (a.0, printed-append es fs a.1 b)

rules_printed : (rules : List RuleConfig) → AllPrinted (flat_map rule_expressions rules)
rules_printed [] = tt
rules_printed (rule ∷ rules) = printed-append (rule_expressions rule) (flat_map rule_expressions rules) (rule_printed rule) (rules_printed rules)

pub settings_printed : (s : Settings) → AllPrinted (settings_expressions s)
settings_printed s =
    let rules = flat_map rule_expressions s.config.rules in
    let more = log_expressions s.may_compress ++ rules in
    printed-append (send_expressions s.config) (receive_expressions s.limits ++ more) (send_printed s.config)
    (printed-append (receive_expressions s.limits) more (receive_printed s.limits)
    (printed-append (log_expressions s.may_compress) rules (log_printed s.may_compress) (rules_printed s.config.rules)))
