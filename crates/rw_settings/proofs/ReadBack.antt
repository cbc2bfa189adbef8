-- The text of settings that were read is read as the same settings.
use Rattle.std.proofs.Common.{◌≡◌, ℕ, suc, List, [], ◌∷◌, ◌++◌, flat_map, length, codes, Bool, true, false, cond, Option, Some, None, Result, Ok, Err, refl, ap, subst, arith}
use Rattle.std.specs.List.{AllByRecursion}
use Rattle.std.specs.Str.{is_utf8}
use Rattle.toml.specs.Data.{table, Items, no_items, Members, no_members, get_member}
use Rattle.toml.specs.Parse.{skip_bom, parse_document}
use Rattle.toml.specs.Tables.{no_nodes}
use Rattle.toml.specs.Text.{IsLinesText}
use Rattle.toml.proofs.ReadLines.{read_lines}
use Rattle.rw_relabel.specs.Rules.{RuleConfig}
use Rattle.rw_shard_core.specs.declared.config.ConfigFields.{ConfigFields}
use Rattle.rw_head.specs.declared.limits.Limits.{Limits}
use Rattle.rw_settings.specs.Faults.{least}
use Rattle.rw_settings.specs.Receiving.{receive_values}
use Rattle.rw_settings.specs.Keys.{document_keys, send_keys, receive_keys, keys_fault, table_fault}
use Rattle.rw_settings.specs.LogTable.{may_compress_of, log_fault}
use Rattle.rw_settings.specs.RuleTables.{with_rules_fault, rules_of}
use Rattle.rw_settings.specs.Sending.{send_fields, send_fault, send_values}
use Rattle.rw_settings.specs.Settings.{document_fault, settings_of, settings_if, settings_in, unless_faulty}
use Rattle.rw_settings.specs.Values.{section, list_at, part_fault, part_or}
use Rattle.rw_settings.specs.declared.fault.SettingsFault.{SettingsFault}
use Rattle.rw_settings.specs.declared.settings.Settings.{Settings}
use Rattle.rw_settings.proofs.DocumentLemmas.{least_none}
use Rattle.rw_settings.specs.SettingsText.{settings_text, send_text, receive_text, log_text, rule_text}
use Rattle.rw_settings.proofs.Written.{send_expressions, receive_expressions, log_expressions, rule_expressions, first_lines, lines_more, send_written, receive_written, log_written, rules_written}
use Rattle.rw_settings.proofs.Defined.{send_members, receive_members, log_members, with_rules, document_of, settings_expressions, settings_defined}
use Rattle.rw_settings.proofs.Printed.{settings_printed}
use Rattle.rw_settings.proofs.Judged.{SendTaken, LimitsTaken, HasLabels, send_taken, limits_taken, all_fit, send_same, send_judged, limits_same, limits_judged, rules_judged, rules_same, labelled_from}

-- what settings have that were read
record Taken (s : Settings) : Type 0 where
  pub send : SendTaken s.config
  pub limits : LimitsTaken s.limits
  pub rules : AllByRecursion HasLabels s.config.rules

send_part : (o : Option Members) (rules : List RuleConfig) → part_fault send_fault o ≡ None → SendTaken (send_fields (part_or no_members o) rules)
send_part None rules h = absurd cc
send_part (Some ms) rules h = send_taken ms rules h

rules_part : (o : Option Items) → part_fault (with_rules_fault None) o ≡ None → AllByRecursion HasLabels (rules_of (part_or no_items o))
rules_part None h = absurd cc
rules_part (Some ds) h = (labelled_from ds None h).1

settings_taken : (document : Members) → document_fault document ≡ None → Taken (settings_of document)
unfolding document_fault settings_of send_fields
settings_taken document h =
    let all = least_none _ h in
    record {
      send = send_part (section (get_member (codes "send") document)) _ all.1.0;
      limits = limits_taken _;
      rules = rules_part (list_at (get_member (codes "rule") document)) all.1.1.1.0;
    }

-- ---- the document that was written

module _ (send : ConfigFields) (limits : Limits) where
  keys_known : (on : Bool) (rules : List RuleConfig) → keys_fault document_keys (document_of send limits on rules) ≡ None
  keys_known true [] = refl
  keys_known true (rule ∷ rules) = refl
  keys_known false [] = refl
  keys_known false (rule ∷ rules) = refl

  send_found : (on : Bool) (rules : List RuleConfig) → get_member (codes "send") (document_of send limits on rules) ≡ Some (table (send_members send))
  send_found true [] = refl
  send_found true (rule ∷ rules) = refl
  send_found false [] = refl
  send_found false (rule ∷ rules) = refl

  limits_found : (on : Bool) (rules : List RuleConfig) → get_member (codes "receive") (document_of send limits on rules) ≡ Some (table (receive_members limits))
  limits_found true rules = refl
  limits_found false rules = refl

  log_found : (on : Bool) (rules : List RuleConfig) → section (get_member (codes "log") (document_of send limits on rules)) ≡ Some (log_members on)
  log_found true rules = refl
  log_found false [] = refl
  log_found false (rule ∷ rules) = refl

  rules_found : (on : Bool) (rules : List RuleConfig) → list_at (get_member (codes "rule") (document_of send limits on rules)) ≡ Some (with_rules no_items rules)
  rules_found true [] = refl
  rules_found true (rule ∷ rules) = refl
  rules_found false [] = refl
  rules_found false (rule ∷ rules) = refl

log_judged : (on : Bool) → log_fault (log_members on) ≡ None
unfolding table_fault least
log_judged true = refl
log_judged false = refl

log_same : (on : Bool) → may_compress_of (log_members on) ≡ on
log_same true = refl
log_same false = refl

document_judged : (s : Settings) → Taken s → document_fault (document_of s.config s.limits s.may_compress s.config.rules) ≡ None
unfolding document_fault least
document_judged s taken =
    rw (
      keys_known s.config s.limits s.may_compress s.config.rules,
      send_found s.config s.limits s.may_compress s.config.rules,
      limits_found s.config s.limits s.may_compress s.config.rules,
      rules_found s.config s.limits s.may_compress s.config.rules,
      log_found s.config s.limits s.may_compress s.config.rules,
      send_judged s.config taken.send,
      limits_judged s.limits taken.limits,
      rules_judged s.config.rules no_items refl taken.rules,
      log_judged s.may_compress,
    ) refl

document_same : (s : Settings) → Taken s → settings_of (document_of s.config s.limits s.may_compress s.config.rules) ≡ s
unfolding settings_of
document_same s taken =
    rw (
      send_found s.config s.limits s.may_compress s.config.rules,
      limits_found s.config s.limits s.may_compress s.config.rules,
      rules_found s.config s.limits s.may_compress s.config.rules,
      log_found s.config s.limits s.may_compress s.config.rules,
      rules_same s.config.rules no_items,
      send_same s.config taken.send,
      limits_same s.limits taken.limits,
      log_same s.may_compress,
    ) refl

-- ---- the text

settings_written : (s : Settings) → Taken s → IsLinesText false false (settings_expressions s) (settings_text s)
unfolding settings_text
settings_written s taken =
    let rules = flat_map rule_expressions s.config.rules in
    let rule_lines = flat_map rule_text s.config.rules in
    let more = log_expressions s.may_compress ++ rules in
    let more_lines = log_text s.may_compress ++ rule_lines in
    let at_log = lines_more (log_expressions s.may_compress) rules (log_text s.may_compress) rule_lines (log_written s.may_compress) (rules_written s.config.rules) in
    let behind = lines_more (receive_expressions s.limits) more (receive_text s.limits) more_lines (receive_written s.limits (all_fit (receive_values s.limits) receive_keys taken.limits)) at_log in
    first_lines (send_expressions s.config) (receive_expressions s.limits ++ more) (send_text s.config) (receive_text s.limits ++ more_lines) refl
    (send_written s.config (all_fit (send_values s.config) send_keys taken.send.suits)) behind

no_mark : (s : Settings) → skip_bom (settings_text s) ≡ settings_text s
unfolding skip_bom settings_text send_text
no_mark s = refl

text_parsed : (s : Settings) → Taken s → parse_document (settings_text s) ≡ Some (document_of s.config s.limits s.may_compress s.config.rules)
unfolding parse_document
text_parsed s taken =
    let text = settings_text s in
    let read = read_lines false false (settings_expressions s) text text (no_nodes, []) (suc (length text)) (settings_written s taken) (settings_printed s) refl (omega arith) in
    let (doc, ran, same) = settings_defined s in
    rw (no_mark s, read, ran) (ap Some same)

settings_read : (s : Settings) → Taken s → is_utf8 (settings_text s) ≡ true → settings_in (settings_text s) ≡ Ok s
unfolding settings_in
settings_read s taken utf8 =
    rw (utf8, text_parsed s taken, document_judged s taken) (ap Ok (document_same s taken))

-- ---- what was read

abbrev read_or : Settings → Result Settings SettingsFault → Settings
read_or other (Ok s) = s
read_or other (Err f) = other

taken_unless : (fault : Option SettingsFault) (document : Members) (s : Settings) → document_fault document ≡ fault → unless_faulty fault (settings_of document) ≡ Ok s → Taken s
taken_unless None document s none h = subst Taken (ap (read_or s) h) (settings_taken document none)
taken_unless (Some f) document s none h = absurd cc

taken_if : (o : Option Members) (s : Settings) → settings_if o ≡ Ok s → Taken s
taken_if None s h = absurd cc
taken_if (Some document) s h = taken_unless (document_fault document) document s refl h

taken_text : (b : Bool) (o : Option Members) (s : Settings) → cond b (settings_if o) (Err SettingsFault.NotToml) ≡ Ok s → Taken s
taken_text true o s h = taken_if o s h
taken_text false o s h = absurd cc

pub text_read : (text : List ℕ) (s : Settings) → settings_in text ≡ Ok s → is_utf8 (settings_text s) ≡ true → settings_in (settings_text s) ≡ Ok s
unfolding settings_in
text_read text s h utf8 = settings_read s (taken_text (is_utf8 text) (parse_document text) s h) utf8
