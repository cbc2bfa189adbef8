-- What a text sets.
use Rattle.std.specs.Prelude.{◌≡◌, ◌⊎◌, ℕ, List, [], ◌∷◌, Any, Option, Some, None, Result, Ok, Err, IsOkAnd, codes, if◌then◌else◌}
use Rattle.std.specs.Str.{is_utf8}
use Rattle.toml.specs.Data.{Members, no_members, no_items, get_member}
use Rattle.toml.specs.Parse.{parse_document}
use Rattle.rw_relabel.specs.Patterns.{HasReadablePattern, IsRefusedPattern}
use Rattle.rw_relabel.specs.Rules.{RuleConfig}
use Rattle.rw_settings.specs.Faults.{least}
use Rattle.rw_settings.specs.Keys.{document_keys, keys_fault}
use Rattle.rw_settings.specs.LogTable.{may_compress_of, log_fault}
use Rattle.rw_settings.specs.Receiving.{receive_limits, receive_fault}
use Rattle.rw_settings.specs.RuleTables.{with_rules_fault, rules_of}
use Rattle.rw_settings.specs.Sending.{send_fields, send_fault}
use Rattle.rw_settings.specs.Values.{section, list_at, part_fault, part_or}
use Rattle.rw_settings.specs.declared.fault.SettingsFault.{SettingsFault}
use Rattle.rw_settings.specs.declared.fault.SettingsFault.TheVariants.{OutOfMemory, NotToml, BadRule}
use Rattle.rw_settings.specs.declared.settings.Settings.{Settings}

-- the least fault of a document, except that a pattern is refused
unfoldable pub document_fault : Members → Option SettingsFault
document_fault document = least (
    keys_fault document_keys document
    ∷ part_fault send_fault (section (get_member (codes "send") document))
    ∷ part_fault receive_fault (section (get_member (codes "receive") document))
    ∷ part_fault (with_rules_fault None) (list_at (get_member (codes "rule") document))
    ∷ part_fault log_fault (section (get_member (codes "log") document))
    ∷ []
    )

-- what a document sets, with the defaults filled in
unfoldable pub settings_of : Members → Settings
settings_of document = record {
  config = send_fields (part_or no_members (section (get_member (codes "send") document)))
      (rules_of (part_or no_items (list_at (get_member (codes "rule") document))));
  limits = receive_limits (part_or no_members (section (get_member (codes "receive") document)));
  may_compress = may_compress_of (part_or no_members (section (get_member (codes "log") document)));
}

-- what was read, unless there is a fault
abbrev pub unless_faulty : Option SettingsFault → Settings → Result Settings SettingsFault
unless_faulty None settings = Ok settings
unless_faulty (Some fault) settings = Err fault

abbrev pub settings_if : Option Members → Result Settings SettingsFault
settings_if None = Err NotToml
settings_if (Some document) = unless_faulty (document_fault document) (settings_of document)

-- what a text sets, or the least fault of its document, except that a pattern is refused
unfoldable pub settings_in : List ℕ → Result Settings SettingsFault
settings_in text = if is_utf8 text then settings_if (parse_document text) else Err NotToml

-- the regex crate refuses a rule, or it has no source label
abbrev pub IsRefusedRule : RuleConfig → Type 0
IsRefusedRule rule = IsRefusedPattern rule.pattern ⊎ ((rule.source_labels ≡ []) × HasReadablePattern rule.pattern)

-- a fault is out of memory, or the one that was judged, or a rule is refused that was judged to be
-- valid
abbrev pub IsFaultOf : Result Settings SettingsFault → SettingsFault → Type 0
IsFaultOf judged fault =
    (fault ≡ OutOfMemory) ⊎ (judged ≡ Err fault) ⊎ ((fault ≡ BadRule) × IsOkAnd judged (λ s. Any IsRefusedRule s.config.rules))
