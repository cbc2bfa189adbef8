-- What a document without a fault sets, and what it does not.
use Rattle.std.proofs.Common.{◌≡◌, ◌⊎◌, inl, inr, List, [], ◌∷◌, Any, Bool, true, false, cond, nat_lt, fold, Option, Some, None, IfOk, codes, refl}
use Rattle.std.specs.List.{AllByRecursion}
use Rattle.toml.specs.Data.{Members, no_members, no_items, get_member}
use Rattle.rw_relabel.specs.Rules.{RuleConfig}
use Rattle.rw_shard_core.specs.Configs.{is_ordered}
use Rattle.rw_settings.specs.Faults.{fault_number, lesser, least}
use Rattle.rw_settings.specs.Keys.{send_keys, table_fault}
use Rattle.rw_settings.specs.RuleTables.{rules_of}
use Rattle.rw_settings.specs.SentLabels.{external_fault}
use Rattle.rw_settings.specs.Sending.{send_fields, order_fault, send_fault}
use Rattle.rw_settings.specs.Settings.{document_fault, settings_of, settings_if, unless_faulty, IsRefusedRule, IsFaultOf}
use Rattle.rw_settings.specs.Values.{section, list_at, part_fault, part_or}
use Rattle.rw_settings.specs.declared.fault.SettingsFault.{SettingsFault}
use Rattle.rw_settings.specs.declared.fault.SettingsFault.TheVariants.{OutOfMemory, OutOfRange, BadRule}

some_anyway : (b : Bool) (f g : SettingsFault) → cond b (Some g) (Some f) ≡ None → ⊥
some_anyway true f g h = cc
some_anyway false f g h = cc

-- without a fault on one side the lesser is that of the other side
pub lesser_none : (f g : Option SettingsFault) → lesser f g ≡ None → (f ≡ None) × (g ≡ None)
lesser_none None g h = (refl, h)
lesser_none (Some f) None h = absurd cc
lesser_none (Some f) (Some g) h = absurd (some_anyway (nat_lt (fault_number g) (fault_number f)) f g h)

none_among : (f : Option SettingsFault) (fs : List (Option SettingsFault)) → fold lesser f fs ≡ None → (f ≡ None) × AllByRecursion (λ g. g ≡ None) fs
none_among f [] h = (h, tt)
none_among f (g ∷ fs) h =
    let rest = none_among (lesser f g) fs h in
    let both = lesser_none f g rest.0 in
    (both.0, (both.1, rest.1))

-- and the least of some likewise
pub least_none : (fs : List (Option SettingsFault)) → least fs ≡ None → AllByRecursion (λ f. f ≡ None) fs
unfolding least
least_none fs h = (none_among None fs h).1

-- a table `send` without a fault is in order
pub ordered_send : (table : Members) → send_fault table ≡ None → order_fault table ≡ None
ordered_send table h =
    let keys = table_fault send_keys table in
    let order = order_fault table in
    (lesser_none keys order (lesser_none (lesser keys order) (external_fault table) h).0).1

ordered_part : (o : Option Members) → part_fault send_fault o ≡ None → order_fault (part_or no_members o) ≡ None
ordered_part None h = absurd cc
ordered_part (Some table) h = ordered_send table h

-- and that of a document without a fault
pub ordered_document : (document : Members) → document_fault document ≡ None → order_fault (part_or no_members (section (get_member (codes "send") document))) ≡ None
unfolding document_fault
ordered_document document h = ordered_part _ ((least_none _ h).1.0)

in_order_as : (b : Bool) → cond b None (Some OutOfRange) ≡ None → b ≡ true
in_order_as true h = refl
in_order_as false h = absurd cc

-- the numbers are in order whatever the rules are
pub in_order : (table : Members) (rules : List RuleConfig) → order_fault table ≡ None → is_ordered (send_fields table rules) ≡ true
unfolding order_fault send_fields
in_order table rules h = in_order_as (is_ordered (send_fields table [])) h

-- the rules are those that were given
pub rules_kept : (table : Members) (rules : List RuleConfig) → (send_fields table rules).rules ≡ rules
unfolding send_fields
rules_kept table rules = refl

-- what is known of the fault of a document that has none but that a rule is refused
pub refused_document : (document : Members) (f : SettingsFault) → document_fault document ≡ None
    → (f ≡ OutOfMemory) ⊎ ((f ≡ BadRule) × Any IsRefusedRule (rules_of (part_or no_items (list_at (get_member (codes "rule") document)))))
    → IsFaultOf (settings_if (Some document)) f
unfolding settings_of send_fields
refused_document document f none (inl e) = inl e
refused_document document f none (inr (e, refused)) = rw none (inr (inr (e, refused)))

judged_rules : (fault : Option SettingsFault) (document : Members) (rules : List RuleConfig)
    → rules ≡ rules_of (part_or no_items (list_at (get_member (codes "rule") document)))
    → IfOk (unless_faulty fault (settings_of document)) (λ s. rules ≡ s.config.rules)
unfolding settings_of send_fields
judged_rules None document rules same = same
judged_rules (Some f) document rules same = tt

-- the rules of a document are those of what it sets
pub document_rules : (document : Members) (rules : List RuleConfig)
    → rules ≡ rules_of (part_or no_items (list_at (get_member (codes "rule") document)))
    → IfOk (settings_if (Some document)) (λ s. rules ≡ s.config.rules)
document_rules document rules same = judged_rules (document_fault document) document rules same
