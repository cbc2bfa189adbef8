-- The document that was written has no fault, and sets the same.
use Rattle.std.proofs.Common.{◌≡◌, ℕ, ◌^◌, ◌<◌, List, [], ◌∷◌, ◌++◌, codes, Bool, true, false, ◌&&◌, nat_le, nat_lt, cond, Option, Some, None, Ok, Err, refl, sym, ap, ◌∙◌, arith, append_assoc, append-nil}
use Rattle.std.specs.List.{AllByRecursion}
use Rattle.std.proofs.lemmas.Bool.Decides.{nat_tests}
use Rattle.toml.specs.Data.{Data, as_str, as_table, as_array, table, Items, no_items, item, push_item, Members, no_members, get_member}
use Rattle.rw_types.specs.Requests.{is_host_name, is_request_path}
use Rattle.rw_types.specs.declared.names.Names.{Names}
use Rattle.rw_types.specs.declared.names.Names.TheVariants.{Legacy, Utf8}
use Rattle.rw_relabel.specs.Rules.{RuleConfig}
use Rattle.rw_relabel.specs.declared.rule.Action.{Action}
use Rattle.rw_relabel.specs.declared.rule.Action.TheVariants.{Keep, Drop}
use Rattle.rw_shard_core.specs.Configs.{is_ordered}
use Rattle.rw_shard_core.specs.declared.config.ConfigFields.{ConfigFields}
use Rattle.rw_head.specs.declared.limits.Limits.{Limits}
use Rattle.rw_settings.specs.Faults.{lesser, least}
use Rattle.rw_settings.specs.Receiving.{receive_limits, receive_fault, receive_values}
use Rattle.rw_settings.specs.Keys.{Row, host, path, shards, min_shards, max_shards, capacity, batch, min_backoff_ms, max_backoff_ms, timeout_ms, max_body_bytes, max_labels, max_label_bytes, busy_first, snappy, headers, bearer_token_file, external_labels, send_keys, receive_keys, number_for, number_setting, switch_setting, table_fault}
use Rattle.rw_settings.specs.RuleTables.{rule_table_fault, rule_fault_of, with_rules_fault, texts_of, rule_config, rules_of}
use Rattle.rw_settings.specs.Sending.{send_fields, order_fault, send_fault, send_values}
use Rattle.rw_settings.specs.Values.{Setting, of_number, of_true, of_text, of_texts, switch_values, names_text, are_texts, labels_fault, source_fault, number_at, text_if, text_setting, names_in, found_or, part_or, list_at}
use Rattle.rw_settings.specs.declared.fault.SettingsFault.{SettingsFault}
use Rattle.rw_settings.specs.declared.keys.Kind.{Kind}
use Rattle.rw_settings.proofs.DocumentLemmas.{lesser_none, least_none, ordered_send}
use Rattle.rw_settings.proofs.KeyLemmas.{IsIn, number_taken}
use Rattle.rw_settings.proofs.Written.{text_items, Fits}
use Rattle.rw_settings.proofs.Defined.{send_members, receive_members, rule_members, with_rules}

-- ---- what settings have that were read

text_passes : (test : List ℕ → Bool) (d t : List ℕ) (b : Bool) → test t ≡ b → test d ≡ true → test (found_or d (cond b (Ok (Some t)) (Err SettingsFault.OutOfRange))) ≡ true
text_passes test d t true is default = is
text_passes test d t false is default = default

text_if_taken : (test : List ℕ → Bool) (d : List ℕ) (o : Option (List ℕ)) → test d ≡ true → test (found_or d (text_if test o)) ≡ true
text_if_taken test d None default = default
text_if_taken test d (Some t) default = text_passes test d t (test t) refl default

-- a text that was taken passes its test, and so does its default
text_taken : (test : List ℕ → Bool) (d : List ℕ) (o : Option Data) → test d ≡ true → test (found_or d (text_setting test o)) ≡ true
text_taken test d None default = default
text_taken test d (Some v) default = text_if_taken test d (as_str v) default

-- a number is in the range of its key
abbrev IsNumber : Kind → ℕ → Type 0
IsNumber (Kind.Number low high default) n = IsIn low high n
IsNumber _ n = ⊥

-- a text passes the test of its key
abbrev passes : Kind → List ℕ → Bool
passes Kind.Host t = is_host_name t
passes Kind.Path t = is_request_path t
passes _ t = true

-- a key takes the setting, and it fits 64 signed bits
abbrev Suits : Setting → Kind → Type 0
Suits (of_number n) kind = IsNumber kind n × (n < 2 ^ 63)
Suits of_true kind = Unit {0}
Suits (of_text t) kind = passes kind t ≡ true
Suits (of_texts ts) kind = Unit {0}

abbrev pub AllSuit : List Setting → List Row → Type 0
AllSuit [] rows = Unit {0}
AllSuit (s ∷ settings) (row ∷ rows) = Suits s row.1 × AllSuit settings rows
AllSuit _ _ = ⊥

number_suits : (low high d : ℕ) (o : Option Data) → nat_lt high (2 ^ 63) ≡ true → IsIn low high d → IsIn low high (found_or d (number_at low high o)) × (found_or d (number_at low high o) < 2 ^ 63)
number_suits low high d o small default =
    let taken = number_taken low high d o default in
    (taken, grind (arith, nat_tests))

-- the default of a number is in its range, which fits
abbrev is_sound : Kind → Bool
is_sound (Kind.Number low high default) = nat_lt high (2 ^ 63) && (nat_le low default && nat_le default high)
is_sound _ = false

kind_suits : (kind : Kind) (o : Option Data) → is_sound kind ≡ true → IsNumber kind (number_for kind o) × (number_for kind o < 2 ^ 63)
kind_suits (Kind.Number low high d) o sound = number_suits low high d o (grind (arith, nat_tests)) (grind (arith, nat_tests))
kind_suits _ o sound = absurd cc

number_row : (row : Row) (ms : Members) → is_sound row.1 ≡ true → IsNumber row.1 (number_setting row ms) × (number_setting row ms < 2 ^ 63)
number_row row ms sound = kind_suits row.1 (get_member row.0 ms) sound

pub record SendTaken (send : ConfigFields) : Type 0 where
  pub suits : AllSuit (send_values send) send_keys
  pub ordered : is_ordered send ≡ true

in_order : (b : Bool) → cond b None (Some SettingsFault.OutOfRange) ≡ None → b ≡ true
in_order true h = refl
in_order false h = absurd cc

switches_suit : (on : Bool) (rows : List Row) → AllSuit (switch_values on) (snappy ∷ rows)
switches_suit true rows = (tt, tt)
switches_suit false rows = tt

pub send_taken : (ms : Members) (rules : List RuleConfig) → send_fault ms ≡ None → SendTaken (send_fields ms rules)
unfolding order_fault send_fields
send_taken ms rules h = record {
  suits = (text_taken is_host_name (codes "localhost:9090") (get_member host.0 ms) refl, (text_taken is_request_path (codes "/api/v1/write") (get_member path.0 ms) refl, (number_row shards ms refl, (number_row min_shards ms refl, (number_row max_shards ms refl, (number_row capacity ms refl, (number_row batch ms refl, (number_row min_backoff_ms ms refl, (number_row max_backoff_ms ms refl, (number_row timeout_ms ms refl, (refl, switches_suit (switch_setting snappy ms) (headers ∷ bearer_token_file ∷ external_labels ∷ []))))))))))));
  ordered = in_order _ (ordered_send ms h);
}

abbrev pub LimitsTaken : Limits → Type 0
LimitsTaken limits = AllSuit (receive_values limits) receive_keys

pub limits_taken : (ms : Members) → LimitsTaken (receive_limits ms)
unfolding receive_limits
limits_taken ms = (text_taken is_request_path (codes "/api/v1/write") (get_member path.0 ms) refl, (number_row max_body_bytes ms refl, (number_row max_labels ms refl, (number_row max_label_bytes ms refl, (number_row busy_first ms refl, (refl, switches_suit (switch_setting snappy ms) []))))))

fit : (s : Setting) (kind : Kind) → Suits s kind → Fits s
fit (of_number n) kind suits = suits.1
fit of_true kind suits = tt
fit (of_text t) kind suits = tt
fit (of_texts ts) kind suits = tt

pub all_fit : (settings : List Setting) (rows : List Row) → AllSuit settings rows → AllByRecursion Fits settings
all_fit [] rows suit = tt
all_fit (s ∷ settings) [] suit = absurd suit
all_fit (s ∷ settings) (row ∷ rows) suit = (fit s row.1 suit.0, all_fit settings rows suit.1)

-- the names that were written are read again
names_read : (names : Names) → names_in (names_text names) ≡ Ok (Some names)
names_read Legacy = refl
names_read Utf8 = refl

send_same_as : (sending : ConfigFields) (snappy : Bool)
    → let send : ConfigFields = record sending { snappy = snappy } in
    SendTaken send → send_fields (send_members send) send.rules ≡ send
unfolding send_fields
send_same_as sending true t =
    let (on, (at, (a, (b, (c, (d, (e, (f, (g, (h, more)))))))))) = t.suits in
    rw (on, at, a.0, b.0, c.0, d.0, e.0, f.0, g.0, h.0, names_read sending.names) refl
send_same_as sending false t =
    let (on, (at, (a, (b, (c, (d, (e, (f, (g, (h, more)))))))))) = t.suits in
    rw (on, at, a.0, b.0, c.0, d.0, e.0, f.0, g.0, h.0, names_read sending.names) refl

pub send_same : (send : ConfigFields) → SendTaken send → send_fields (send_members send) send.rules ≡ send
send_same send t = send_same_as send send.snappy t

send_judged_as : (sending : ConfigFields) (snappy : Bool)
    → let send : ConfigFields = record sending { snappy = snappy } in
    SendTaken send → send_fault (send_members send) ≡ None
unfolding table_fault order_fault send_fields least
send_judged_as sending true t =
    let (on, (at, (a, (b, (c, (d, (e, (f, (g, (h, more)))))))))) = t.suits in
    rw (on, at, a.0, b.0, c.0, d.0, e.0, f.0, g.0, h.0, names_read sending.names, t.ordered) refl
send_judged_as sending false t =
    let (on, (at, (a, (b, (c, (d, (e, (f, (g, (h, more)))))))))) = t.suits in
    rw (on, at, a.0, b.0, c.0, d.0, e.0, f.0, g.0, h.0, names_read sending.names, t.ordered) refl

pub send_judged : (send : ConfigFields) → SendTaken send → send_fault (send_members send) ≡ None
send_judged send t = send_judged_as send send.snappy t

limits_same_as : (path : List ℕ) (body labels bytes busy : ℕ) (names : Names) (snappy : Bool)
    → let limits : Limits = record { path = path; max_body_bytes = body; max_labels = labels; max_label_bytes = bytes; busy_first = busy; names = names; snappy = snappy } in
    LimitsTaken limits → receive_limits (receive_members limits) ≡ limits
unfolding receive_limits
limits_same_as path body labels bytes busy names true (at, (a, (b, (c, (d, more))))) =
    rw (at, a.0, b.0, c.0, d.0, names_read names) refl
limits_same_as path body labels bytes busy names false (at, (a, (b, (c, (d, more))))) =
    rw (at, a.0, b.0, c.0, d.0, names_read names) refl

pub limits_same : (limits : Limits) → LimitsTaken limits → receive_limits (receive_members limits) ≡ limits
limits_same limits taken = limits_same_as limits.path limits.max_body_bytes limits.max_labels limits.max_label_bytes limits.busy_first limits.names limits.snappy taken

limits_judged_as : (path : List ℕ) (body labels bytes busy : ℕ) (names : Names) (snappy : Bool)
    → let limits : Limits = record { path = path; max_body_bytes = body; max_labels = labels; max_label_bytes = bytes; busy_first = busy; names = names; snappy = snappy } in
    LimitsTaken limits → receive_fault (receive_members limits) ≡ None
unfolding table_fault least
limits_judged_as path body labels bytes busy names true (at, (a, (b, (c, (d, more))))) =
    rw (at, a.0, b.0, c.0, d.0, names_read names) refl
limits_judged_as path body labels bytes busy names false (at, (a, (b, (c, (d, more))))) =
    rw (at, a.0, b.0, c.0, d.0, names_read names) refl

pub limits_judged : (limits : Limits) → LimitsTaken limits → receive_fault (receive_members limits) ≡ None
limits_judged limits taken = limits_judged_as limits.path limits.max_body_bytes limits.max_labels limits.max_label_bytes limits.busy_first limits.names limits.snappy taken

-- ---- rules

-- a rule has a source label
abbrev pub HasLabels : RuleConfig → Type 0
HasLabels rule = ¬ (rule.source_labels ≡ [])

are_texts-items : (ts : List (List ℕ)) → are_texts (text_items ts) ≡ true
are_texts-items [] = refl
are_texts-items (t ∷ ts) = are_texts-items ts

texts_of-items : (ts : List (List ℕ)) → texts_of (text_items ts) ≡ ts
texts_of-items [] = refl
texts_of-items (t ∷ ts) = ap (λ us. t ∷ us) (texts_of-items ts)

labels_judged : (ts : List (List ℕ)) → ¬ (ts ≡ []) → labels_fault (Some (text_items ts)) ≡ None
labels_judged [] some = absurd (some refl)
labels_judged (t ∷ ts) some = rw (are_texts-items ts) refl

rule_same_as : (action : Action) (labels : List (List ℕ)) (separator pattern : List ℕ)
    → let rule : RuleConfig = record { action = action; source_labels = labels; separator = separator; pattern = pattern } in rule_config (rule_members rule) ≡ rule
unfolding rule_config
rule_same_as Keep labels separator pattern = rw (texts_of-items labels) refl
rule_same_as Drop labels separator pattern = rw (texts_of-items labels) refl

rule_judged_as : (action : Action) (labels : List (List ℕ)) (separator pattern : List ℕ) → ¬ (labels ≡ [])
    → rule_table_fault (rule_members (record { action = action; source_labels = labels; separator = separator; pattern = pattern })) ≡ None
unfolding table_fault least
rule_judged_as Keep labels separator pattern some = rw (labels_judged labels some) refl
rule_judged_as Drop labels separator pattern some = rw (labels_judged labels some) refl

with_rules_fault-push : (fault : Option SettingsFault) (done : Items) (d : Data) → with_rules_fault fault (push_item done d) ≡ lesser (with_rules_fault fault done) (rule_fault_of (as_table d))
with_rules_fault-push fault no_items d = refl
with_rules_fault-push fault (item e done) d = with_rules_fault-push (lesser fault (rule_fault_of (as_table e))) done d

rules_of-push : (done : Items) (d : Data) → rules_of (push_item done d) ≡ rules_of done ++ rule_config (part_or no_members (as_table d)) ∷ []
rules_of-push no_items d = refl
rules_of-push (item e done) d = ap (λ rules. rule_config (part_or no_members (as_table e)) ∷ rules) (rules_of-push done d)

pub rules_judged : (rules : List RuleConfig) (done : Items) → with_rules_fault None done ≡ None → AllByRecursion HasLabels rules → with_rules_fault None (with_rules done rules) ≡ None
rules_judged [] done none some = none
rules_judged (rule ∷ rules) done none some =
    let this = rule_judged_as rule.action rule.source_labels rule.separator rule.pattern some.0 in
    rules_judged rules (push_item done (table (rule_members rule))) (with_rules_fault-push None done _ ∙ rw (none, this) refl) some.1

pub rules_same : (rules : List RuleConfig) (done : Items) → rules_of (with_rules done rules) ≡ rules_of done ++ rules
rules_same [] done = sym (append-nil (rules_of done))
rules_same (rule ∷ rules) done =
    let this = rule_same_as rule.action rule.source_labels rule.separator rule.pattern in
    let pushed = rules_of-push done (table (rule_members rule)) ∙ ap (λ r. rules_of done ++ r ∷ []) this in
    rules_same rules (push_item done (table (rule_members rule))) ∙ ap (λ x. x ++ rules) pushed ∙ append_assoc (rules_of done) (rule ∷ []) rules

-- each rule of a document without a fault has a label
labelled_list : (o : Option Items) → labels_fault o ≡ None → ¬ (texts_of (part_or no_items o) ≡ [])
labelled_list None h e = absurd cc
labelled_list (Some no_items) h e = absurd cc
labelled_list (Some (item d ds)) h e = absurd cc

labelled_source : (o : Option Data) → source_fault o ≡ None → ¬ (texts_of (part_or no_items (list_at o)) ≡ [])
labelled_source None h e = absurd cc
labelled_source (Some d) h e = labelled_list (as_array d) h e

labelled_rule : (o : Option Members) → rule_fault_of o ≡ None → HasLabels (rule_config (part_or no_members o))
unfolding table_fault rule_config
labelled_rule None h e = absurd cc
labelled_rule (Some ms) h e = labelled_source (get_member (codes "source_labels") ms) (least_none _ h).1.1.0 e

pub labelled_from : (ds : Items) (fault : Option SettingsFault) → with_rules_fault fault ds ≡ None → (fault ≡ None) × AllByRecursion HasLabels (rules_of ds)
labelled_from no_items fault h = (h, tt)
labelled_from (item d ds) fault h =
    let (before, after) = labelled_from ds (lesser fault (rule_fault_of (as_table d))) h in
    let (none, this) = lesser_none fault (rule_fault_of (as_table d)) before in
    (none, (labelled_rule (as_table d) this, after))
