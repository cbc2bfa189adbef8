-- The settings: the keys of each table in the order in which they are printed, what each takes, and
-- the defaults of numbers.
use Rattle.std.specs.Prelude.{ℕ, List, [], ◌∷◌, map, Bool, true, false, ◌&&◌, Option, Some, None, codes, if◌then◌else◌}
use Rattle.std.specs.List.{list_any}
use Rattle.std.specs.Result.{result_err}
use Rattle.std.specs.Str.{bytes_eq}
use Rattle.toml.specs.Data.{Data, Members, no_members, member, get_member}
use Rattle.rw_types.specs.Requests.{is_host_name, is_request_path}
use Rattle.rw_types.specs.declared.names.Names.{Names}
use Rattle.rw_types.specs.declared.names.Names.TheVariants.{Legacy}
use Rattle.rw_settings.specs.Faults.{least}
use Rattle.rw_settings.specs.SentFields.{headers_fault}
use Rattle.rw_settings.specs.Values.{number_at, switch_at, text_setting, any_text, names_at, action_fault, source_fault, found_or}
use Rattle.rw_settings.specs.declared.fault.SettingsFault.{SettingsFault}
use Rattle.rw_settings.specs.declared.fault.SettingsFault.TheVariants.{UnknownKey}
use Rattle.rw_settings.specs.declared.keys.Kind.{Kind}

-- a key, and what it takes
abbrev pub Row : Type 0
Row = List ℕ × Kind

-- ---- the tables

abbrev pub document_keys : List Row
document_keys =
    (codes "send", Kind.Part) ∷ (codes "receive", Kind.Part) ∷ (codes "log", Kind.Part) ∷ (codes "rule", Kind.Part) ∷ []

abbrev pub host : Row
host = (codes "host", Kind.Host)

abbrev pub path : Row
path = (codes "path", Kind.Path)

-- a number has the least, the greatest and the default
abbrev pub shards : Row
shards = (codes "shards", Kind.Number 1 1000 1)

abbrev pub min_shards : Row
min_shards = (codes "min_shards", Kind.Number 1 1000 1)

abbrev pub max_shards : Row
max_shards = (codes "max_shards", Kind.Number 1 1000 50)

abbrev pub capacity : Row
capacity = (codes "capacity", Kind.Number 1 1000000 10000)

abbrev pub batch : Row
batch = (codes "batch", Kind.Number 1 10000 2000)

abbrev pub min_backoff_ms : Row
min_backoff_ms = (codes "min_backoff_ms", Kind.Number 1 3600000 30)

abbrev pub max_backoff_ms : Row
max_backoff_ms = (codes "max_backoff_ms", Kind.Number 1 3600000 5000)

abbrev pub timeout_ms : Row
timeout_ms = (codes "timeout_ms", Kind.Number 1 3600000 30000)

abbrev pub names : Row
names = (codes "names", Kind.Names)

abbrev pub snappy : Row
snappy = (codes "snappy", Kind.Switch)

abbrev pub headers : Row
headers = (codes "headers", Kind.Fields)

abbrev pub bearer_token_file : Row
bearer_token_file = (codes "bearer_token_file", Kind.Text)

abbrev pub external_labels : Row
external_labels = (codes "labels", Kind.Part)

-- the last three are never printed
abbrev pub send_keys : List Row
send_keys =
    host ∷ path ∷ shards ∷ min_shards ∷ max_shards ∷ capacity ∷ batch ∷ min_backoff_ms ∷ max_backoff_ms ∷ timeout_ms ∷ names ∷ snappy
    ∷ headers ∷ bearer_token_file ∷ external_labels ∷ []

abbrev pub max_body_bytes : Row
max_body_bytes = (codes "max_body_bytes", Kind.Number 1 67108864 16777216)

abbrev pub max_labels : Row
max_labels = (codes "max_labels", Kind.Number 1 64 64)

abbrev pub max_label_bytes : Row
max_label_bytes = (codes "max_label_bytes", Kind.Number 1 16384 16384)

abbrev pub busy_first : Row
busy_first = (codes "busy_first", Kind.Number 0 1000000 0)

abbrev pub receive_keys : List Row
receive_keys = path ∷ max_body_bytes ∷ max_labels ∷ max_label_bytes ∷ busy_first ∷ names ∷ snappy ∷ []

abbrev pub compression : Row
compression = (codes "compression", Kind.Switch)

abbrev pub log_keys : List Row
log_keys = compression ∷ []

abbrev pub rule_keys : List Row
rule_keys =
    (codes "action", Kind.Action) ∷ (codes "source_labels", Kind.Labels) ∷ (codes "separator", Kind.Text) ∷ (codes "regex", Kind.Text) ∷ []

-- ---- what a table sets at a key, with the default if it has none

abbrev pub number_for : Kind → Option Data → ℕ
number_for (Kind.Number low high default) value = found_or default (number_at low high value)
number_for _ value = 0

abbrev pub number_setting : Row → Members → ℕ
number_setting row table = number_for row.1 (get_member row.0 table)

abbrev pub host_of : Members → List ℕ
host_of table = found_or (codes "localhost:9090") (text_setting is_host_name (get_member (codes "host") table))

abbrev pub path_of : Members → List ℕ
path_of table = found_or (codes "/api/v1/write") (text_setting is_request_path (get_member (codes "path") table))

abbrev pub names_setting : Members → Names
names_setting table = found_or Legacy (names_at (get_member (codes "names") table))

abbrev pub switch_setting : Row → Members → Bool
switch_setting row table = found_or false (switch_at (get_member row.0 table))

-- ---- what is wrong with a table

-- each key of a table is one of these
abbrev pub has_only : List Row → Members → Bool
has_only rows no_members = true
has_only rows (member key value rest) = list_any (λ row. bytes_eq key row.0) rows && has_only rows rest

abbrev pub keys_fault : List Row → Members → Option SettingsFault
keys_fault rows table = if has_only rows table then None else Some UnknownKey

abbrev pub fault_for : Kind → Option Data → Option SettingsFault
fault_for Kind.Host value = result_err (text_setting is_host_name value)
fault_for Kind.Path value = result_err (text_setting is_request_path value)
fault_for (Kind.Number low high default) value = result_err (number_at low high value)
fault_for Kind.Names value = result_err (names_at value)
fault_for Kind.Switch value = result_err (switch_at value)
fault_for Kind.Action value = action_fault value
fault_for Kind.Labels value = source_fault value
fault_for Kind.Text value = result_err (text_setting any_text value)
fault_for Kind.Fields value = headers_fault value
fault_for Kind.Part value = None

abbrev pub key_fault : Members → Row → Option SettingsFault
key_fault table row = fault_for row.1 (get_member row.0 table)

-- the least fault of a table with these keys
unfoldable pub table_fault : List Row → Members → Option SettingsFault
table_fault rows table = least (keys_fault rows table ∷ map (key_fault table) rows)
