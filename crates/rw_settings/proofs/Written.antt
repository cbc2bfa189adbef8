-- The text of settings is what the crate of TOML writes for the expressions of its lines.
use Rattle.std.proofs.Common.{◌≡◌, ℕ, ◌^◌, ◌<◌, pos, List, [], ◌∷◌, ◌++◌, flat_map, codes, Bool, true, false, refl, sym, ap, append_assoc, arith}
use Rattle.std.specs.List.{concat, AllByRecursion}
use Rattle.toml_writer.specs.Text.{string_text, key_text}
use Rattle.toml.specs.Data.{Data, string, integer, boolean, array, Items, no_items, item}
use Rattle.toml.specs.Tables.{Expression, key_value, std_table, array_table}
use Rattle.toml.specs.Text.{breaks_lines, IsValueText, IsItemsText, IsLineText, IsLinesText}
use Rattle.rw_relabel.specs.Rules.{RuleConfig}
use Rattle.rw_shard_core.specs.declared.config.ConfigFields.{ConfigFields}
use Rattle.rw_head.specs.declared.limits.Limits.{Limits}
use Rattle.rw_settings.specs.Keys.{Row, send_keys, receive_keys, log_keys, rule_keys}
use Rattle.rw_settings.specs.LogTable.{log_values}
use Rattle.rw_settings.specs.Receiving.{receive_values}
use Rattle.rw_settings.specs.RuleTables.{rule_values}
use Rattle.rw_settings.specs.Sending.{send_values}
use Rattle.rw_settings.specs.SettingsText.{setting_value_text, pair_line, list_text, lines_of, send_lines, send_text, receive_lines, receive_text, log_lines, log_text, rule_lines, rule_text}
use Rattle.rw_settings.specs.Values.{Setting, of_number, of_true, of_text, of_texts}

-- a line of a table
abbrev pub pair : List ℕ → Data → Expression
pair key content = (([], key), key_value content)

-- texts as items
abbrev pub text_items : List (List ℕ) → Items
text_items [] = no_items
text_items (t ∷ ts) = item (string t) (text_items ts)

abbrev pub data_of : Setting → Data
data_of (of_number n) = integer (pos n)
data_of of_true = boolean true
data_of (of_text t) = string t
data_of (of_texts ts) = array (text_items ts)

abbrev pub pairs_of : List Row → List Setting → List Expression
pairs_of (row ∷ rows) (s ∷ settings) = pair row.0 (data_of s) ∷ pairs_of rows settings
pairs_of _ _ = []

abbrev pub send_expressions : ConfigFields → List Expression
send_expressions send = (([], codes "send"), std_table) ∷ pairs_of send_keys (send_values send)

abbrev pub receive_expressions : Limits → List Expression
receive_expressions limits = (([], codes "receive"), std_table) ∷ pairs_of receive_keys (receive_values limits)

abbrev pub log_expressions : Bool → List Expression
log_expressions true = (([], codes "log"), std_table) ∷ pairs_of log_keys (log_values true)
log_expressions false = []

abbrev pub rule_expressions : RuleConfig → List Expression
rule_expressions rule = (([], codes "rule"), array_table) ∷ pairs_of rule_keys (rule_values rule)

-- each text is a line for its expression
abbrev pub AreLines : Bool → List Expression → List (List ℕ) → Type 0
AreLines started [] [] = Unit {0}
AreLines started (e ∷ es) (l ∷ ls) = IsLineText false started e.0 e.1 l × AreLines true es ls
AreLines started _ _ = ⊥

lines_text : (started : Bool) (es : List Expression) (ls : List (List ℕ)) → AreLines started es ls → IsLinesText false started es (concat ls)
lines_text started [] [] h = refl
lines_text started [] (l ∷ ls) h = absurd h
lines_text started (e ∷ es) [] h = absurd h
lines_text started (e ∷ es) (l ∷ ls) h = (l, concat ls, refl, h.0, lines_text true es ls h.1)

-- lines after lines
pub lines_more : (es fs : List Expression) (a b : List ℕ) → IsLinesText false true es a → IsLinesText false true fs b → IsLinesText false true (es ++ fs) (a ++ b)
lines_more [] fs a b h more = rw h more
lines_more (e ∷ es) fs a b h more =
    let (this, rest, whole, line, others) = h in
    (this, rest ++ b, rw whole (append_assoc this rest b), line, lines_more es fs rest b others more)

-- the same at the beginning, if there are some
abbrev pub has_lines : List Expression → Bool
has_lines [] = false
has_lines (e ∷ es) = true

pub first_lines : (es fs : List Expression) (a b : List ℕ) → has_lines es ≡ true → IsLinesText false false es a → IsLinesText false true fs b → IsLinesText false false (es ++ fs) (a ++ b)
first_lines [] fs a b some h more = absurd cc
first_lines (e ∷ es) fs a b some h more =
    let (this, rest, whole, line, others) = h in
    (this, rest ++ b, rw whole (append_assoc this rest b), line, lines_more es fs rest b others more)

-- a line with a bare key
pair_written : (started : Bool) (key value : List ℕ) (content : Data) → key_text key ≡ key → IsValueText false content value → IsLineText false started ([], key) (key_value content) (pair_line key value)
unfolding pair_line
pair_written started key value content bare written = (value, ap (λ k. k ++ (codes " = " ++ (value ++ codes "\n"))) (sym bare), written)

-- texts after the first
abbrev more_texts : List (List ℕ) → List ℕ
more_texts ts = flat_map (λ t. codes ", " ++ string_text t) ts

items_written : (ts : List (List ℕ)) → IsItemsText false false false (text_items ts) (more_texts ts ++ codes "]")
items_written [] = refl
items_written (t ∷ ts) =
    (string_text t, more_texts ts ++ codes "]", ap (λ x. codes ", " ++ x) (append_assoc (string_text t) (more_texts ts) (codes "]")), refl, items_written ts)

on_one_line : (ds : Items) → breaks_lines false ds ≡ false
on_one_line no_items = refl
on_one_line (item d no_items) = refl
on_one_line (item d (item e ds)) = refl

list_written : (ts : List (List ℕ)) → IsValueText false (array (text_items ts)) (list_text ts)
list_written [] = (codes "]", refl, refl)
list_written (t ∷ ts) =
    let rest = more_texts ts ++ codes "]" in
    let whole = ap (λ x. codes "[" ++ x) (append_assoc (string_text t) (more_texts ts) (codes "]")) in
    (string_text t ++ rest, whole, rw (on_one_line (text_items (t ∷ ts))) (string_text t, rest, refl, refl, items_written ts))

-- ---- the tables

-- a number fits 64 signed bits
abbrev pub Fits : Setting → Type 0
Fits (of_number n) = n < 2 ^ 63
Fits _ = Unit {0}

value_written : (s : Setting) → Fits s → IsValueText false (data_of s) (setting_value_text s)
value_written (of_number n) fits = (refl, record { sfits = omega arith })
value_written of_true fits = refl
value_written (of_text t) fits = refl
value_written (of_texts ts) fits = list_written ts

-- a key needs no quotes
abbrev IsBare : Row → Type 0
IsBare row = key_text row.0 ≡ row.0

pairs_written : (rows : List Row) (settings : List Setting) → AllByRecursion IsBare rows → AllByRecursion Fits settings → AreLines true (pairs_of rows settings) (lines_of rows settings)
pairs_written [] settings bare fits = tt
pairs_written (row ∷ rows) [] bare fits = tt
pairs_written (row ∷ rows) (s ∷ settings) bare fits =
    (pair_written true row.0 (setting_value_text s) (data_of s) bare.0 (value_written s fits.0), pairs_written rows settings bare.1 fits.1)

pub send_written : (send : ConfigFields) → AllByRecursion Fits (send_values send) → IsLinesText false false (send_expressions send) (send_text send)
unfolding send_text key_text
send_written send fits =
    let bare : AllByRecursion IsBare send_keys = (refl, (refl, (refl, (refl, (refl, (refl, (refl, (refl, (refl, (refl, (refl, (refl, (refl, (refl, (refl, tt))))))))))))))) in
    lines_text false (send_expressions send) (send_lines send) (refl, pairs_written send_keys (send_values send) bare fits)

pub receive_written : (limits : Limits) → AllByRecursion Fits (receive_values limits) → IsLinesText false true (receive_expressions limits) (receive_text limits)
unfolding receive_text key_text
receive_written limits fits =
    let bare : AllByRecursion IsBare receive_keys = (refl, (refl, (refl, (refl, (refl, (refl, (refl, tt))))))) in
    lines_text true (receive_expressions limits) (receive_lines limits) (refl, pairs_written receive_keys (receive_values limits) bare fits)

pub log_written : (on : Bool) → IsLinesText false true (log_expressions on) (log_text on)
unfolding log_text key_text
log_written true =
    let bare : AllByRecursion IsBare log_keys = (refl, tt) in
    lines_text true (log_expressions true) (log_lines true) (refl, pairs_written log_keys (log_values true) bare (tt, tt))
log_written false = refl

rule_written : (rule : RuleConfig) → IsLinesText false true (rule_expressions rule) (rule_text rule)
unfolding rule_text key_text
rule_written rule =
    let bare : AllByRecursion IsBare rule_keys = (refl, (refl, (refl, (refl, tt)))) in
    lines_text true (rule_expressions rule) (rule_lines rule) (refl, pairs_written rule_keys (rule_values rule) bare (tt, (tt, (tt, (tt, tt)))))

pub rules_written : (rules : List RuleConfig) → IsLinesText false true (flat_map rule_expressions rules) (flat_map rule_text rules)
rules_written [] = refl
rules_written (rule ∷ rules) = lines_more (rule_expressions rule) (flat_map rule_expressions rules) (rule_text rule) (flat_map rule_text rules) (rule_written rule) (rules_written rules)
