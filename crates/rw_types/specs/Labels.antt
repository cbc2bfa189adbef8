-- Labels, and when a list of them is a label set (the data model of Prometheus; Remote-Write 1.0,
-- "Labels").
use Rattle.std.specs.Prelude.{◌≡◌, ℕ, ◌+◌, List, [], ◌∷◌, length, sum_by, codes, Bool, true, false, not, ◌&&◌, ◌||◌, ◌==◌, nat_lt, Option, None, Some, String, string_bytes, Vec, if◌then◌else◌}
use Rattle.std.specs.Char.{is_ascii_alphabetic, is_ascii_alphanumeric}
use Rattle.std.specs.Cmp.Lexicographic.{slice_cmp}
use Rattle.std.specs.List.{list_all}
use Rattle.std.specs.Ordering.{nat_cmp, is_lt}
use Rattle.std.specs.Str.{bytes_eq, is_utf8}
use Rattle.std.specs.declared.alloc.Global.{Global}
use Rattle.rw_types.specs.declared.names.Names.{Names}
use Rattle.rw_types.specs.declared.names.Names.TheVariants.{Legacy, Utf8}
use Rattle.rw_types.specs.declared.label_fault.LabelFault.{LabelFault}
use Rattle.rw_types.specs.declared.label_fault.LabelFault.TheVariants.{OutOfMemory, NotUtf8, EmptyName, BadName, EmptyValue, NotSorted, TooMany, TooLong}

-- a label's name and value
abbrev pub Label : Type 0
Label = List ℕ × List ℕ

abbrev pub Labels : Type 0
Labels = List (List ℕ × List ℕ)

-- the label that two byte strings are, and the one that two texts are
abbrev pub bytes_label : Vec ℕ Global × Vec ℕ Global → Label
bytes_label l = (l.0.items, l.1.items)

abbrev pub text_label : String Global × String Global → Label
text_label l = (string_bytes l.0, string_bytes l.1)

-- a text that is not empty, whose first byte passes one test and whose further bytes pass another
abbrev pub is_word_of : (ℕ → Bool) → (ℕ → Bool) → List ℕ → Bool
is_word_of begins continues [] = false
is_word_of begins continues (b ∷ bs) = begins b && list_all continues bs

-- `[a-zA-Z_]` and `[a-zA-Z0-9_]`
abbrev pub begins_label_name : ℕ → Bool
begins_label_name b = is_ascii_alphabetic b || b == 95

abbrev pub continues_label_name : ℕ → Bool
continues_label_name b = is_ascii_alphanumeric b || b == 95

-- `[a-zA-Z_:]` and `[a-zA-Z0-9_:]`
abbrev pub begins_metric_name : ℕ → Bool
begins_metric_name b = begins_label_name b || b == 58

abbrev pub continues_metric_name : ℕ → Bool
continues_metric_name b = continues_label_name b || b == 58

-- a label name: `[a-zA-Z_][a-zA-Z0-9_]*`
abbrev pub is_label_name : List ℕ → Bool
is_label_name name = is_word_of begins_label_name continues_label_name name

-- a metric name: `[a-zA-Z_:][a-zA-Z0-9_:]*`
abbrev pub is_metric_name : List ℕ → Bool
is_metric_name name = is_word_of begins_metric_name continues_metric_name name

-- name and value are UTF-8
abbrev pub is_text : Label → Bool
is_text l = is_utf8 l.0 && is_utf8 l.1

-- the name is a label name, and the value of `__name__` a metric name
abbrev pub has_legacy_names : Label → Bool
has_legacy_names l = is_label_name l.0 && (not (bytes_eq l.0 (codes "__name__")) || is_metric_name l.1)

-- the names are accepted: any text if all names are
abbrev pub is_well_named : Names → Label → Bool
is_well_named Legacy l = has_legacy_names l
is_well_named Utf8 l = true

abbrev pub is_filled : List ℕ → Bool
is_filled [] = false
is_filled (b ∷ bs) = true

-- the name of a label comes before that of the next one in byte order
abbrev pub rise : Label → Label → Bool
rise l m = is_lt (slice_cmp nat_cmp l.0 m.0)

-- the names are in strictly ascending order, so none is repeated
abbrev pub are_sorted : Labels → Bool
are_sorted [] = true
are_sorted (l ∷ []) = true
are_sorted (l ∷ m ∷ ls) = rise l m && are_sorted (m ∷ ls)

-- the bytes of a name and its value, and of all of them
abbrev pub label_len : Label → ℕ
label_len l = length l.0 + length l.1

abbrev pub text_len : Labels → ℕ
text_len ls = sum_by label_len ls

-- the first of these that is wrong with the labels, if such names are accepted; they are a label
-- set if nothing is wrong
abbrev pub label_fault : Names → Labels → Option LabelFault
label_fault names ls =
    if not (list_all is_text ls) then Some NotUtf8
    else if not (list_all (λ l. is_filled l.0) ls) then Some EmptyName
    else if not (list_all (is_well_named names) ls) then Some BadName
    else if not (list_all (λ l. is_filled l.1) ls) then Some EmptyValue
    else if not (are_sorted ls) then Some NotSorted
    else if nat_lt 64 (length ls) then Some TooMany
    else if nat_lt 16384 (text_len ls) then Some TooLong
    else None

abbrev pub IsLabelSet : Names → Labels → Type 0
IsLabelSet names ls = label_fault names ls ≡ None

-- the number of a fault of labels; out of memory is not one
abbrev pub label_fault_number : LabelFault → ℕ
label_fault_number OutOfMemory = 0
label_fault_number NotUtf8 = 1
label_fault_number EmptyName = 2
label_fault_number BadName = 3
label_fault_number EmptyValue = 4
label_fault_number NotSorted = 5
label_fault_number TooMany = 6
label_fault_number TooLong = 7
