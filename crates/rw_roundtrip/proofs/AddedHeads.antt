-- The head of a request to which fields were
use Rattle.std.proofs.Common.{◌≡◌, ◌<◌, ◌≤◌, ◌+◌, ◌^◌, ℕ, List, [], ◌∷◌, ◌++◌, length, map, Bool, true, false, not, ◌&&◌, ◌||◌, ◌==◌, nat_lt, codes, decimal, refl, ap, sym, ◌∙◌, arith, append_assoc, length-append, if◌then◌else◌, IsTrue}
use Rattle.std.proofs.lemmas.Bool.{and_parts, ltb-true, cond-false}
use Rattle.std.proofs.lemmas.Grind.{common_steps, flat_map-append}
use Rattle.std.proofs.lemmas.List.{append-nil, map-append, length-map}
use Rattle.std.proofs.lemmas.List.Elements.{All-append, All-from_recursion}
use Rattle.std.proofs.lemmas.List.Sums.{AllPass-from_list_all, list_all-from_AllPass}
use Rattle.std.specs.List.{All, AllByRecursion, flat_map, list_all}
use Rattle.httparse.specs.Ascii.{crlf_bytes}
use Rattle.httparse.specs.Grammar.{Field, IsField, IsRequestHead, RequestHead, AllPass, is_token, is_token_byte, is_value_byte, is_uri_byte, print_field, print_request}
use Rattle.httparse.specs.Spans.{name_and_value}
use Rattle.rw_types.specs.Requests.{line, is_host_name, is_request_path}
use Rattle.rw_fields.specs.Fields.{NameValue, is_field_value, begins_with_ows, ends_with_ows, is_extra, field_line, field_lines, AreExtra, first_line, after_first_line, with_fields}
use Rattle.rw_shard_core.specs.SentRequest.{request_head, snappy_request_head}
use Rattle.rw_endpoint.specs.Judgement.{finding_of}
use Rattle.rw_endpoint.specs.Reading.{BeginsWithHead}
use Rattle.rw_endpoint.specs.declared.intake.Intake.{Intake}
use Rattle.rw_roundtrip.proofs.AddedFields.{parts_of, read_field, are_quiet, found_of, found_of-after}
use Rattle.rw_roundtrip.proofs.ByteLemmas.{IsTarget, path_is_target, IsValue, host_is_value, AreDigits, decimal_is_digits, digits_are_value}
use Rattle.rw_roundtrip.proofs.HeadLemmas.{middle, request_length}
use Rattle.rw_roundtrip.proofs.Heads.{head_of, fields_of, field, sent_head}
use Rattle.rw_roundtrip.proofs.shared.RequestLemmas.{is_head, are_fields, sent_of}

-- ---- the first line

first_at : (b : ℕ) (bytes rest : List ℕ) (t : Bool) → t ≡ false → first_line (bytes ++ rest) ≡ bytes → (b ∷ (if t then [] else first_line (bytes ++ rest))) ≡ b ∷ bytes
first_at b bytes rest true h more = absurd (let e : true ≡ false = h in cc)
first_at b bytes rest false h more = ap (λ (l : List ℕ). b ∷ l) more

after_at : (bytes rest : List ℕ) (t : Bool) → t ≡ false → after_first_line (bytes ++ rest) ≡ rest → (if t then (bytes ++ rest) else after_first_line (bytes ++ rest)) ≡ rest
after_at bytes rest true h more = absurd (let e : true ≡ false = h in cc)
after_at bytes rest false h more = more

-- no byte of a text is a line feed
abbrev NoFeed : List ℕ → Type 0
NoFeed text = AllByRecursion (λ (b : ℕ). (b == 10) ≡ false) text

first_line-line : (text rest : List ℕ) → NoFeed text → first_line (line text ++ rest) ≡ line text
unfolding first_line
first_line-line [] rest h = refl
first_line-line (b ∷ text) rest h = first_at b (line text) rest (b == 10) h.0 (first_line-line text rest h.1)

after_line-line : (text rest : List ℕ) → NoFeed text → after_first_line (line text ++ rest) ≡ rest
unfolding after_first_line
after_line-line [] rest h = refl
after_line-line (b ∷ text) rest h = after_at (line text) rest (b == 10) h.0 (after_line-line text rest h.1)

visible_byte : (b : ℕ) → is_uri_byte b ≡ true → (b == 10) ≡ false
visible_byte b h = grind (arith, common_steps)

path_then : (path rest : List ℕ) → list_all is_uri_byte path ≡ true → NoFeed rest → NoFeed (path ++ rest)
path_then [] rest h more = more
path_then (b ∷ path) rest h more =
    let both = and_parts (is_uri_byte b) (list_all is_uri_byte path) h in
    (visible_byte b both.0, path_then path rest both.1 more)

-- the request line
abbrev start : List ℕ → List ℕ
start path = codes "POST " ++ path ++ codes " HTTP/1.1"

start_line : (path : List ℕ) → IsTarget path → NoFeed (start path)
start_line path target =
    let more = path_then path (codes " HTTP/1.1") (list_all-from_AllPass is_uri_byte path target.visible) (refl, (refl, (refl, (refl, (refl, (refl, (refl, (refl, (refl, tt))))))))) in
    (refl, (refl, (refl, (refl, (refl, more)))))

-- ---- the head

abbrev pub added_field : NameValue → Field
added_field f = field f.0 f.1

abbrev pub with_added : List NameValue → RequestHead → RequestHead
with_added fields head = record head { fields = map added_field fields ++ head.fields }

one_printed : (name value : List ℕ) → print_field (field name value) ≡ field_line (name, value)
one_printed name value = simp append_assoc

printed : (fields : List NameValue) → flat_map print_field (map added_field fields) ≡ field_lines fields
printed [] = refl
printed (f ∷ fields) =
    ap (λ (l : List ℕ). l ++ flat_map print_field (map added_field fields)) (one_printed f.0 f.1) ∙ ap (λ (l : List ℕ). field_line f ++ l) (printed fields)

-- what comes after the request line
abbrev after_start : Bool → List ℕ → List ℕ → List ℕ
after_start snappy host digits = codes "Host: " ++ ((host ++ crlf_bytes) ++ (middle snappy ++ ((digits ++ crlf_bytes) ++ crlf_bytes)))

-- the bytes of a head with these lines after its request line
abbrev with_lines : Bool → List ℕ → List ℕ → List ℕ → List ℕ → List ℕ
with_lines snappy lines host path digits = line (start path) ++ (lines ++ after_start snappy host digits)

in_a_row : (e path a x h host m digits : List ℕ) →
    ((path ++ a) ++ e) ++ (x ++ (h ++ ((host ++ e) ++ (m ++ ((digits ++ e) ++ e))))) ≡ ((path ++ a) ++ e) ++ ((x ++ (h ++ ((host ++ e) ++ (m ++ ((digits ++ e) ++ []))))) ++ e)
in_a_row e path a x h host m digits = simp (append_assoc, append-nil)

sent_lines : (snappy : Bool) (host path digits : List ℕ) → sent_head snappy host path digits ≡ line (start path) ++ after_start snappy host digits
unfolding request_head snappy_request_head
sent_lines true host path digits = refl
sent_lines false host path digits = refl

-- the fields that were added come first
fields_printed : (fields : List NameValue) (rest : List Field) → flat_map print_field (map added_field fields ++ rest) ≡ field_lines fields ++ flat_map print_field rest
fields_printed fields rest =
    flat_map-append print_field (map added_field fields) rest ∙ ap (λ (l : List ℕ). l ++ flat_map print_field rest) (printed fields)

-- a head whose fields are these bytes
abbrev with_section : List ℕ → List ℕ → List ℕ
with_section path section = codes "POST " ++ (((path ++ codes " HTTP/1.1") ++ crlf_bytes) ++ (section ++ crlf_bytes))

printed_head : (snappy : Bool) (fields : List NameValue) (host path digits : List ℕ) →
    with_lines snappy (field_lines fields) host path digits ≡ print_request (with_added fields (head_of snappy host path digits))
unfolding print_request
printed_head true fields host path digits =
    ap (λ (t : List ℕ). codes "POST " ++ t) (in_a_row crlf_bytes path (codes " HTTP/1.1") (field_lines fields) (codes "Host: ") host (middle true) digits)
    ∙ sym (ap (with_section path) (fields_printed fields (fields_of true host digits)))
printed_head false fields host path digits =
    ap (λ (t : List ℕ). codes "POST " ++ t) (in_a_row crlf_bytes path (codes " HTTP/1.1") (field_lines fields) (codes "Host: ") host (middle false) digits)
    ∙ sym (ap (with_section path) (fields_printed fields (fields_of false host digits)))

with_body : (s lines after body : List ℕ) → s ++ lines ++ (after ++ body) ≡ (s ++ (lines ++ after)) ++ body
with_body s lines after body = simp append_assoc

-- the bytes of a request with the fields
request_bytes : (snappy : Bool) (fields : List NameValue) (host path digits body : List ℕ) → IsTarget path →
    with_fields fields (sent_head snappy host path digits ++ body) ≡ with_lines snappy (field_lines fields) host path digits ++ body
unfolding with_fields
request_bytes snappy fields host path digits body target =
    let after = after_start snappy host digits in
    let whole = ap (λ (t : List ℕ). t ++ body) (sent_lines snappy host path digits) ∙ append_assoc (line (start path)) after body in
    let none = start_line path target in
    rw (whole, first_line-line (start path) (after ++ body) none, after_line-line (start path) (after ++ body) none)
    (with_body (line (start path)) (field_lines fields) after body)

lines_length : (s lines after : List ℕ) → length (s ++ (lines ++ after)) ≡ length lines + length (s ++ after)
lines_length s lines after = simp length-append (omega arith)

head_length : (snappy : Bool) (fields : List NameValue) (host path digits : List ℕ) →
    length (print_request (with_added fields (head_of snappy host path digits))) ≤ length (field_lines fields) + (193 + (length path + (length host + length digits)))
head_length snappy fields host path digits =
    let bytes = ap length (printed_head snappy fields host path digits) in
    let lines = lines_length (line (start path)) (field_lines fields) (after_start snappy host digits) in
    let without = ap length (sent_lines snappy host path digits) in
    let most = request_length snappy host path digits in
    omega (arith, bytes, lines, without, most)

few_fields : (snappy : Bool) (host digits : List ℕ) → length (fields_of snappy host digits) ≤ 7
few_fields true host digits = omega arith
few_fields false host digits = omega arith

-- ---- each field is one

value_bytes : (text : List ℕ) → is_field_value text ≡ true → list_all is_value_byte text ≡ true
value_bytes text h = (and_parts (list_all is_value_byte text) (not (begins_with_ows text || ends_with_ows text)) h).0

is_field : (f : NameValue) → is_extra f ≡ true → IsField (added_field f)
is_field f h =
    let parts = parts_of f h in
    let name = and_parts (nat_lt 0 (length f.0)) (list_all is_token_byte f.0) parts.name in
    record {
      name = (ltb-true 0 (length f.0) name.0, AllPass-from_list_all is_token_byte f.0 name.1);
      raw = AllPass-from_list_all is_value_byte (32 ∷ f.1) (value_bytes f.1 parts.value);
    }

each_field : (fields : List NameValue) → list_all is_extra fields ≡ true → AllByRecursion IsField (map added_field fields)
each_field [] h = tt
each_field (f ∷ fields) h =
    let both = and_parts (is_extra f) (list_all is_extra fields) h in
    (is_field f both.0, each_field fields both.1)

-- ---- the request

names_read : (fields : List NameValue) → map name_and_value (map added_field fields) ≡ map read_field fields
names_read [] = refl
names_read (f ∷ fields) = ap (λ (l : List NameValue). read_field f ∷ l) (names_read fields)

pub same_finding : (fields : List NameValue) (path : List ℕ) (intake : Intake) (head : RequestHead) → AreExtra fields →
    finding_of path intake (with_added fields head) ≡ finding_of path intake head
same_finding fields path intake head extra =
    let read = map name_and_value head.fields in
    let names = map-append name_and_value (map added_field fields) head.fields ∙ ap (λ (l : List NameValue). l ++ read) (names_read fields) in
    ap (found_of path intake head.target head.method head.minor) names
    ∙ found_of-after path intake head.target head.method head.minor (map read_field fields) read (are_quiet fields extra.each)

pub begins_added : (snappy : Bool) (fields : List NameValue) (host path body : List ℕ) → is_host_name host ≡ true → is_request_path path ≡ true → AreExtra fields → length body < 2 ^ 63 →
    BeginsWithHead (with_fields fields (sent_of snappy host path body)) (with_added fields (head_of snappy host path (decimal (length body)))) body
begins_added snappy fields host path body h p extra few =
    let digits = decimal (length body) in
    let are = decimal_is_digits (length body) few in
    let target = path_is_target path p in
    let value = host_is_value host h in
    let len = head_length snappy fields host path digits in
    let head = is_head snappy host path digits target value are in
    let short = extra.short in
    let some = extra.few in
    let count = length-append (map added_field fields) (fields_of snappy host digits) in
    let counted = length-map fields added_field in
    let own = few_fields snappy host digits in (
      (
        record {
          method = head.method;
          target = head.target;
          target_text = head.target_text;
          minor = head.minor;
          fields = All-append IsField (map added_field fields) (fields_of snappy host digits)
              (All-from_recursion IsField (map added_field fields) (each_field fields extra.each))
              (are_fields snappy host digits value.visible (digits_are_value digits are));
        },
        request_bytes snappy fields host path digits body target ∙ ap (λ (t : List ℕ). t ++ body) (printed_head snappy fields host path digits),
      ),
      omega (arith, len, target.short, value.short, are.few, short),
      omega (arith, count, counted, own, some),
    )
