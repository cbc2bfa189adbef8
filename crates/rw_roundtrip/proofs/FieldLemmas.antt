-- What the fields of a request say.
use Rattle.std.proofs.Common.{◌≡◌, ◌<◌, ◌≤◌, ◌^◌, ℕ, List, [], ◌∷◌, ◌++◌, length, codes, Bool, true, false, not, ◌||◌, ◌&&◌, nat_lt, nat_le, map, IsTrue, refl, ap, ◌∙◌, arith, Option, Some, None, if◌then◌else◌}
use Rattle.std.proofs.Common.{reverse, decimal}
use Rattle.std.proofs.Math.Bool.{and-true}
use Rattle.std.proofs.lemmas.Bool.{cond-true, cond-false, lt-ltb, le-ltb, le-leb, eq-eqb}
use Rattle.std.proofs.lemmas.Fmt.{decimal_is_IsNumeral}
use Rattle.std.proofs.lemmas.List.Elements.{All-head}
use Rattle.std.proofs.lemmas.List.Sums.{list_all-from_AllPass}
use Rattle.std.proofs.lemmas.Slice.Eq.{bytes_eq-Decides}
use Rattle.std.specs.Char.{is_ascii_digit}
use Rattle.std.specs.List.{list_all}
use Rattle.std.specs.Str.Parse.{digits_value}
use Rattle.std.specs.Str.{bytes_eq}
use Rattle.httparse.specs.Grammar.{AllPass, skip_ows, trim_ows}
use Rattle.httparse.specs.Spans.{name_and_value}
use Rattle.httparse.proofs.TrimLemmas.{trim_ows_space, AllPass-reverse}
use Rattle.rw_endpoint.specs.Fields.{NameValue, has_field, each_value}
use Rattle.rw_endpoint.specs.Judgement.{finding_of, body_finding, coded_finding, closes_after}
use Rattle.rw_endpoint.specs.Values.{announced, first_length, length_value, is_length, is_some_length, agreed, is_protobuf, is_coding}
use Rattle.rw_endpoint.specs.declared.finding.Finding.{Finding}
use Rattle.rw_endpoint.specs.declared.finding.Finding.TheVariants.{Refused, Body}
use Rattle.rw_endpoint.specs.declared.coding.Coding.TheVariants.{Plain, Snappy}
use Rattle.rw_endpoint.specs.declared.intake.Intake.{Intake}
use Rattle.rw_roundtrip.proofs.Heads.{head_of, fields_of}
use Rattle.rw_roundtrip.proofs.ByteLemmas.{AreDigits, decimal_is_digits, no_ows}

-- the name and value of a coding
abbrev coding_named : Bool → List NameValue
coding_named true = (codes "Content-Encoding", codes "snappy") ∷ []
coding_named false = []

-- names and values, with such a value for the length
abbrev pub named : Bool → List ℕ → List ℕ → List NameValue
named snappy host value =
    (codes "Host", host)
    ∷ (codes "User-Agent", codes "rwship/1.0")
    ∷ (codes "Content-Type", codes "application/x-protobuf")
    ∷ (coding_named snappy
    ++ ((codes "X-Prometheus-Remote-Write-Version", codes "0.1.0")
    ∷ (codes "Connection", codes "close")
    ∷ (codes "Content-Length", value)
    ∷ []))

pub named_fields : (snappy : Bool) (host digits : List ℕ) → map name_and_value (fields_of snappy host digits) ≡ named snappy (trim_ows (32 ∷ host)) (trim_ows (32 ∷ digits))
unfolding trim_ows
named_fields true host digits = refl
named_fields false host digits = refl

identity : (snappy : Bool) (host value : List ℕ) → each_value (codes "content-encoding") (is_coding (codes "identity")) (named snappy host value) ≡ not snappy
identity true host value = refl
identity false host value = refl

in_snappy : (host value : List ℕ) → each_value (codes "content-encoding") (is_coding (codes "snappy")) (named true host value) ≡ true
in_snappy host value = refl

protobuf : (snappy : Bool) (host value : List ℕ) → each_value (codes "content-type") is_protobuf (named snappy host value) ≡ true
unfolding is_protobuf
protobuf true host value = refl
protobuf false host value = refl

closing : (snappy : Bool) (host value : List ℕ) → closes_after 1 (named snappy host value) ≡ true
closing true host value = refl
closing false host value = refl

present : (snappy : Bool) (host value : List ℕ) → (has_field (codes "transfer-encoding") (named snappy host value) || not (has_field (codes "content-length") (named snappy host value))) ≡ false
present true host value = refl
present false host value = refl

-- digits have no white space around them
skip_digits : (digits : List ℕ) → AllPass is_ascii_digit digits → skip_ows digits ≡ digits
skip_digits [] h = refl
skip_digits (d ∷ ds) h = cond-false _ _ _ (no_ows d (All-head (λ b. IsTrue (is_ascii_digit b)) d ds h))

trim_digits : (digits : List ℕ) → AllPass is_ascii_digit digits → trim_ows (32 ∷ digits) ≡ digits
trim_digits digits h = trim_ows_space digits (skip_digits digits h) (skip_digits (reverse digits) (AllPass-reverse is_ascii_digit digits h))

-- they are a length
read_digits : (digits : List ℕ) → AreDigits digits → length_value digits ≡ Some (digits_value 10 digits)
unfolding length_value
read_digits digits h =
    let some : nat_lt 0 (length digits) ≡ true = lt-ltb 0 (length digits) h.some in
    let few : nat_le (length digits) 19 ≡ true = le-leb (length digits) 19 h.few in
    let all : list_all is_ascii_digit digits ≡ true = list_all-from_AllPass is_ascii_digit digits h.all in
    rw (some, few, all)

length_of : (n : ℕ) → n < 2 ^ 63 → length_value (decimal n) ≡ Some n
length_of n h = read_digits (decimal n) (decimal_is_digits n h) ∙ ap Some (decimal_is_IsNumeral n (omega arith)).1

-- the length that is announced
this_length : (value : List ℕ) (n : ℕ) → length_value value ≡ Some n → is_length n value ≡ true
this_length value n e = ap (λ (o : Option ℕ). is_some_length o n) e ∙ eq-eqb n n refl

each_length : (snappy : Bool) (host value : List ℕ) (n : ℕ) → length_value value ≡ Some n → each_value (codes "content-length") (is_length n) (named snappy host value) ≡ true
each_length true host value n e = ap (λ (b : Bool). b && true) (this_length value n e)
each_length false host value n e = ap (λ (b : Bool). b && true) (this_length value n e)

first_is : (snappy : Bool) (host value : List ℕ) → first_length (named snappy host value) ≡ length_value value
first_is true host value = refl
first_is false host value = refl

agreed_length : (snappy : Bool) (host value : List ℕ) (n : ℕ) → length_value value ≡ Some n → announced (named snappy host value) ≡ Some n
agreed_length snappy host value n e =
    ap (λ (o : Option ℕ). agreed o (named snappy host value)) (first_is snappy host value ∙ e) ∙ cond-true _ _ _ (each_length snappy host value n e)

-- what is found of the head, whose fields are these
abbrev judged : List ℕ → Intake → List NameValue → Finding
judged path intake fields =
    if not (bytes_eq path path) then Refused 404
    else if has_field (codes "transfer-encoding") fields || not (has_field (codes "content-length") fields) then Refused 411
    else body_finding intake 1 fields (announced fields)

judged_named : (snappy : Bool) (path host value : List ℕ) (intake : Intake) (n : ℕ) → length_value value ≡ Some n →
    judged path intake (named snappy host value) ≡ body_finding intake 1 (named snappy host value) (Some n)
judged_named snappy path host value intake n e =
    let same : bytes_eq path path ≡ true = (bytes_eq-Decides path path).1 refl in
    rw (same, present snappy host value) (ap (body_finding intake 1 (named snappy host value)) (agreed_length snappy host value n e))

judged_head : (snappy : Bool) (host path digits : List ℕ) (intake : Intake) →
    finding_of path intake (head_of snappy host path digits) ≡ judged path intake (map name_and_value (fields_of snappy host digits))
judged_head snappy host path digits intake = refl

pub found : (snappy : Bool) (host path : List ℕ) (intake : Intake) (n : ℕ) → n < 2 ^ 63 →
    finding_of path intake (head_of snappy host path (decimal n)) ≡ body_finding intake 1 (named snappy (trim_ows (32 ∷ host)) (decimal n)) (Some n)
found snappy host path intake n h =
    let value = trim_ows (32 ∷ host) in
    let fields : map name_and_value (fields_of snappy host (decimal n)) ≡ named snappy value (decimal n) =
    named_fields snappy host (decimal n) ∙ ap (named snappy value) (trim_digits (decimal n) (decimal_is_digits n h).all) in
    judged_head snappy host path (decimal n) intake ∙ ap (judged path intake) fields ∙ judged_named snappy path value (decimal n) intake n (length_of n h)

-- a body within the limit is asked for, and the connection closes
pub asked : (host value : List ℕ) (intake : Intake) (n : ℕ) → n ≤ intake.limit → body_finding intake 1 (named false host value) (Some n) ≡ Body n true Plain
asked host value intake n h =
    let within : nat_lt intake.limit n ≡ false = le-ltb intake.limit n h in
    rw (within, identity false host value, protobuf false host value, closing false host value)

-- what is found of a block, by the tests
found_by : (over typed plain taken : Bool) (n limit : ℕ) (closes : Bool) → over ≡ false → typed ≡ true → plain ≡ false →
    (if over then Refused 413 else if not typed then Refused 415 else coded_finding n closes (if plain then Some Plain else if taken then Some (Snappy limit) else None))
    ≡ coded_finding n closes (if taken then Some (Snappy limit) else None)
found_by over typed plain taken n limit closes a b c = rw (a, b, c) refl

block_found : (host value : List ℕ) (intake : Intake) (n : ℕ) (taken : Bool) → intake.snappy ≡ taken → n ≤ intake.limit →
    body_finding intake 1 (named true host value) (Some n) ≡ coded_finding n true (if taken then Some (Snappy intake.limit) else None)
block_found host value intake n taken is h =
    let fields = named true host value in
    let named_so = each_value (codes "content-encoding") (is_coding (codes "snappy")) fields in
    let test : (intake.snappy && named_so) ≡ taken = ap (λ (b : Bool). intake.snappy && b) (in_snappy host value) ∙ and-true intake.snappy ∙ is in
    found_by (nat_lt intake.limit n) (each_value (codes "content-type") is_protobuf fields) (each_value (codes "content-encoding") (is_coding (codes "identity")) fields) (intake.snappy && named_so) n intake.limit (closes_after 1 fields)
    (le-ltb intake.limit n h) (protobuf true host value) (identity true host value)
    ∙ ap (λ (b : Bool). coded_finding n true (if b then Some (Snappy intake.limit) else None)) test

-- so is a block, if it is taken
pub asked_block : (host value : List ℕ) (intake : Intake) (n : ℕ) → intake.snappy ≡ true → n ≤ intake.limit → body_finding intake 1 (named true host value) (Some n) ≡ Body n true (Snappy intake.limit)
asked_block host value intake n on h = block_found host value intake n true on h

-- and else it is refused
pub not_taken : (host value : List ℕ) (intake : Intake) (n : ℕ) → intake.snappy ≡ false → n ≤ intake.limit → body_finding intake 1 (named true host value) (Some n) ≡ Refused 415
not_taken host value intake n off h = block_found host value intake n false off h

-- a longer one is too large
pub too_large : (snappy : Bool) (host value : List ℕ) (intake : Intake) (n : ℕ) → intake.limit < n → body_finding intake 1 (named snappy host value) (Some n) ≡ Refused 413
too_large snappy host value intake n h = cond-true _ _ _ (lt-ltb intake.limit n h)
