-- Requests as the sender makes them, at the endpoint.
use Rattle.std.proofs.Common.{◌≡◌, ◌<◌, ◌≤◌, ◌^◌, ℕ, List, [], ◌∷◌, ◌++◌, length, Bool, true, false, inl, inr, nat_lt, codes, decimal, refl, ap, ◌∙◌, Ok, Err, arith}
use Rattle.std.proofs.lemmas.Bool.{ltb-true, ltb-false}
use Rattle.std.proofs.lemmas.List.Elements.{All-from_recursion}
use Rattle.std.proofs.lemmas.List.Sums.{AllPass-from_list_all}
use Rattle.std.specs.List.{All, AllByRecursion, list_all}
use Rattle.httparse.specs.Grammar.{is_token_byte, is_value_byte, AllPass, IsField, IsRequestHead, trim_ows}
use Rattle.rw_types.specs.Requests.{is_host_name, is_request_path}
use Rattle.rw_shard_core.specs.SentRequest.{request_of, snappy_request_of}
use Rattle.rw_snappy.specs.Snappy.{decoded, decoded_within}
use Rattle.rw_snappy.specs.declared.fault.SnappyFault.TheVariants.{TooLong}
use Rattle.rw_endpoint.specs.Alone.{IsOneRequest, IsOneRefusal}
use Rattle.rw_endpoint.specs.Coding.{block_text}
use Rattle.rw_endpoint.specs.Judgement.{finding_of}
use Rattle.rw_endpoint.specs.Reading.{BeginsWithHead}
use Rattle.rw_endpoint.specs.declared.coding.Coding.TheVariants.{Plain, Snappy}
use Rattle.rw_endpoint.specs.declared.finding.Finding.TheVariants.{Body}
use Rattle.rw_endpoint.specs.declared.intake.Intake.{Intake}
use Rattle.rw_roundtrip.specs.Exchanges.{IsRequest, IsOneBodyRefused}
use Rattle.rw_roundtrip.proofs.Heads.{head_of, fields_of, field, sent_head}
use Rattle.rw_roundtrip.proofs.ByteLemmas.{IsTarget, path_is_target, IsValue, host_is_value, AreDigits, decimal_is_digits, digits_are_value}
use Rattle.rw_roundtrip.proofs.HeadLemmas.{head_bytes, head_length}
use Rattle.rw_roundtrip.proofs.FieldLemmas.{found, asked, asked_block, not_taken, too_large}

-- each field is one
field_of : (name value : List ℕ) → 0 < length name → AllPass is_token_byte name → AllPass is_value_byte (32 ∷ value) → IsField (field name value)
field_of name value some token visible = record { name = (some, token); raw = visible }

-- a text whose bytes are computed
token : (name : List ℕ) → list_all is_token_byte name ≡ true → AllPass is_token_byte name
token name e = AllPass-from_list_all is_token_byte name e

visible : (value : List ℕ) → list_all is_value_byte (32 ∷ value) ≡ true → AllPass is_value_byte (32 ∷ value)
visible value e = AllPass-from_list_all is_value_byte (32 ∷ value) e

known : (name value : List ℕ) → nat_lt 0 (length name) ≡ true → list_all is_token_byte name ≡ true → list_all is_value_byte (32 ∷ value) ≡ true → IsField (field name value)
known name value some t v = field_of name value (ltb-true 0 (length name) some) (token name t) (visible value v)

length_field : (digits : List ℕ) → AllPass is_value_byte (32 ∷ digits) → IsField (field (codes "Content-Length") digits)
unfolding is_token_byte
length_field digits d = field_of (codes "Content-Length") digits (omega arith) (token (codes "Content-Length") refl) d

host_field : (host : List ℕ) → AllPass is_value_byte (32 ∷ host) → IsField (field (codes "Host") host)
unfolding is_token_byte
host_field host h = field_of (codes "Host") host (omega arith) (token (codes "Host") refl) h

-- the fields from the version on, and all of them
last_fields : (digits : List ℕ) → AllPass is_value_byte (32 ∷ digits) →
    AllByRecursion IsField (field (codes "X-Prometheus-Remote-Write-Version") (codes "0.1.0") ∷ field (codes "Connection") (codes "close") ∷ field (codes "Content-Length") digits ∷ [])
unfolding is_token_byte
last_fields digits d = (
  known (codes "X-Prometheus-Remote-Write-Version") (codes "0.1.0") refl refl refl,
  (known (codes "Connection") (codes "close") refl refl refl, (length_field digits d, tt)),
)

each_field : (snappy : Bool) (host digits : List ℕ) → AllPass is_value_byte (32 ∷ host) → AllPass is_value_byte (32 ∷ digits) → AllByRecursion IsField (fields_of snappy host digits)
unfolding is_token_byte
each_field true host digits h d = (
  host_field host h,
  (
    known (codes "User-Agent") (codes "rwship/1.0") refl refl refl,
    (
      known (codes "Content-Type") (codes "application/x-protobuf") refl refl refl,
      (known (codes "Content-Encoding") (codes "snappy") refl refl refl, last_fields digits d),
    ),
  ),
)
each_field false host digits h d = (
  host_field host h,
  (
    known (codes "User-Agent") (codes "rwship/1.0") refl refl refl,
    (known (codes "Content-Type") (codes "application/x-protobuf") refl refl refl, last_fields digits d),
  ),
)

pub are_fields : (snappy : Bool) (host digits : List ℕ) → AllPass is_value_byte (32 ∷ host) → AllPass is_value_byte (32 ∷ digits) → All IsField (fields_of snappy host digits)
are_fields snappy host digits h d = All-from_recursion IsField (fields_of snappy host digits) (each_field snappy host digits h d)

pub is_head : (snappy : Bool) (host path digits : List ℕ) → IsTarget path → IsValue host → AreDigits digits → IsRequestHead (head_of snappy host path digits)
unfolding is_token_byte
is_head snappy host path digits target value are = record {
  method = (omega arith, token (codes "POST") refl);
  target = (target.some, target.visible);
  target_text = target.text;
  minor = omega arith;
  fields = are_fields snappy host digits value.visible (digits_are_value digits are);
}

few_fields : (snappy : Bool) (host digits : List ℕ) → length (fields_of snappy host digits) ≤ 64
few_fields true host digits = omega arith
few_fields false host digits = omega arith

-- a request with this coding
abbrev pub sent_of : Bool → List ℕ → List ℕ → List ℕ → List ℕ
sent_of snappy host path body = sent_head snappy host path (decimal (length body)) ++ body

pub begins : (snappy : Bool) (host path body : List ℕ) → is_host_name host ≡ true → is_request_path path ≡ true → length body < 2 ^ 63 →
    BeginsWithHead (sent_of snappy host path body) (head_of snappy host path (decimal (length body))) body
begins snappy host path body h p few =
    let digits = decimal (length body) in
    let are = decimal_is_digits (length body) few in
    let target = path_is_target path p in
    let value = host_is_value host h in
    let len = head_length snappy host path digits in (
      (is_head snappy host path digits target value are, ap (λ (t : List ℕ). t ++ body) (head_bytes snappy host path digits)),
      omega (arith, len, target.short, value.short, are.few),
      few_fields snappy host digits,
    )

pub one_request : (host path body : List ℕ) (intake : Intake) → is_host_name host ≡ true → is_request_path path ≡ true → length body < 2 ^ 63 → length body ≤ intake.limit →
    IsOneRequest path intake (request_of host path body) body
one_request host path body intake h p few fits = record {
  head = head_of false host path (decimal (length body));
  body = body;
  coding = Plain;
  holds = refl;
  begins = begins false host path body h p few;
  finding = found false host path intake (length body) few ∙ asked (trim_ows (32 ∷ host)) (decimal (length body)) intake (length body) fits;
}

refusal_of : (snappy : Bool) (host path body : List ℕ) (intake : Intake) → is_host_name host ≡ true → is_request_path path ≡ true → length body < 2 ^ 63 → intake.limit < length body →
    IsOneRefusal path intake (sent_of snappy host path body) 413
refusal_of snappy host path body intake h p few over = record {
  head = head_of snappy host path (decimal (length body));
  rest = body;
  begins = begins snappy host path body h p few;
  finding = found snappy host path intake (length body) few ∙ too_large snappy (trim_ows (32 ∷ host)) (decimal (length body)) intake (length body) over;
}

pub one_refusal : (host path body : List ℕ) (intake : Intake) → is_host_name host ≡ true → is_request_path path ≡ true → length body < 2 ^ 63 → intake.limit < length body →
    IsOneRefusal path intake (request_of host path body) 413
one_refusal = refusal_of false

pub either_request : (host path body : List ℕ) (intake : Intake) → is_host_name host ≡ true → is_request_path path ≡ true → length body < 2 ^ 63 →
    IsRequest path intake (request_of host path body)
either_request host path body intake h p few = by_test (nat_lt intake.limit (length body)) refl
  where
    by_test : (b : Bool) → nat_lt intake.limit (length body) ≡ b → IsRequest path intake (request_of host path body)
    by_test true e = inr (413, one_refusal host path body intake h p few (ltb-true intake.limit (length body) e))
    by_test false e = inl (body, one_request host path body intake h p few (ltb-false intake.limit (length body) e))

-- ---- blocks
-- what `limit_only_refuses` says
abbrev pub LimitSame : Type 0
LimitSame = (limit : ℕ) (block bytes : List ℕ) → decoded block ≡ Ok bytes → length bytes ≤ limit → decoded_within limit block ≡ Ok bytes

abbrev LimitOver : Type 0
LimitOver = (limit : ℕ) (block bytes : List ℕ) → decoded block ≡ Ok bytes → limit < length bytes → decoded_within limit block ≡ Err TooLong

module _ (host path block : List ℕ) (intake : Intake) (h : is_host_name host ≡ true) (p : is_request_path path ≡ true) (few : length block < 2 ^ 63) where
  -- what is found of its head, if it is taken
  block_asked : intake.snappy ≡ true → length block ≤ intake.limit → finding_of path intake (head_of true host path (decimal (length block))) ≡ Body (length block) true (Snappy intake.limit)
  block_asked on fits = found true host path intake (length block) few ∙ asked_block (trim_ows (32 ∷ host)) (decimal (length block)) intake (length block) on fits

  pub one_block : LimitSame → (body : List ℕ) → intake.snappy ≡ true → length block ≤ intake.limit → decoded block ≡ Ok body → length body ≤ intake.limit →
      IsOneRequest path intake (snappy_request_of host path block) body
  one_block same body on fits holds within = record {
    head = head_of true host path (decimal (length block));
    body = block;
    coding = Snappy intake.limit;
    holds = ap block_text (same intake.limit block body holds within);
    begins = begins true host path block h p few;
    finding = block_asked on fits;
  }

  pub long_body : LimitOver → (body : List ℕ) → intake.snappy ≡ true → length block ≤ intake.limit → decoded block ≡ Ok body → intake.limit < length body →
      IsOneBodyRefused path intake (snappy_request_of host path block) 413
  long_body law body on fits holds over = record {
    head = head_of true host path (decimal (length block));
    body = block;
    coding = Snappy intake.limit;
    holds = ap block_text (law intake.limit block body holds over);
    begins = begins true host path block h p few;
    finding = block_asked on fits;
  }

  pub long_block : intake.limit < length block → IsOneRefusal path intake (snappy_request_of host path block) 413
  long_block over = refusal_of true host path block intake h p few over

  pub block_not_taken : intake.snappy ≡ false → length block ≤ intake.limit → IsOneRefusal path intake (snappy_request_of host path block) 415
  block_not_taken off fits = record {
    head = head_of true host path (decimal (length block));
    rest = block;
    begins = begins true host path block h p few;
    finding = found true host path intake (length block) few ∙ not_taken (trim_ows (32 ∷ host)) (decimal (length block)) intake (length block) off fits;
  }
