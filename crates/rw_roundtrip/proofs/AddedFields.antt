-- Fields that were added make no difference to what is found of a head.
use Rattle.std.proofs.Common.{◌≡◌, ℕ, List, [], ◌∷◌, ◌++◌, Bool, true, false, not, ◌&&◌, ◌||◌, ◌==◌, nat_lt, codes, map, Option, None, Some, refl, ap, ◌∙◌, if◌then◌else◌}
use Rattle.std.proofs.lemmas.Bool.{and_parts, or_parts, not-true}
use Rattle.std.specs.List.{AllByRecursion, list_all}
use Rattle.std.specs.Str.{bytes_eq}
use Rattle.httparse.specs.Grammar.{trim_ows, is_token}
use Rattle.rw_fields.specs.Fields.{is_same_name, is_in_request, is_framing, is_field_value, is_extra}
use Rattle.rw_endpoint.specs.Fields.{NameValue, is_named, has_field, each_value, some_value}
use Rattle.rw_endpoint.specs.Judgement.{body_finding, coded_finding, closes_after}
use Rattle.rw_endpoint.specs.Values.{announced, first_length, is_length, agreed, is_protobuf, is_close, is_coding}
use Rattle.rw_endpoint.specs.declared.coding.Coding.TheVariants.{Plain, Snappy}
use Rattle.rw_endpoint.specs.declared.finding.Finding.{Finding}
use Rattle.rw_endpoint.specs.declared.finding.Finding.TheVariants.{Refused}
use Rattle.rw_endpoint.specs.declared.intake.Intake.{Intake}

-- no field has this name
abbrev pub HasNone : List ℕ → List NameValue → Type 0
HasNone name fields = AllByRecursion (λ (f : NameValue). is_named name f ≡ false) fields

has_field-after : (name : List ℕ) (xs ys : List NameValue) → HasNone name xs → has_field name (xs ++ ys) ≡ has_field name ys
has_field-after name [] ys h = refl
has_field-after name (x ∷ xs) ys h = rw (h.0) (has_field-after name xs ys h.1)

each_value-after : (name : List ℕ) (test : List ℕ → Bool) (xs ys : List NameValue) → HasNone name xs → each_value name test (xs ++ ys) ≡ each_value name test ys
each_value-after name test [] ys h = refl
each_value-after name test (x ∷ xs) ys h = rw (h.0) (each_value-after name test xs ys h.1)

some_value-after : (name : List ℕ) (test : List ℕ → Bool) (xs ys : List NameValue) → HasNone name xs → some_value name test (xs ++ ys) ≡ some_value name test ys
some_value-after name test [] ys h = refl
some_value-after name test (x ∷ xs) ys h = rw (h.0) (some_value-after name test xs ys h.1)

first_length-after : (xs ys : List NameValue) → HasNone (codes "content-length") xs → first_length (xs ++ ys) ≡ first_length ys
first_length-after [] ys h = refl
first_length-after (x ∷ xs) ys h = rw (h.0) (first_length-after xs ys h.1)

agreed-after : (length : Option ℕ) (xs ys : List NameValue) → HasNone (codes "content-length") xs → agreed length (xs ++ ys) ≡ agreed length ys
agreed-after None xs ys h = refl
agreed-after (Some n) xs ys h = ap (λ (b : Bool). if b then Some n else None) (each_value-after (codes "content-length") (is_length n) xs ys h)

announced-after : (xs ys : List NameValue) → HasNone (codes "content-length") xs → announced (xs ++ ys) ≡ announced ys
announced-after xs ys h =
    ap (λ (o : Option ℕ). agreed o (xs ++ ys)) (first_length-after xs ys h) ∙ agreed-after (first_length ys) xs ys h

-- no field has a name that the endpoint looks at
pub record AreQuiet (fields : List NameValue) : Type 0 where
  pub transfer : HasNone (codes "transfer-encoding") fields
  pub len : HasNone (codes "content-length") fields
  pub typed : HasNone (codes "content-type") fields
  pub coded : HasNone (codes "content-encoding") fields
  pub connection : HasNone (codes "connection") fields

-- what is found of a body of this length by the tests
abbrev by_tests : ℕ → ℕ → Bool → Bool → Bool → Bool → Bool → Bool → Finding
by_tests n limit over typed closes plain packed snappy =
    if over then Refused 413
    else if not typed then Refused 415
    else coded_finding n closes (if plain then Some Plain else if snappy && packed then Some (Snappy limit) else None)

body_finding-after : (intake : Intake) (minor : ℕ) (xs ys : List NameValue) (o : Option ℕ) → AreQuiet xs → body_finding intake minor (xs ++ ys) o ≡ body_finding intake minor ys o
body_finding-after intake minor xs ys None h = refl
body_finding-after intake minor xs ys (Some n) h =
    let over = nat_lt intake.limit n in
    let is_typed = each_value (codes "content-type") is_protobuf in
    let is_plain = each_value (codes "content-encoding") (is_coding (codes "identity")) in
    let is_packed = each_value (codes "content-encoding") (is_coding (codes "snappy")) in
    let all = xs ++ ys in
    ap (λ (t : Bool). by_tests n intake.limit over t (closes_after minor all) (is_plain all) (is_packed all) intake.snappy) (each_value-after (codes "content-type") is_protobuf xs ys h.typed)
    ∙ ap (λ (c : Bool). by_tests n intake.limit over (is_typed ys) (minor == 0 || c) (is_plain all) (is_packed all) intake.snappy) (some_value-after (codes "connection") is_close xs ys h.connection)
    ∙ ap (λ (p : Bool). by_tests n intake.limit over (is_typed ys) (closes_after minor ys) p (is_packed all) intake.snappy) (each_value-after (codes "content-encoding") (is_coding (codes "identity")) xs ys h.coded)
    ∙ ap (λ (p : Bool). by_tests n intake.limit over (is_typed ys) (closes_after minor ys) (is_plain ys) p intake.snappy) (each_value-after (codes "content-encoding") (is_coding (codes "snappy")) xs ys h.coded)

-- what is found of a head by its tests
abbrev by_head : Bool → Bool → Bool → Bool → Finding → Finding
by_head target method transfer len body =
    if not target then Refused 404
    else if not method then Refused 405
    else if transfer || not len then Refused 411
    else body

-- what is found of a head with these parts
abbrev pub found_of : List ℕ → Intake → List ℕ → List ℕ → ℕ → List NameValue → Finding
found_of path intake target method minor fields =
    by_head (bytes_eq target path) (bytes_eq method (codes "POST")) (has_field (codes "transfer-encoding") fields) (has_field (codes "content-length") fields)
    (body_finding intake minor fields (announced fields))

pub found_of-after : (path : List ℕ) (intake : Intake) (target method : List ℕ) (minor : ℕ) (xs ys : List NameValue) → AreQuiet xs →
    found_of path intake target method minor (xs ++ ys) ≡ found_of path intake target method minor ys
found_of-after path intake target method minor xs ys h =
    let a = bytes_eq target path in
    let b = bytes_eq method (codes "POST") in
    let all = xs ++ ys in
    let body : body_finding intake minor all (announced all) ≡ body_finding intake minor ys (announced ys) =
    ap (body_finding intake minor all) (announced-after xs ys h.len) ∙ body_finding-after intake minor xs ys (announced ys) h in
    ap (λ (t : Bool). by_head a b t (has_field (codes "content-length") all) (body_finding intake minor all (announced all))) (has_field-after (codes "transfer-encoding") xs ys h.transfer)
    ∙ ap (λ (l : Bool). by_head a b (has_field (codes "transfer-encoding") ys) l (body_finding intake minor all (announced all))) (has_field-after (codes "content-length") xs ys h.len)
    ∙ ap (by_head a b (has_field (codes "transfer-encoding") ys) (has_field (codes "content-length") ys)) body

-- ---- fields that may be added are quiet

-- the parts of what makes a field one that may be added
pub record IsOther (name : List ℕ) : Type 0 where
  pub transfer : is_same_name name (codes "transfer-encoding") ≡ false
  pub len : is_same_name name (codes "content-length") ≡ false
  pub typed : is_same_name name (codes "content-type") ≡ false
  pub coded : is_same_name name (codes "content-encoding") ≡ false
  pub connection : is_same_name name (codes "connection") ≡ false

-- of seven tests in a row none passes
none_of : (a b c d e f g : Bool) → (a || b || c || d || e || f || g) ≡ false → (a ≡ false) × (b ≡ false) × (c ≡ false) × (d ≡ false) × (e ≡ false) × (f ≡ false) × (g ≡ false)
none_of false false false false false false false h = (refl, refl, refl, refl, refl, refl, refl)
none_of true b c d e f g h = absurd (let e : true ≡ false = h in cc)
none_of false true c d e f g h = absurd (let e : true ≡ false = h in cc)
none_of false false true d e f g h = absurd (let e : true ≡ false = h in cc)
none_of false false false true e f g h = absurd (let e : true ≡ false = h in cc)
none_of false false false false true f g h = absurd (let e : true ≡ false = h in cc)
none_of false false false false false true g h = absurd (let e : true ≡ false = h in cc)
none_of false false false false false false true h = absurd (let e : true ≡ false = h in cc)

abbrev same : List ℕ → List ℕ → Bool
same = is_same_name

other_from : (name : List ℕ) → is_in_request name ≡ false → is_framing name ≡ false → IsOther name
other_from n own framing =
    let (host, agent, typed, coded, version, connection, len) = none_of (same n (codes "host")) (same n (codes "user-agent")) (same n (codes "content-type")) (same n (codes "content-encoding")) (same n (codes "x-prometheus-remote-write-version")) (same n (codes "connection")) (same n (codes "content-length")) own in
    let (transfer, te, trailer, upgrade, alive, proxy, expect) = none_of (same n (codes "transfer-encoding")) (same n (codes "te")) (same n (codes "trailer")) (same n (codes "upgrade")) (same n (codes "keep-alive")) (same n (codes "proxy-connection")) (same n (codes "expect")) framing in
    record { transfer = transfer; len = len; typed = typed; coded = coded; connection = connection }

-- the parts of a field that may be added
pub record IsAdded (f : NameValue) : Type 0 where
  pub name : is_token f.0 ≡ true
  pub value : is_field_value f.1 ≡ true
  pub other : IsOther f.0

pub parts_of : (f : NameValue) → is_extra f ≡ true → IsAdded f
unfolding is_extra
parts_of f h =
    let a = and_parts (is_token f.0 && is_field_value f.1) (not (is_in_request f.0 || is_framing f.0)) h in
    let b = and_parts (is_token f.0) (is_field_value f.1) a.0 in
    let c = or_parts (is_in_request f.0) (is_framing f.0) (not-true (is_in_request f.0 || is_framing f.0) a.1) in
    record { name = b.0; value = b.1; other = other_from f.0 c.0 c.1 }

-- the name and value of such a field, as it is read
abbrev pub read_field : NameValue → NameValue
read_field f = (f.0, trim_ows (32 ∷ f.1))

pub are_quiet : (fields : List NameValue) → list_all is_extra fields ≡ true → AreQuiet (map read_field fields)
are_quiet [] h = record { transfer = tt; len = tt; typed = tt; coded = tt; connection = tt }
are_quiet (f ∷ fields) h =
    let both = and_parts (is_extra f) (list_all is_extra fields) h in
    let this = (parts_of f both.0).other in
    let more = are_quiet fields both.1 in
    record {
      transfer = (this.transfer, more.transfer);
      len = (this.len, more.len);
      typed = (this.typed, more.typed);
      coded = (this.coded, more.coded);
      connection = (this.connection, more.connection);
    }
