-- The judgement of a request's head (RFC 9110, sections 8.3 to 8.6 and 15.5; RFC 9112, sections 3,
-- 6 and 9.3).
use Rattle.std.specs.Prelude.{ℕ, List, [], ◌∷◌, map, Bool, not, ◌||◌, ◌==◌, nat_lt, codes, Option, None, Some, if◌then◌else◌}
use Rattle.std.specs.List.{list_any}
use Rattle.std.specs.Str.{bytes_eq}
use Rattle.httparse.specs.Grammar.{RequestHead}
use Rattle.httparse.specs.Spans.{name_and_value}
use Rattle.rw_endpoint.specs.Fields.{NameValue, has_field, each_value, some_value}
use Rattle.rw_endpoint.specs.Coding.{coding_of}
use Rattle.rw_endpoint.specs.Values.{announced, is_protobuf, is_close}
use Rattle.rw_endpoint.specs.declared.coding.Coding.{Coding}
use Rattle.rw_endpoint.specs.declared.finding.Finding.{Finding}
use Rattle.rw_endpoint.specs.declared.finding.Finding.TheVariants.{Refused, Body}
use Rattle.rw_endpoint.specs.declared.intake.Intake.{Intake}

-- the connection ends after this request
abbrev pub closes_after : ℕ → List NameValue → Bool
closes_after minor fields = minor == 0 || some_value (codes "connection") is_close fields

-- a body of this length is asked for, if its coding is taken
abbrev pub coded_finding : ℕ → Bool → Option Coding → Finding
coded_finding len closes None = Refused 415
coded_finding len closes (Some coding) = Body len closes coding

-- what is found of a request by its announced length and by what it says of its body
abbrev pub body_finding : Intake → ℕ → List NameValue → Option ℕ → Finding
body_finding intake minor fields None = Refused 400
body_finding intake minor fields (Some len) =
    if nat_lt intake.limit len then Refused 413
    else if not (each_value (codes "content-type") is_protobuf fields) then Refused 415
    else coded_finding len (closes_after minor fields) (coding_of intake fields)

-- what is wrong with a request first: its target, its method, its length, its body's form; else its
-- body is asked for
abbrev pub finding_of : List ℕ → Intake → RequestHead → Finding
finding_of path intake head =
    let fields = map name_and_value head.fields in
    if not (bytes_eq head.target path) then Refused 404
    else if not (bytes_eq head.method (codes "POST")) then Refused 405
    else if has_field (codes "transfer-encoding") fields || not (has_field (codes "content-length") fields) then Refused 411
    else body_finding intake head.minor fields (announced fields)

-- the statuses that a head alone can have
abbrev pub is_refusal : ℕ → Bool
is_refusal status = list_any (λ s. s == status) (400 ∷ 404 ∷ 405 ∷ 411 ∷ 413 ∷ 415 ∷ [])
