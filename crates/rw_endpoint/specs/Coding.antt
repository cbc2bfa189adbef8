-- Content codings (RFC 9110, section 8.4): which of them an endpoint takes, the text that a body
-- holds in one of them, and what is answered to it.
use Rattle.std.specs.Prelude.{◌≡◌, ℕ, List, ◌&&◌, IsTrue, codes, Option, None, Some, Result, Ok, Err, if◌then◌else◌}
use Rattle.rw_snappy.specs.Snappy.{decoded_within}
use Rattle.rw_snappy.specs.declared.fault.SnappyFault.{SnappyFault}
use Rattle.rw_snappy.specs.declared.fault.SnappyFault.TheVariants.{TooLong}
use Rattle.rw_head.specs.declared.limits.Limits.{Limits}
use Rattle.rw_endpoint.specs.Fields.{NameValue, each_value}
use Rattle.rw_endpoint.specs.Replies.{is_verdict}
use Rattle.rw_endpoint.specs.Values.{is_coding}
use Rattle.rw_endpoint.specs.declared.coding.Coding.{Coding}
use Rattle.rw_endpoint.specs.declared.coding.Coding.TheVariants.{Plain, Snappy}
use Rattle.rw_endpoint.specs.declared.intake.Intake.{Intake}

-- what these limits say of bodies
abbrev pub intake_of : Limits → Intake
intake_of limits = record { limit = limits.max_body_bytes; snappy = limits.snappy }

-- The coding that the fields name, if it is one that is taken: none of them names one but
-- `identity`, or each of them names `snappy`.
abbrev pub coding_of : Intake → List NameValue → Option Coding
coding_of intake fields =
    if each_value (codes "content-encoding") (is_coding (codes "identity")) fields then Some Plain
    else if intake.snappy && each_value (codes "content-encoding") (is_coding (codes "snappy")) fields then Some (Snappy intake.limit)
    else None

-- the status of a block that cannot be decoded
abbrev pub fault_status : SnappyFault → ℕ
fault_status TooLong = 413
fault_status _ = 400

abbrev pub block_text : Result (List ℕ) SnappyFault → Result (List ℕ) ℕ
block_text (Ok text) = Ok text
block_text (Err fault) = Err (fault_status fault)

-- the text that a body holds, or the status of a body that holds none
abbrev pub text_of : Coding → List ℕ → Result (List ℕ) ℕ
text_of Plain body = Ok body
text_of (Snappy limit) body = block_text (decoded_within limit body)

-- the text is answered; or there is none, and nothing is asked
abbrev pub IsAnswered : {S : Type 0} → (S → List ℕ → ℕ → S → Type 0) → Result (List ℕ) ℕ → S → ℕ → S → Type 0
IsAnswered answers (Ok text) old status new = answers old text status new × IsTrue (is_verdict status)
IsAnswered answers (Err refusal) old status new = (status ≡ refusal) × (new ≡ old)

-- what is answered to a body in this coding
abbrev pub through : {S : Type 0} → Coding → (S → List ℕ → ℕ → S → Type 0) → S → List ℕ → ℕ → S → Type 0
through coding answers old body status new = IsAnswered answers (text_of coding body) old status new
