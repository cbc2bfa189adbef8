-- One request and its reply (RFC 9112, section 9.3): what the endpoint makes of it, and the status
-- that is read in its reply.
use Rattle.std.specs.Prelude.{◌≡◌, ℕ, ◌⊎◌, List, length, true, IsTrue, Result, Ok, Err}
use Rattle.std.specs.declared.alloc.AllocError.{AllocError}
use Rattle.httparse.specs.Grammar.{RequestHead}
use Rattle.rw_endpoint.specs.Alone.{IsOneRequest, IsOneRefusal}
use Rattle.rw_endpoint.specs.Coding.{text_of}
use Rattle.rw_endpoint.specs.Judgement.{finding_of}
use Rattle.rw_endpoint.specs.Reading.{BeginsWithHead}
use Rattle.rw_endpoint.specs.Replies.{is_verdict}
use Rattle.rw_endpoint.specs.declared.coding.Coding.{Coding}
use Rattle.rw_endpoint.specs.declared.finding.Finding.TheVariants.{Body}
use Rattle.rw_endpoint.specs.declared.intake.Intake.{Intake}

-- one request with its body, or one that its head refuses
abbrev pub IsRequest : List ℕ → Intake → List ℕ → Type 0
IsRequest path intake input = ((body : List ℕ) × IsOneRequest path intake input body) ⊎ ((status : ℕ) × IsOneRefusal path intake input status)

-- the body was answered with this status; or memory ran out, and nothing was asked
abbrev pub IsExchanged : {S : Type 0} → (S → List ℕ → ℕ → S → Type 0) → List ℕ → S → Result ℕ AllocError → S → Type 0
IsExchanged answers body old (Ok status) new = answers old body status new × IsTrue (is_verdict status)
IsExchanged answers body old (Err e) new = new ≡ old

-- nothing was asked, and the status is this one, unless memory ran out
abbrev pub IsRefusedUnasked : {S : Type 0} → ℕ → S → Result ℕ AllocError → S → Type 0
IsRefusedUnasked status old (Ok read) new = (read ≡ status) × (new ≡ old)
IsRefusedUnasked status old (Err e) new = new ≡ old

-- the input is one request whose head refuses nothing, and whose body holds no text: it is refused
-- with this status
pub record IsOneBodyRefused (path : List ℕ) (intake : Intake) (input : List ℕ) (status : ℕ) : Type 0 where
  pub head : RequestHead
  pub body : List ℕ
  pub coding : Coding
  pub begins : BeginsWithHead input head body
  pub finding : finding_of path intake head ≡ Body (length body) true coding
  pub holds : text_of coding body ≡ Err status
