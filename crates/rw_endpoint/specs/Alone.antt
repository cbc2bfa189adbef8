-- A connection on which one request comes, which asks to close.
use Rattle.std.specs.Prelude.{◌≡◌, ℕ, ◌⊎◌, List, ◌++◌, length, true, Option, Some, Ok, IsTrue}
use Rattle.httparse.specs.Grammar.{RequestHead}
use Rattle.rw_endpoint.specs.Coding.{text_of}
use Rattle.rw_endpoint.specs.Judgement.{finding_of, is_refusal}
use Rattle.rw_endpoint.specs.Reading.{BeginsWithHead}
use Rattle.rw_endpoint.specs.Replies.{reply_bytes, is_verdict}
use Rattle.rw_endpoint.specs.declared.coding.Coding.{Coding}
use Rattle.rw_endpoint.specs.declared.finding.Finding.TheVariants.{Refused, Body}
use Rattle.rw_endpoint.specs.declared.serve_end.ServeEnd.{ServeEnd}
use Rattle.rw_endpoint.specs.declared.serve_end.ServeEnd.TheVariants.{Closed, OutOfMemory}
use Rattle.rw_endpoint.specs.declared.intake.Intake.{Intake}

-- the input is one request whose body holds this text, which is sound and closes
pub record IsOneRequest (path : List ℕ) (intake : Intake) (input text : List ℕ) : Type 0 where
  pub head : RequestHead
  pub body : List ℕ
  pub coding : Coding
  pub begins : BeginsWithHead input head body
  pub finding : finding_of path intake head ≡ Body (length body) true coding
  pub holds : text_of coding body ≡ Ok text

-- the text was answered, and that is the reply; or memory ran out before it was asked, and
-- nothing was written
abbrev pub IsServedAlone : {S : Type 0} → (S → List ℕ → ℕ → S → Type 0) → List ℕ → S → List ℕ → Option (List ℕ) → S → ServeEnd → Type 0
IsServedAlone answers text old before contents new how =
    ((how ≡ Closed) × (status : ℕ) × answers old text status new × IsTrue (is_verdict status) × (contents ≡ Some (before ++ reply_bytes status true)))
    ⊎ ((how ≡ OutOfMemory) × (new ≡ old) × (contents ≡ Some before))

-- the input begins with a request that its head refuses with this status
pub record IsOneRefusal (path : List ℕ) (intake : Intake) (input : List ℕ) (status : ℕ) : Type 0 where
  pub head : RequestHead
  pub rest : List ℕ
  pub begins : BeginsWithHead input head rest
  pub finding : finding_of path intake head ≡ Refused status

-- nothing was asked, and that is the reply
abbrev pub IsTurnedAway : {S : Type 0} → ℕ → S → List ℕ → Option (List ℕ) → S → ServeEnd → Type 0
IsTurnedAway status old before contents new how =
    (new ≡ old) × (how ≡ Closed) × IsTrue (is_refusal status) × (contents ≡ Some (before ++ reply_bytes status true))
