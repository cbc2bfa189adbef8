-- One request of an input whose bytes are known.
use Rattle.std.specs.Prelude.{◌≡◌, ℕ, ◌<◌, ◌⊎◌, List, ◌++◌, length, take, Bool, true, false, IsTrue, Option, Some, Result, Ok, Err}
use Rattle.rw_endpoint.specs.Replies.{reply_bytes, is_body_status}
use Rattle.rw_endpoint.specs.Serving.{Replies, IsSilent, Ends}
use Rattle.rw_endpoint.specs.declared.serve_end.ServeEnd.{ServeEnd}
use Rattle.rw_endpoint.specs.declared.serve_end.ServeEnd.TheVariants.{Eof, Closed, Torn, Device, OutOfMemory}
use Rattle.rw_endpoint.specs.declared.intake.Intake.{Intake}

-- the input begins with a body of n bytes, which is answered
pub record IsBodyAnswered {S : Type 0} (answers : S → List ℕ → ℕ → S → Type 0) (n : ℕ) (input : List ℕ) (old : S) (text left : List ℕ) (closes : Bool) (new : S) : Type 0 where
  pub body : List ℕ
  pub status : ℕ
  pub begins : input ≡ body ++ left
  pub length : length body ≡ n
  pub given : answers old body status new
  pub verdict : IsTrue (is_body_status status)
  pub written : text ≡ reply_bytes status closes

-- what became of the body that a head announced
abbrev pub HasBodyServed : {S : Type 0} → (S → List ℕ → ℕ → S → Type 0) → ℕ → Bool → List ℕ → S → List ℕ → Option (List ℕ) → S → Result Unit ServeEnd → Type 0
HasBodyServed answers n closes input old text after new (Ok _) =
    (rest : List ℕ) × (after ≡ Some rest) × (closes ≡ false) × IsBodyAnswered answers n input old text rest closes new
HasBodyServed answers n closes input old text after new (Err Eof) = ⊥
HasBodyServed answers n closes input old text after new (Err Closed) =
    (rest : List ℕ) × (closes ≡ true) × IsBodyAnswered answers n input old text rest closes new
HasBodyServed answers n closes input old text after new (Err Torn) = (length input < n) × IsSilent old text new
HasBodyServed answers n closes input old text after new (Err Device) =
    IsSilent old text new
    ⊎ ((whole : List ℕ) × (k : ℕ) × (rest : List ℕ) × IsBodyAnswered answers n input old whole rest closes new × (text ≡ take k whole))
HasBodyServed answers n closes input old text after new (Err OutOfMemory) = IsSilent old text new

-- what became of a request
abbrev pub HasServed : {S : Type 0} → List ℕ → Intake → (S → List ℕ → ℕ → S → Type 0) → List ℕ → S → List ℕ → Option (List ℕ) → S → Result Unit ServeEnd → Type 0
HasServed path intake answers input old text after new (Ok _) =
    (rest : List ℕ) × (after ≡ Some rest) × Replies path intake answers input old text rest false new
HasServed path intake answers input old text after new (Err how) = Ends path intake answers input old text new how
