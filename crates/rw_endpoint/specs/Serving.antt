-- Requests of HTTP/1.1's grammar, the answers to their bodies, and the bytes that reply to them.
use Rattle.std.specs.Prelude.{◌≡◌, ◌≢◌, ℕ, ◌<◌, ◌⊎◌, List, [], ◌++◌, length, take, Bool, true, false, Option, Some}
use Rattle.httparse.specs.Grammar.{RequestHead}
use Rattle.rw_endpoint.specs.Coding.{through}
use Rattle.rw_endpoint.specs.Judgement.{finding_of}
use Rattle.rw_endpoint.specs.Reading.{BeginsWithHead, IsPartOfHead, NeverHasHead}
use Rattle.rw_endpoint.specs.Replies.{reply_bytes}
use Rattle.rw_endpoint.specs.declared.coding.Coding.{Coding}
use Rattle.rw_endpoint.specs.declared.finding.Finding.TheVariants.{Refused, Body}
use Rattle.rw_endpoint.specs.declared.serve_end.ServeEnd.{ServeEnd}
use Rattle.rw_endpoint.specs.declared.serve_end.ServeEnd.TheVariants.{Eof, Closed, Torn, Device, OutOfMemory}
use Rattle.rw_endpoint.specs.declared.intake.Intake.{Intake}

-- no head can be at the front of the input
pub record IsNoRequest {S : Type 0} (input : List ℕ) (old : S) (text : List ℕ) (closes : Bool) (new : S) : Type 0 where
  pub never : NeverHasHead input
  pub written : text ≡ reply_bytes 400 true
  pub closing : closes ≡ true
  pub unasked : new ≡ old

-- the input begins with a request that its head refuses
pub record IsHeadRefused {S : Type 0} (path : List ℕ) (intake : Intake) (input : List ℕ) (old : S) (text : List ℕ) (closes : Bool) (new : S) : Type 0 where
  pub head : RequestHead
  pub rest : List ℕ
  pub status : ℕ
  pub begins : BeginsWithHead input head rest
  pub finding : finding_of path intake head ≡ Refused status
  pub written : text ≡ reply_bytes status true
  pub closing : closes ≡ true
  pub unasked : new ≡ old

-- the input begins with a request whose body is answered, or is refused since it holds no text
pub record IsRequestAnswered {S : Type 0} (path : List ℕ) (intake : Intake) (answers : S → List ℕ → ℕ → S → Type 0) (input : List ℕ) (old : S) (text left : List ℕ) (closes : Bool) (new : S) : Type 0 where
  pub head : RequestHead
  pub body : List ℕ
  pub coding : Coding
  pub status : ℕ
  pub begins : BeginsWithHead input head (body ++ left)
  pub finding : finding_of path intake head ≡ Body (length body) closes coding
  pub status_given : through coding answers old body status new
  pub written : text ≡ reply_bytes status closes

-- the text replies to the request at the front of the input
abbrev pub Replies : {S : Type 0} → List ℕ → Intake → (S → List ℕ → ℕ → S → Type 0) → List ℕ → S → List ℕ → List ℕ → Bool → S → Type 0
Replies path intake answers input old text rest closes new =
    IsNoRequest input old text closes new ⊎ IsHeadRefused path intake input old text closes new
    ⊎ IsRequestAnswered path intake answers input old text rest closes new

-- the input ends inside a request: inside its head, or inside its body
abbrev pub IsCutRequest : List ℕ → Intake → List ℕ → Type 0
IsCutRequest path intake input =
    (input ≢ []) × IsPartOfHead input
    ⊎ ((head : RequestHead) × (part : List ℕ) × (n : ℕ) × (closes : Bool) × (coding : Coding)
    × BeginsWithHead input head part × (finding_of path intake head ≡ Body n closes coding) × (length part < n))

-- nothing more is written, and nothing more is asked
abbrev pub IsSilent : {S : Type 0} → S → List ℕ → S → Type 0
IsSilent old text new = (text ≡ []) × (new ≡ old)

-- the input's last part, what is written for it, and how the connection ends
abbrev pub Ends : {S : Type 0} → List ℕ → Intake → (S → List ℕ → ℕ → S → Type 0) → List ℕ → S → List ℕ → S → ServeEnd → Type 0
Ends path intake answers input old text new Eof = (input ≡ []) × IsSilent old text new
Ends path intake answers input old text new Torn = IsCutRequest path intake input × IsSilent old text new
Ends path intake answers input old text new Closed = (rest : List ℕ) × Replies path intake answers input old text rest true new
Ends path intake answers input old text new Device =
    IsSilent old text new
    ⊎ ((whole : List ℕ) × (n : ℕ) × (rest : List ℕ) × (closes : Bool) × Replies path intake answers input old whole rest closes new
    × (text ≡ take n whole))
Ends path intake answers input old text new OutOfMemory = IsSilent old text new

-- The text is the replies to the requests of the input in their order, up to the end.
pub data Serves {S : Type 0} (path : List ℕ) (intake : Intake) (answers : S → List ℕ → ℕ → S → Type 0) : List ℕ → S → List ℕ → S → ServeEnd → Type 0 where
  ends : {input : List ℕ} {old : S} {text : List ℕ} {new : S} {how : ServeEnd} →
      Ends path intake answers input old text new how → Serves path intake answers input old text new how
  stays : {input : List ℕ} {old : S} {first rest : List ℕ} {middle : S} {text : List ℕ} {new : S} {how : ServeEnd} →
      Replies path intake answers input old first rest false middle →
      Serves path intake answers rest middle text new how →
      Serves path intake answers input old (first ++ text) new how

-- what a writer holds after serving that input, if it held some bytes before
abbrev pub HasWritten : {S : Type 0} → List ℕ → Intake → (S → List ℕ → ℕ → S → Type 0) → List ℕ → S → List ℕ → Option (List ℕ) → S → ServeEnd → Type 0
HasWritten path intake answers input old before contents new how =
    (text : List ℕ) × (contents ≡ Some (before ++ text)) × Serves path intake answers input old text new how

-- The text is the whole replies to some first requests of the input, one or more.
pub data RepliesTo {S : Type 0} (path : List ℕ) (intake : Intake) (answers : S → List ℕ → ℕ → S → Type 0) : List ℕ → S → List ℕ → Type 0 where
  last : {input : List ℕ} {old : S} {text rest : List ℕ} {closes : Bool} {new : S} →
      Replies path intake answers input old text rest closes new → RepliesTo path intake answers input old text
  further : {input : List ℕ} {old : S} {first rest : List ℕ} {middle : S} {text : List ℕ} →
      Replies path intake answers input old first rest false middle →
      RepliesTo path intake answers rest middle text →
      RepliesTo path intake answers input old (first ++ text)

-- this many bytes of room do not hold the replies to some first requests
abbrev pub IsTooSmall : {S : Type 0} → List ℕ → Intake → (S → List ℕ → ℕ → S → Type 0) → List ℕ → S → ℕ → Type 0
IsTooSmall path intake answers input old room =
    (replies : List ℕ) × RepliesTo path intake answers input old replies × (room < length replies)

-- the input begins with a request whose head refuses nothing: only its body decides its status
pub record AsksForBody (path : List ℕ) (intake : Intake) (input : List ℕ) : Type 0 where
  pub head : RequestHead
  pub rest : List ℕ
  pub len : ℕ
  pub closes : Bool
  pub coding : Coding
  pub begins : BeginsWithHead input head rest
  pub finding : finding_of path intake head ≡ Body len closes coding

-- The text is the replies to the first requests of the input, none of which closes. What follows
-- these requests is left.
pub data RepliesUpTo {S : Type 0} (path : List ℕ) (intake : Intake) (answers : S → List ℕ → ℕ → S → Type 0) (input : List ℕ) (old : S) : List ℕ → List ℕ → S → Type 0 where
  nothing_yet : RepliesUpTo path intake answers input old [] input old
  one_more : {text left first rest : List ℕ} {middle new : S} →
      RepliesUpTo path intake answers input old text left middle →
      Replies path intake answers left middle first rest false new →
      RepliesUpTo path intake answers input old (text ++ first) rest new

-- The first requests have their replies, and the next one asks for its body.
pub record IsStoppedAtBody {S : Type 0} (path : List ℕ) (intake : Intake) (answers : S → List ℕ → ℕ → S → Type 0) (input : List ℕ) (old : S) (before : List ℕ) (contents : Option (List ℕ)) (new : S) : Type 0 where
  pub text : List ℕ
  pub left : List ℕ
  pub written : contents ≡ Some (before ++ text)
  pub replied : RepliesUpTo path intake answers input old text left new
  pub asks : AsksForBody path intake left
