-- The texts that bodies hold, and what is answered to them.
use Rattle.std.proofs.Common.{◌≡◌, ◌≤◌, ℕ, List, length, IsTrue, Result, Ok, Err, refl, sym, ap, subst}
use Rattle.rw_snappy.specs.Snappy.{decoded, decoded_within}
use Rattle.rw_snappy.specs.declared.fault.SnappyFault.{SnappyFault}
use Rattle.rw_snappy.specs.declared.fault.SnappyFault.TheVariants.{BadLength, TooLong, Truncated, BadOffset, WrongLength}
use Rattle.rw_endpoint.specs.Coding.{fault_status, block_text, text_of, IsAnswered, through}
use Rattle.rw_endpoint.specs.Replies.{is_verdict, is_body_status}
use Rattle.rw_endpoint.specs.declared.coding.Coding.{Coding}
use Rattle.rw_endpoint.specs.declared.coding.Coding.TheVariants.{Plain, Snappy}

-- what `limit_only_refuses` says
abbrev pub LimitOnlyRefuses : Type 0
LimitOnlyRefuses = (limit : ℕ) (block bytes : List ℕ) → decoded block ≡ Ok bytes → length bytes ≤ limit → decoded_within limit block ≡ Ok bytes

-- a block that is decoded within the limit, and one that is not
pub held_text : (limit : ℕ) (block bytes : List ℕ) → LimitOnlyRefuses → decoded block ≡ Ok bytes → length bytes ≤ limit → text_of (Snappy limit) block ≡ Ok bytes
held_text limit block bytes law e within = ap block_text (law limit block bytes e within)

pub no_text : (limit : ℕ) (block : List ℕ) (fault : SnappyFault) → decoded_within limit block ≡ Err fault → text_of (Snappy limit) block ≡ Err (fault_status fault)
no_text limit block fault e = ap block_text e

-- what is answered to a body that holds a text, and to one that holds none
pub text_answered : {S : Type 0} (answers : S → List ℕ → ℕ → S → Type 0) (coding : Coding) (body text : List ℕ) (old : S) (status : ℕ) (new : S) →
    text_of coding body ≡ Ok text → answers old text status new → IsTrue (is_verdict status) → through coding answers old body status new
text_answered answers coding body text old status new holds given verdict =
    subst (λ (held : Result (List ℕ) ℕ). IsAnswered answers held old status new) (sym holds) (given, verdict)

pub text_refused : {S : Type 0} (answers : S → List ℕ → ℕ → S → Type 0) (coding : Coding) (body : List ℕ) (old : S) (status : ℕ) →
    text_of coding body ≡ Err status → through coding answers old body status old
text_refused answers coding body old status none =
    subst (λ (held : Result (List ℕ) ℕ). IsAnswered answers held old status old) (sym none) (refl, refl)

-- its status
fault_is_status : (fault : SnappyFault) → IsTrue (is_body_status (fault_status fault))
fault_is_status BadLength = refl
fault_is_status TooLong = refl
fault_is_status Truncated = refl
fault_is_status BadOffset = refl
fault_is_status WrongLength = refl

block_status : (read : Result (List ℕ) SnappyFault) (status : ℕ) → block_text read ≡ Err status → IsTrue (is_body_status status)
block_status (Ok text) status e = absurd cc
block_status (Err fault) status e = let same : fault_status fault ≡ status = cc in subst (λ (s : ℕ). IsTrue (is_body_status s)) same (fault_is_status fault)

pub refusal_status : (coding : Coding) (body : List ℕ) (status : ℕ) → text_of coding body ≡ Err status → IsTrue (is_body_status status)
refusal_status Plain body status e = absurd cc
refusal_status (Snappy limit) body status e = block_status (decoded_within limit body) status e
