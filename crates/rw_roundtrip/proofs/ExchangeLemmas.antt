-- What is read of a connection with one request.
use Rattle.std.proofs.Common.{◌≡◌, ◌||◌, ℕ, List, [], ◌++◌, Option, Some, true, IsTrue, subst, inl, inr}
use Rattle.std.proofs.lemmas.Bool.{or_left, or_right}
use Rattle.rw_shard_core.specs.Replies.{ReadsReply}
use Rattle.rw_shard_core.specs.declared.replies.ReplyRead.{ReplyRead}
use Rattle.rw_shard_core.specs.declared.replies.ReplyRead.TheVariants.{Status}
use Rattle.rw_endpoint.specs.Alone.{IsServedAlone, IsTurnedAway}
use Rattle.rw_endpoint.specs.Judgement.{is_refusal}
use Rattle.rw_endpoint.specs.Replies.{reply_bytes, is_verdict}
use Rattle.rw_endpoint.specs.declared.serve_end.ServeEnd.{ServeEnd}
use Rattle.rw_endpoint.specs.declared.serve_end.ServeEnd.TheVariants.{OutOfMemory}
use Rattle.rw_roundtrip.proofs.ReplyLemmas.{reply_status}

-- a reply alone
read_of : (bytes : List ℕ) (status : ℕ) (read : ReplyRead) → Some bytes ≡ Some ([] ++ reply_bytes status true) → IsTrue (is_verdict status || is_refusal status) →
    ReadsReply 8192 bytes read → read ≡ Status status
read_of bytes status read e h r =
    let same : bytes ≡ reply_bytes status true = cc in
    reply_status status read h (subst (λ (t : List ℕ). ReadsReply 8192 t read) same r)

-- the body's status is read
pub record IsHeard {S : Type 0} (answers : S → List ℕ → ℕ → S → Type 0) (body : List ℕ) (old new : S) (read : ReplyRead) : Type 0 where
  pub status : ℕ
  pub is : read ≡ Status status
  pub given : answers old body status new
  pub verdict : IsTrue (is_verdict status)

pub heard : {S : Type 0} (answers : S → List ℕ → ℕ → S → Type 0) (body : List ℕ) (old : S) (bytes : List ℕ) (new : S) (how : ServeEnd) (read : ReplyRead) →
    IsServedAlone answers body old [] (Some bytes) new how → (how ≡ OutOfMemory → ⊥) → ReadsReply 8192 bytes read → IsHeard answers body old new read
heard answers body old bytes new how read (inl (closed, status, given, verdict, contents)) not r = record {
  status = status;
  is = read_of bytes status read contents (or_left (is_verdict status) (is_refusal status) verdict) r;
  given = given;
  verdict = verdict;
}
heard answers body old bytes new how read (inr (e, unasked, contents)) not r = absurd (not e)

pub heard_status : {S : Type 0} (answers : S → List ℕ → ℕ → S → Type 0) (body : List ℕ) (old new : S) (read : ReplyRead) (status : ℕ) →
    IsHeard answers body old new read → read ≡ Status status → answers old body status new × IsTrue (is_verdict status)
heard_status answers body old new read status h e =
    let same : h.status ≡ status = let is = h.is in cc in
    (subst (λ (s : ℕ). answers old body s new) same h.given, subst (λ (s : ℕ). IsTrue (is_verdict s)) same h.verdict)

-- the status of a refusal is read
pub turned : {S : Type 0} (status : ℕ) (old : S) (bytes : List ℕ) (new : S) (how : ServeEnd) (read : ReplyRead) →
    IsTurnedAway status old [] (Some bytes) new how → ReadsReply 8192 bytes read → (read ≡ Status status) × (new ≡ old)
turned status old bytes new how read (unasked, closed, refusal, contents) r =
    (read_of bytes status read contents (or_right (is_verdict status) (is_refusal status) refusal) r, unasked)

-- if nothing was written, nothing was asked
pub unheard : {S : Type 0} (answers : S → List ℕ → ℕ → S → Type 0) (body : List ℕ) (old : S) (contents : Option (List ℕ)) (new : S) (how : ServeEnd) →
    IsServedAlone answers body old [] contents new how → how ≡ OutOfMemory → new ≡ old
unheard answers body old contents new how (inl (closed, status, given, verdict, e)) is = absurd (cc)
unheard answers body old contents new how (inr (e, unasked, c)) is = unasked
