-- The exchanges of one sender (Remote-Write 1.0, "Retries & backoff"): a request that is answered
-- by 429 or 5xx, or by nothing, is sent again; any other answer is final.
use Rattle.std.specs.Prelude.{◌≡◌, ℕ, Bool, true, false, List, [], ◌∷◌, ◌++◌, fold, Result, Ok, Err, ⊤}
use Rattle.std.specs.Ordering.{nat_cmp}
use Rattle.std.specs.FinMap.{FinMap, empty}
use Rattle.rw_ledger.specs.declared.ledger.Reason.{Reason}
use Rattle.rw_retry.specs.Judgements.{judgement_of}
use Rattle.rw_retry.specs.declared.judgement.Judgement.{Judgement}
use Rattle.rw_retry.specs.declared.judgement.Judgement.TheVariants.{Done, Again, Refused}
use Rattle.rw_plain_queue.specs.Items.{Placed}
use Rattle.rw_shard_core.specs.Shard.{is_empty, body_of, positions, name_all}
use Rattle.rw_shard_core.specs.SentRequest.{request_of}
use Rattle.rw_shard_core.specs.declared.config.Target.{Target}
use Rattle.rw_worker.specs.declared.transport.Reply.{Reply}
use Rattle.rw_worker.specs.declared.transport.Lost.{Lost}

-- a request and its answer
pub record Exchange : Type 0 where
  pub request : List ℕ
  pub answer : Result Reply Lost

abbrev pub exchange_of : List ℕ → Result Reply Lost → Exchange
exchange_of request answer = record { request = request; answer = answer }

abbrev pub reply_of_status : ℕ → Result Reply Lost
reply_of_status status = Ok (record { status = status })

-- the request is to be sent again
abbrev pub IsAgain : Result Reply Lost → Type 0
IsAgain (Ok r) = judgement_of r.status ≡ Again
IsAgain (Err lost) = ⊤

abbrev pub is_again_by : Judgement → Bool
is_again_by Done = false
is_again_by Again = true
is_again_by Refused = false

abbrev pub is_again : Result Reply Lost → Bool
is_again (Ok r) = is_again_by (judgement_of r.status)
is_again (Err lost) = true

-- the request that carries these samples
abbrev pub batch_request : Target → List Placed → List ℕ
batch_request target samples = request_of target.host target.path (body_of samples)

-- tries of one request, each to be made again
abbrev pub AreTries : List ℕ → List Exchange → Type 0
AreTries request [] = ⊤
AreTries request (e ∷ es) = (e.request ≡ request) × IsAgain e.answer × AreTries request es

-- tries of the request of these samples, if there are any
abbrev pub AreTriesOf : Target → List Placed → List Exchange → Type 0
AreTriesOf target [] es = es ≡ []
AreTriesOf target (x ∷ xs) es = AreTries (batch_request target (x ∷ xs)) es

-- a batch, and its final status
pub record Settled : Type 0 where
  pub samples : List Placed
  pub status : ℕ

-- the exchanges of a batch: its request once or more, each answer but the last to be tried again
pub record Settles (target : Target) (b : Settled) (es : List Exchange) : Type 0 where
  pub some : is_empty b.samples ≡ false
  pub tries : List Exchange
  pub tried : AreTries (batch_request target b.samples) tries
  pub is : es ≡ tries ++ exchange_of (batch_request target b.samples) (reply_of_status b.status) ∷ []
  pub final : judgement_of b.status ≡ Again → ⊥

-- the exchanges of these batches, one after the other
abbrev pub IsTranscript : Target → List Settled → List Exchange → Type 0
IsTranscript target [] es = es ≡ []
IsTranscript target (b ∷ bs) es = (first : List Exchange) × (rest : List Exchange) × (es ≡ first ++ rest) × Settles target b first × IsTranscript target bs rest

-- the samples of these batches
abbrev pub samples_settled : List Settled → List Placed
samples_settled [] = []
samples_settled (b ∷ bs) = b.samples ++ samples_settled bs

abbrev pub names_after : Judgement → Settled → FinMap nat_cmp Reason → FinMap nat_cmp Reason
names_after Done b names = names
names_after Again b names = names
names_after Refused b names = name_all b.status (positions b.samples) names

abbrev pub with_names : FinMap nat_cmp Reason → Settled → FinMap nat_cmp Reason
with_names names b = names_after (judgement_of b.status) b names

-- the samples of the refused batches, each named with the status of its batch
abbrev pub names_of : List Settled → FinMap nat_cmp Reason
names_of bs = fold with_names empty bs

-- what records now recorded before, and this was added to its record
abbrev pub Adds : {X : Type 0} → Type 0 → Type 0 → List X → List X → List X → Type 0
Adds before now old new added = now → before × (new ≡ old ++ added)
