-- The body that the endpoint reads in bytes that carry a request is the body of the request.
use Rattle.std.proofs.Common.{◌≡◌, inl, inr, ℕ, ◌≤◌, ◌<◌, ◌^◌, nat_lt, Bool, true, false, List, [], ◌++◌, append-nil, length, length-append, Ok, refl, sym, ap, ◌∙◌, subst, arith}
use Rattle.std.proofs.lemmas.Bool.{ltb-true, ltb-false}
use Rattle.std.proofs.lemmas.List.{nil_from_length}
use Rattle.httparse.proofs.GrammarLemmas.{request_unique}
use Rattle.rw_types.specs.Requests.{is_host_name, is_request_path}
use Rattle.rw_snappy.specs.Snappy.{decoded}
use Rattle.rw_plain_queue.specs.Items.{Placed}
use Rattle.rw_shard_core.specs.SentRequest.{request_of, snappy_request_of}
use Rattle.rw_shard_core.specs.Shard.{body_of}
use Rattle.rw_worker.specs.Transcript.{batch_request}
use Rattle.rw_endpoint.specs.Alone.{IsOneRequest, IsOneRefusal}
use Rattle.rw_endpoint.specs.Coding.{text_of}
use Rattle.rw_endpoint.specs.Judgement.{finding_of}
use Rattle.rw_endpoint.specs.Reading.{BeginsWithHead}
use Rattle.rw_endpoint.specs.declared.coding.Coding.{Coding}
use Rattle.rw_endpoint.specs.declared.finding.Finding.TheVariants.{Refused, Body}
use Rattle.rw_endpoint.specs.declared.intake.Intake.{Intake}
use Rattle.rw_machine.specs.Worlds.{Setup}
use Rattle.rw_restarts.specs.KeptWireReceivers.{ReadsBody, ReadsCarried, IsSound}

-- ---- what the laws say of the bytes that a sender makes
-- `requests_are_read`
abbrev pub RequestsAreRead : Type 0
RequestsAreRead = (host path body : List ℕ) (intake : Intake) → is_host_name host ≡ true → is_request_path path ≡ true
    → length body < 2 ^ 63 → length body ≤ intake.limit → IsOneRequest path intake (request_of host path body) body

-- `snappy_requests_are_read`
abbrev pub BlocksAreRead : Type 0
BlocksAreRead = (host path block body : List ℕ) (intake : Intake) → is_host_name host ≡ true → is_request_path path ≡ true
    → length block < 2 ^ 63 → intake.snappy ≡ true → length block ≤ intake.limit → decoded block ≡ Ok body → length body ≤ intake.limit
    → IsOneRequest path intake (snappy_request_of host path block) body

abbrev pub LongBlocksAreRefused : Type 0
LongBlocksAreRefused = (host path block : List ℕ) (intake : Intake) → is_host_name host ≡ true → is_request_path path ≡ true
    → length block < 2 ^ 63 → intake.limit < length block → IsOneRefusal path intake (snappy_request_of host path block) 413

abbrev pub BlocksAreUntaken : Type 0
BlocksAreUntaken = (host path block : List ℕ) (intake : Intake) → is_host_name host ≡ true → is_request_path path ≡ true
    → length block < 2 ^ 63 → intake.snappy ≡ false → length block ≤ intake.limit → IsOneRefusal path intake (snappy_request_of host path block) 415

-- `limit_only_refuses`
abbrev pub BlocksAreShort : Type 0
BlocksAreShort = (block bytes : List ℕ) → decoded block ≡ Ok bytes → length bytes < 2 ^ 32

pub record RequestLaws : Type 0 where
  pub requests : RequestsAreRead
  pub blocks : BlocksAreRead
  pub long : LongBlocksAreRefused
  pub untaken : BlocksAreUntaken
  pub short : BlocksAreShort

-- ---- what is read in bytes
-- two fronts of one length, of one list, of which the first has nothing after it
whole_front : (whole front left : List ℕ) → front ++ left ≡ whole → length front ≡ length whole → front ≡ whole
whole_front whole front left e len =
    sym (append-nil front) ∙ ap (λ (l : List ℕ). front ++ l) (sym (nil_from_length left (let all = ap length e in omega (arith, all, len, length-append front left)))) ∙ e

module _ (path : List ℕ) (limit : ℕ) (bytes body : List ℕ) (reads : ReadsBody path limit bytes body) where
  abbrev intake : Intake
  intake = record { limit = limit; snappy = reads.snappy }

  -- if they are one request, its text
  reads_text : (text : List ℕ) → IsOneRequest path intake bytes text → body ≡ text
  reads_text text one =
      let same = request_unique bytes reads.head one.head (reads.sent ++ reads.left) one.body reads.begins.0 one.begins.0 in
      let found : Body (length reads.sent) reads.closes reads.coding ≡ Body (length one.body) true one.coding = sym reads.finding ∙ ap (finding_of path intake) same.0 ∙ one.finding in
      let sent = whole_front one.body reads.sent reads.left same.1 (let len : length reads.sent ≡ length one.body = cc in len) in
      let coding : reads.coding ≡ one.coding = cc in
      let given : Ok body ≡ Ok text = sym reads.holds ∙ ap (λ (k : Coding). text_of k reads.sent) coding ∙ ap (text_of one.coding) sent ∙ one.holds in
      cc

  -- its head does not refuse them
  not_refused : (status : ℕ) → IsOneRefusal path intake bytes status → ⊥
  not_refused status r =
      let same = request_unique bytes reads.head r.head (reads.sent ++ reads.left) r.rest reads.begins.0 r.begins.0 in
      let found : Body (length reads.sent) reads.closes reads.coding ≡ Refused status = sym reads.finding ∙ ap (finding_of path intake) same.0 ∙ r.finding in
      absurd cc

-- the two bodies of one request
same_body : RequestsAreRead → (host path one other : List ℕ) → is_host_name host ≡ true → is_request_path path ≡ true
    → length one < 2 ^ 63 → length other < 2 ^ 63 → request_of host path one ≡ request_of host path other → one ≡ other
same_body requests host path one other h p few less same =
    let intake : Intake = record { limit = 2 ^ 63; snappy = false } in
    let first = requests host path one intake h p few (omega (arith, few)) in
    let second = subst (λ (bytes : List ℕ). IsOneRequest path intake bytes other) (sym same) (requests host path other intake h p less (omega (arith, less))) in
    let reads : ReadsBody path (2 ^ 63) (request_of host path one) one = record {
      head = first.head;
      sent = first.body;
      left = [];
      closes = true;
      snappy = false;
      coding = first.coding;
      begins = subst (BeginsWithHead (request_of host path one) first.head) (sym (append-nil first.body)) first.begins;
      finding = first.finding;
      holds = first.holds;
    } in
    reads_text path (2 ^ 63) (request_of host path one) one reads other second

module _ (laws : RequestLaws) (c : Setup) (sound : IsSound c) where
  plain_body : (request body text : List ℕ) → ReadsBody c.target.path c.max_body request body → request ≡ request_of c.target.host c.target.path text → length text ≤ c.max_body → body ≡ text
  plain_body request body text reads is short =
      let small = sound.limit in
      let one = laws.requests c.target.host c.target.path text (intake c.target.path c.max_body request body reads) sound.host sound.path (omega (arith, short, small)) short in
      reads_text c.target.path c.max_body request body reads text
      (subst (λ (bytes : List ℕ). IsOneRequest c.target.path (intake c.target.path c.max_body request body reads) bytes text) (sym is) one)

  module _ (bytes block body text : List ℕ) (reads : ReadsBody c.target.path c.max_body bytes body) (is : bytes ≡ snappy_request_of c.target.host c.target.path block) (few : length block < 2 ^ 63)
      (holds : decoded block ≡ Ok text) (short : length text ≤ c.max_body) where
    abbrev taken : Intake
    taken = intake c.target.path c.max_body bytes body reads

    refused : (status : ℕ) → IsOneRefusal c.target.path taken (snappy_request_of c.target.host c.target.path block) status → ⊥
    refused status r = not_refused c.target.path c.max_body bytes body reads status (subst (λ (all : List ℕ). IsOneRefusal c.target.path taken all status) (sym is) r)

    by_size : (b : Bool) → nat_lt c.max_body (length block) ≡ b → (on : Bool) → reads.snappy ≡ on → body ≡ text
    by_size true over on e = absurd (refused 413 (laws.long c.target.host c.target.path block taken sound.host sound.path few (ltb-true c.max_body (length block) over)))
    by_size false fits true e =
        let one = laws.blocks c.target.host c.target.path block text taken sound.host sound.path few e (ltb-false c.max_body (length block) fits) holds short in
        reads_text c.target.path c.max_body bytes body reads text (subst (λ (all : List ℕ). IsOneRequest c.target.path taken all text) (sym is) one)
    by_size false fits false e = absurd (refused 415 (laws.untaken c.target.host c.target.path block taken sound.host sound.path few e (ltb-false c.max_body (length block) fits)))

    block_body : body ≡ text
    block_body = by_size (nat_lt c.max_body (length block)) refl reads.snappy refl

  pub carries : (request body : List ℕ) → ReadsCarried c request body
      → (batch : List Placed) → request ≡ batch_request c.target batch → length (body_of batch) ≤ c.max_body → body ≡ body_of batch
  carries request body read batch is short = elim read.carries [
    | inl same ↦ plain_body read.bytes body (body_of batch) read.reads (same ∙ is) short
    | inr in_block ↦
        let small = sound.limit in
        let few = laws.short in_block.block in_block.body in_block.holds in
        let text : in_block.body ≡ body_of batch = same_body laws.requests c.target.host c.target.path in_block.body (body_of batch) sound.host sound.path (omega (arith, few)) (omega (arith, short, small)) (sym in_block.request_is ∙ is) in
        block_body read.bytes in_block.block body (body_of batch) read.reads in_block.bytes_are in_block.few (in_block.holds ∙ ap (λ (t : List ℕ). Ok t) text) short
  ]
